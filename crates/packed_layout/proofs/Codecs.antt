-- The two laws of a codec, and that each way to put codecs together keeps them.
use Rattle.std.proofs.Common.{◌≡◌, ℕ, zero, suc, ◌+◌, ◌*◌, ◌/◌, ◌%◌, ◌^◌, ◌<◌, ◌≤◌, Bool, true, false, ◌&&◌, leb, List, [], ◌∷◌, ◌++◌, length, take, drop, Some, None, Option, sym, refl, ap, ◌∙◌, subst, pow-suc, arith}
use Rattle.std.specs.List.{AllByRecursion}
use Rattle.std.proofs.lemmas.List.{append-nil, append_assoc, length-append, take-append-drop, take_at, drop_at, length-take-le}
use Rattle.std.proofs.lemmas.Bool.{le-leb, leb-true, and_parts, and_from}
use Rattle.packed_layout.specs.Codes.{found}
use Rattle.packed_layout.specs.Codec.{Codec, when, bind, text, via, seen, such, bytes, value, number, ◌then◌, write_all, read_times, times, counted, within, find, one_of, alone, read_whole, Bytes}

-- a codec that holds to the layout, for the values that fit it: what is written is read, and what is read was written
abbrev pub Reads : {A : Type 0} → Codec A → (A → Type 0) → Type 0
Reads {A} c Fit = (a : A) (rest : List ℕ) → Fit a → c.read (c.write a ++ rest) ≡ Some (a, rest)

abbrev pub Written : {A : Type 0} → Codec A → (A → Type 0) → List ℕ → A × List ℕ → Type 0
Written c Fit s p = (s ≡ c.write p.0 ++ p.1) × Fit p.0

abbrev pub Wrote : {A : Type 0} → Codec A → (A → Type 0) → Type 0
Wrote {A} c Fit = (s : List ℕ) (p : A × List ℕ) → Bytes s → c.read s ≡ Some p → Written c Fit s p

pub record Lawful {A : Type 0} (c : Codec A) (Fit : A → Type 0) : Type 0 where
  pub reads : Reads c Fit
  pub wrote : Wrote c Fit

-- what a reader that gave a value has passed

pub never : {A : Type 0} {a : A} (X : Type 0) → None ≡ Some a → X
never X e = let z : ◌≡◌ {A = ℕ} 0 1 = cc in absurd (omega arith)

pub when-some : {A : Type 0} (b : Bool) (a x : A) → when b a ≡ Some x → (b ≡ true) × (a ≡ x)
when-some true a x e = (refl, cc)
when-some false a x e = never _ e

pub bind-some : {A B : Type 0} (o : Option A) (f : A → Option B) (b : B) → bind o f ≡ Some b → (a : A) × (o ≡ Some a) × (f a ≡ Some b)
bind-some None f b e = never _ e
bind-some (Some a) f b e = (a, refl, e)

-- what comes of a value that is there
pub bind_is : {A B : Type 0} {o : Option A} {a : A} (f : A → Option B) → o ≡ Some a → bind o f ≡ f a
bind_is {A} f e = ap (λ (o : Option A). bind o f) e

pub bytes_rest : (p q : List ℕ) → Bytes (p ++ q) → Bytes q
bytes_rest [] q h = h
bytes_rest (b ∷ p) q h = bytes_rest p q h.1

pub bytes-first : (p q : List ℕ) → Bytes (p ++ q) → Bytes p
bytes-first [] q h = tt
bytes-first (b ∷ p) q h = (h.0, bytes-first p q h.1)

pub some_inj : {A : Type 0} {a b : A} → Some a ≡ Some b → a ≡ b
some_inj e = cc

-- n bytes

pub text-reads : (a rest : List ℕ) → (text (length a)).read (a ++ rest) ≡ Some (a, rest)
text-reads a rest =
    let long : length a ≤ length (a ++ rest) = simp length-append (omega arith) in
    rw (le-leb (length a) (length (a ++ rest)) long, take_at a rest (length a) refl, drop_at a rest (length a) refl)

pub text-wrote : (n : ℕ) (s : List ℕ) (p : List ℕ × List ℕ) → (text n).read s ≡ Some p → (s ≡ p.0 ++ p.1) × (length p.0 ≡ n)
text-wrote n s p e =
    let w = when-some (leb n (length s)) (take n s, drop n s) p e in
    subst (λ (p : List ℕ × List ℕ). (s ≡ p.0 ++ p.1) × (length p.0 ≡ n)) w.1 (sym (take-append-drop n s), length-take-le n s (leb-true n (length s) w.0))

pub text-lawful : (n : ℕ) → Lawful (text n) (λ s. (length s ≡ n) × Bytes s)
text-lawful n = record { reads = λ a rest f. rw (← f.0) (text-reads a rest); wrote = λ s p h e. let w = text-wrote n s p e in (w.0, (w.1, bytes-first p.0 p.1 (subst Bytes w.0 h))) }

-- the same values that fit, in other words
pub fit-lawful : {A : Type 0} {c : Codec A} {F G : A → Type 0} → Lawful c F → ((a : A) → G a → F a) → ((a : A) → F a → G a) → Lawful c G
fit-lawful C there back = record { reads = λ a rest g. C.reads a rest (there a g); wrote = λ s p h e. let w = C.wrote s p h e in (w.0, back p.0 w.1) }

-- what a reader that begins with a codec and gave a value has passed: the codec's value at the front, and the reader's later part
pub record Front {A B : Type 0} (c : Codec A) (F : A → Type 0) (f : A × List ℕ → Option B) (s : List ℕ) (b : B) : Type 0 where
  pub at : A × List ℕ
  pub split : s ≡ c.write at.0 ++ at.1
  pub fits : F at.0
  pub later : Bytes at.1
  pub next : f at ≡ Some b

pub front : {A B : Type 0} {c : Codec A} {F : A → Type 0} → Lawful c F → (f : A × List ℕ → Option B) (s : List ℕ) (b : B) → Bytes s → bind (c.read s) f ≡ Some b → Front c F f s b
front {c = c} C f s b h e =
    let a = bind-some (c.read s) f b e in
    let w = C.wrote s a.0 h a.1 in
    record { at = a.0; split = w.0; fits = w.1; later = bytes_rest (c.write a.0.0) a.0.1 (subst Bytes w.0 h); next = a.2 }

-- one value after another

module _ {A B : Type 0} {c : Codec A} {d : Codec B} {F : A → Type 0} {G : B → Type 0} where
  pub then-lawful : Lawful c F → Lawful d G → Lawful (c then d) (λ p. F p.0 × G p.1)
  then-lawful C D = record { reads = reads; wrote = wrote }
    where
      Fit : A × B → Type 0
      Fit p = F p.0 × G p.1

      reads : Reads (c then d) Fit
      reads p rest f = rw (append_assoc, C.reads p.0 (d.write p.1 ++ rest) f.0, D.reads p.1 rest f.1)

      wrote : Wrote (c then d) Fit
      wrote s p h e =
          let a = front C _ s p h e in
          let b = front D _ a.at.1 p a.later a.next in
          subst (Written (c then d) Fit s) (some_inj b.next) (rw append_assoc (cc), (a.fits, b.fits))

-- values of B that stand for values of A

module _ {A B : Type 0} {c : Codec A} (to : A → Option B) (from : B → A) {F : A → Type 0} {G : B → Type 0} where
  pub via-lawful : Lawful c F → ((b : B) → G b → F (from b) × (to (from b) ≡ Some b)) → ((a : A) (b : B) → F a → to a ≡ Some b → (a ≡ from b) × G b) → Lawful (via c to from) G
  via-lawful C there back = record { reads = reads; wrote = wrote }
    where
      reads : Reads (via c to from) G
      reads b rest g = rw (C.reads (from b) rest (there b g).0, (there b g).1)

      wrote : Wrote (via c to from) G
      wrote s p h e =
          let a = front C _ s p h e in
          let b = bind-some (to a.at.0) _ p a.next in
          let same = back a.at.0 b.0 a.fits b.1 in
          subst (Written (via c to from) G s) (some_inj b.2) (cc, same.1)

module _ {A B : Type 0} {c : Codec A} (to : A → B) (from : B → A) {F : A → Type 0} {G : B → Type 0} where
  pub seen-lawful : Lawful c F → ((b : B) → G b → F (from b) × (to (from b) ≡ b)) → ((a : A) → F a → (a ≡ from (to a)) × G (to a)) → Lawful (seen c to from) G
  seen-lawful C there back = via-lawful (λ a. Some (to a)) from C (λ b g. let t = there b g in (t.0, ap Some t.1)) (λ a b f e. subst (λ b. (a ≡ from b) × G b) (some_inj e) (back a f))

module _ {A : Type 0} {c : Codec A} (test : A → Bool) {F : A → Type 0} where
  pub such_lawful : Lawful c F → Lawful (such c test) (λ a. F a × (test a ≡ true))
  such_lawful C = via-lawful (λ a. when (test a) a) (λ a. a) C (λ a f. (f.0, rw f.1)) back
    where
      back : (a b : A) → F a → when (test a) a ≡ Some b → (a ≡ b) × (F b × (test b ≡ true))
      back a b f e = let w = when-some (test a) a b e in (w.1, subst (λ b. F b × (test b ≡ true)) w.1 (f, w.0))

-- a number in k bytes

pub length-bytes : (k n : ℕ) → length (bytes k n) ≡ k
length-bytes zero n = refl
length-bytes (suc k) n = ap suc (length-bytes k (n / 256))

pub bytes-bytes : (k n : ℕ) → Bytes (bytes k n)
bytes-bytes zero n = tt
bytes-bytes (suc k) n = (omega arith, bytes-bytes k (n / 256))

pub value-bytes : (k n : ℕ) → n < 256 ^ k → value (bytes k n) ≡ n
value-bytes zero n h = omega arith
value-bytes (suc k) n h =
    let h2 : n < 256 ^ k * 256 = rw pow-suc at h in
    let ih : value (bytes k (n / 256)) ≡ n / 256 = value-bytes k (n / 256) (omega arith) in
    omega arith

pub value-lt : (s : List ℕ) → Bytes s → value s < 256 ^ length s
value-lt [] h = omega arith
value-lt (b ∷ bs) h = let ih = value-lt bs h.1 in rw pow-suc (omega arith)

pub bytes-value : (s : List ℕ) → Bytes s → bytes (length s) (value s) ≡ s
bytes-value [] h = refl
bytes-value (b ∷ bs) h =
    let low : (b + 256 * value bs) % 256 ≡ b = omega arith in
    let high : (b + 256 * value bs) / 256 ≡ value bs = omega arith in
    rw (low, high, bytes-value bs h.1)

pub number-lawful : (k : ℕ) → Lawful (number k) (λ n. n < 256 ^ k)
number-lawful k = seen-lawful value (bytes k) (text-lawful k) (λ n h. ((length-bytes k n, bytes-bytes k n), value-bytes k n h)) (λ s f. (rw (← f.0) (sym (bytes-value s f.1)), rw (← f.0) (value-lt s f.1)))

pub within-lawful : (k low high : ℕ) → high < 256 ^ k → Lawful (within k low high) (λ n. (low ≤ n) × (n ≤ high))
within-lawful k low high small = fit-lawful (such_lawful (λ n. leb low n && leb n high) (number-lawful k)) there back
  where
    there : (n : ℕ) → (low ≤ n) × (n ≤ high) → (n < 256 ^ k) × ((leb low n && leb n high) ≡ true)
    there n f = (omega arith, and_from (leb low n) (leb n high) (le-leb low n f.0) (le-leb n high f.1))

    back : (n : ℕ) → (n < 256 ^ k) × ((leb low n && leb n high) ≡ true) → (low ≤ n) × (n ≤ high)
    back n f = let b = and_parts (leb low n) (leb n high) f.1 in (leb-true low n b.0, leb-true n high b.1)

-- n values

module _ {A : Type 0} {c : Codec A} {F : A → Type 0} (C : Lawful c F) where
  pub times-reads : (n : ℕ) → Reads (times c n) (λ xs. (length xs ≡ n) × AllByRecursion F xs)
  times-reads zero [] rest f = refl
  times-reads zero (x ∷ xs) rest f = absurd (omega arith)
  times-reads (suc n) [] rest f = absurd (omega arith)
  times-reads (suc n) (x ∷ xs) rest f =
      let count : length xs ≡ n = omega arith in
      rw (append_assoc, C.reads x (write_all c xs ++ rest) f.1.0, times-reads n xs rest (count, f.1.1))

  pub times-wrote : (n : ℕ) → Wrote (times c n) (λ xs. (length xs ≡ n) × AllByRecursion F xs)
  times-wrote zero s p h e = subst (Written (times c 0) (λ xs. (length xs ≡ 0) × AllByRecursion F xs) s) (some_inj e) (refl, (refl, tt))
  times-wrote (suc n) s p h e =
      let a = front C _ s p h e in
      let b = bind-some (read_times c n a.at.1) _ p a.next in
      let more = times-wrote n a.at.1 b.0 a.later b.1 in
      subst (Written (times c (suc n)) (λ xs. (length xs ≡ suc n) × AllByRecursion F xs) s) (some_inj b.2) (rw append_assoc (cc), (ap suc more.1.0, (a.fits, more.1.1)))

  pub times-lawful : (n : ℕ) → Lawful (times c n) (λ xs. (length xs ≡ n) × AllByRecursion F xs)
  times-lawful n = record { reads = times-reads n; wrote = times-wrote n }

-- a count and as many values

module _ {A : Type 0} {count : Codec ℕ} {items : ℕ → Codec (List A)} {F : ℕ → Type 0} {G : List A → Type 0} where
  pub counted-lawful : Lawful count F → ((n : ℕ) → Lawful (items n) (λ xs. (length xs ≡ n) × G xs)) → Lawful (counted count items) (λ xs. F (length xs) × G xs)
  counted-lawful C D = record { reads = reads; wrote = wrote }
    where
      Fit : List A → Type 0
      Fit xs = F (length xs) × G xs

      reads : Reads (counted count items) Fit
      reads xs rest f = rw (append_assoc, C.reads (length xs) ((items (length xs)).write xs ++ rest) f.0, (D (length xs)).reads xs rest (refl, f.1))

      wrote : Wrote (counted count items) Fit
      wrote s p h e =
          let n = front C _ s p h e in
          let more = (D n.at.0).wrote n.at.1 p n.later n.next in
          (rw append_assoc (cc), (rw more.1.0 n.fits, more.1.1))

-- one of some values

abbrev pub Known : {A : Type 0} → (A → ℕ) → List A → A → Type 0
Known code all a = (code a < 256) × (find code all (code a) ≡ Some a)

pub one_of-lawful : {A : Type 0} (code : A → ℕ) (all : List A) → ((a : A) → Known code all a) → Lawful (one_of code all) (λ _. Unit {0})
one_of-lawful code all h = via-lawful (find code all) code (number-lawful 1) (λ a _. h a) (λ n a _ e. (found code all n a e, tt))

-- one value alone

module _ {A : Type 0} {c : Codec A} {F : A → Type 0} (C : Lawful c F) where
  pub whole-reads : (a : A) → F a → read_whole c (c.write a) ≡ Some a
  whole-reads a f =
      let e : c.read (c.write a) ≡ Some (a, []) = rw append-nil at (C.reads a [] f) in
      rw e

  alone-some : (p : A × List ℕ) (a : A) → alone p ≡ Some a → (p.1 ≡ []) × (p.0 ≡ a)
  alone-some (x, []) a e = (refl, some_inj e)
  alone-some (x, b ∷ bs) a e = never _ e

  pub whole-wrote : (s : List ℕ) (a : A) → Bytes s → read_whole c s ≡ Some a → (s ≡ c.write a) × F a
  whole-wrote s a h e =
      let p = front C _ s a h e in
      let w = alone-some p.at a p.next in
      (p.split ∙ rw (w.0, w.1) (append-nil (c.write a)), subst F w.1 p.fits)
