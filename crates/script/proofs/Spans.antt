-- Loops over the bytes of a word.
use Rattle.std.proofs.Common.{◌≡◌, ℕ, suc, ◌+◌, ◌-◌, ◌<◌, ◌≤◌, true, false, cond, eqb, ltb, List, [], ◌∷◌, length, get_or, take, drop, Some, None, Option, sym, refl, ap, ◌∙◌, arith}
use Rattle.std.specs.List.{prefix_len}
use denote.Enum.Bare.{sameb}
use Rattle.script.specs.contracts.words.ByteKind.{the_type}
use Rattle.std.proofs.lemmas.Bool.{false≢true, le-leb, lt-leb, lt-ltb, le-ltb}
use Rattle.std.proofs.lemmas.List.{at_drop_more, at_drop_all}
use Rattle.std.proofs.lemmas.List.Folds.{length-prefix_len}
use Rattle.packed_layout.specs.Codec.{bind, when}
use Rattle.script.specs.declared.words.ByteKind.{ByteKind}
use Rattle.script.specs.declared.words.ByteKind.TheVariants.{Blank, Comment, Letter}
use Rattle.script.specs.Words.{kind_of, same_kind, span, digit_of, pushed, digits_after, number_of, short_of}

-- `==` at kinds of bytes
pub same_kind_is : (a b : ByteKind) → sameb the_type a b ≡ same_kind a b
same_kind_is Blank Blank = refl
same_kind_is Blank Comment = refl
same_kind_is Blank Letter = refl
same_kind_is Comment Blank = refl
same_kind_is Comment Comment = refl
same_kind_is Comment Letter = refl
same_kind_is Letter Blank = refl
same_kind_is Letter Comment = refl
same_kind_is Letter Letter = refl

-- the bytes of one kind at the front are those that `take_while` takes
pub span_is : (k : ByteKind) (s : List ℕ) → length (take (prefix_len (λ b. same_kind (kind_of b) k) s) s) ≡ span k s
span_is k s = length-prefix_len (λ b. same_kind (kind_of b) k) s ∙ go s
  where
    go : (s : List ℕ) → prefix_len (λ b. same_kind (kind_of b) k) s ≡ span k s
    go [] = refl
    go (b ∷ bs) = ap (λ n. cond (same_kind (kind_of b) k) n 0) (omega (arith, go bs))

-- a byte of the kind, and one of another
pub span_more : (k : ByteKind) (s : List ℕ) (i d : ℕ) → i < length s → true ≡ same_kind (kind_of (get_or s i d)) k → span k s ≡ i + span k (drop i s) → span k s ≡ (i + 1) + span k (drop (i + 1) s)
span_more k s i d h t inv =
    let step : span k (drop i s) ≡ cond (same_kind (kind_of (get_or s i d)) k) (suc (span k (drop (i + 1) s))) 0 = at_drop_more (span k) s i d h in
    let one : cond (same_kind (kind_of (get_or s i d)) k) (suc (span k (drop (i + 1) s))) 0 ≡ suc (span k (drop (i + 1) s)) = ap (λ b. cond b (suc (span k (drop (i + 1) s))) 0) (sym t) in
    omega (arith, inv, step, one)

pub span-stop : (k : ByteKind) (s : List ℕ) (i d : ℕ) → i < length s → false ≡ same_kind (kind_of (get_or s i d)) k → span k s ≡ i + span k (drop i s) → i ≡ span k s
span-stop k s i d h t inv =
    let step : span k (drop i s) ≡ cond (same_kind (kind_of (get_or s i d)) k) (suc (span k (drop (i + 1) s))) 0 = at_drop_more (span k) s i d h in
    let one : cond (same_kind (kind_of (get_or s i d)) k) (suc (span k (drop (i + 1) s))) 0 ≡ 0 = ap (λ b. cond b (suc (span k (drop (i + 1) s))) 0) (sym t) in
    omega (arith, inv, step, one)

pub span-end : (k : ByteKind) (s : List ℕ) (i : ℕ) → length s ≤ i → i ≤ length s → span k s ≡ i + span k (drop i s) → length s ≡ span k s
span-end k s i h l inv = let none : span k (drop i s) ≡ 0 = at_drop_all (span k) s i h in omega (arith, inv, none)

pub span-start : (k : ByteKind) (s : List ℕ) → span k s ≡ 0 + span k (drop 0 s)
span-start k s = omega arith

-- digits, one by one
pub digits_more : (n m : ℕ) (s : List ℕ) (i d : ℕ) (all : Option ℕ) → i < length s → Some m ≡ pushed n (get_or s i d) → digits_after n (drop i s) ≡ all → digits_after m (drop (i + 1) s) ≡ all
digits_more n m s i d all h p inv =
    let step : digits_after n (drop i s) ≡ bind (pushed n (get_or s i d)) (λ k. digits_after k (drop (i + 1) s)) = at_drop_more (digits_after n) s i d h in
    ap (λ (o : Option ℕ). bind o (λ k. digits_after k (drop (i + 1) s))) p ∙ sym step ∙ inv

pub digits-stop : (n : ℕ) (s : List ℕ) (i d : ℕ) (all : Option ℕ) → i < length s → None ≡ pushed n (get_or s i d) → digits_after n (drop i s) ≡ all → None ≡ all
digits-stop n s i d all h p inv =
    let step : digits_after n (drop i s) ≡ bind (pushed n (get_or s i d)) (λ k. digits_after k (drop (i + 1) s)) = at_drop_more (digits_after n) s i d h in
    ap (λ (o : Option ℕ). bind o (λ k. digits_after k (drop (i + 1) s))) p ∙ sym step ∙ inv

pub digits-end : (n : ℕ) (s : List ℕ) (i : ℕ) (all : Option ℕ) → length s ≤ i → digits_after n (drop i s) ≡ all → Some n ≡ all
digits-end n s i all h inv = let none : digits_after n (drop i s) ≡ Some n = at_drop_all (digits_after n) s i h in sym none ∙ inv

pub number_is : (s : List ℕ) → false ≡ eqb (length s) 0 → digits_after 0 s ≡ number_of s
number_is [] h = absurd (false≢true h)
number_is (b ∷ bs) h = refl

-- one digit
pub digit_low : (b : ℕ) → b < 48 → None ≡ digit_of b
digit_low b h = rw (lt-leb 48 b h)

pub digit-high : (b : ℕ) → 48 ≤ b → 57 < b → None ≡ digit_of b
digit-high b l h = rw (le-leb 48 b l, lt-leb b 57 h)

pub digit-there : (b : ℕ) → 48 ≤ b → b ≤ 57 → Some (b - 48) ≡ digit_of b
digit-there b l h = rw (le-leb 48 b l, le-leb b 57 h)

-- a number of at most 16 bits

abbrev narrowed : Option ℕ → Option ℕ
narrowed o = bind o (λ n. when (ltb n 65536) n)

pub short-not : (s : List ℕ) → None ≡ number_of s → None ≡ short_of s
short-not s e = ap narrowed e

pub short-there : (s : List ℕ) (n : ℕ) → Some n ≡ number_of s → n < 65536 → Some n ≡ short_of s
short-there s n e h = ap (λ b. when b n) (sym (lt-ltb n 65536 h)) ∙ ap narrowed e

pub short-past : (s : List ℕ) (n : ℕ) → Some n ≡ number_of s → 65536 ≤ n → None ≡ short_of s
short-past s n e h = ap (λ b. when b n) (sym (le-ltb n 65536 h)) ∙ ap narrowed e
