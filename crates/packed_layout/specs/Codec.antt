-- Codecs: how a value is written as bytes, and how it is read from the front of bytes. A layout is put together from these.
use Rattle.std.specs.Prelude.{ℕ, zero, suc, ◌+◌, ◌*◌, ◌/◌, ◌%◌, ◌<◌, Bool, true, false, ◌&&◌, List, [], ◌∷◌, ◌++◌, length, take, drop, Some, None, Option, ◌==◌, nat_le}
use Rattle.std.specs.List.{AllByRecursion}

-- `read` gives the value and the bytes after it, or `None` where no value stands at the front
pub record Codec (A : Type 0) : Type 0 where
  pub write : A → List ℕ
  pub read : List ℕ → Option (A × List ℕ)

-- a, if the test passes
abbrev pub when : {A : Type 0} → Bool → A → Option A
when true a = Some a
when false a = None

-- what comes of the value, if there is one
abbrev pub bind : {A B : Type 0} → Option A → (A → Option B) → Option B
bind None f = None
bind (Some a) f = f a

-- n bytes as they are
abbrev pub text : ℕ → Codec (List ℕ)
text n = record { write = λ s. s; read = λ s. when (nat_le n (length s)) (take n s, drop n s) }

-- one value after another
infixr 20 ◌then◌
abbrev pub ◌then◌ : {A B : Type 0} → Codec A → Codec B → Codec (A × B)
c then d = record { write = λ p. c.write p.0 ++ d.write p.1; read = λ s. bind (c.read s) (λ a. bind (d.read a.1) (λ b. Some ((a.0, b.0), b.1))) }

-- the values of A of which some stand for a value of B
abbrev pub via : {A B : Type 0} → Codec A → (A → Option B) → (B → A) → Codec B
via c to from = record { write = λ b. c.write (from b); read = λ s. bind (c.read s) (λ a. bind (to a.0) (λ b. Some (b, a.1))) }

-- the values of A as values of B
abbrev pub seen : {A B : Type 0} → Codec A → (A → B) → (B → A) → Codec B
seen c to from = via c (λ a. Some (to a)) from

-- the values that pass a test
abbrev pub such : {A : Type 0} → Codec A → (A → Bool) → Codec A
such c test = via c (λ a. when (test a) a) (λ a. a)

-- a number in k bytes, the lowest first
abbrev pub bytes : ℕ → ℕ → List ℕ
bytes zero n = []
bytes (suc k) n = n % 256 ∷ bytes k (n / 256)

-- the number that some bytes stand for
abbrev pub value : List ℕ → ℕ
value [] = 0
value (b ∷ bs) = b + 256 * value bs

-- a number of k bytes
abbrev pub number : ℕ → Codec ℕ
number k = seen (text k) value (bytes k)

-- all values of a list, written one after another
abbrev pub write_all : {A : Type 0} → Codec A → List A → List ℕ
write_all c [] = []
write_all c (a ∷ more) = c.write a ++ write_all c more

-- n values, read one after another
abbrev pub read_times : {A : Type 0} → Codec A → ℕ → List ℕ → Option (List A × List ℕ)
read_times c zero s = Some ([], s)
read_times c (suc n) s = bind (c.read s) (λ a. bind (read_times c n a.1) (λ more. Some (a.0 ∷ more.0, more.1)))

-- n values of one kind
abbrev pub times : {A : Type 0} → Codec A → ℕ → Codec (List A)
times c n = record { write = write_all c; read = read_times c n }

-- a count, and as many values
abbrev pub counted : {A : Type 0} → Codec ℕ → (ℕ → Codec (List A)) → Codec (List A)
counted count items = record { write = λ xs. count.write (length xs) ++ (items (length xs)).write xs; read = λ s. bind (count.read s) (λ n. (items n.0).read n.1) }

-- a number of k bytes within two limits
abbrev pub within : ℕ → ℕ → ℕ → Codec ℕ
within k low high = such (number k) (λ n. nat_le low n && nat_le n high)

-- the value of a code
abbrev pub find : {A : Type 0} → (A → ℕ) → List A → ℕ → Option A
find code [] n = None
find code (a ∷ more) n = elim (n == code a) [ true ↦ Some a | false ↦ find code more n ]

-- one of some values, by its code in one byte
abbrev pub one_of : {A : Type 0} → (A → ℕ) → List A → Codec A
one_of code all = via (number 1) (find code all) code

-- a value with nothing after it
abbrev pub alone : {A : Type 0} → A × List ℕ → Option A
alone p = elim p.1 [ [] ↦ Some p.0 | b ∷ bs ↦ None ]

-- all of the bytes as one value
abbrev pub read_whole : {A : Type 0} → Codec A → List ℕ → Option A
read_whole c s = bind (c.read s) alone

-- bytes, among lists of numbers
abbrev pub Bytes : List ℕ → Type 0
Bytes s = AllByRecursion (λ b. b < 256) s
