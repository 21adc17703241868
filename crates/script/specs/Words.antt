-- The words of a line of a script, and the numbers and bytes that they stand for.
use Rattle.std.specs.Prelude.{ℕ, suc, ◌+◌, ◌-◌, ◌*◌, ◌^◌, Bool, true, false, cond, ◌&&◌, ◌||◌, List, [], ◌∷◌, length, take, drop, Some, None, codes, Option, ◌==◌, nat_le, nat_lt, slice_index}
use Rattle.std.specs.Str.{bytes_eq}
use Rattle.script.specs.declared.words.ByteKind.{ByteKind}
use Rattle.script.specs.declared.words.ByteKind.TheVariants.{Blank, Comment, Letter}
use Rattle.packed_layout.specs.Codec.{bind, when}

-- a space, a tab or a carriage return parts words, and `#` begins a comment
abbrev pub kind_of : ℕ → ByteKind
kind_of b = cond (b == 32 || (b == 9 || b == 13)) Blank (cond (b == 35) Comment Letter)

abbrev pub same_kind : ByteKind → ByteKind → Bool
same_kind Blank Blank = true
same_kind Blank Comment = false
same_kind Blank Letter = false
same_kind Comment Blank = false
same_kind Comment Comment = true
same_kind Comment Letter = false
same_kind Letter Blank = false
same_kind Letter Comment = false
same_kind Letter Letter = true

-- how many bytes of one kind stand at the front
abbrev pub span : ByteKind → List ℕ → ℕ
span k [] = 0
span k (b ∷ bs) = cond (same_kind (kind_of b) k) (suc (span k bs)) 0

-- the bytes after the blanks at the front
abbrev pub trimmed : List ℕ → List ℕ
trimmed s = drop (span Blank s) s

-- the first word, and what stands after it; none at the end of the line or before a comment
abbrev pub first_word : List ℕ → Option (List ℕ × List ℕ)
first_word t = cond (span Letter t == 0) None (Some (take (span Letter t) t, drop (span Letter t) t))

abbrev pub next_word : List ℕ → Option (List ℕ × List ℕ)
next_word s = first_word (trimmed s)

-- no word is left
abbrev pub at_end : List ℕ → Bool
at_end s = elim (next_word s) [ None ↦ true | Some w ↦ false ]

-- what stands after a prefix of a word
abbrev pub stripped : List ℕ → List ℕ → Option (List ℕ)
stripped prefix s = when (bytes_eq (take (length prefix) s) prefix) (drop (length prefix) s)

-- a digit of base ten
abbrev pub digit_of : ℕ → Option ℕ
digit_of b = when (nat_le 48 b && nat_le b 57) (b - 48)

-- one digit more, while the number stays below 2 ^ 64
abbrev pub pushed : ℕ → ℕ → Option ℕ
pushed n b = bind (digit_of b) (λ d. when (nat_lt (n * 10 + d) (2 ^ 64)) (n * 10 + d))

abbrev pub digits_after : ℕ → List ℕ → Option ℕ
digits_after n [] = Some n
digits_after n (b ∷ bs) = bind (pushed n b) (λ m. digits_after m bs)

-- a number in base ten
abbrev pub number_of : List ℕ → Option ℕ
number_of [] = None
number_of (b ∷ bs) = digits_after 0 (b ∷ bs)

-- a number of at most 16 bits
abbrev pub short_of : List ℕ → Option ℕ
short_of s = bind (number_of s) (λ n. when (nat_lt n 65536) n)

-- a digit of base sixteen, in letters of either case
abbrev pub hex_digit : ℕ → Option ℕ
hex_digit b = cond (nat_le 48 b && nat_le b 57) (Some (b - 48)) (cond (nat_le 97 b && nat_le b 102) (Some (b - 87)) (when (nat_le 65 b && nat_le b 70) (b - 55)))

abbrev pub hex_byte : ℕ → ℕ → Option ℕ
hex_byte high low = bind (hex_digit high) (λ h. bind (hex_digit low) (λ l. Some (h * 16 + l)))

-- bytes in base sixteen, two digits each
abbrev pub hex_of : List ℕ → Option (List ℕ)
hex_of [] = Some []
hex_of (a ∷ []) = None
hex_of (a ∷ b ∷ rest) = bind (hex_byte a b) (λ x. bind (hex_of rest) (λ more. Some (x ∷ more)))

-- the bytes of a word: those in base sixteen between x and a quote and a last quote, else its own
abbrev pub unquoted : List ℕ → Option (List ℕ)
unquoted s = when (nat_le 1 (length s) && slice_index s (length s - 1) == 39) (take (length s - 1) s)

abbrev pub quoted_bytes : List ℕ → Option (List ℕ) → Option (List ℕ)
quoted_bytes s None = Some s
quoted_bytes s (Some digits) = bind (unquoted digits) hex_of

abbrev pub bytes_of : List ℕ → Option (List ℕ)
bytes_of s = quoted_bytes s (stripped (codes "x'") s)
