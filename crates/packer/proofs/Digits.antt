-- The bytes of a number, as the code makes them and as the layout has them.
use Rattle.std.proofs.Common.{◌≡◌, ℕ, ◌/◌, ◌%◌, ◌<◌, [], ◌∷◌, arith}
use native.Mathlib.Nat.{div-div-eq-div-mul}
use Rattle.packed_layout.specs.Codec.{bytes}

pub digits_1 : (n : ℕ) → n < 256 → n ∷ [] ≡ bytes 1 n
digits_1 n h = let low : n % 256 ≡ n = omega arith in rw low

pub digits_4 : (n : ℕ) → n % 256 ∷ n / 256 % 256 ∷ n / 65536 % 256 ∷ n / 16777216 % 256 ∷ [] ≡ bytes 4 n
digits_4 n = simp div-div-eq-div-mul

pub digits_8 : (n : ℕ) → n % 256 ∷ n / 256 % 256 ∷ n / 65536 % 256 ∷ n / 16777216 % 256 ∷ n / 4294967296 % 256 ∷ n / 1099511627776 % 256 ∷ n / 281474976710656 % 256 ∷ n / 72057594037927936 % 256 ∷ [] ≡ bytes 8 n
digits_8 n = simp div-div-eq-div-mul
