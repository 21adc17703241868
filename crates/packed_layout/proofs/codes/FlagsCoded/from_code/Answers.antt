use Rattle.std.proofs.Common.{◌≡◌, ℕ, ◌*◌, ◌/◌, ◌%◌, ◌<◌, not, eqb, arith}
use lib.Bits.{bit_and, and_high}
use Rattle.std.proofs.lemmas.Bool.Decides.{nat_tests}
use Rattle.packed_layout.specs.Layout.{bit_of}
use Rattle.packed_layout.proofs.codes.FlagsCoded.from_code.Goals as goal

-- a bit that is masked out is the bit
bit-1 : (n : ℕ) → not (eqb (bit_and n 1) 0) ≡ bit_of n 1
bit-1 n = let h : bit_and n 1 ≡ (n / 1 % 2) * 1 = and_high n 1 0 in let b : n / 1 % 2 < 2 = omega arith in grind (arith, nat_tests)

bit-2 : (n : ℕ) → not (eqb (bit_and n 2) 0) ≡ bit_of n 2
bit-2 n = let h : bit_and n 2 ≡ (n / 2 % 2) * 2 = and_high n 1 1 in let b : n / 2 % 2 < 2 = omega arith in grind (arith, nat_tests)

bit-4 : (n : ℕ) → not (eqb (bit_and n 4) 0) ≡ bit_of n 4
bit-4 n = let h : bit_and n 4 ≡ (n / 4 % 2) * 4 = and_high n 1 2 in let b : n / 4 % 2 < 2 = omega arith in grind (arith, nat_tests)

pub returns : goal.returns
returns c = let x = bit-1 c.args.byte in let y = bit-2 c.args.byte in let z = bit-4 c.args.byte in cc
