use Rattle.std.proofs.Common.{sym, arith}
use Rattle.std.proofs.lemmas.Bool.Decides.{nat_tests}
use Rattle.std.proofs.lemmas.List.{length-append}
use Rattle.packed_layout.proofs.Exact.{length-imports}
use Rattle.packer.proofs.Row.payload_len.Goals as goal

pub returns-then-is_fit : goal.returns-then-is_fit
returns-then-is_fit c =
    record {
      fits = sym c.if-is_fit.ensures;
      size = simp (length-append, length-imports) (omega arith);
      short = grind (arith, nat_tests);
    }
