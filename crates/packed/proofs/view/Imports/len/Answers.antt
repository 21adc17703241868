use Rattle.std.proofs.Common.{sym, ◌∙◌}
use Rattle.packed.proofs.Imports.{count-is}
use Rattle.packed.proofs.view.Imports.len.Goals as goal

pub returns : goal.returns
returns c = let i = c.args.self.now in c.into.ensures ∙ sym (count-is i.count i.bytes.now i.whole)
