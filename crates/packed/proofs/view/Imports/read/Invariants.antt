use Rattle.std.proofs.Common.{◌≡◌, ◌-◌, is_some}
use Rattle.packed_layout.specs.Codec.{times, read_whole}
use Rattle.packed_layout.specs.Layout.{import_record}
use Rattle.packed.proofs.view.Imports.read.Given as goal

-- what is left decides it
abbrev pub invariant-loop-i : goal.invariant-loop-i
invariant-loop-i l = is_some (read_whole (times import_record (l.count - l._i)) l.rest) ≡ is_some (read_whole (times import_record l.count) l.bytes)
