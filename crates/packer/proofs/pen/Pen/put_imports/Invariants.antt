use Rattle.std.proofs.Common.{take}
use Rattle.packed_layout.specs.Codec.{write_all}
use Rattle.packed_layout.specs.Layout.{import_record}
use Rattle.packer.specs.Put.{Put}
use Rattle.packer.proofs.pen.Pen.put_imports.Given as goal

-- the records so far were put behind their number
abbrev pub invariant-loop-record : goal.invariant-loop-record
invariant-loop-record l = Put (write_all import_record (take l.record-index l.records)) l.initial.self l.self
