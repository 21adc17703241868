use Rattle.std.proofs.Common.{List}
use Rattle.packed_layout.specs.Layout.{Entry, read_all}
use Rattle.packed_rows.specs.Lists.{entries_of}
use Rattle.packed_rows.specs.Entries.{coming}
use Rattle.name_order.specs.Listed.{listed}
use Rattle.module_table.proofs.Judging.{Judging}
use Rattle.module_table.proofs.judge.judge_rows.Given as goal

-- some entries are judged, and the list has the others to come
abbrev pub invariant-loop-offset : goal.invariant-loop-offset
invariant-loop-offset g l = (done : List Entry) × Judging (g.G.Graph.rows l.table) l.bytes (entries_of (read_all l.bytes)) done (coming l.offset-iterator) l.draft.places (listed l.draft.orders.ids) (listed l.draft.orders.stable_ids) l.twice
