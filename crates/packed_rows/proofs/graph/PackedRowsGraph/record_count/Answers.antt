use Rattle.std.proofs.Common.{rules}
use Rattle.packed_rows.specs.Opened.{rows_in}
use Rattle.packed_rows.proofs.Records.{records-viewed}
use Rattle.packed_rows.proofs.graph.PackedRowsGraph.record_count.Goals as goal

pub returns : goal.returns
returns c = rw (records-viewed (rows_in c.args.self.now) _ c.args.row c.into.ensures c.row.result c.row.ensures) (search rules)
