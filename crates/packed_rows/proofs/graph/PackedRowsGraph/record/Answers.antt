use Rattle.std.proofs.Common.{rules}
use Rattle.packed_rows.specs.Opened.{rows_in}
use Rattle.packed_rows.proofs.Records.{records-viewed}
use Rattle.packed_rows.proofs.graph.PackedRowsGraph.record.Goals as goal

pub returns-in_err-row : goal.returns-in_err-row
returns-in_err-row c = rw (records-viewed (rows_in c.args.self.now) _ c.args.row c.into.ensures c.row.result c.row.ensures) (search rules)

pub returns : goal.returns
returns c = rw (records-viewed (rows_in c.args.self.now) _ c.args.row c.into.ensures c.row.result c.row.ensures) (search rules)
