-- A packed list as a graph.
use Rattle.std.specs.Prelude.{List, map}
use Rattle.rows.specs.Rows.{Row as TheRow}
use Rattle.packed_layout.specs.Layout.{Entry}
use Rattle.packed_rows.specs.declared.PackedRows.{PackedRows}
use Rattle.packed_rows.specs.Opened.{rows_in}

-- the rows in the order of their records
abbrev pub project_in : PackedRows → List TheRow
project_in p = map (λ (e : Entry). e.row) (rows_in p)
