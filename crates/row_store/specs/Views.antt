-- The rows that a view shows.
use Rattle.std.specs.Prelude.{List, map}
use Rattle.rows.specs.Rows.{Row}
use Rattle.row_store.specs.declared.graph.TableView.{TableView}
use Rattle.row_store.specs.Cuts.{row_of}

-- each head of the view as a row
abbrev pub viewed : TableView → List Row
viewed v = map (row_of v.bytes.now v.records.now) v.heads.now
