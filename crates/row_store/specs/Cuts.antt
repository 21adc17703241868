-- A row that is told by parts of lists.
use Rattle.std.specs.Prelude.{ℕ, List, take, drop}
use Rattle.rows.specs.declared.Facts.{Facts}
use Rattle.rows.specs.declared.ImportRecord.{ImportRecord}
use Rattle.rows.specs.Rows.{Row}
use Rattle.row_store.specs.declared.Span.{Span}
use Rattle.row_store.specs.declared.Head.{Head}

-- a part that starts at a place and is so long
abbrev pub span : ℕ → ℕ → Span
span start len = record { start = start; len = len }

-- the part of a list that a span names, as far as it lies within
abbrev pub cut : {A : Type 0} → List A → Span → List A
cut xs p = take p.len (drop p.start xs)

-- a row from its facts, its id, its stable id and its import records
abbrev pub row_from : Facts → List ℕ → List ℕ → List ImportRecord → Row
row_from f id stable_id records = record { sort = f.sort; flags = f.flags; exports = f.exports; mark = f.mark; id = id; stable_id = stable_id; records = records }

-- the row of a head, over the bytes of the names and the import records of a side
abbrev pub row_of : List ℕ → List ImportRecord → Head → Row
row_of bytes records h = row_from h.facts (cut bytes h.names.id) (cut bytes h.names.stable_id) (cut records h.records)
