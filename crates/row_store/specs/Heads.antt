-- A side that grows by a row.
use Rattle.std.specs.Prelude.{ℕ, ◌+◌, List, [], ◌∷◌, length}
use Rattle.rows.specs.declared.Facts.{Facts}
use Rattle.rows.specs.declared.ImportRecord.{ImportRecord}
use Rattle.row_store.specs.declared.Names.{Names}
use Rattle.row_store.specs.declared.Head.{Head}
use Rattle.row_store.specs.declared.Side.{Side}
use Rattle.row_store.specs.Cuts.{span}
use Rattle.row_store.specs.Filled.{added}

-- where names lie that follow the bytes
abbrev pub names_after : List ℕ → List ℕ → List ℕ → Names
names_after bytes id stable_id = record { id = span (length bytes) (length id); stable_id = span (length bytes + length id) (length stable_id) }

-- the head of a row with these names, whose import records follow those that are held
abbrev pub head_with : Names → Facts → List ImportRecord → List ImportRecord → Head
head_with names f held records = record { facts = f; names = names; records = span (length held) (length records) }

-- the side with one row more
abbrev pub with_row : Side → Names → Facts → List ImportRecord → Side
with_row s names f records = record { heads = added s.heads (head_with names f s.records.items records ∷ []); records = added s.records records }
