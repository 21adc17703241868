-- The names of rows.
use Rattle.std.specs.Prelude.{ℕ, List, map}
use Rattle.rows.specs.Rows.{Row}
use Rattle.module_table.specs.declared.overlay.NameKind.{NameKind}
use Rattle.module_table.specs.declared.overlay.NameKind.TheVariants.{Id, StableId}

-- the name of a row that is meant
abbrev pub name_of : NameKind → Row → List ℕ
name_of Id row = row.id
name_of StableId row = row.stable_id

-- the names of some rows
abbrev pub names_of : NameKind → List Row → List (List ℕ)
names_of kind rows = map (name_of kind) rows
