-- A project: its rows and their links.
use Rattle.std.specs.Prelude.{ℕ, Bool, true, false, cond, ◌||◌, List, [], ◌∷◌, map, Some, None, Option, slice_index_or}
use Rattle.rows.specs.declared.Sort.{Sort}
use Rattle.rows.specs.declared.Sort.TheVariants.{Normal, External}
use Rattle.rows.specs.declared.ExportsKind.{ExportsKind}
use Rattle.rows.specs.declared.ImportKind.{ImportKind}
use Rattle.rows.specs.declared.ImportKind.TheVariants.{Import, Require, DynamicImport, HotAccept}
use Rattle.rows.specs.declared.ImportRecord.{ImportRecord}
use Rattle.rows.specs.declared.Flags.{Flags}
use Rattle.rows.specs.declared.Facts.{Facts}
use Rattle.rows.specs.Numbers.{member, concat}

-- one module of a project, or something outside of it that a module imports
pub record Row : Type 0 where
  pub sort : Sort
  pub flags : Flags
  pub exports : ExportsKind
  -- equal marks stand for equal rendered code
  pub mark : ℕ
  -- the path of the module, and the name by which the runtime knows it
  pub id : List ℕ
  pub stable_id : List ℕ
  -- what it imports, in the order of its source
  pub records : List ImportRecord

-- none of the flags is set
abbrev pub no_flags : Flags
no_flags = record { self_accepting = false; lazy_export = false; entry = false }

-- what stands where there is no row: it is not normal and imports nothing
abbrev pub nowhere : Row
nowhere = record { sort = External; flags = no_flags; exports = ExportsKind.None; mark = 0; id = []; stable_id = []; records = [] }

-- the row of a number
abbrev pub at : List Row → ℕ → Row
at rows r = slice_index_or rows r nowhere

-- a row, besides its names and its import records
abbrev pub facts_of : Row → Facts
facts_of r = record { sort = r.sort; flags = r.flags; exports = r.exports; mark = r.mark }

-- the import is loaded before its importer runs
abbrev pub is_static : ImportKind → Bool
is_static Import = true
is_static Require = true
is_static DynamicImport = false
is_static HotAccept = false

-- the import is loaded when its importer asks for it
abbrev pub is_dynamic : ImportKind → Bool
is_dynamic Import = false
is_dynamic Require = false
is_dynamic DynamicImport = true
is_dynamic HotAccept = false

-- the record says that a change of its target is taken, and imports nothing
abbrev pub is_accept : ImportKind → Bool
is_accept Import = false
is_accept Require = false
is_accept DynamicImport = false
is_accept HotAccept = true

-- static or dynamic
abbrev pub is_link : ImportKind → Bool
is_link k = is_static k || is_dynamic k

-- any kind of record
abbrev pub is_any : ImportKind → Bool
is_any k = true

-- the row of a resolved target, and none of one that is not
abbrev pub resolved : Option ℕ → List ℕ
resolved None = []
resolved (Some r) = r ∷ []

abbrev pub is_normal_sort : Sort → Bool
is_normal_sort Normal = true
is_normal_sort External = false

-- a module of the project
abbrev pub is_normal : Row → Bool
is_normal r = is_normal_sort r.sort

-- the targets of a row: the rows that records of some kinds lead to, in the order of the records
abbrev pub targets : (ImportKind → Bool) → Row → List ℕ
targets kinds p = concat (map (λ (e : ImportRecord). cond (kinds e.kind) (resolved e.target) []) p.records)

-- row p has a record to row q, of any kind
abbrev pub imports : List Row → ℕ → ℕ → Bool
imports rows p q = member q (targets is_any (at rows p))

-- row p takes the changes of row q
abbrev pub accepts : List Row → ℕ → ℕ → Bool
accepts rows p q = member q (targets is_accept (at rows p))
