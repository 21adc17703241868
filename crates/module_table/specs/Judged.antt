-- What is answered for the rows of a list, and which orders go with a table.
use Rattle.std.specs.Prelude.{ℕ, Bool, cond, List, length, Some, None, Ok, Err, Option, Result, nat_lt}
use Rattle.rows.specs.Numbers.{repeats}
use Rattle.rows.specs.Rows.{Row}
use Rattle.packed_layout.specs.declared.faults.RowFault.{RowFault}
use Rattle.packed_layout.specs.declared.faults.RowFault.TheVariants.{OutOfTurn, NameClash}
use Rattle.packed_layout.specs.Layout.{Entry}
use Rattle.name_order.specs.Orders.{IsOrder}
use Rattle.module_table.specs.declared.overlay.NameKind.TheVariants.{Id, StableId}
use Rattle.module_table.specs.Names.{names_of}
use Rattle.project.specs.Rescan.{clashes, rows_fault, numbers}

-- one list has the rows in the order of their ids, the other in that of their stable ids
abbrev pub InOrder : List Row → List ℕ → List ℕ → Type 0
InOrder rows by_id by_stable_id = IsOrder (names_of Id rows) by_id × IsOrder (names_of StableId rows) by_stable_id

-- the fault of a row, or whether the list has the row twice
abbrev pub row_judged : List Row → Bool → Entry → Result Bool RowFault
row_judged table twice e =
    cond (nat_lt (length table) e.number) (Err (OutOfTurn e.offset))
    (cond (clashes table e) (Err (NameClash e.offset)) (Ok twice))

-- the fault, if there is one, or whether a list of entries has a row twice
abbrev pub judged_by : List Entry → Option RowFault → Result Bool RowFault
judged_by es (Some fault) = Err fault
judged_by es None = Ok (repeats (numbers es))

-- the fault of the first row that has one, or whether the list has a row twice
abbrev pub rows_judged : List Row → List Entry → Result Bool RowFault
rows_judged table es = judged_by es (rows_fault table es)
