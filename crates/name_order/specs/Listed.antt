-- What an order holds, and what it answers.
use Rattle.std.specs.Prelude.{ℕ, List, vec_items, vec_capacity}
use Rattle.name_order.specs.declared.Order.{Order}
use Rattle.name_order.specs.declared.Taken.{Taken}

-- the rows in their order
abbrev pub listed : Order → List ℕ
listed o = vec_items o.rows

-- how many rows there is memory for
abbrev pub reserved : Order → ℕ
reserved o = vec_capacity o.rows

-- the answer that a name is another row's
abbrev pub taken : Taken
taken = record {}
