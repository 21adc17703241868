-- What a store answers.
use Rattle.std.specs.Prelude.{ℕ, Bool, true, false, Ok, Err, Result}
use Rattle.holdings.specs.declared.faults.StoreFault.{StoreFault}
use Rattle.holdings.specs.declared.faults.StoreFault.TheVariants.{Full}

-- the number of the refusal
abbrev pub store_number : StoreFault → ℕ
store_number Full = 14

-- what is answered, given whether it is taken
abbrev pub answered : Bool → Result (Unit {0}) StoreFault
answered true = Ok tt
answered false = Err Full
