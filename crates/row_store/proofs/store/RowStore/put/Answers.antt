use Rattle.std.proofs.Common.{ℕ, None, Some, Option, length, length-append, ap, ◌∙◌, arith}
use Rattle.std.specs.List.{slice_get}
use Rattle.packed.specs.declared.view.RowView.{RowView}
use Rattle.row_store.specs.Renewed.{row_given, coming, given_bytes, new_bytes}
use Rattle.row_store.specs.Filled.{Filled}
use Rattle.row_store.specs.Stores.{rows_now}
use Rattle.row_store.proofs.Putting.{found, tells, Grew, grew-under, grew-new}
use Rattle.row_store.proofs.store.RowStore.put.Goals as goal
use Rattle.row_store.proofs.store.RowStore.put.Goals.{After-carry, After-renew-in-Some-Some, After-renew}

-- a row that stays
carried : (c : After-carry) → Grew c.args.self.now c.args.self.now.bytes c.carry.new.self (coming (slice_get (rows_now c.args.self.now) c.args.row) (row_given c.args.change))
carried c =
    let s = c.args.self.now in
    let one = found coming s.bytes.items s.current c.args.row c.head.result (Some c.in-Some-None.head) c.args.change None c.head.ensures c.in-Some-None.is-0 c.in-Some-None.is-1 in
    grew-under s c.args.row c.in-Some-None.head c.in-Some-None.ensures c.carry.new.self _ _ _ c.carry.ensures one c.requires.row_fits c.requires.records_fit

pub invariant_of-self-in-Some-None : goal.invariant_of-self-in-Some-None
invariant_of-self-in-Some-None c = (carried c).kept

pub returns-in-Some-None : goal.returns-in-Some-None
returns-in-Some-None c =
    let s = c.args.self.now in
    let none = found new_bytes s.bytes.items s.current c.args.row c.head.result (Some c.in-Some-None.head) c.args.change None c.head.ensures c.in-Some-None.is-0 c.in-Some-None.is-1 in
    tells s s.bytes c.carry.new.self _ _ (carried (goal.at.returns-in-Some-None c).After-carry) (omega (arith, none))

-- a row in the place of one that is there
changed : (c : After-renew-in-Some-Some) → Grew c.args.self.now c.args.self.now.bytes c.renew-in-Some-Some.new.self (coming (slice_get (rows_now c.args.self.now) c.args.row) (row_given c.args.change))
changed c =
    let s = c.args.self.now in
    let one = found coming s.bytes.items s.current c.args.row c.head.result (Some c.in-Some-Some.head) c.args.change (Some c.in-Some-Some.view) c.head.ensures c.in-Some-Some.is-0 c.in-Some-Some.is-1 in
    grew-under s c.args.row c.in-Some-Some.head c.in-Some-Some.ensures c.renew-in-Some-Some.new.self _ _ _ c.renew-in-Some-Some.ensures one c.requires.row_fits c.requires.records_fit

pub invariant_of-self-in-Some-Some : goal.invariant_of-self-in-Some-Some
invariant_of-self-in-Some-Some c = (changed c).kept

pub returns-in-Some-Some : goal.returns-in-Some-Some
returns-in-Some-Some c =
    let s = c.args.self.now in
    let none = found new_bytes s.bytes.items s.current c.args.row c.head.result (Some c.in-Some-Some.head) c.args.change (Some c.in-Some-Some.view) c.head.ensures c.in-Some-Some.is-0 c.in-Some-Some.is-1 in
    tells s s.bytes c.renew-in-Some-Some.new.self _ _ (changed (goal.at.returns-in-Some-Some c).After-renew-in-Some-Some) (omega (arith, none))

-- a further row
further : (c : After-renew) → Grew c.args.self.now c.add_names-names.new.bytes c.renew.new.self (coming (slice_get (rows_now c.args.self.now) c.args.row) (row_given c.args.change))
further c =
    let s = c.args.self.now in let v = c.in-None-Some.view in
    let one = found coming s.bytes.items s.current c.args.row c.head.result None c.args.change (Some v) c.head.ensures c.in-None-Some.is-0 c.in-None-Some.is-1 in
    let names = ap (λ (o : Option RowView). given_bytes (row_given o)) c.in-None-Some.is-1 in
    grew-new s c.add_names-names.new.bytes v.head.id.now v.head.stable_id.now c.add_names-names.ensures.bytes c.add_names-names.result c.add_names-names.ensures.names c.renew.new.self _ _ _ c.renew.ensures one c.requires.row_fits c.requires.records_fit (omega (arith, names, c.requires.bytes_fit))

pub invariant_of-self : goal.invariant_of-self
invariant_of-self c = (further c).kept

pub returns-in-None-Some : goal.returns-in-None-Some
returns-in-None-Some c =
    let s = c.args.self.now in let v = c.in-None-Some.view in
    let names = found new_bytes s.bytes.items s.current c.args.row c.head.result None c.args.change (Some v) c.head.ensures c.in-None-Some.is-0 c.in-None-Some.is-1 in
    let long = ap (λ (f : Filled ℕ). length f.items) c.add_names-names.ensures.bytes ∙ length-append s.bytes.items _ in
    let both = length-append v.head.id.now v.head.stable_id.now in
    tells s c.add_names-names.new.bytes c.renew.new.self _ _ (further (goal.at.returns-in-None-Some c).After-renew) (omega (arith, names, long, both))
