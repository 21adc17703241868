use Rattle.std.proofs.Common.{◌≡◌, ◌∷◌, length, Ok, Some, arith, ap, rules}
use Rattle.packed.specs.Views.{read_at}
use Rattle.packed_rows.specs.Entries.{entry_in, unread, outcomes}
use Rattle.packed_rows.proofs.Coming.{coming-some}
use Rattle.packed_rows.proofs.entries.RecordsIterator.next.Goals as goal
use Rattle.packed_rows.proofs.entries.RecordsIterator.next.Goals.{In-Ok}

gives : (c : In-Ok) → unread c.args.self.now ≡ Ok (entry_in (c.args.self.now.offset, c.in-Ok.row)) ∷ outcomes c.args.self.now.bytes.now c.in-Ok.next
gives c =
    let o = c.args.self.now.offset in
    let found : Ok (Some (entry_in (o, c.in-Ok.row), c.in-Ok.next)) ≡ read_at c.args.self.now.bytes.now o = search rules in
    coming-some c.args.self.now.bytes.now o (entry_in (o, c.in-Ok.row)) c.in-Ok.next found

pub returns-in-Ok-clause-steps : goal.returns-in-Ok-clause-steps
returns-in-Ok-clause-steps c = gives (goal.at.returns-in-Ok-clause-steps c).In-Ok

pub returns-in-Ok-clause-goes : goal.returns-in-Ok-clause-goes
returns-in-Ok-clause-goes c =
    let e = gives (goal.at.returns-in-Ok-clause-goes c).In-Ok in
    record { on = λ _. (tt, tt, omega (arith, ap length e)); keeps = tt; rests = λ _. tt }
