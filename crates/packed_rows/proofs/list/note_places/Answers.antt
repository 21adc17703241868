use Rattle.std.proofs.Common.{◌≡◌, ◌∷◌, Ok, vec_items, vec_capacity, rules, ◌∙◌, arith}
use Rattle.packed_rows.specs.Entries.{unread, entry_in}
use Rattle.packed_rows.proofs.Opening.{noted-turn, noted-short}
use Rattle.packed_rows.proofs.list.note_places.Goals as goal

pub returns-then-len-capacity-clause-answer : goal.returns-then-len-capacity-clause-answer
returns-then-len-capacity-clause-answer c =
    let steps : unread c.loop-record.record-iterator ≡ Ok (entry_in (c.in_ok-offset.offset, c.in_ok-offset.field-0-1)) ∷ unread c.next.new.self = search rules in
    noted-short (vec_capacity c.args.places.now) _ (vec_items c.loop-record.places) c.args.bytes.now _ _ _ (omega arith) steps c.loop-record.invariant.0 c.in_ok-wanted.ensures

pub loop-record-preserved : goal.loop-record-preserved
loop-record-preserved c =
    let steps : unread c.loop-record.record-iterator ≡ Ok (entry_in (c.in_ok-offset.offset, c.in_ok-offset.field-0-1)) ∷ unread c.next.new.self = search rules in
    (noted-turn _ _ _ _ _ _ c.push_reserved.ensures.items steps c.loop-record.invariant.0, c.push_reserved.ensures.capacity ∙ c.loop-record.invariant.1)
