use Rattle.std.proofs.Common.{◌≡◌, [], vec_items, vec_capacity}
use Rattle.packed_layout.specs.Layout.{read_all}
use Rattle.packed_rows.specs.Entries.{unread, gathered}
use Rattle.packed_rows.proofs.Opening.{noted}
use Rattle.packed_rows.proofs.list.note_places.Given as goal

-- with what is still to be read, the places are the offsets of the list; and they have the room that they had
abbrev pub invariant-loop-record : goal.invariant-loop-record
invariant-loop-record l = (noted (vec_items l.places) (gathered (unread l.record-iterator)) ≡ noted [] (read_all l.bytes)) × (vec_capacity l.places ≡ vec_capacity l.initial.places)
