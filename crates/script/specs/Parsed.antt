-- What the code's readings of a line mean.
use Rattle.std.specs.Prelude.{◌≡◌, ℕ, List, None, Some, Ok, Err, vec_items, Option, Result, Vec, ◌⊎◌}
use Rattle.std.specs.declared.alloc.Global.{Global}
use Rattle.rows.specs.Rows.{Row as TheRow}
use Rattle.script.specs.declared.call.RowLine.{RowLine}
use Rattle.script.specs.declared.call.Call.{Call}
use Rattle.script.specs.declared.call.Call.TheVariants.{Blank, Room, Row, Raw, List as ListCall}
use Rattle.script.specs.declared.call.LineFault.{LineFault}
use Rattle.script.specs.declared.call.LineFault.TheVariants.{Memory, UnknownCall, MissingWord, SurplusWord, NotANumber, NotBytes, UnknownSetting}
use Rattle.script.specs.Lines.{Line, blank, room, row, raw, list}

-- the row that a line tells
abbrev pub row_in : RowLine → TheRow
row_in r = record { sort = r.facts.sort; flags = r.facts.flags; exports = r.facts.exports; mark = r.facts.mark; id = vec_items r.id; stable_id = vec_items r.stable_id; records = vec_items r.records }

abbrev pub numbered : RowLine → ℕ × TheRow
numbered r = (r.number, row_in r)

-- the line that a call stands for
abbrev pub meaning : Call → Line
meaning Blank = blank
meaning (Room r) = room r.rows r.records r.bytes
meaning (Row r) = row (numbered r)
meaning (Raw v) = raw (vec_items v)
meaning ListCall = list

-- what is wrong with a line, unless there was no memory for reading it
abbrev pub Wrong : {B : Type 0} → LineFault → Result B LineFault → Type 0
Wrong Memory line = Unit {0}
Wrong UnknownCall line = Err UnknownCall ≡ line
Wrong MissingWord line = Err MissingWord ≡ line
Wrong SurplusWord line = Err SurplusWord ≡ line
Wrong NotANumber line = Err NotANumber ≡ line
Wrong NotBytes line = Err NotBytes ≡ line
Wrong UnknownSetting line = Err UnknownSetting ≡ line

-- the answer means what the line does
abbrev pub Reads : {A B : Type 0} → (A → B) → Result A LineFault → Result B LineFault → Type 0
Reads f (Ok a) line = Ok (f a) ≡ line
Reads f (Err fault) line = Wrong fault line

-- the bytes that are there, or that there are none, unless there was no memory for them
abbrev pub BytesOr : Result (Vec ℕ Global) LineFault → Option (List ℕ) → Type 0
BytesOr (Ok v) bytes = Some (vec_items v) ≡ bytes
BytesOr (Err fault) bytes = (fault ≡ Memory) ⊎ ((fault ≡ NotBytes) × (None ≡ bytes))
