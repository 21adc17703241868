-- What a line of a script means.
use Rattle.std.specs.Prelude.{ℕ, zero, suc, true, cond, List, [], ◌∷◌, ◌++◌, length, Some, None, Ok, Err, codes, Option, Result}
use Rattle.std.specs.Str.{bytes_eq}
use Rattle.rows.specs.declared.Sort.TheVariants.{Normal, External}
use Rattle.rows.specs.declared.ExportsKind.{ExportsKind}
use Rattle.rows.specs.declared.ImportKind.{ImportKind}
use Rattle.rows.specs.declared.ImportKind.TheVariants.{Import, Require, DynamicImport, HotAccept}
use Rattle.rows.specs.Rows.{Row, no_flags}
use Rattle.packed_layout.specs.Codec.{bind}
use Rattle.script.specs.declared.call.LineFault.{LineFault}
use Rattle.script.specs.declared.call.LineFault.TheVariants.{UnknownCall, MissingWord, SurplusWord, NotANumber, NotBytes, UnknownSetting}
use Rattle.script.specs.declared.setting.Setting.{Setting}
use Rattle.script.specs.declared.setting.Setting.TheVariants.{Outside, SelfAccepting, LazyExport, Entry, Esm, CommonJs, Mark, Link}
use Rattle.script.specs.Words.{next_word, at_end, stripped, number_of, short_of, hex_of, bytes_of}

-- a row that a line tells nothing of but its number and its names
abbrev pub plain : List ℕ → List ℕ → Row
plain id stable_id = record { sort = Normal; flags = no_flags; exports = ExportsKind.None; mark = 0; id = id; stable_id = stable_id; records = [] }

-- where a record leads: a row, or `-` for an import that was not resolved
abbrev pub target_of : List ℕ → Option (Option ℕ)
target_of s = cond (bytes_eq s (codes "-")) (Some None) (bind (short_of s) (λ n. Some (Some n)))

abbrev pub link_to : ImportKind → List ℕ → Option Setting
link_to kind s = bind (target_of s) (λ target. Some (Link (record { kind = kind; target = target })))

-- an import record, as `import:3`
abbrev pub link_of : List ℕ → Option Setting
link_of s =
    elim (stripped (codes "import:") s) [
      | Some t ↦ link_to Import t
      | None ↦
          elim (stripped (codes "require:") s) [
            | Some t ↦ link_to Require t
            | None ↦
                elim (stripped (codes "dynamic:") s) [
                  | Some t ↦ link_to DynamicImport t
                  | None ↦
                      elim (stripped (codes "accept:") s) [ Some t ↦ link_to HotAccept t | None ↦ None ]
                ]
          ]
    ]

-- an output mark, as `mark=7`
abbrev pub mark_of : List ℕ → Option Setting
mark_of s = elim (stripped (codes "mark=") s) [ Some t ↦ bind (number_of t) (λ n. Some (Mark n)) | None ↦ link_of s ]

-- what a word after the names of a row sets
abbrev pub setting_of : List ℕ → Option Setting
setting_of s =
    cond (bytes_eq s (codes "external")) (Some Outside)
    (cond (bytes_eq s (codes "self")) (Some SelfAccepting)
    (cond (bytes_eq s (codes "lazy")) (Some LazyExport)
    (cond (bytes_eq s (codes "entry")) (Some Entry)
    (cond (bytes_eq s (codes "esm")) (Some Esm)
    (cond (bytes_eq s (codes "cjs")) (Some CommonJs) (mark_of s))))))

-- the row with one thing set; an import record follows those before it
abbrev pub having : Row → Setting → Row
having r Outside = record { sort = External; flags = r.flags; exports = r.exports; mark = r.mark; id = r.id; stable_id = r.stable_id; records = r.records }
having r SelfAccepting = record { sort = r.sort; flags = record { self_accepting = true; lazy_export = r.flags.lazy_export; entry = r.flags.entry }; exports = r.exports; mark = r.mark; id = r.id; stable_id = r.stable_id; records = r.records }
having r LazyExport = record { sort = r.sort; flags = record { self_accepting = r.flags.self_accepting; lazy_export = true; entry = r.flags.entry }; exports = r.exports; mark = r.mark; id = r.id; stable_id = r.stable_id; records = r.records }
having r Entry = record { sort = r.sort; flags = record { self_accepting = r.flags.self_accepting; lazy_export = r.flags.lazy_export; entry = true }; exports = r.exports; mark = r.mark; id = r.id; stable_id = r.stable_id; records = r.records }
having r Esm = record { sort = r.sort; flags = r.flags; exports = ExportsKind.Esm; mark = r.mark; id = r.id; stable_id = r.stable_id; records = r.records }
having r CommonJs = record { sort = r.sort; flags = r.flags; exports = ExportsKind.CommonJs; mark = r.mark; id = r.id; stable_id = r.stable_id; records = r.records }
having r (Mark n) = record { sort = r.sort; flags = r.flags; exports = r.exports; mark = n; id = r.id; stable_id = r.stable_id; records = r.records }
having r (Link e) = record { sort = r.sort; flags = r.flags; exports = r.exports; mark = r.mark; id = r.id; stable_id = r.stable_id; records = r.records ++ e ∷ [] }

-- what comes of the value, or what is wrong where there is none
abbrev pub or_wrong : {A B : Type 0} → Option A → LineFault → (A → Result B LineFault) → Result B LineFault
or_wrong None fault f = Err fault
or_wrong (Some a) fault f = f a

abbrev pub and_so : {A B : Type 0} → Result A LineFault → (A → Result B LineFault) → Result B LineFault
and_so (Err fault) f = Err fault
and_so (Ok a) f = f a

-- a word that is a number, a number of at most 16 bits, or bytes; and what stands after it
abbrev pub number_next : List ℕ → Result (ℕ × List ℕ) LineFault
number_next s = or_wrong (next_word s) MissingWord (λ w. or_wrong (number_of w.0) NotANumber (λ n. Ok (n, w.1)))

abbrev pub short_next : List ℕ → Result (ℕ × List ℕ) LineFault
short_next s = or_wrong (next_word s) MissingWord (λ w. or_wrong (short_of w.0) NotANumber (λ n. Ok (n, w.1)))

abbrev pub bytes_next : List ℕ → Result (List ℕ × List ℕ) LineFault
bytes_next s = or_wrong (next_word s) MissingWord (λ w. or_wrong (bytes_of w.0) NotBytes (λ b. Ok (b, w.1)))

-- the words that are left, each of which sets something; a word takes some bytes, so there are at most as many as bytes
abbrev pub settings : ℕ → Row → List ℕ → Result Row LineFault
settings zero r s = Ok r
settings (suc most) r s = elim (next_word s) [ None ↦ Ok r | Some w ↦ or_wrong (setting_of w.0) UnknownSetting (λ x. settings most (having r x) w.1) ]

-- what a line asks for
pub data Line : Type 0 where
  blank : Line
  room : (rows records bytes : ℕ) → Line
  row : ℕ × Row → Line
  raw : List ℕ → Line
  list : Line

-- no word is left over
abbrev pub ending : Line → List ℕ → Result Line LineFault
ending line s = cond (at_end s) (Ok line) (Err SurplusWord)

abbrev pub room_line : List ℕ → Result Line LineFault
room_line s = and_so (number_next s) (λ a. and_so (number_next a.1) (λ b. and_so (number_next b.1) (λ c. ending (room a.0 b.0 c.0) c.1)))

abbrev pub row_line : List ℕ → Result Line LineFault
row_line s = and_so (short_next s) (λ n. and_so (bytes_next n.1) (λ id. and_so (bytes_next id.1) (λ stable. and_so (settings (length stable.1) (plain id.0 stable.0) stable.1) (λ r. Ok (row (n.0, r))))))

abbrev pub raw_line : List ℕ → Result Line LineFault
raw_line s = or_wrong (next_word s) MissingWord (λ w. or_wrong (hex_of w.0) NotBytes (λ b. ending (raw b) w.1))

-- the line, by its first word
abbrev pub call_of : List ℕ → List ℕ → Result Line LineFault
call_of name s =
    cond (bytes_eq name (codes "room")) (room_line s)
    (cond (bytes_eq name (codes "row")) (row_line s)
    (cond (bytes_eq name (codes "raw")) (raw_line s)
    (cond (bytes_eq name (codes "list")) (ending list s) (Err UnknownCall))))

abbrev pub line_of : List ℕ → Result Line LineFault
line_of s = elim (next_word s) [ None ↦ Ok blank | Some w ↦ call_of w.0 w.1 ]
