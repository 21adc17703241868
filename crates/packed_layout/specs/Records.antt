-- Packed records: payloads of some kinds, each behind its length and its kind, one after another.
use Rattle.std.specs.Prelude.{◌≡◌, ℕ, zero, suc, ◌+◌, ◌<◌, ◌≤◌, ◌≢◌, ◌⊎◌, List, [], ◌∷◌, ◌++◌, length, take, drop, Some, None, Ok, Err, Option, Result, ◌==◌, nat_le}
use Rattle.std.specs.List.{AllByRecursion}
use Rattle.packed_layout.specs.declared.faults.FaultAt.{FaultAt}
use Rattle.packed_layout.specs.declared.faults.RecordFault.{RecordFault}
use Rattle.packed_layout.specs.declared.faults.RecordFault.TheVariants.{EndsInside, UnknownKind, BrokenLayout}
use Rattle.packed_layout.specs.Codec.{Codec, when, text, value, number, ◌then◌, read_whole, Bytes}

-- what a list of records may hold: each value's kind and payload, and how a payload of a kind is read; `None` for another kind
pub record Kinds (A : Type 0) : Type 0 where
  pub kind : A → ℕ
  pub write : A → List ℕ
  pub reader : ℕ → Option (List ℕ → Option A)

-- records of one kind
abbrev pub only : {A : Type 0} → ℕ → Codec A → Kinds A
only k c = record { kind = λ _. k; write = c.write; reader = λ n. when (n == k) (read_whole c) }

-- what stands before a payload: its length in 4 bytes, and its kind in 2
abbrev pub header : Codec (ℕ × ℕ)
header = number 4 then number 2

module _ {A : Type 0} (K : Kinds A) where
  -- a value as a record
  abbrev pub pack : A → List ℕ
  pack a = header.write (length (K.write a), K.kind a) ++ K.write a

  -- a list of values as records, one after another
  abbrev pub pack_all : List A → List ℕ
  pack_all [] = []
  pack_all (a ∷ more) = pack a ++ pack_all more

-- what comes of the value, or the fault where there is none
abbrev pub or_refuse : {A B : Type 0} → Option A → RecordFault → (A → Result B RecordFault) → Result B RecordFault
or_refuse None fault f = Err fault
or_refuse (Some a) fault f = f a

-- the record at the front: its value, its size and the bytes after it; or why it is refused. A payload has at most 32,768 bytes
abbrev pub first_record : {A : Type 0} → Kinds A → List ℕ → Result (A × ℕ × List ℕ) RecordFault
first_record K s =
    or_refuse (header.read s) EndsInside (λ h.
    or_refuse ((text h.0.0).read h.1) EndsInside (λ p.
    or_refuse (K.reader h.0.1) UnknownKind (λ read.
    or_refuse (when (nat_le h.0.0 32768) p.0) BrokenLayout (λ payload.
    or_refuse (read payload) BrokenLayout (λ a. Ok (a, 6 + h.0.0, p.1))))))

-- a list of records: an entry for each, or the first record that is refused
pub data Read (E : Type 0) : Type 0 where
  entries : List E → Read E
  broken : FaultAt → Read E

-- a fault of the record that begins at an offset
abbrev pub broken_at : {E : Type 0} → RecordFault → (offset : ℕ) → Read E
broken_at fault offset = broken (record { fault = fault; offset = offset })

-- one entry more, in front
abbrev pub also : {E : Type 0} → E → Read E → Read E
also e (entries es) = entries (e ∷ es)
also e (broken at) = broken at

-- `entry` makes an entry of a record's offset and its value
module _ {A E : Type 0} (K : Kinds A) (entry : ℕ → A → E) where
  -- the records from an offset on; each takes some bytes, so there are at most as many as bytes
  abbrev pub read_records : ℕ → ℕ → List ℕ → Read E
  read_records zero offset s = entries []
  read_records (suc fuel) offset [] = entries []
  read_records (suc fuel) offset (b ∷ bs) = elim (first_record K (b ∷ bs)) [ Err n ↦ broken_at n offset | Ok r ↦ also (entry offset r.0) (read_records fuel (offset + r.1) r.2) ]

  -- the entries of records that follow one another from an offset on
  abbrev pub entries_at : ℕ → List A → List E
  entries_at offset [] = []
  entries_at offset (a ∷ more) = entry offset a ∷ entries_at (offset + length (pack K a)) more

  -- a whole list
  abbrev pub read_list : List ℕ → Read E
  read_list s = read_records (length s) 0 s

-- The reader of a list accepts exactly what is packed of values that fit.

module _ {A E : Type 0} (K : Kinds A) (entry : ℕ → A → E) (Fit : A → Type 0) where
  -- from an offset on, s is the records of xs, and their entries are es
  pub record Made (offset : ℕ) (s : List ℕ) (es : List E) (xs : List A) : Type 0 where
    pub packed : pack_all K xs ≡ s
    pub placed : entries_at K entry offset xs ≡ es
    pub fit : AllByRecursion Fit xs

  -- from an offset on, s is the records of xs, and then what the reader of one record refuses
  pub record Broken (offset : ℕ) (s : List ℕ) (n : RecordFault) (o : ℕ) (xs : List A) (rest : List ℕ) : Type 0 where
    pub split : pack_all K xs ++ rest ≡ s
    pub fit : AllByRecursion Fit xs
    pub place : offset + length (pack_all K xs) ≡ o
    pub some : 1 ≤ length rest
    pub refused : first_record K rest ≡ Err n

  -- what is packed is read back
  abbrev pub ListIsRead : Type 0
  ListIsRead = (xs : List A) → AllByRecursion Fit xs → read_list K entry (pack_all K xs) ≡ entries (entries_at K entry 0 xs)

  -- what is read was packed
  abbrev pub ListWasPacked : Type 0
  ListWasPacked = (s : List ℕ) (es : List E) → Bytes s → read_list K entry s ≡ entries es → ((xs : List A) × Made 0 s es xs)

  -- a record that is refused breaks the list where it begins, after any records that fit
  abbrev pub ListIsRefused : Type 0
  ListIsRefused = (s : List ℕ) (n : RecordFault) (o : ℕ) (xs : List A) (rest : List ℕ) → Broken 0 s n o xs rest → read_list K entry s ≡ broken_at n o

  -- and nothing else breaks it
  abbrev pub ListWasRefused : Type 0
  ListWasRefused = (s : List ℕ) (n : RecordFault) (o : ℕ) → Bytes s → read_list K entry s ≡ broken_at n o → ((xs : List A) × (rest : List ℕ) × Broken 0 s n o xs rest)

-- Why a record is refused, in words of its bytes.

-- the length of the payload that a header tells
abbrev pub size_of : List ℕ → ℕ
size_of s = value (take 4 s)

-- the kind that a header tells
abbrev pub kind_of : List ℕ → ℕ
kind_of s = value (take 2 (drop 4 s))

module _ {A : Type 0} (K : Kinds A) (Fit : A → Type 0) where
  -- the bytes end inside the record; else its kind is not known; else no value that fits is packed so
  abbrev pub Why : RecordFault → List ℕ → Type 0
  Why n s = ((n ≡ EndsInside) × (length s < 6 + size_of s)) ⊎ (((n ≡ UnknownKind) × (6 + size_of s ≤ length s) × (K.reader (kind_of s) ≡ None)) ⊎ ((n ≡ BrokenLayout) × (6 + size_of s ≤ length s) × (K.reader (kind_of s) ≢ None) × ((a : A) (rest : List ℕ) → Fit a → pack K a ++ rest ≢ s)))

  abbrev pub RefusedFor : Type 0
  RefusedFor = (n : RecordFault) (s : List ℕ) → first_record K s ≡ Err n → Why n s
