-- What is read of a list from an offset on.
use Rattle.std.proofs.Common.{◌≡◌, ℕ, zero, suc, ◌+◌, ◌-◌, ◌<◌, ◌≤◌, List, [], ◌∷◌, ◌++◌, length, drop, Some, None, Ok, Err, Option, Result, sym, refl, ap, ◌∙◌, arith, length-drop}
use Rattle.std.proofs.lemmas.List.{drop_all, length_push}
use Rattle.rows.specs.Rows.{Row}
use Rattle.packed_layout.specs.declared.faults.RecordFault.{RecordFault}
use Rattle.packed_layout.specs.declared.faults.FaultAt.{FaultAt}
use Rattle.packed_layout.specs.Records.{Read, entries, broken, broken_at, also, first_record, read_records}
use Rattle.packed_layout.specs.Layout.{Entry, entry, rows, read_all}
use Rattle.packed.specs.declared.view.RowView.{RowView}
use Rattle.packed.specs.Views.{read_at, shown_at}
use Rattle.packed.proofs.Offsets.{here, fault, at-end}

-- at most so many records, from an offset on
abbrev pub from : ℕ → List ℕ → ℕ → Read Entry
from most s offset = read_records rows entry most offset (drop offset s)

-- entries before what is read after them
abbrev pub also_all : List Entry → Read Entry → Read Entry
also_all [] q = q
also_all (e ∷ es) q = also e (also_all es q)

pub also_all-push : (es : List Entry) (e : Entry) (r : Read Entry) → also_all (es ++ e ∷ []) r ≡ also_all es (also e r)
also_all-push [] e r = refl
also_all-push (x ∷ es) e r = ap (also x) (also_all-push es e r)

pub also_all-end : (es : List Entry) → also_all es (entries []) ≡ entries es
also_all-end [] = refl
also_all-end (x ∷ es) = ap (also x) (also_all-end es)

pub also_all-broken : (es : List Entry) (a : FaultAt) → also_all es (broken a) ≡ broken a
also_all-broken [] a = refl
also_all-broken (x ∷ es) a = ap (also x) (also_all-broken es a)

-- one step of the reader, by the record at the front
abbrev step : ℕ → ℕ → Result ((ℕ × Row) × ℕ × List ℕ) RecordFault → Read Entry
step n offset r = elim r [ Err fault ↦ broken_at fault offset | Ok x ↦ also (entry offset x.0) (read_records rows entry n (offset + x.1) x.2) ]

stepped : (n offset : ℕ) (t : List ℕ) → 0 < length t → read_records rows entry (suc n) offset t ≡ step n offset (first_record rows t)
stepped n offset [] h = absurd (omega arith)
stepped n offset (b ∷ bs) h = refl

stepped-at : (n : ℕ) (s : List ℕ) (offset : ℕ) → offset < length s → from (suc n) s offset ≡ step n offset (first_record rows (drop offset s))
stepped-at n s offset h = stepped n offset (drop offset s) (omega (arith, length-drop offset s))

pub from_some : (n : ℕ) (s : List ℕ) (offset : ℕ) (e : Entry) (next : ℕ) → Ok (Some (e, next)) ≡ read_at s offset → from (suc n) s offset ≡ also e (from n s next)
from_some n s offset e next p =
    let x = here s offset e next p in
    stepped-at n s offset x.inside ∙ ap (step n offset) x.is ∙ ap (λ (z : Entry). also z (read_records rows entry n (offset + x.size) (drop next s))) x.entry-is ∙ ap (λ (k : ℕ). also e (read_records rows entry n k (drop next s))) x.next-is

pub from-err : (n : ℕ) (s : List ℕ) (offset : ℕ) (a : FaultAt) → Err a ≡ read_at s offset → from (suc n) s offset ≡ broken a
from-err n s offset a p =
    let x = fault s offset a p in
    stepped-at n s offset x.inside ∙ ap (step n offset) x.is ∙ ap (λ (z : FaultAt). broken z) x.at-is

nothing_left : (n offset : ℕ) → read_records rows entry n offset [] ≡ entries []
nothing_left zero offset = refl
nothing_left (suc n) offset = refl

pub from-none : (n : ℕ) (s : List ℕ) (offset : ℕ) → Ok None ≡ read_at s offset → from n s offset ≡ entries []
from-none n s offset p = ap (read_records rows entry n offset) (drop_all offset s (at-end s offset p)) ∙ nothing_left n offset

-- A loop that reads a list: the entries es are read, and the next record is at an offset.
pub record Left (es : List Entry) (s : List ℕ) (offset : ℕ) : Type 0 where
  pub whole : also_all es (from (length s - length es) s offset) ≡ read_all s
  pub behind : length es ≤ offset

pub left-start : (s : List ℕ) → Left [] s 0
left-start s =
    let all : length s - 0 ≡ length s = omega arith in
    record { whole = ap (λ (k : ℕ). from k s 0) all; behind = omega arith }

pub left-turn : (es : List Entry) (e : Entry) (s : List ℕ) (offset next : ℕ) → Ok (Some (e, next)) ≡ read_at s offset → Left es s offset → Left (es ++ e ∷ []) s next
left-turn es e s offset next p l =
    let x = here s offset e next p in
    let n = length s - length (es ++ e ∷ []) in
    let long = length_push es e in
    let fuel : length s - length es ≡ suc n = omega (arith, long, x.inside, l.behind) in
    let later : from (length s - length es) s offset ≡ also e (from n s next) = ap (λ (k : ℕ). from k s offset) fuel ∙ from_some n s offset e next p in
    record { whole = also_all-push es e (from n s next) ∙ ap (also_all es) (sym later) ∙ l.whole; behind = omega (arith, long, x.next-is, x.some, l.behind) }

pub left-done : (es : List Entry) (s : List ℕ) (offset : ℕ) → Ok None ≡ read_at s offset → Left es s offset → read_all s ≡ entries es
left-done es s offset p l = sym l.whole ∙ ap (also_all es) (from-none (length s - length es) s offset p) ∙ also_all-end es

pub left-broken : (es : List Entry) (s : List ℕ) (offset : ℕ) (a : FaultAt) → Err a ≡ read_at s offset → Left es s offset → read_all s ≡ broken a
left-broken es s offset a p l =
    let x = fault s offset a p in
    let n = length s - length es - 1 in
    let fuel : length s - length es ≡ suc n = omega (arith, x.inside, l.behind) in
    sym l.whole ∙ ap (also_all es) (ap (λ (k : ℕ). from k s offset) fuel ∙ from-err n s offset a p) ∙ also_all-broken es a

-- the next record begins further on, within the bytes
pub further : (e : Entry) (s : List ℕ) (offset next : ℕ) → Ok (Some (e, next)) ≡ read_at s offset → (offset < length s) × (offset < next)
further e s offset next p = let x = here s offset e next p in (x.inside, omega (arith, x.next-is, x.some))

-- a view that was read at an offset, by what came of the call
pub shown-at : (offset : ℕ) (o v : Option (RowView × ℕ)) (r : Result (Option (Entry × ℕ)) FaultAt) → o ≡ v → shown_at offset (Ok o) ≡ r → shown_at offset (Ok v) ≡ r
shown-at offset o v r e h = ap (λ (z : Option (RowView × ℕ)). shown_at offset (Ok z)) (sym e) ∙ h
