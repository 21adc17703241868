-- Counting the entries of a list from offset to offset.
use Rattle.std.proofs.Common.{◌≡◌, ℕ, ◌+◌, ◌<◌, List, [], ◌∷◌, ◌++◌, length, Some, None, Ok, Err, sym, refl, ap, ◌∙◌, arith}
use Rattle.std.proofs.lemmas.List.{length_push}
use Rattle.packed_layout.specs.declared.faults.FaultAt.{FaultAt}
use Rattle.packed_layout.specs.declared.faults.RowFault.TheVariants.{Record}
use Rattle.packed_layout.specs.Layout.{Entry, read_all}
use Rattle.packed.specs.Views.{read_at}
use Rattle.packed.proofs.Offsets.{here}
use Rattle.packed.proofs.Reading.{Left, left-start, left-turn, left-done, left-broken}
use Rattle.packed_rows.specs.Lists.{row_count}

-- so many entries are read, and the next record is at an offset
abbrev pub Counted : ℕ → List ℕ → ℕ → Type 0
Counted count s offset = (es : List Entry) × (length es ≡ count) × Left es s offset

-- none are read at the start
pub counted_start : (s : List ℕ) → Counted 0 s 0
counted_start s = ([], refl, left-start s)

-- one more is read
pub counted-turn : (count : ℕ) (e : Entry) (s : List ℕ) (offset next : ℕ) → Ok (Some (e, next)) ≡ read_at s offset → Counted count s offset → Counted (count + 1) s next
counted-turn count e s offset next p (es, n, l) = (es ++ e ∷ [], length_push es e ∙ ap (λ (k : ℕ). k + 1) n, left-turn es e s offset next p l)

-- there are fewer than bytes while one is left
pub counted-few : (count : ℕ) (e : Entry) (s : List ℕ) (offset next : ℕ) → Ok (Some (e, next)) ≡ read_at s offset → Counted count s offset → count < length s
counted-few count e s offset next p (es, n, l) = let x = here s offset e next p in omega (arith, n, l.behind, x.inside)

-- at the end they are all
pub counted-done : (count : ℕ) (s : List ℕ) (offset : ℕ) → Ok None ≡ read_at s offset → Counted count s offset → Ok count ≡ row_count (read_all s)
counted-done count s offset p (es, n, l) = ap Ok (sym n) ∙ sym (ap row_count (left-done es s offset p l))

-- a record that is refused is the list's fault
pub counted-broken : (count : ℕ) (s : List ℕ) (offset : ℕ) (a : FaultAt) → Err a ≡ read_at s offset → Counted count s offset → Err (Record a) ≡ row_count (read_all s)
counted-broken count s offset a p (es, n, l) = sym (ap row_count (left-broken es s offset a p l))
