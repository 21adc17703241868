-- What packing a row answers, and what its record is read as.
use Rattle.std.proofs.Common.{◌≡◌, ℕ, ◌+◌, ◌<◌, ◌≤◌, true, false, List, [], ◌∷◌, ◌++◌, length, take, drop, Ok, Err, Result, sym, refl, ap, ◌∙◌, ap₂, subst, arith, zero-add}
use Rattle.std.proofs.lemmas.List.{append-nil, take_at, take-append-drop}
use Rattle.std.proofs.lemmas.Bool.{le-leb, lt-leb}
use Rattle.rows.specs.Rows.{Row}
use Rattle.packed_layout.specs.Records.{header, entries}
use Rattle.packed_layout.specs.Layout.{entry, head, head_of, import_records, row, packed, read_all}
use Rattle.packed_layout.specs.Exact.{FitsPair}
use Rattle.packed_layout.proofs.Exact.{lists-are-exact}
use Rattle.packer.specs.declared.PackFault.{PackFault}
use Rattle.packer.specs.declared.PackFault.TheVariants.{Unfit, Short}
use Rattle.packer.specs.declared.pen.Pen.{Pen}
use Rattle.packer.specs.Packs.{fits?, filled, packs}
use Rattle.packer.specs.Put.{AtFront, Put}
use Rattle.packer.proofs.Putting.{put_both}

-- the three parts of a row's record, one after another
pub put-packed : (p : ℕ × Row) {n : ℕ} {start a b after : Pen} → n ≡ length (row.write p) → Put (header.write (n, 1)) start a → Put (head.write (head_of p)) a b → Put (import_records.write p.1.records) b after → Put (packed p) start after
put-packed p {start = start} {a = a} size front middle back =
    put_both (subst (λ n. Put (header.write (n, 1)) start a) size front) (put_both middle back)

-- a pen that began at the front of its buffer
module _ {bytes old now : List ℕ} {start after : Pen} (front : AtFront old start) (put : Put bytes start after) (left : after.buffer.now ≡ now) where
  ends : after.at ≡ length bytes
  ends = put.at ∙ ap (λ n. n + length bytes) front.at ∙ zero-add (length bytes)

  wrote : now ≡ bytes ++ drop (length bytes) old
  wrote =
      sym left ∙ sym (take-append-drop after.at after.buffer.now)
      ∙ ap₂ (λ s t. s ++ t) (put.written ∙ ap (λ n. take n start.buffer.now ++ bytes) front.at) (put.kept ∙ ap₂ drop ends front.holds)

  filled_is : ◌≡◌ {A = Result ℕ PackFault × List ℕ} (Ok after.at, now) (filled bytes old)
  filled_is =
      let room : length bytes ≤ length old = omega (arith, put.room, ap length front.holds, front.at) in
      rw (le-leb (length bytes) (length old) room) (ap₂ (λ (n : ℕ) (s : List ℕ). (Ok n, s)) ends wrote)

  taken_is : take after.at now ≡ bytes
  taken_is = ap₂ take ends wrote ∙ take_at bytes (drop (length bytes) old) (length bytes) refl

-- a row that does not fit the layout, and a buffer that has no room for a record
module _ (p : ℕ × Row) (before : List ℕ) where
  pub packs-unfit : fits? p ≡ false → ◌≡◌ {A = Result ℕ PackFault × List ℕ} (Err Unfit, before) (packs p before)
  packs-unfit e = rw e

  pub packs-short : (n : ℕ) → fits? p ≡ true → n ≡ length (packed p) → length before < length (packed p) → ◌≡◌ {A = Result ℕ PackFault × List ℕ} (Err (Short n), before) (packs p before)
  packs-short n e l h = rw (e, lt-leb (length (packed p)) (length before) h) (ap (λ (n : ℕ). (Err (Short n), before)) l)

module _ (p : ℕ × Row) {old now : List ℕ} {start after : Pen} (front : AtFront old start) (put : Put (packed p) start after) (left : after.buffer.now ≡ now) where
  pub packs-ok : fits? p ≡ true → ◌≡◌ {A = Result ℕ PackFault × List ℕ} (Ok after.at, now) (packs p old)
  packs-ok e = rw e (filled_is front put left)

  pub reads-back : FitsPair p → read_all (take after.at now) ≡ entries (entry 0 p ∷ [])
  reads-back f = ap read_all (taken_is front put left ∙ sym (append-nil (packed p))) ∙ lists-are-exact.is_read (p ∷ []) (f, tt)
