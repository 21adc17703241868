-- Items that are added to a reserved vector, where they lie, and the row that they make.
use Rattle.std.proofs.Common.{◌≡◌, ℕ, ◌-◌, List, [], ◌∷◌, length, sym, ap, ◌∙◌, length-append, arith}
use Rattle.rows.specs.declared.Facts.{Facts}
use Rattle.rows.specs.declared.ImportRecord.{ImportRecord}
use Rattle.row_store.specs.declared.Span.{Span}
use Rattle.row_store.specs.declared.Names.{Names}
use Rattle.row_store.specs.declared.Head.{Head}
use Rattle.row_store.specs.declared.Side.{Side}
use Rattle.row_store.specs.Cuts.{span}
use Rattle.row_store.specs.Filled.{Filled, added}
use Rattle.row_store.specs.Heads.{with_row}

-- what came is what was added, from the end of what was there
pub appended : {A : Type 0} (v w : Filled A) (xs ys : List A) (start end : ℕ) → w ≡ added v xs → ys ≡ xs → start ≡ length v.items → end ≡ length w.items
    → (w ≡ added v ys) × (span start (end - start) ≡ span (length v.items) (length ys))
appended v w xs ys start end e f s n =
    let all : w ≡ added v ys = e ∙ ap (added v) (sym f) in
    let long : length w.items ≡ length (added v ys).items = ap (λ (u : Filled _). length u.items) all in
    let len : end - start ≡ length ys = omega (arith, long, length-append v.items ys) in
    (all, ap (λ (k : ℕ). span k (end - start)) s ∙ ap (span (length v.items)) len)

-- a row whose import records were added
pub row_added : (s : Side) (names : Names) (f : Facts) (rs : List ImportRecord) (heads : Filled Head) (records : Filled ImportRecord) (p : Span) → records ≡ added s.records rs → p ≡ span (length s.records.items) (length rs)
    → heads ≡ added s.heads (record { facts = f; names = names; records = p } ∷ []) → record { heads = heads; records = records } ≡ with_row s names f rs
row_added s names f rs heads records p a b c = cc
