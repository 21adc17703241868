use Rattle.std.proofs.Common.{◌≡◌, ◌+◌, ◌≤◌, length, is_ok, Ok, Err, Result, sym, ap, ◌∙◌, arith}
use Rattle.std.specs.Result.{MatchResult}
use Rattle.std.proofs.lemmas.Bool.{false≢true}
use Rattle.packed.specs.Views.{shown, shown_first}
use Rattle.packed.proofs.Offsets.{next_fits}
use Rattle.packed.proofs.read.read_record.Goals as goal

-- an `Ok` that is left alone was there before
was_ok : {A E F : Type 0} (X : E → Type 0) (r : Result A E) (q : Result A F) (p : A) → MatchResult r (λ x. q ≡ Ok x) X → is_ok q ≡ is_ok r → q ≡ Ok p → Ok p ≡ r
was_ok X (Ok x) q p h v e = cc
was_ok X (Err x) q p h v e = absurd (false≢true (sym v ∙ ap is_ok e))

pub overflow_add-result : goal.overflow_add-result
overflow_add-result c =
    let read = was_ok _ c.first_record.result c.map_err.result _ c.map_err.ensures.cases c.map_err.ensures.variant c.in_ok-row.was in
    let h : c.args.offset + c.in_ok-row.size ≤ length c.args.bytes.now = next_fits c.args.bytes.now c.args.offset (shown c.in_ok-row.row, c.in_ok-row.size) (omega arith) (ap shown_first read ∙ c.first_record.ensures) in
    omega arith
