use Rattle.std.proofs.Common.{◌≡◌, ℕ, ◌<◌, Bool, true, false, not, eqb, List, length, get_or, is_some, None, Option, refl, sym, ap, ◌∙◌, arith}
use Rattle.rows.specs.Numbers.{member}
use Rattle.module_table.proofs.Asking.{not-placed, not-marked, some-touched, none-touched}
use Rattle.module_table.proofs.asked.are_asked.Goals as goal

pub returns-then-not-are_placed : goal.returns-then-not-are_placed
returns-then-not-are_placed c table es size placed fine = sym (ap not (not-placed c.args.held c.args.places.now c.args.touched.now table es size placed fine (sym c.if-not-are_placed.ensures)))

-- what the marks tell of the touched rows
module _ (held : ℕ) (places : List (Option ℕ)) (touched : List ℕ) (marks : List Bool)
    (long : length marks ≡ held) (marked : (r : ℕ) → r < held → get_or marks r false ≡ member r touched) where
  each-touched : ((k : ℕ) → k < length marks → is_some (get_or places k None) ≡ true → get_or marks k false ≡ true) → (k : ℕ) → k < held → is_some (get_or places k None) ≡ true → member k touched ≡ true
  each-touched all k h has = sym (marked k h) ∙ all k (omega (arith, long)) has

  one-untouched : ((k : ℕ) × (k < length marks) × (is_some (get_or places k None) ≡ true) × (get_or marks k false ≡ false)) → (k : ℕ) × (k < held) × (is_some (get_or places k None) ≡ true) × (member k touched ≡ false)
  one-untouched (k, l, has, is) = let h : k < held = omega (arith, long) in (k, h, has, sym (marked k h) ∙ is)

pub returns-then-not-is_empty : goal.returns-then-not-is_empty
returns-then-not-is_empty c table es size placed fine =
    let held = c.args.held in let places = c.args.places.now in let touched = c.args.touched.now in let m = c.mark.ensures in
    let each = each-touched held places touched c.mark.new.self m.sized m.marked (c.if-cover_all.ensures.yes refl) in
    ap not (c.if-not-is_empty.true ∙ sym (some-touched held places touched table es size placed fine (sym c.if-not-are_placed.ensures) each (sym c.if-not-is_empty.ensures)))

pub returns-else-not-is_empty : goal.returns-else-not-is_empty
returns-else-not-is_empty c table es size placed fine =
    let held = c.args.held in let places = c.args.places.now in let touched = c.args.touched.now in let m = c.mark.ensures in
    let each = each-touched held places touched c.mark.new.self m.sized m.marked (c.if-cover_all.ensures.yes refl) in
    ap (λ n. eqb n held) c.len-count.ensures.value ∙ none-touched held places touched table es size placed fine (sym c.if-not-are_placed.ensures) each (sym c.if-not-is_empty.ensures)

pub returns-else-cover_all : goal.returns-else-cover_all
returns-else-cover_all c table es size placed fine =
    let held = c.args.held in let places = c.args.places.now in let touched = c.args.touched.now in let m = c.mark.ensures in
    let k = one-untouched held places touched c.mark.new.self m.sized m.marked (c.if-cover_all.ensures.no refl) in
    c.if-cover_all.false ∙ sym (ap not (not-marked held places touched table es size placed fine k.0 k.1 k.2 k.3))
