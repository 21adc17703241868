-- Whether an item passes a test, among what a function makes of a list.
use Rattle.std.proofs.Common.{◌≡◌, ℕ, Bool, ◌||◌, List, [], ◌∷◌, map, cond, sym, refl, ap, ◌∙◌}
use Rattle.std.proofs.lemmas.List.Folds.{list_any-append}
use Rattle.rows.specs.declared.ImportRecord.{ImportRecord}
use Rattle.rows.specs.Numbers.{any, concat}
use Rattle.rows.specs.Rows.{resolved, is_any}

pub any-map : {A B : Type 0} (test : B → Bool) (f : A → B) (xs : List A) → any test (map f xs) ≡ any (λ x. test (f x)) xs
any-map test f [] = refl
any-map test f (x ∷ xs) = ap (λ b. test (f x) || b) (any-map test f xs)

-- the targets of some records pass where those of one of the records do
pub any-target : (test : ℕ → Bool) (records : List ImportRecord) → any (λ (e : ImportRecord). any test (resolved e.target)) records ≡ any test (concat (map (λ (e : ImportRecord). cond (is_any e.kind) (resolved e.target) []) records))
any-target test [] = refl
any-target test (e ∷ records) = ap (λ b. any test (resolved e.target) || b) (any-target test records) ∙ sym (list_any-append test (resolved e.target) _)
