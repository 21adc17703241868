-- Parts of lists, and what a look-up in a list of rows tells.
use Rattle.std.proofs.Common.{◌≡◌, ℕ, ◌+◌, ◌-◌, ◌<◌, min, List, map, length, get_or, take, drop, sym, ap, ◌∙◌, append-nil, length-append, arith}
use Rattle.std.specs.List.{slice_get}
use Rattle.std.specs.Option.{option_map, unwrap_or}
use Rattle.std.proofs.lemmas.List.{length-take, length-drop, get_or-take, same_lists}
use Rattle.std.proofs.lemmas.Option.{slice_get-map, unwrap_or-slice_get}
use Rattle.row_store.specs.declared.Span.{Span}
use Rattle.row_store.specs.Cuts.{cut}

-- a part that is held within the list is the part
pub clamped : {A : Type 0} (xs : List A) (p : Span) (s n : ℕ) → s ≡ min p.start (length xs) → n ≡ min p.len (length xs - s) → take (s + n - s) (drop s xs) ≡ cut xs p
clamped xs p s n e f =
    same_lists _ _ (simp (length-take, length-drop) (omega arith))
    (λ k d h. let h' : k < min (s + n - s) (length xs - s) = simp (length-take, length-drop) at h in
    let a : k < s + n - s = omega arith in
    let b : k < p.len = omega arith in
    let st : s ≡ p.start = omega arith in
    get_or-take (s + n - s) (drop s xs) k d a ∙ ap (λ z. get_or (drop z xs) k d) st ∙ sym (get_or-take p.len (drop p.start xs) k d b))

-- a row, or what stands where there is none
pub get_or-mapped : {A B : Type 0} (f : A → B) (xs : List A) (i : ℕ) (d : B) → get_or (map f xs) i d ≡ unwrap_or (option_map f (slice_get xs i)) d
get_or-mapped f xs i d = sym (unwrap_or-slice_get (map f xs) i d) ∙ ap (λ o. unwrap_or o d) (slice_get-map f xs i)

-- a look-up in the rows of a side is one in its heads
pub ruleset looking = (slice_get-map, get_or-mapped, append-nil, length-append)
