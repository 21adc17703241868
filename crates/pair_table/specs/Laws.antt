-- Why a table in order keeps the laws of a store.
use Rattle.std.specs.Prelude.{◌≡◌, ℕ, zero, suc, ◌<◌, ◌≤◌, true, List, [], ◌∷◌, length, is_some, Some, None, refl, All}
use Rattle.std.proofs.Common.{sym, ap, ◌∙◌, subst, zero-lt-suc, suc-le-suc}
use Rattle.std.proofs.lemmas.Bool.{false≢true}
use Rattle.holdings.specs.Maps.{rank, nothing, size}
use Rattle.holdings.specs.Spots.{rank_of}
use Rattle.holdings.proofs.Changes.{changed-before, changed-inside}
use Rattle.holdings.proofs.Sizes.{size-nothing, size-more}
use Rattle.pair_table.specs.Pairs.{in_pairs, Ordered}
use Rattle.pair_table.specs.declared.pair.Pair.{Pair}

-- nothing is held out of range
pub held-inside : (ps : List Pair) (t r : ℕ) → is_some (in_pairs ps t r) ≡ true → (t < 16) × (r < 4096)
unfolding nothing
held-inside [] t r some = absurd (false≢true some)
held-inside (p ∷ ps) t r some =
    changed-inside (in_pairs ps) p.spot.tablet p.spot.row (Some p.stamp) t r p.spot.tablet_in_range p.spot.row_in_range (held-inside ps t r) some

-- what comes before each pair is absent
absent-before : (ps : List Pair) (t r : ℕ) → All (λ p. rank t r < rank_of p.spot) ps → in_pairs ps t r ≡ None
unfolding nothing
absent-before [] t r less = refl
absent-before (p ∷ ps) t r less =
    changed-before (in_pairs ps) p.spot.tablet p.spot.row (Some p.stamp) t r (less zero p (zero-lt-suc (length ps)))
    ∙ absent-before ps t r (λ k d l. less (suc k) d (suc-le-suc l))

-- as many pairs are held as stand in the table
pub size_pairs : (ps : List Pair) → Ordered ps → size (in_pairs ps) ≡ length ps
size_pairs [] ordered = size-nothing
size_pairs (p ∷ ps) ordered =
    size-more (in_pairs ps) p.spot.tablet p.spot.row p.stamp p.spot.tablet_in_range p.spot.row_in_range
    (absent-before ps p.spot.tablet p.spot.row (λ k d l. ordered zero (suc k) d (zero-lt-suc k) (suc-le-suc l)))
    ∙ ap suc (size_pairs ps (λ i j d lt l. ordered (suc i) (suc j) d (suc-le-suc lt) (suc-le-suc l)))

-- no more is held than may be
pub held-within : (ps : List Pair) (len most : ℕ) → Ordered ps → len ≡ length ps → len ≤ most → size (in_pairs ps) ≤ most
held-within ps len most ordered long few = subst (λ n. n ≤ most) (long ∙ sym (size_pairs ps ordered)) few
