-- The order of a table: what a search learns from it, and which edits keep it.
use Rattle.std.proofs.Common.{◌≡◌, ℕ, zero, suc, ◌+◌, ◌-◌, ◌<◌, ◌≤◌, Bool, List, [], ◌∷◌, length, get_or, filter, Result, Ok, Err, Ordering, MatchResult, refl, sym, ap, ◌∙◌, subst, ⊎_elim, arith}
use Rattle.std.specs.List.{insert, AllByRecursion}
use Rattle.std.specs.List.Sorted.{IsSearchInRange, IsBinarySearchResult, IsNonDecreasingBy}
use Rattle.std.specs.Ordering.{MatchOrdering, nat_cmp, ordering_index}
use Rattle.std.proofs.ByRecursion.{All-from_get_or, All-get_or}
use Rattle.std.proofs.lemmas.Cmp.{ranked}
use Rattle.std.proofs.lemmas.List.{get_or_read}
use Rattle.std.proofs.lemmas.List.Edits.{length-insert, get_or-insert_below, get_or-insert_at, get_or-insert_above}
use Rattle.std.proofs.lemmas.List.Kept.{AllPairs-filter}
use Rattle.std.proofs.lemmas.Bool.{cases_eq}
use Rattle.std.proofs.lemmas.Bool.Decides.{nat_tests}
use Rattle.holdings.specs.Spots.{rank_of}
use Rattle.holdings.specs.declared.spot.Spot.{Spot}
use Rattle.pair_table.specs.Pairs.{Ordered, Found, Missing, elsewhere}
use Rattle.pair_table.specs.declared.pair.Pair.{Pair}

-- cmp is the order of spots, by its value
module _ (cmp : Spot → Spot → Ordering) (by_rank : (a b : Spot) → cmp a b ≡ nat_cmp (rank_of a) (rank_of b)) (ps : List Pair) (ordered : Ordered ps) (spot : Spot) where
  -- the comparisons with a spot rise along the table, as a binary search asks
  comparisons_rise : IsNonDecreasingBy (λ p. ordering_index (cmp p.spot spot)) ps
  comparisons_rise i j d le in_range =
      let rises : rank_of (get_or ps i d).spot ≤ rank_of (get_or ps j d).spot = grind (arith, ordered i j d) in
      rw (by_rank (get_or ps i d).spot spot, by_rank (get_or ps j d).spot spot) (grind (arith, nat_tests))

  ranked_at : (p : Pair) (r : Ordering) → cmp p.spot spot ≡ r → MatchOrdering r (rank_of p.spot < rank_of spot) (rank_of p.spot ≡ rank_of spot) (rank_of spot < rank_of p.spot)
  ranked_at p r is = ranked (rank_of p.spot) (rank_of spot) r (sym is ∙ by_rank p.spot spot)

  -- a binary search ends at the pair of the spot, or where it belongs
  pub searched : (r : Result ℕ ℕ) → IsSearchInRange r (length ps) → IsBinarySearchResult (λ p. cmp p.spot spot) ps r → MatchResult r (Found ps spot) (Missing ps spot)
  searched (Ok i) in_range equal = (in_range, λ d. ranked_at (get_or ps i d) _ (equal d))
  searched (Err i) in_range parted =
      let parts = parted comparisons_rise in (
        in_range,
        (λ k d low l. ranked_at (get_or ps k d) _ (parts.0 k d low l), λ k d low l. ranked_at (get_or ps k d) _ (parts.1 k d low l)),
      )

  -- and so does one of a list that is the whole table
  pub searched_all : (xs : List Pair) (r : Result ℕ ℕ) → IsSearchInRange r (length xs) → IsBinarySearchResult (λ p. cmp p.spot spot) xs r → xs ≡ ps → MatchResult r (Found ps spot) (Missing ps spot)
  searched_all xs r in_range by_spot all =
      searched r (subst (λ ys. IsSearchInRange r (length ys)) all in_range) (subst (λ ys. IsBinarySearchResult (λ p. cmp p.spot spot) ys r) all by_spot)

-- so does one by the rank of the spot
pub searched_by_rank : (ps : List Pair) → Ordered ps → (spot : Spot) (n : ℕ) → n ≡ rank_of spot → (xs : List Pair) (r : Result ℕ ℕ) → IsSearchInRange r (length xs) → IsBinarySearchResult (λ p. nat_cmp (rank_of p.spot) n) xs r → xs ≡ ps → MatchResult r (Found ps spot) (Missing ps spot)
searched_by_rank ps ordered spot n e xs r in_range by_rank =
    searched_all (λ a b. nat_cmp (rank_of a) (rank_of b)) (λ a b. refl) ps ordered spot xs r in_range (subst (λ k. IsBinarySearchResult (λ p. nat_cmp (rank_of p.spot) k) xs r) e by_rank)

-- ---- what a pair that was read tells of the others

module _ (ps : List Pair) (mid key : ℕ) (x : Pair) (ordered : Ordered ps) (within : mid < length ps) (read : x ≡ get_or ps mid x) where
  pub below_more : rank_of x.spot < key → (k : ℕ) (d : Pair) → k < mid + 1 → rank_of (get_or ps k d).spot < key
  below_more less k d l =
      let at : rank_of x.spot ≡ rank_of (get_or ps mid d).spot = ap (λ p. rank_of p.spot) (get_or_read ps mid x within read d) in
      ⊎_elim
      (λ e. subst (λ n. rank_of (get_or ps n d).spot < key) (sym e) (omega arith))
      (λ apart. omega (arith, ordered k mid d (omega arith) within))
      (cases_eq k mid)

  pub above_more : key ≤ rank_of x.spot → (k : ℕ) (d : Pair) → mid ≤ k → k < length ps → key ≤ rank_of (get_or ps k d).spot
  above_more least k d l in' =
      let at : rank_of x.spot ≡ rank_of (get_or ps mid d).spot = ap (λ p. rank_of p.spot) (get_or_read ps mid x within read d) in
      ⊎_elim
      (λ e. subst (λ n. key ≤ rank_of (get_or ps n d).spot) (sym e) (omega arith))
      (λ apart. omega (arith, ordered mid k d (omega arith) in'))
      (cases_eq k mid)

-- ---- edits

-- a pair that comes in where it belongs keeps the order: each pair is an old one below its place, itself, or an old one moved up by one
pub Ordered-insert : (ps : List Pair) (i : ℕ) (x : Pair) → Missing ps x.spot i → Ordered ps → Ordered (insert ps i x)
Ordered-insert ps i x missing ordered j k d less in_range =
    let new = insert ps i x in
    let longer = length-insert ps i x missing.0 in
    let rank_at = λ (p : Pair). rank_of p.spot in
    let below : (j : ℕ) → j < i → rank_of (get_or new j d).spot ≡ rank_of (get_or ps j d).spot = λ j l. ap rank_at (get_or-insert_below ps i x d j l missing.0) in
    let here : (j : ℕ) → j ≡ i → rank_of (get_or new j d).spot ≡ rank_of x.spot = λ j e. rw e (ap rank_at (get_or-insert_at ps i x d missing.0)) in
    let above : (j : ℕ) → i < j → rank_of (get_or new j d).spot ≡ rank_of (get_or ps (j - 1) d).spot = λ j l. subst (λ q. rank_of (get_or new q d).spot ≡ rank_of (get_or ps (j - 1) d).spot) {x = j - 1 + 1} (omega arith) (ap rank_at (get_or-insert_above ps i x d (j - 1) (omega arith) missing.0)) in
    grind (arith, below j, here j, above j, below k, here k, above k, ordered j k d, ordered j (k - 1) d, ordered (j - 1) (k - 1) d, missing.1.0 j d, missing.1.1 (k - 1) d)

-- pairs that are left are in order
pub Ordered-elsewhere : (ps : List Pair) (tablet : ℕ) → Ordered ps → Ordered (filter (elsewhere tablet) ps)
Ordered-elsewhere ps tablet ordered = AllPairs-filter (λ p q. rank_of p.spot < rank_of q.spot) (elsewhere tablet) ps ordered

-- ---- a table in order, read from its front

-- each pair is in range, and comes before those that follow it
abbrev pub Up : List Pair → Type 0
Up [] = Unit {0}
Up (p ∷ ps) = (p.spot.tablet < 16) × (p.spot.row < 4096) × AllByRecursion (λ q. rank_of p.spot < rank_of q.spot) ps × Up ps

pub up_from : (ps : List Pair) → Ordered ps → Up ps
up_from [] ordered = tt
up_from (p ∷ ps) ordered = (
  p.spot.tablet_in_range,
  p.spot.row_in_range,
  All-from_get_or (λ q. rank_of p.spot < rank_of q.spot) ps p (λ i l. ordered zero (suc i) p (omega arith) (omega arith)),
  up_from ps (λ i j d lt l. ordered (suc i) (suc j) d (omega arith) (omega arith)),
)

pub ordered-from : (ps : List Pair) → Up ps → Ordered ps
ordered-from [] up i j d lt l = absurd (omega arith)
ordered-from (p ∷ ps) up i zero d lt l = absurd (omega arith)
ordered-from (p ∷ ps) up zero (suc j) d lt l = All-get_or (λ q. rank_of p.spot < rank_of q.spot) ps j d (omega arith) up.2
ordered-from (p ∷ ps) up (suc i) (suc j) d lt l = ordered-from ps up.3 i j d (omega arith) (omega arith)

-- pairs that pass a test, whatever it is, are in order
pub up_kept : (f : Pair → Bool) (ps : List Pair) → Up ps → Up (filter f ps)
up_kept f ps up = up_from (filter f ps) (AllPairs-filter (λ p q. rank_of p.spot < rank_of q.spot) f ps (ordered-from ps up))

pub missing-up : (ps : List Pair) (i : ℕ) (x : Pair) → Missing ps x.spot i → Up ps → Up (insert ps i x)
missing-up ps i x missing up = up_from (insert ps i x) (Ordered-insert ps i x missing (ordered-from ps up))
