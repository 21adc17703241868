-- The order of names read byte by byte, what a comparison answers by it, and that it tells any two names apart.
use Rattle.std.proofs.Common.{◌≡◌, ℕ, Bool, true, false, cond, ◌&&◌, ◌||◌, eqb, ltb, List, [], ◌∷◌, Ordering, Less, Equal, Greater, sym, refl, ap, ◌∙◌}
use Rattle.std.specs.Cmp.Lexicographic.{slice_cmp}
use Rattle.std.specs.Ordering.{nat_cmp, is_lt, is_gt, ordering_then, ordering_reverse}
use Rattle.std.proofs.lemmas.Bool.{cond-true, cond-false}
use Rattle.std.proofs.lemmas.Cmp.{nat_list_cmp_total, tied_itself}
use Rattle.name_order.specs.Orders.{before?, compared}
use Rattle.name_order.proofs.ByteOrder.{greater-before, when-equal}

-- whether one name is before another: the first byte that differs decides, and a name is before those that it begins
abbrev pub bytewise? : List ℕ → List ℕ → Bool
bytewise? [] [] = false
bytewise? [] (y ∷ ys) = true
bytewise? (x ∷ xs) [] = false
bytewise? (x ∷ xs) (y ∷ ys) = ltb x y || (eqb x y && bytewise? xs ys)

first_decides : (a b : Bool) (o : Ordering) → is_lt (ordering_then (cond a Less (cond b Equal Greater)) o) ≡ (a || (b && is_lt o))
first_decides true b o = refl
first_decides false true o = refl
first_decides false false o = refl

-- the library's order of names is just this
pub before-bytewise : (xs ys : List ℕ) → before? xs ys ≡ bytewise? xs ys
before-bytewise [] [] = refl
before-bytewise [] (y ∷ ys) = refl
before-bytewise (x ∷ xs) [] = refl
before-bytewise (x ∷ xs) (y ∷ ys) = first_decides (ltb x y) (eqb x y) (compared xs ys) ∙ ap (λ b. ltb x y || (eqb x y && b)) (before-bytewise xs ys)

-- what each test of an answer of `cmp` says
pub is_lt-before : (xs ys : List ℕ) (o : Ordering) → o ≡ slice_cmp nat_cmp xs ys → is_lt o ≡ bytewise? xs ys
is_lt-before xs ys o h = ap is_lt h ∙ before-bytewise xs ys

greater_turned : (o : Ordering) → is_gt o ≡ is_lt (ordering_reverse o)
greater_turned Less = refl
greater_turned Equal = refl
greater_turned Greater = refl

pub is_gt-before : (xs ys : List ℕ) (o : Ordering) → o ≡ slice_cmp nat_cmp xs ys → is_gt o ≡ bytewise? ys xs
is_gt-before xs ys o h = greater_turned o ∙ ap (λ p. is_lt (ordering_reverse p)) h ∙ ap is_lt (sym (nat_list_cmp_total.antisymm ys xs)) ∙ before-bytewise ys xs

-- how one name stands to another, by a test whether one is before the other
abbrev pub by_test : (List ℕ → List ℕ → Bool) → List ℕ → List ℕ → Ordering
by_test before xs ys = cond (before xs ys) Less (cond (before ys xs) Greater Equal)

told : (b d : Bool) (o : Ordering) → is_lt o ≡ b → is_gt o ≡ d → o ≡ cond b Less (cond d Greater Equal)
told b d Less e f = sym (cond-true b _ _ (sym e))
told b d Equal e f = sym (cond-false b _ _ (sym e) ∙ cond-false d _ _ (sym f))
told b d Greater e f = sym (cond-false b _ _ (sym e) ∙ cond-true d _ _ (sym f))

-- an answer of `cmp` is how the names stand by their bytes
pub compared-from-slice_cmp : (xs ys : List ℕ) (o : Ordering) → o ≡ slice_cmp nat_cmp xs ys → o ≡ by_test bytewise? xs ys
compared-from-slice_cmp xs ys o h = told (bytewise? xs ys) (bytewise? ys xs) o (is_lt-before xs ys o h) (is_gt-before xs ys o h)

-- and so by the order of names
pub compared-before : (xs ys : List ℕ) → compared xs ys ≡ by_test before? xs ys
compared-before xs ys =
    told (before? xs ys) (before? ys xs) (compared xs ys) refl (is_gt-before xs ys (compared xs ys) refl ∙ sym (before-bytewise ys xs))

-- no name is before itself
pub before_same : (a : List ℕ) → before? a a ≡ false
before_same a = ap is_lt (tied_itself nat_list_cmp_total a)

same_from : (a b : List ℕ) (o : Ordering) → compared a b ≡ o → before? a b ≡ false → before? b a ≡ false → a ≡ b
same_from a b Less h e f = let yes : before? a b ≡ true = ap is_lt h in cc
same_from a b Equal h e f = when-equal a b h
same_from a b Greater h e f = let yes = greater-before a b h in cc

-- names of which neither is before the other are the same
pub same-neither : (a b : List ℕ) → before? a b ≡ false → before? b a ≡ false → a ≡ b
same-neither a b = same_from a b (compared a b) refl
