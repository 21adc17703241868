-- Rows: the normal ones are in the table, and what a test of equality tells.
use Rattle.std.proofs.Common.{◌≡◌, ℕ, zero, suc, ◌<◌, cond, not, T, eqb, List, [], ◌∷◌, length, refl, subst, arith, eqb→eq}
use lib.Dec.{eqb_refl}
use Rattle.rows.specs.declared.Sort.{Sort}
use Rattle.rows.specs.declared.Sort.TheVariants.{Normal, External}
use Rattle.std.specs.Str.{bytes_eq}
use Rattle.rows.specs.Rows.{Row, at, is_normal_sort, is_normal}
use Rattle.rows.proofs.Tests.{both, from-both}

-- a normal row is a row
pub normal-row : (rows : List Row) (r : ℕ) → T (is_normal (at rows r)) → r < length rows
normal-row [] r t = absurd t
normal-row (x ∷ xs) zero t = omega arith
normal-row (x ∷ xs) (suc r) t = let h = normal-row xs r t in omega arith

pub same_lists : (xs ys : List ℕ) → T (bytes_eq xs ys) → xs ≡ ys
same_lists [] [] t = refl
same_lists [] (y ∷ ys) t = absurd t
same_lists (x ∷ xs) [] t = absurd t
same_lists (x ∷ xs) (y ∷ ys) t =
    let h = both (eqb x y) (bytes_eq xs ys) t in
    let first = eqb→eq x y h.0 in
    let rest = same_lists xs ys h.1 in
    λ i. first i ∷ rest i

same_self : (xs : List ℕ) → T (bytes_eq xs xs)
same_self [] = tt
same_self (x ∷ xs) = from-both (eqb x x) (bytes_eq xs xs) (eqb_refl x) (same_self xs)

pub lists-same : (xs ys : List ℕ) → xs ≡ ys → T (bytes_eq xs ys)
lists-same xs ys e = subst (λ zs. T (bytes_eq xs zs)) e (same_self xs)

pub same-sorts : (a b : Sort) → T (cond (is_normal_sort a) (is_normal_sort b) (not (is_normal_sort b))) → a ≡ b
same-sorts Normal Normal t = refl
same-sorts Normal External t = absurd t
same-sorts External Normal t = absurd t
same-sorts External External t = refl
