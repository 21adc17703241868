-- The test of a row passes exactly what fits the layout.
use Rattle.std.proofs.Common.{◌≡◌, ℕ, true, leb, List, [], ◌∷◌, length, Some, None, Option, refl, arith}
use Rattle.std.specs.List.{AllByRecursion}
use Rattle.std.proofs.lemmas.Bool.{ltb-true, lt-ltb, le-leb, and_parts, and_from}
use Rattle.std.proofs.lemmas.Bool.Decides.{nat_tests}
use Rattle.rows.specs.declared.ImportRecord.{ImportRecord}
use Rattle.rows.specs.Rows.{Row}
use Rattle.packed_layout.specs.Exact.{Name, Resolved, FitsPair}
use Rattle.packed_layout.proofs.Packing.{external-there, external-back}
use Rattle.packer.specs.Packs.{name?, resolved?, all_resolved?, fits?, Typed, FitIsTested}

resolved-there : (t : Option ℕ) → resolved? t ≡ true → Resolved t
resolved-there None e = tt
resolved-there (Some r) e = ltb-true r 65535 e

resolved-back : (t : Option ℕ) → Resolved t → resolved? t ≡ true
resolved-back None h = refl
resolved-back (Some r) h = lt-ltb r 65535 h

each-there : (es : List ImportRecord) → all_resolved? es ≡ true → AllByRecursion (λ (e : ImportRecord). Resolved e.target) es
each-there [] e = tt
each-there (x ∷ xs) e = let b = and_parts (resolved? x.target) (all_resolved? xs) e in (resolved-there x.target b.0, each-there xs b.1)

each_back : (es : List ImportRecord) → AllByRecursion (λ (e : ImportRecord). Resolved e.target) es → all_resolved? es ≡ true
each_back [] h = refl
each_back (x ∷ xs) h = and_from (resolved? x.target) (all_resolved? xs) (resolved-back x.target h.0) (each_back xs h.1)

-- a whole row

name_back : (s : List ℕ) → Name s → name? s ≡ true
name_back s n = and_from (leb 1 (length s)) (leb (length s) 1024) (le-leb 1 (length s) n.some) (le-leb (length s) 1024 n.short)

row-there : (p : ℕ × Row) → Typed p → fits? p ≡ true → FitsPair p
row-there p s e =
    record {
      numbered = s.number;
      mark = s.mark;
      id = record { some = grind (arith, nat_tests); short = grind (arith, nat_tests); made = s.id };
      stable_id = record { some = grind (arith, nat_tests); short = grind (arith, nat_tests); made = s.stable_id };
      count = grind (arith, nat_tests);
      each = each-there p.1.records (grind arith);
      external = external-back p.1 (grind arith);
    }

row_back : (p : ℕ × Row) → FitsPair p → fits? p ≡ true
row_back p f = let e = each_back p.1.records f.each in let x = external-there p.1 p.1.sort refl f.external in grind (arith, nat_tests)

pub fit_is_tested : FitIsTested
fit_is_tested = record { fits = row-there; passes = row_back }
