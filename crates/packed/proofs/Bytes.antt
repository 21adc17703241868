-- Numbers of a few bytes, by their bytes.
use Rattle.std.proofs.Common.{◌≡◌, ℕ, suc, ◌+◌, ◌-◌, ◌*◌, ◌<◌, ◌≤◌, List, length, get_or, take, drop, Some, None, Option, sym, refl, ap, ◌∙◌, ⊎_elim, arith, drop-cons}
use Rattle.std.proofs.lemmas.List.{take_rest, drop-drop, length-drop}
use Rattle.std.proofs.lemmas.Bool.{le-leb, lt-leb, cases_lt}
use Rattle.packed_layout.specs.Codec.{bind, value, number}
use Rattle.packed_layout.specs.Records.{header}
use Rattle.packed_layout.proofs.Codecs.{bind_is}

-- one byte and the others
value-at : (k i : ℕ) (s : List ℕ) → i < length s → value (take (suc k) (drop i s)) ≡ get_or s i 0 + 256 * value (take k (drop (suc i) s))
value-at k i s h = ap (λ (t : List ℕ). value (take (suc k) t)) (drop-cons s i 0 h)

module _ (s : List ℕ) where
  at : (k i : ℕ) → i < length s → value (take (suc k) (drop i s)) ≡ get_or s i 0 + 256 * value (take k (drop (suc i) s))
  at k i l = value-at k i s l

  pub value-1 : 1 ≤ length s → get_or s 0 0 ≡ value (take 1 s)
  value-1 h = omega (arith, at 0 0 (omega arith))

  pub value-2 : 2 ≤ length s → get_or s 0 0 + get_or s 1 0 * 256 ≡ value (take 2 s)
  value-2 h = omega (arith, at 1 0 (omega arith), at 0 1 (omega arith))

  pub value-4 : 4 ≤ length s → get_or s 0 0 + get_or s 1 0 * 256 + get_or s 2 0 * 65536 + get_or s 3 0 * 16777216 ≡ value (take 4 s)
  value-4 h = omega (arith, at 3 0 (omega arith), at 2 1 (omega arith), at 1 2 (omega arith), at 0 3 (omega arith))

  pub value-8 : 8 ≤ length s → get_or s 0 0 + get_or s 1 0 * 256 + get_or s 2 0 * 65536 + get_or s 3 0 * 16777216 + get_or s 4 0 * 4294967296 + get_or s 5 0 * 1099511627776 + get_or s 6 0 * 281474976710656 + get_or s 7 0 * 72057594037927936 ≡ value (take 8 s)
  value-8 h = omega (arith, at 7 0 (omega arith), at 6 1 (omega arith), at 5 2 (omega arith), at 4 3 (omega arith), at 3 4 (omega arith), at 2 5 (omega arith), at 1 6 (omega arith), at 0 7 (omega arith))

  -- the two bytes after the first four
  pub value-4-2 : 6 ≤ length s → get_or s 4 0 + get_or s 5 0 * 256 ≡ value (take 2 (drop 4 s))
  value-4-2 h = omega (arith, at 1 4 (omega arith), at 0 5 (omega arith))

-- a number that is there
number_is : (k : ℕ) (s : List ℕ) (v : ℕ) → k ≤ length s → v ≡ value (take k s) → Some (v, drop k s) ≡ (number k).read s
number_is k s v h e = rw (le-leb k (length s) h) (ap (λ (n : ℕ). Some (n, drop k s)) e)

pub number-rest : (k : ℕ) (s : List ℕ) (v : ℕ) → k ≤ length s → v ≡ value (take k s) → Some (v, take (length s - k) (drop k s)) ≡ (number k).read s
number-rest k s v h e = ap (λ (t : List ℕ). Some (v, t)) (take_rest s k) ∙ number_is k s v h e

-- a size and a kind that are there
pub header_is : (s : List ℕ) (size kind : ℕ) → 6 ≤ length s → size ≡ value (take 4 s) → kind ≡ value (take 2 (drop 4 s)) → Some ((size, kind), take (length s - 6) (drop 6 s)) ≡ header.read s
header_is s size kind h e f =
    let a : (number 4).read s ≡ Some (size, drop 4 s) = sym (number_is 4 s size (omega arith) e) in
    let b : (number 2).read (drop 4 s) ≡ Some (kind, drop 2 (drop 4 s)) = sym (number_is 2 (drop 4 s) kind (simp length-drop (omega arith)) f) in
    let t : take (length s - 6) (drop 6 s) ≡ drop 2 (drop 4 s) = take_rest s 6 ∙ sym (drop-drop 2 4 s) in
    ap (λ (u : List ℕ). Some ((size, kind), u)) t ∙ sym (bind_is _ a ∙ bind_is _ b)

-- too few bytes
pub number-none : (k : ℕ) (s : List ℕ) → length s < k → None ≡ (number k).read s
number-none k s h = rw (lt-leb k (length s) h)

none_in : (s : List ℕ) → length s < 6 → 4 ≤ length s → None ≡ header.read s
none_in s h l =
    let a : (number 4).read s ≡ Some (value (take 4 s), drop 4 s) = sym (number_is 4 s (value (take 4 s)) l refl) in
    let b : None ≡ (number 2).read (drop 4 s) = number-none 2 (drop 4 s) (simp length-drop (omega arith)) in
    sym (bind_is _ a ∙ ap (λ (o : Option (ℕ × List ℕ)). bind o (λ q. Some ((value (take 4 s), q.0), q.1))) (sym b))

pub header-none : (s : List ℕ) → length s < 6 → None ≡ header.read s
header-none s h =
    ⊎_elim (λ (l : length s < 4). ap (λ (o : Option (ℕ × List ℕ)). bind o (λ p. bind ((number 2).read p.1) (λ q. Some ((p.0, q.0), q.1)))) (number-none 4 s l))
    (λ (l : 4 ≤ length s). none_in s h l)
    (cases_lt (length s) 4)
