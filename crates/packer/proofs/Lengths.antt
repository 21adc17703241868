-- How long a packed row is.
use Rattle.std.proofs.Common.{◌≡◌, ℕ, ◌+◌, ◌*◌, ◌≤◌, true, ◌&&◌, leb, length, arith}
use Rattle.std.proofs.lemmas.List.{length-append}
use Rattle.std.proofs.lemmas.Bool.{leb-true, and_parts}
use Rattle.rows.specs.Rows.{Row}
use Rattle.packed_layout.specs.Layout.{allowed, head, head_of, row, packed}
use Rattle.packed_layout.proofs.Exact.{length-imports}
use Rattle.packer.specs.Packs.{name?, all_resolved?, fits?}

pub length-row : (p : ℕ × Row) → 19 + length p.1.id + length p.1.stable_id + 3 * length p.1.records ≡ length (row.write p)
length-row p = simp (length-append, length-imports) (omega arith)

pub length-head : (p : ℕ × Row) → 17 + length p.1.id + length p.1.stable_id ≡ length (head.write (head_of p))
length-head p = simp length-append (omega arith)

pub length-packed : (p : ℕ × Row) → 6 + length (row.write p) ≡ length (packed p)
length-packed p = omega arith

-- what the test of a row says of its lengths
pub record Limits (p : ℕ × Row) : Type 0 where
  pub some : 1 ≤ length p.1.id
  pub short : length p.1.id ≤ 1024
  pub some_stable : 1 ≤ length p.1.stable_id
  pub short_stable : length p.1.stable_id ≤ 1024
  pub few : length p.1.records ≤ 1024
  pub each : all_resolved? p.1.records ≡ true
  pub allows : allowed p.1 ≡ true

pub limits : (p : ℕ × Row) → fits? p ≡ true → Limits p
limits p e =
    let id = p.1.id in
    let stable = p.1.stable_id in
    let few = leb (length p.1.records) 1024 in
    let last = all_resolved? p.1.records && allowed p.1 in
    let a = and_parts (name? id) (name? stable && (few && last)) e in
    let b = and_parts (name? stable) (few && last) a.1 in
    let c = and_parts few last b.1 in
    let d = and_parts (all_resolved? p.1.records) (allowed p.1) c.1 in
    let n = and_parts (leb 1 (length id)) (leb (length id) 1024) a.0 in
    let m = and_parts (leb 1 (length stable)) (leb (length stable) 1024) b.0 in
    record {
      some = leb-true 1 (length id) n.0;
      short = leb-true (length id) 1024 n.1;
      some_stable = leb-true 1 (length stable) m.0;
      short_stable = leb-true (length stable) 1024 m.1;
      few = leb-true (length p.1.records) 1024 c.0;
      each = d.0;
      allows = d.1;
    }
