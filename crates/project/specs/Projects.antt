-- What a project is: a list of rows that fit together.
use Rattle.std.specs.Prelude.{◌≡◌, ℕ, ◌<◌, ◌≤◌, Bool, true, ◌&&◌, T, List, length, nat_le}
use Rattle.rows.specs.Numbers.{member}
use Rattle.rows.specs.Rows.{Row, at, targets, is_any}
use Rattle.packed_layout.specs.Layout.{allowed}

-- an id or a stable id has 1 to 1,024 bytes
abbrev pub is_name : List ℕ → Bool
is_name s = nat_le 1 (length s) && nat_le (length s) 1024

-- a row as the packed layout allows it: its names, at most 1,024 import records, and an external row is bare
abbrev pub limited : Row → Bool
limited r = is_name r.id && (is_name r.stable_id && (nat_le (length r.records) 1024 && allowed r))

-- each row is as the layout allows it
abbrev pub Limited : List Row → Type 0
Limited rows = (r : ℕ) → r < length rows → limited (at rows r) ≡ true

-- no two rows have the same name
abbrev pub Apart : (Row → List ℕ) → List Row → Type 0
Apart name rows = (p q : ℕ) → p < length rows → q < length rows → name (at rows p) ≡ name (at rows q) → p ≡ q

-- every target is a row
abbrev pub Linked : List Row → Type 0
Linked rows = (p q : ℕ) → T (member q (targets is_any (at rows p))) → q < length rows

pub record Project (rows : List Row) : Type 0 where
  pub few : length rows ≤ 4096
  pub each : Limited rows
  pub ids : Apart (λ r. r.id) rows
  pub stable_ids : Apart (λ r. r.stable_id) rows
  pub linked : Linked rows
