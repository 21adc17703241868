-- A table of how words begin.
use Rattle.std.proofs.Common.{List, [], ◌∷◌, Some, None, Option, ℕ}
use Rattle.std.specs.Borrow.{Bor}
use Rattle.rows.specs.declared.ImportKind.{ImportKind}
use Rattle.script.specs.declared.setting.Setting.{Setting}
use Rattle.script.specs.Words.{stripped}
use Rattle.script.specs.Lines.{link_to}

-- what a word links by the first prefix that it has
abbrev pub by_table : List ℕ → List (Bor (List ℕ) × ImportKind) → Option Setting
by_table s [] = None
by_table s (e ∷ more) = elim (stripped e.0.now s) [ Some t ↦ link_to e.1 t | None ↦ by_table s more ]
