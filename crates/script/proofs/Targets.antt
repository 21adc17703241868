-- Where a record leads.
use Rattle.std.proofs.Common.{◌≡◌, ℕ, Bool, true, false, cond, List, Some, None, codes, Option, ap, ◌∙◌}
use Rattle.std.specs.Str.{bytes_eq}
use Rattle.packed_layout.specs.Codec.{bind}
use Rattle.script.specs.Words.{short_of}
use Rattle.script.specs.Lines.{target_of}

abbrev target_by : Bool → Option ℕ → Option (Option ℕ)
target_by dash o = cond dash (Some None) (bind o (λ n. Some (Some n)))

pub target-dash : (s : List ℕ) → true ≡ bytes_eq s (codes "-") → Some None ≡ target_of s
target-dash s t = ap (λ b. target_by b (short_of s)) t

pub target_row : (s : List ℕ) (n : ℕ) → false ≡ bytes_eq s (codes "-") → Some n ≡ short_of s → Some (Some n) ≡ target_of s
target_row s n t e = ap (target_by false) e ∙ ap (λ b. target_by b (short_of s)) t

pub target-not : (s : List ℕ) → false ≡ bytes_eq s (codes "-") → None ≡ short_of s → None ≡ target_of s
target-not s t e = ap (target_by false) e ∙ ap (λ b. target_by b (short_of s)) t
