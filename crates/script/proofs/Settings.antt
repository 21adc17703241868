-- A loop that sets what the words of a line say.
use Rattle.std.proofs.Common.{◌≡◌, ℕ, zero, suc, ◌<◌, ◌≤◌, List, length, Some, None, Ok, Err, Option, Result, ap, ◌∙◌, arith}
use Rattle.rows.specs.Rows.{Row}
use Rattle.script.specs.declared.call.LineFault.{LineFault}
use Rattle.script.specs.declared.call.LineFault.TheVariants.{UnknownSetting}
use Rattle.script.specs.declared.setting.Setting.{Setting}
use Rattle.script.specs.Words.{next_word}
use Rattle.script.specs.Lines.{or_wrong, setting_of, having, settings}

-- what is left to set gives what the whole line sets
pub record SettingLeft (r : Row) (s : List ℕ) (r₀ : Row) (s₀ : List ℕ) : Type 0 where
  pub most : ℕ
  pub enough : length s ≤ most
  pub whole : settings most r s ≡ settings (length s₀) r₀ s₀

pub left-start : (r : Row) (s s₀ : List ℕ) → s ≡ s₀ → SettingLeft r s r s₀
left-start r s s₀ e = record { most = length s; enough = omega arith; whole = ap (λ (t : List ℕ). settings (length t) r t) e }

-- what the next word makes of the row
abbrev step : ℕ → Row → Option (List ℕ × List ℕ) → Result Row LineFault
step most r o = elim o [ None ↦ Ok r | Some w ↦ or_wrong (setting_of w.0) UnknownSetting (λ x. settings most (having r x) w.1) ]

module _ {r r₀ : Row} {s s₀ : List ℕ} (left : SettingLeft r s r₀ s₀) where
  -- a word is left, and it takes some bytes
  module _ (w t : List ℕ) (p : Some (w, t) ≡ next_word s) (short : length t < length s) where
    turn : (o : Option Setting) → o ≡ setting_of w → (most : ℕ) × (length t ≤ most) × (or_wrong o UnknownSetting (λ x. settings most (having r x) t) ≡ settings (length s₀) r₀ s₀)
    turn o q = go left.most left.enough left.whole
      where
        go : (most : ℕ) → length s ≤ most → settings most r s ≡ settings (length s₀) r₀ s₀ → (most : ℕ) × (length t ≤ most) × (or_wrong o UnknownSetting (λ x. settings most (having r x) t) ≡ settings (length s₀) r₀ s₀)
        go zero few all = absurd (omega arith)
        go (suc most) few all = (most, omega arith, ap (λ (z : Option Setting). or_wrong z UnknownSetting (λ x. settings most (having r x) t)) q ∙ ap (step most r) p ∙ all)

    pub left-turn : (x : Setting) (r' : Row) → Some x ≡ setting_of w → r' ≡ having r x → SettingLeft r' t r₀ s₀
    left-turn x r' q e = let n = turn (Some x) q in record { most = n.0; enough = n.1; whole = ap (λ (z : Row). settings n.0 z t) e ∙ n.2 }

    pub left-wrong : None ≡ setting_of w → Err UnknownSetting ≡ settings (length s₀) r₀ s₀
    left-wrong q = (turn None q).2

  pub left-done : None ≡ next_word s → Ok r ≡ settings (length s₀) r₀ s₀
  left-done p = go left.most left.whole
    where
      go : (most : ℕ) → settings most r s ≡ settings (length s₀) r₀ s₀ → Ok r ≡ settings (length s₀) r₀ s₀
      go zero all = all
      go (suc most) all = ap (step most r) p ∙ all
