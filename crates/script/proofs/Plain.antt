-- The facts that a line begins with.
use Rattle.std.proofs.Common.{◌≡◌, ℕ, Bool, false}
use Rattle.rows.specs.declared.Sort.{Sort}
use Rattle.rows.specs.declared.Sort.TheVariants.{Normal}
use Rattle.rows.specs.declared.ExportsKind.{ExportsKind}
use Rattle.rows.specs.declared.Flags.{Flags}
use Rattle.rows.specs.declared.Facts.{Facts}
use Rattle.rows.specs.Rows.{no_flags}

-- no flag is set, so these are no flags; and a plain row's facts, each by itself, are the plain facts
flags-plain : (a b c : Bool) → a ≡ false → b ≡ false → c ≡ false → ◌≡◌ {A = Flags} (record { self_accepting = a; lazy_export = b; entry = c }) no_flags
flags-plain a b c p q r = cc

each-plain : (s : Sort) (f : Flags) (x : ExportsKind) (m : ℕ) → s ≡ Normal → f ≡ no_flags → x ≡ ExportsKind.None → m ≡ 0 → ◌≡◌ {A = Facts} (record { sort = s; flags = f; exports = x; mark = m }) (record { sort = Normal; flags = no_flags; exports = ExportsKind.None; mark = 0 })
each-plain s f x m p q r t = cc

-- what the default facts are
pub facts-plain : (f : Facts) → f.sort ≡ Normal × ((f.flags.self_accepting ≡ false × (f.flags.lazy_export ≡ false × f.flags.entry ≡ false)) × (f.exports ≡ ExportsKind.None × f.mark ≡ 0)) → f ≡ record { sort = Normal; flags = no_flags; exports = ExportsKind.None; mark = 0 }
facts-plain f p = each-plain f.sort f.flags f.exports f.mark p.0 (flags-plain f.flags.self_accepting f.flags.lazy_export f.flags.entry p.1.0.0 p.1.0.1.0 p.1.0.1.1) p.1.1.0 p.1.1.1
