-- The codes of one byte: each value has one, and what is read of a byte has it as its code.
use Rattle.std.specs.Prelude.{◌≡◌, ℕ, zero, suc, ◌≤◌, Bool, true, false, List, [], ◌∷◌, Some, None, Option, ◌==◌, nat_le, refl}
use Rattle.std.proofs.Common.{ap, ◌∙◌, sym, subst, le_of_suc-le-suc, not-suc-le-zero}
use Rattle.std.proofs.lemmas.Bool.{eqb-true, leb-true}
use Rattle.rows.specs.declared.Sort.{Sort}
use Rattle.rows.specs.declared.Sort.TheVariants.{Normal, External}
use Rattle.rows.specs.declared.ExportsKind.{ExportsKind}
use Rattle.rows.specs.declared.ImportKind.{ImportKind}
use Rattle.rows.specs.declared.ImportKind.TheVariants.{Import, Require, DynamicImport, HotAccept}
use Rattle.rows.specs.declared.Flags.{Flags}
use Rattle.packed_layout.specs.Codec.{when, bind, number, via, find}
use Rattle.packed_layout.specs.Layout.{sorts, sort_code, exports_kinds, exports_code, import_kinds, kind_code, flags, flags_code, flags_of, flags_in}

-- the value that was found, or another where none was
abbrev found_or : {A : Type 0} → A → Option A → A
found_or a None = a
found_or a (Some b) = b

-- there is a value
abbrev is_there : {A : Type 0} → Option A → Type 0
is_there None = ⊥
is_there (Some a) = Unit {0}

-- values that are there and equal are equal values
some_is : {A : Type 0} {a b : A} → Some a ≡ Some b → a ≡ b
some_is {a = a} e = ap (found_or a) e

-- no value is none that is there
none_is : {A X : Type 0} {a : A} → None ≡ Some a → X
none_is e = absurd (subst is_there (sym e) tt)

-- what is found under a number has it as its code
pub found : {A : Type 0} (code : A → ℕ) (all : List A) (n : ℕ) (a : A) → find code all n ≡ Some a → n ≡ code a
found code [] n a e = none_is e
found {A} code (x ∷ xs) n a e = by (found code xs n a) (n == code x) refl e
  where
    by : (find code xs n ≡ Some a → n ≡ code a) → (t : Bool) → (n == code x) ≡ t → elim t as (λ _. Option A) [ true ↦ Some x | false ↦ find code xs n ] ≡ Some a → n ≡ code a
    by later true p e = eqb-true n (code x) p ∙ ap code (some_is e)
    by later false p e = later e

-- each sort is found under its code
pub sort_known : (x : Sort) → find sort_code sorts (sort_code x) ≡ Some x
sort_known Normal = refl
sort_known External = refl

-- so is each exports kind
pub exports_known : (x : ExportsKind) → find exports_code exports_kinds (exports_code x) ≡ Some x
exports_known ExportsKind.None = refl
exports_known ExportsKind.Esm = refl
exports_known ExportsKind.CommonJs = refl

-- and each kind of import
pub kind_known : (x : ImportKind) → find kind_code import_kinds (kind_code x) ≡ Some x
kind_known Import = refl
kind_known Require = refl
kind_known DynamicImport = refl
kind_known HotAccept = refl

-- flags are read back from their code, for each of the eight cases
flags_by : (a b c : Bool) → let f : Flags = record { self_accepting = a; lazy_export = b; entry = c } in flags_in (flags_code f) ≡ Some f
flags_by true true true = refl
flags_by true true false = refl
flags_by true false true = refl
flags_by true false false = refl
flags_by false true true = refl
flags_by false true false = refl
flags_by false false true = refl
flags_by false false false = refl

-- flags are read back from their code
pub flags_known : (f : Flags) → flags_in (flags_code f) ≡ Some f
flags_known f = flags_by f.self_accepting f.lazy_export f.entry

-- a number of three bits is the code of the flags that it stands for
pub bits_back : (n : ℕ) → n ≤ 7 → n ≡ flags_code (flags_of n)
bits_back zero h = refl
bits_back (suc zero) h = refl
bits_back (suc (suc zero)) h = refl
bits_back (suc (suc (suc zero))) h = refl
bits_back (suc (suc (suc (suc zero)))) h = refl
bits_back (suc (suc (suc (suc (suc zero))))) h = refl
bits_back (suc (suc (suc (suc (suc (suc zero)))))) h = refl
bits_back (suc (suc (suc (suc (suc (suc (suc zero))))))) h = refl
bits_back (suc (suc (suc (suc (suc (suc (suc (suc n)))))))) h = absurd (not-suc-le-zero (le_of_suc-le-suc (le_of_suc-le-suc (le_of_suc-le-suc (le_of_suc-le-suc (le_of_suc-le-suc (le_of_suc-le-suc (le_of_suc-le-suc h))))))))

-- a number from which flags are read is their code
pub flags_only : (n : ℕ) (f : Flags) → flags_in n ≡ Some f → n ≡ flags_code f
flags_only n f e = by (nat_le n 7) refl e
  where
    by : (t : Bool) → nat_le n 7 ≡ t → when t (flags_of n) ≡ Some f → n ≡ flags_code f
    by true p e = bits_back n (leb-true n 7 p) ∙ ap flags_code (some_is e)
    by false p e = none_is e

-- a value, if there is one, before the bytes after it
abbrev ahead : {A : Type 0} → Option A → List ℕ → Option (A × List ℕ)
ahead o rest = bind o (λ a. Some (a, rest))

-- reading the byte, then testing it, is reading the flags that it stands for
pub flags_read : (s : List ℕ) → flags.read s ≡ (via (number 1) flags_in flags_code).read s
flags_read s = by ((number 1).read s)
  where
    tested : (b : Bool) (n : ℕ) (rest : List ℕ) → bind (ahead (when b n) rest) (λ a. ahead (Some (flags_of a.0)) a.1) ≡ ahead (when b (flags_of n)) rest
    tested true n rest = refl
    tested false n rest = refl

    by : (o : Option (ℕ × List ℕ)) → bind (bind o (λ a. ahead (when (nat_le a.0 7) a.0) a.1)) (λ a. ahead (Some (flags_of a.0)) a.1) ≡ bind o (λ a. ahead (flags_in a.0) a.1)
    by None = refl
    by (Some p) = tested (nat_le p.0 7) p.0 p.1
