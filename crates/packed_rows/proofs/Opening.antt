-- Opening a list, and the rows of an opened one.
use Rattle.std.proofs.Common.{◌≡◌, ℕ, zero, suc, ◌-◌, ◌<◌, ◌≤◌, eqb, leb, List, [], ◌∷◌, ◌++◌, map, length, drop, Some, None, Ok, Err, Option, Result, IfSome, sym, refl, ap, ◌∙◌, subst, arith}
use Rattle.std.specs.Option.{option_map}
use Rattle.std.specs.List.{slice_get}
use Rattle.std.proofs.lemmas.Option.{slice_get-map}
use Rattle.std.proofs.lemmas.List.{append_assoc, length-map, length-append}
use Rattle.std.proofs.lemmas.Bool.Decides.{nat_tests}
use Rattle.rows.specs.Rows.{Row as TheRow}
use Rattle.packed_layout.specs.declared.faults.FaultAt.{FaultAt}
use Rattle.packed_layout.specs.declared.faults.RecordFault.TheVariants.{EndsInside, UnknownKind, BrokenLayout}
use Rattle.packed_layout.specs.declared.faults.RowFault.{RowFault}
use Rattle.packed_layout.specs.declared.faults.RowFault.TheVariants.{Record}
use Rattle.packed_rows.specs.declared.OpenFault.TheVariants.{Row, Short}
use Rattle.packed.specs.declared.view.Outline.{Outline}
use Rattle.packed_layout.specs.Codec.{when, text, read_whole}
use Rattle.packed_layout.specs.Records.{Read, entries, broken, also, header, first_record}
use Rattle.packed_layout.specs.Layout.{Entry, row, rows, read_all}
use Rattle.packed_rows.specs.Entries.{gathered, before_fault, outcomes_in}
use Rattle.packed_rows.proofs.Coming.{step, coming-all}
use Rattle.packed_rows.specs.Lists.{row_count, entries_of, offsets}
use Rattle.packed_rows.specs.Opened.{numbered, opened}
use Rattle.packed.specs.Imports.{Whole}
use Rattle.packed.specs.Views.{outline, outlined, outline_at, glanced, read_at}
use Rattle.packed_layout.proofs.Codecs.{bind_is, some_inj, when-some}
use Rattle.packed_layout.proofs.Framing.{passed, ok-inj}
use Rattle.packed.proofs.Offsets.{here}
use Rattle.packed.proofs.RowsRead.{row-shown, row-whole, row-none}

-- The offsets that are noted, and then those of the records that are still to be read.
abbrev pub noted : List ℕ → Read Entry → Result (List ℕ) FaultAt
noted places (entries es) = Ok (places ++ map (λ (e : Entry). e.offset) es)
noted places (broken at) = Err at

also-noted : (places : List ℕ) (e : Entry) (q : Read Entry) → noted (places ++ e.offset ∷ []) q ≡ noted places (also e q)
also-noted places e (entries es) = ap Ok (append_assoc places (e.offset ∷ []) (map (λ (x : Entry). x.offset) es))
also-noted places e (broken at) = refl

-- one record is read and its offset noted
pub noted-turn : (places new : List ℕ) (e : Entry) (todo rest : List (Result Entry FaultAt)) (all : Result (List ℕ) FaultAt) → new ≡ places ++ e.offset ∷ [] → todo ≡ Ok e ∷ rest → noted places (gathered todo) ≡ all → noted new (gathered rest) ≡ all
noted-turn places new e todo rest all n t h = let turn = also-noted places e (gathered rest) in cc

-- there is one record more than there are places
short-by : (room wanted : ℕ) (places : List ℕ) (e : Entry) (q all : Read Entry) → room ≤ length places → noted places (also e q) ≡ noted [] all → Ok wanted ≡ row_count all → opened room all ≡ Err (Short wanted)
short-by room wanted places e q (broken b) full h w = cc
short-by room wanted places e (broken a) (entries es) full h w = cc
short-by room wanted places e (entries fs) (entries es) full h w =
    let same : places ++ e.offset ∷ map (λ (x : Entry). x.offset) fs ≡ map (λ (x : Entry). x.offset) es = cc in
    let long : room < length es = omega (arith, full, simp (length-append, length-map) at (ap length same)) in
    let all : wanted ≡ length es = cc in
    grind (arith, nat_tests)

pub noted-short : (room wanted : ℕ) (places s : List ℕ) (e : Entry) (todo rest : List (Result Entry FaultAt)) → room ≤ length places → todo ≡ Ok e ∷ rest → noted places (gathered todo) ≡ noted [] (read_all s) → Ok wanted ≡ row_count (read_all s) → opened room (read_all s) ≡ Err (Short wanted)
noted-short room wanted places s e todo rest full t h w = short-by room wanted places e (gathered rest) (read_all s) full (rw t at h) w

-- a list whose count is refused is not opened, for the same fault
pub opened-broken : (room : ℕ) (f : RowFault) (all : Read Entry) → Err f ≡ row_count all → opened room all ≡ Err (Row f)
opened-broken room f (broken a) e = let same : f ≡ Record a = cc in ap (λ (z : RowFault). Err (Row z)) (sym same)
opened-broken room f (entries es) e = cc

-- Each row of a list is what is read at its offset.

abbrev pub Stands : List ℕ → Entry → Type 0
Stands s e = (next : ℕ) × (Ok (Some (e, next)) ≡ read_at s e.offset)

stands-by : (n : ℕ) (s : List ℕ) (o k : ℕ) (e : Entry) → slice_get (before_fault (outcomes_in n s o)) k ≡ Some e → Stands s e
stands-by zero s o k e h = cc
stands-by (suc n) s o k e h = by (read_at s o) refl k h (stands-by n s)
  where
    by : (r : Result (Option (Entry × ℕ)) FaultAt) → read_at s o ≡ r → (k : ℕ) → slice_get (before_fault (step n s r)) k ≡ Some e → ((o k : ℕ) (e : Entry) → slice_get (before_fault (outcomes_in n s o)) k ≡ Some e → Stands s e) → Stands s e
    by (Err a) is k h ih = cc
    by (Ok None) is k h ih = cc
    by (Ok (Some (x, next))) is zero h ih =
        let at : o ≡ e.offset = ap (λ (z : Entry). z.offset) ((here s o x next (sym is)).entry-is ∙ some_inj h) in
        (next, ap (λ (z : Entry). Ok (Some (z, next))) (sym (some_inj h)) ∙ sym is ∙ ap (read_at s) at)
    by (Ok (Some (x, next))) is (suc k) h ih = ih next k e h

pub entry-stands : (s : List ℕ) (q : Read Entry) → read_all s ≡ q → (k : ℕ) (e : Entry) → slice_get (entries_of q) k ≡ Some e → Stands s e
entry-stands s (entries es) p k e h = stands-by (length s - 0) s 0 k e (rw (coming-all s es p) h)
entry-stands s (broken a) p k e h = cc

-- A glance at such a row shows it, and its last bytes are its import records.

abbrev Payload : List ℕ → ℕ → ℕ × TheRow → Type 0
Payload s offset value = (payload : List ℕ) × (outline_at s offset ≡ outline payload) × (read_whole row payload ≡ Some value)

payload_at : (s : List ℕ) (offset : ℕ) (value : ℕ × TheRow) (size : ℕ) (rest : List ℕ) → first_record rows (drop offset s) ≡ Ok (value, size, rest) → Payload s offset value
payload_at s offset value size rest e =
    passed (header.read (drop offset s)) EndsInside _ (value, size, rest) e λ x head e1.
    passed ((text x.0.0).read x.1) EndsInside _ (value, size, rest) e1 λ p body e2.
    passed (when (eqb x.0.1 1) (read_whole row)) UnknownKind _ (value, size, rest) e2 λ read known e3.
    passed (when (leb x.0.0 32768) p.0) BrokenLayout _ (value, size, rest) e3 λ payload short e4.
    passed (read payload) BrokenLayout _ (value, size, rest) e4 λ a is e5.
    let how : read_whole row ≡ read = (when-some (eqb x.0.1 1) (read_whole row) read known).1 in
    let what : p.0 ≡ payload = (when-some (leb x.0.0 32768) p.0 payload short).1 in
    let same : a ≡ value = ap (λ (z : (ℕ × TheRow) × ℕ × List ℕ). z.0) (ok-inj e5) in
    (p.0, bind_is _ head ∙ bind_is _ body, ap (read_whole row) what ∙ ap (λ (f : List ℕ → Option (ℕ × TheRow)). f payload) how ∙ is ∙ ap Some same)

glanced-by : (s : List ℕ) (offset : ℕ) (value : ℕ × TheRow) → Payload s offset value → (r : Option Outline) → option_map outlined r ≡ outline_at s offset → option_map glanced r ≡ Some value
glanced-by s offset value (payload, at, q) None g = row-none payload (g ∙ at) ∙ q
glanced-by s offset value (payload, at, q) (Some o) g = ap Some (row-shown payload o (g ∙ at) value q)

whole-by : (s : List ℕ) (offset : ℕ) (value : ℕ × TheRow) → Payload s offset value → (o : Outline) → Some (outlined o) ≡ outline_at s offset → Whole o.count o.imports.now
whole-by s offset value (payload, at, q) o g = row-whole payload o (g ∙ at) value q

-- what a glance at a record shows, if anything, is of import records that are whole
abbrev pub Sound : Option Outline → Type 0
Sound r = IfSome r (λ o. Whole o.count o.imports.now)

-- what a glance at an entry's record shows
pub glance_at : (s : List ℕ) (o : ℕ) (value : ℕ × TheRow) (size : ℕ) (rest : List ℕ) → first_record rows (drop o s) ≡ Ok (value, size, rest) → (r : Option Outline) → option_map outlined r ≡ outline_at s o → (option_map glanced r ≡ Some value) × Sound r
glance_at s o value size rest e r g = (glanced-by s o value at r g, sound r g)
  where
    at : Payload s o value
    at = payload_at s o value size rest e

    sound : (r : Option Outline) → option_map outlined r ≡ outline_at s o → Sound r
    sound None g = tt
    sound (Some v) g = whole-by s o value at v g

module _ (s : List ℕ) (e : Entry) (t : Stands s e) where
  payload-stands : Payload s e.offset (numbered e)
  payload-stands =
      let x = here s e.offset e t.0 t.1 in
      subst (Payload s e.offset) (ap numbered x.entry-is) (payload_at s e.offset x.value x.size (drop t.0 s) x.is)

  pub stands-glanced : (r : Option Outline) → option_map outlined r ≡ outline_at s e.offset → option_map glanced r ≡ Some (numbered e)
  stands-glanced r g = glanced-by s e.offset (numbered e) payload-stands r g

  pub stands-whole : (o : Outline) → Some (outlined o) ≡ outline_at s e.offset → Whole o.count o.imports.now
  stands-whole o g = whole-by s e.offset (numbered e) payload-stands o g

-- The rows of an opened list: its places are where they stand.
module _ (s places : List ℕ) (placed : offsets s ≡ places) (k place : ℕ) (h : Some place ≡ slice_get places k) where
  -- what stands at the k-th place
  abbrev Listed : Option Entry → Type 0
  Listed e = (slice_get (entries_of (read_all s)) k ≡ e) × (Some place ≡ option_map (λ (e : Entry). e.offset) e)

  listed : Listed (slice_get (entries_of (read_all s)) k)
  listed = (refl, h ∙ ap (λ (z : List ℕ). slice_get z k) (sym placed) ∙ slice_get-map (λ (e : Entry). e.offset) (entries_of (read_all s)) k)

  seen-by : (e : Option Entry) → Listed e → (r : Option Outline) → option_map outlined r ≡ outline_at s place → option_map glanced r ≡ option_map numbered e
  seen-by None l r g = cc
  seen-by (Some e) (is, at) r g = stands-glanced s e (entry-stands s (read_all s) refl k e is) r (g ∙ ap (outline_at s) (some_inj at))

  -- a glance there shows the k-th row, whose last bytes are its import records
  pub row-seen : (r : Option Outline) → option_map outlined r ≡ outline_at s place → option_map glanced r ≡ option_map numbered (slice_get (entries_of (read_all s)) k)
  row-seen r g = seen-by _ listed r g

  sound-by : (e : Option Entry) → Listed e → (r : Outline) → Some (outlined r) ≡ outline_at s place → Whole r.count r.imports.now
  sound-by None l r g = cc
  sound-by (Some e) (is, at) r g = stands-whole s e (entry-stands s (read_all s) refl k e is) r (g ∙ ap (outline_at s) (some_inj at))

  pub row-sound : (r : Outline) → Some (outlined r) ≡ outline_at s place → Whole r.count r.imports.now
  row-sound r g = sound-by _ listed r g

-- The rows of an opened list, by what stands at a place.
module _ (s places : List ℕ) (placed : offsets s ≡ places) (k : ℕ) where
  -- the offset of the entry that stands there
  standing : option_map (λ (e : Entry). e.offset) (slice_get (entries_of (read_all s)) k) ≡ slice_get places k
  standing = sym (slice_get-map (λ (e : Entry). e.offset) (entries_of (read_all s)) k) ∙ ap (λ (z : List ℕ). slice_get z k) placed

  past-by : (e : Option Entry) → option_map (λ (e : Entry). e.offset) e ≡ None → None ≡ option_map numbered e
  past-by None h = refl
  past-by (Some e) h = cc

  -- there is no row past the last place
  pub row-past : slice_get places k ≡ None → None ≡ option_map numbered (slice_get (entries_of (read_all s)) k)
  row-past h = past-by (slice_get (entries_of (read_all s)) k) (standing ∙ h)

  -- at a place there is the row that a glance shows
  pub row_at : (o : ℕ) → slice_get places k ≡ Some o → (r : Option Outline) → option_map outlined r ≡ outline_at s o → (option_map glanced r ≡ option_map numbered (slice_get (entries_of (read_all s)) k)) × Sound r
  row_at o h r g = (row-seen s places placed k o (sym h) r g, sound r g)
    where
      sound : (r : Option Outline) → option_map outlined r ≡ outline_at s o → Sound r
      sound None g = tt
      sound (Some v) g = row-sound s places placed k o (sym h) v g

  -- there are as many rows as places
  pub length_at : (n : ℕ) → n ≡ length places → n ≡ length (entries_of (read_all s))
  length_at n h = h ∙ ap length (sym placed) ∙ length-map (entries_of (read_all s)) (λ (e : Entry). e.offset)
