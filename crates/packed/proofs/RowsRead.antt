-- The row in a payload, by what a glance at it shows.
use Rattle.std.proofs.Common.{◌≡◌, ℕ, Bool, true, false, ◌||◌, List, [], ◌∷◌, length, is_some, Some, None, Option, sym, refl, ap, ◌∙◌}
use Rattle.std.proofs.lemmas.Bool.{false≢true}
use Rattle.rows.specs.declared.ImportRecord.{ImportRecord}
use Rattle.rows.specs.Rows.{Row, is_normal_sort}
use Rattle.packed.specs.declared.view.Outline.{Outline}
use Rattle.packed_layout.specs.Codec.{bind, when, alone, read_times, read_whole}
use Rattle.packed_layout.specs.Layout.{Head, head, count, import_record, import_records, row_of, row, bare, allowed}
use Rattle.packed.specs.Imports.{Whole}
use Rattle.packed.specs.Views.{head_in, outline, outlined, glanced}
use Rattle.packed_layout.proofs.Codecs.{never, some_inj, bind-some}
use Rattle.packed.proofs.Imports.{whole, listed, times-length}

-- what the import records make of the head, and whether the row is allowed
abbrev judged : Head → List ImportRecord × List ℕ → Option (ℕ × Row)
judged h (es, []) = when (allowed (row_of h es).1) (row_of h es)
judged h (es, b ∷ bs) = None

-- the steps of the reader of a row: fields, the row that they make, and whether it is allowed
abbrev gathered : Head → List ImportRecord × List ℕ → Option ((Head × List ImportRecord) × List ℕ)
gathered h r = Some ((h, r.0), r.1)

abbrev made : (Head × List ImportRecord) × List ℕ → Option ((ℕ × Row) × List ℕ)
made f = Some (row_of f.0.0 f.0.1, f.1)

abbrev admitted : (ℕ × Row) × List ℕ → Option ((ℕ × Row) × List ℕ)
admitted a = bind (when (allowed a.0.1) a.0) (λ b. Some (b, a.1))

-- the reader of a row, from its import records on, from their number on, and from its fields' head on
abbrev after_records : Head → Option (List ImportRecord × List ℕ) → Option (ℕ × Row)
after_records h o = bind (bind (bind (bind o (gathered h)) made) admitted) alone

abbrev after_count : Head → Option (ℕ × List ℕ) → Option (ℕ × Row)
after_count h o = after_records h (bind o (λ n. read_times import_record n.0 n.1))

abbrev after_head : Option (Head × List ℕ) → Option (ℕ × Row)
after_head o = bind (bind (bind (bind o (λ h. bind (import_records.read h.1) (gathered h.0))) made) admitted) alone

when_alone : (b : Bool) (p : ℕ × Row) (rest : List ℕ) → bind (bind (when b p) (λ x. Some (x, rest))) alone ≡ bind (when b (p, rest)) alone
when_alone true p rest = refl
when_alone false p rest = refl

when-empty : (b : Bool) (p : ℕ × Row) → ◌≡◌ {A = Option (ℕ × Row)} (bind (when b (p, [])) alone) (when b p)
when-empty true p = refl
when-empty false p = refl

when-more : (b : Bool) (p : ℕ × Row) (x : ℕ) (xs : List ℕ) → ◌≡◌ {A = Option (ℕ × Row)} (bind (when b (p, x ∷ xs)) alone) None
when-more true p x xs = refl
when-more false p x xs = refl

records-judged : (h : Head) (r : List ImportRecord × List ℕ) → after_records h (Some r) ≡ judged h r
records-judged h (es, []) = when_alone (allowed (row_of h es).1) (row_of h es) [] ∙ when-empty (allowed (row_of h es).1) (row_of h es)
records-judged h (es, b ∷ bs) = when_alone (allowed (row_of h es).1) (row_of h es) (b ∷ bs) ∙ when-more (allowed (row_of h es).1) (row_of h es) b bs

-- the reader of a row, by an outline of it
row_from : (s : List ℕ) (h : Head) (n : ℕ) (t : List ℕ) → outline s ≡ Some (h, (n, t)) → read_whole row s ≡ after_records h (read_times import_record n t)
row_from s h n t e =
    let a = bind-some (head.read s) _ (h, (n, t)) e in
    let b = bind-some (count.read a.0.1) _ (h, (n, t)) a.2 in
    let same : (a.0.0, (b.0.0, b.0.1)) ≡ (h, (n, t)) = some_inj b.2 in
    ap after_head a.1 ∙ ap (after_count a.0.0) b.1 ∙ ap (λ (x : Head × (ℕ × List ℕ)). after_records x.0 (read_times import_record x.1.0 x.1.1)) same

when-is : (b : Bool) (p q : ℕ × Row) → when b p ≡ Some q → p ≡ q
when-is true p q e = some_inj e
when-is false p q e = never _ e

module _ (s : List ℕ) (o : Outline) (e : Some (outlined o) ≡ outline s) where
  abbrev fields : Head
  fields = head_in o.head

  abbrev Allowed : Bool
  Allowed = is_normal_sort o.head.facts.sort || bare o.head.facts.flags o.head.facts.exports o.count

  from : read_whole row s ≡ after_records fields (read_times import_record o.count o.imports.now)
  from = row_from s fields o.count o.imports.now (sym e)

  read_by : (r : Option (List ImportRecord × List ℕ)) → read_times import_record o.count o.imports.now ≡ r → true ≡ Allowed → (es : List ImportRecord) → Some es ≡ bind r alone → Some (row_of fields es) ≡ after_records fields r
  read_by None q ok es w = never _ (sym w)
  read_by (Some (xs, b ∷ bs)) q ok es w = never _ (sym w)
  read_by (Some (xs, [])) q ok es w =
      let long : length xs ≡ o.count = times-length import_record o.count o.imports.now (xs, []) q in
      let good : true ≡ allowed (row_of fields xs).1 = ok ∙ ap (λ n. is_normal_sort o.head.facts.sort || bare o.head.facts.flags o.head.facts.exports n) (sym long) in
      ap (λ ys. Some (row_of fields ys)) (some_inj w) ∙ sym (records-judged fields (xs, []) ∙ ap (λ b. when b (row_of fields xs)) (sym good))

  -- an allowed row whose last bytes are import records
  pub row_read : true ≡ Allowed → (es : List ImportRecord) → Some es ≡ whole o.count o.imports.now → Some (row_of fields es) ≡ read_whole row s
  row_read ok es w = read_by (read_times import_record o.count o.imports.now) refl ok es w ∙ sym from

  broken-by : (r : Option (List ImportRecord × List ℕ)) → None ≡ bind r alone → None ≡ after_records fields r
  broken-by None w = refl
  broken-by (Some (es, [])) w = never _ w
  broken-by (Some (es, b ∷ bs)) w = sym (records-judged fields (es, b ∷ bs))

  -- its last bytes are no import records
  pub row-broken : None ≡ whole o.count o.imports.now → None ≡ read_whole row s
  row-broken w = broken-by (read_times import_record o.count o.imports.now) w ∙ sym from

  barred-by : (r : Option (List ImportRecord × List ℕ)) → read_times import_record o.count o.imports.now ≡ r → false ≡ Allowed → None ≡ after_records fields r
  barred-by None q no_row = refl
  barred-by (Some (es, b ∷ bs)) q no_row = sym (records-judged fields (es, b ∷ bs))
  barred-by (Some (es, [])) q no_row =
      let long : length es ≡ o.count = times-length import_record o.count o.imports.now (es, []) q in
      let bad : false ≡ allowed (row_of fields es).1 = no_row ∙ ap (λ n. is_normal_sort o.head.facts.sort || bare o.head.facts.flags o.head.facts.exports n) (sym long) in
      sym (records-judged fields (es, []) ∙ ap (λ b. when b (row_of fields es)) (sym bad))

  -- a row that is not allowed
  pub row-barred : false ≡ Allowed → None ≡ read_whole row s
  row-barred no_row = barred-by (read_times import_record o.count o.imports.now) refl no_row ∙ sym from

  -- what an outline shows of a payload that is read

  module _ (value : ℕ × Row) (q : read_whole row s ≡ Some value) where
    shown_by : (r : Option (List ImportRecord × List ℕ)) → after_records fields r ≡ Some value → row_of fields (listed r) ≡ value
    shown_by None p = never _ p
    shown_by (Some (es, [])) p = when-is (allowed (row_of fields es).1) (row_of fields es) value (sym (records-judged fields (es, [])) ∙ p)
    shown_by (Some (es, b ∷ bs)) p = never _ (sym (records-judged fields (es, b ∷ bs)) ∙ p)

    pub row-shown : glanced o ≡ value
    row-shown = shown_by (read_times import_record o.count o.imports.now) (sym from ∙ q)

    whole_by : (r : Option (List ImportRecord × List ℕ)) → after_records fields r ≡ Some value → is_some (bind r alone) ≡ true
    whole_by None p = never _ p
    whole_by (Some (es, [])) p = refl
    whole_by (Some (es, b ∷ bs)) p = never _ (sym (records-judged fields (es, b ∷ bs)) ∙ p)

    pub row-whole : Whole o.count o.imports.now
    row-whole = whole_by (read_times import_record o.count o.imports.now) (sym from ∙ q)

  glanced_by : (r : Option (List ImportRecord)) → r ≡ whole o.count o.imports.now → true ≡ Allowed → true ≡ is_some r → Some (glanced o) ≡ read_whole row s
  glanced_by None q ok w = absurd (false≢true (sym w))
  glanced_by (Some es) q ok w = let read = row_read ok es q in ap Some (row-shown (row_of fields es) (sym read)) ∙ read

  -- an allowed row whose last bytes pass as import records is the row that its outline shows
  pub row-glanced : true ≡ Allowed → true ≡ is_some (whole o.count o.imports.now) → Some (glanced o) ≡ read_whole row s
  row-glanced ok w = glanced_by (whole o.count o.imports.now) refl ok w

-- no row where there is no outline
none-at : (u : List ℕ) (h : Head) (o : Option (ℕ × List ℕ)) → ◌≡◌ {A = Option (Head × (ℕ × List ℕ))} None (bind o (λ n. Some (h, (n.0, n.1)))) → None ≡ after_count h o
none-at u h None e = refl
none-at u h (Some n) e = never _ e

none-by : (o : Option (Head × List ℕ)) → ◌≡◌ {A = Option (Head × (ℕ × List ℕ))} None (bind o (λ h. bind (count.read h.1) (λ n. Some (h.0, (n.0, n.1))))) → None ≡ after_head o
none-by None e = refl
none-by (Some (h, u)) e = none-at u h (count.read u) e

pub row-none : (s : List ℕ) → None ≡ outline s → None ≡ read_whole row s
row-none s e = none-by (head.read s) e
