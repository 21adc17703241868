-- A part of a list that grew is the part it was; so a side keeps its rows where the bytes of the names grow, and where a row follows.
use Rattle.std.proofs.Common.{◌≡◌, ℕ, ◌+◌, ◌≤◌, Bool, true, List, [], ◌∷◌, ◌++◌, map, length, take, drop, Some, sym, refl, ap, ◌∙◌, subst, arith}
use Rattle.std.specs.List.{slice_get}
use Rattle.std.proofs.lemmas.List.{length-append, length-drop, append_assoc, append-nil, length-take, take_all, take-append-drop, take-append-le, drop-append-le, take_at, drop_at, map_push}
use Rattle.std.proofs.lemmas.List.Elements.{All-get_or, All-weaker}
use Rattle.std.proofs.lemmas.List.Folds.{list_all-append}
use Rattle.std.proofs.lemmas.List.Sums.{AllPass-from_list_all, list_all-from_AllPass}
use Rattle.std.proofs.lemmas.Option.{get_or_from_slice_get, slice_get_within}
use Rattle.std.proofs.lemmas.Bool.{leb-true, le-leb, and_parts, and_from}
use Rattle.rows.specs.declared.Facts.{Facts}
use Rattle.rows.specs.declared.ImportRecord.{ImportRecord}
use Rattle.rows.specs.Numbers.{all_of}
use Rattle.row_store.specs.declared.Span.{Span}
use Rattle.row_store.specs.declared.Names.{Names}
use Rattle.row_store.specs.declared.Head.{Head}
use Rattle.row_store.specs.declared.Side.{Side}
use Rattle.row_store.specs.Cuts.{cut, row_from, row_of}
use Rattle.row_store.specs.Sides.{rows_in, within, stands, Stands}
use Rattle.row_store.specs.Heads.{names_after, head_with, with_row}

-- what lies within the first list is the same part of the second, which is no shorter
pub record Keeps {A : Type 0} (xs zs : List A) : Type 0 where
  pub part : (p : Span) → within (length xs) p ≡ true → cut zs p ≡ cut xs p
  pub long : length xs ≤ length zs

pub keeps : {A : Type 0} (xs ys zs : List A) → zs ≡ xs ++ ys → Keeps xs zs
keeps xs ys zs e =
    record {
      part = λ p w. let le : p.start + p.len ≤ length xs = leb-true _ _ w in
          ap (λ z. cut z p) e ∙ ap (take p.len) (drop-append-le p.start xs ys (omega arith)) ∙ take-append-le p.len (drop p.start xs) ys (simp length-drop (omega arith));
      long = let n = ap length e ∙ length-append xs ys in omega (arith, n);
    }

-- the parts alone make it so: the first list is a part of itself
pub keeps-parts : {A : Type 0} (xs zs : List A) → ((p : Span) → within (length xs) p ≡ true → cut zs p ≡ cut xs p) → Keeps xs zs
keeps-parts xs zs part =
    let all : Span = record { start = 0; len = length xs } in
    let same : cut zs all ≡ xs = part all (le-leb _ _ (omega arith)) ∙ take_all (length xs) xs (omega arith) in
    let long : length (take (length xs) zs) ≡ length xs = ap length same in
    record { part = part; long = omega (arith, long, length-take (length xs) zs) }

-- a list that stays, and one that begins with another
pub keeps_same : {A : Type 0} (xs : List A) → Keeps xs xs
keeps_same xs = record { part = λ p w. refl; long = omega arith }

pub keeps-front : {A : Type 0} (xs zs : List A) → take (length xs) zs ≡ xs → Keeps xs zs
keeps-front xs zs g = keeps xs (drop (length xs) zs) zs (sym (take-append-drop (length xs) zs) ∙ ap (λ z. z ++ drop (length xs) zs) g)

pub cut-new : {A : Type 0} (xs ys zs ws : List A) (p : Span) → ws ≡ xs ++ (ys ++ zs) → p.start ≡ length xs → p.len ≡ length ys → cut ws p ≡ ys
cut-new xs ys zs ws p e s l =
    ap (λ z. cut z p) e ∙ ap (take p.len) (drop_at xs (ys ++ zs) p.start (sym s)) ∙ take_at ys zs p.len (sym l)

-- the parts of a row lie within
pub record Within (n k : ℕ) (h : Head) : Type 0 where
  pub id : within n h.names.id ≡ true
  pub stable_id : within n h.names.stable_id ≡ true
  pub records : within k h.records ≡ true

pub within-parts : (n k : ℕ) (h : Head) → stands n k h ≡ true → Within n k h
within-parts n k h w =
    let p = and_parts (within n h.names.id) _ w in let q = and_parts (within n h.names.stable_id) _ p.1 in record { id = p.0; stable_id = q.0; records = q.1 }

pub within-all : (n k : ℕ) (h : Head) → Within n k h → stands n k h ≡ true
within-all n k h w = and_from _ _ w.id (and_from _ _ w.stable_id w.records)

pub within_more : (n m : ℕ) (p : Span) → n ≤ m → within n p ≡ true → within m p ≡ true
within_more n m p le w = let h : p.start + p.len ≤ n = leb-true _ _ w in le-leb _ _ (omega arith)

pub stands-more : (n m k j : ℕ) (h : Head) → n ≤ m → k ≤ j → stands n k h ≡ true → stands m j h ≡ true
stands-more n m k j h a b w =
    let p = within-parts n k h w in
    within-all m j h
    (record {
      id = within_more n m h.names.id a p.id;
      stable_id = within_more n m h.names.stable_id a p.stable_id;
      records = within_more k j h.records b p.records;
    })

pub all_more : (n m k j : ℕ) (hs : List Head) → n ≤ m → k ≤ j → all_of (stands n k) hs ≡ true → all_of (stands m j) hs ≡ true
all_more n m k j hs a b w = list_all-from_AllPass _ hs (All-weaker _ _ (λ h. stands-more n m k j h a b) hs (AllPass-from_list_all _ hs w))

-- what grew twice grew
pub keeps-more : {A : Type 0} (xs ys zs : List A) → Keeps xs ys → Keeps ys zs → Keeps xs zs
keeps-more xs ys zs a b =
    record {
      part = λ p w. b.part p (within_more (length xs) (length ys) p a.long w) ∙ a.part p w;
      long = omega (arith, a.long, b.long);
    }

-- a head of the list passes the test
pub all-at : {A : Type 0} (p : A → Bool) (xs : List A) (i : ℕ) (x : A) → all_of p xs ≡ true → Some x ≡ slice_get xs i → p x ≡ true
all-at p xs i x w e =
    subst (λ y. p y ≡ true) (get_or_from_slice_get xs i x x (sym e)) (All-get_or (λ y. p y ≡ true) xs i x (slice_get_within xs i x (sym e)) (AllPass-from_list_all p xs w))

-- the bytes of the names grow, and the import records do
module _ (bytes bytes' : List ℕ) (held held' : List ImportRecord) (b : Keeps bytes bytes') (k : Keeps held held') where
  pub row_kept : (h : Head) → stands (length bytes) (length held) h ≡ true → row_of bytes' held' h ≡ row_of bytes held h
  row_kept h w =
      let p = within-parts (length bytes) (length held) h w in
      let id = b.part h.names.id p.id in let stable_id = b.part h.names.stable_id p.stable_id in let records = k.part h.records p.records in cc

  pub rows-kept : (hs : List Head) → all_of (stands (length bytes) (length held)) hs ≡ true → map (row_of bytes' held') hs ≡ map (row_of bytes held) hs
  rows-kept [] w = refl
  rows-kept (h ∷ hs) w =
      let p = and_parts (stands (length bytes) (length held) h) _ w in
      let first = row_kept h p.0 in let rest = rows-kept hs p.1 in cc

module _ (bytes bytes' : List ℕ) (s : Side) (b : Keeps bytes bytes') (w : Stands bytes s) where
  same : Keeps s.records.items s.records.items
  same = keeps s.records.items [] s.records.items (sym (append-nil s.records.items))

  -- a side keeps its rows
  pub same-rows : rows_in bytes' s ≡ rows_in bytes s
  same-rows = rows-kept bytes bytes' s.records.items s.records.items b same s.heads.items w

  pub same-stands : Stands bytes' s
  same-stands = all_more (length bytes) (length bytes') (length s.records.items) (length s.records.items) s.heads.items b.long same.long w

  -- a row follows the others
  module _ (names : Names) (f : Facts) (rs : List ImportRecord) where
    more : Keeps s.records.items (s.records.items ++ rs)
    more = keeps s.records.items rs (s.records.items ++ rs) refl

    pub more-rows : rows_in bytes' (with_row s names f rs) ≡ rows_in bytes s ++ row_from f (cut bytes' names.id) (cut bytes' names.stable_id) rs ∷ []
    more-rows =
        let h = head_with names f s.records.items rs in
        let all = s.records.items ++ rs in
        let new : cut all h.records ≡ rs = cut-new s.records.items rs [] all h.records (ap (λ y. s.records.items ++ y) (sym (append-nil rs))) refl refl in
        map_push (row_of bytes' all) s.heads.items h
        ∙ ap (λ xs. xs ++ row_of bytes' all h ∷ []) (rows-kept bytes bytes' s.records.items all b more s.heads.items w)
        ∙ ap (λ (y : List ImportRecord). rows_in bytes s ++ row_from f (cut bytes' names.id) (cut bytes' names.stable_id) y ∷ []) new

    pub more-stands : within (length bytes') names.id ≡ true → within (length bytes') names.stable_id ≡ true → Stands bytes' (with_row s names f rs)
    more-stands id stable_id =
        let h = head_with names f s.records.items rs in
        let all = s.records.items ++ rs in
        let last : within (length all) h.records ≡ true = simp length-append (le-leb _ _ (omega arith)) in
        list_all-append (stands (length bytes') (length all)) s.heads.items (h ∷ [])
        ∙ and_from _ _ (all_more (length bytes) (length bytes') (length s.records.items) (length all) s.heads.items b.long more.long w) (and_from _ _ (within-all _ _ h (record { id = id; stable_id = stable_id; records = last })) refl)

-- names that follow the bytes
module _ (bytes id stable_id bytes' : List ℕ) (b : bytes' ≡ bytes ++ (id ++ stable_id)) where
  pub new-id : cut bytes' (names_after bytes id stable_id).id ≡ id
  new-id = cut-new bytes id stable_id bytes' (names_after bytes id stable_id).id b refl refl

  pub new-stable_id : cut bytes' (names_after bytes id stable_id).stable_id ≡ stable_id
  new-stable_id =
      cut-new (bytes ++ id) stable_id [] bytes' (names_after bytes id stable_id).stable_id (b ∙ sym (append_assoc bytes id stable_id) ∙ ap (λ y. bytes ++ id ++ y) (sym (append-nil stable_id))) (sym (length-append bytes id)) refl

  pub new-long : length bytes' ≡ length bytes + (length id + length stable_id)
  new-long = ap length b ∙ length-append bytes (id ++ stable_id) ∙ ap (λ n. length bytes + n) (length-append id stable_id)
