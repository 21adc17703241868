-- Every table stands, and a rescan keeps what it should.
use Rattle.std.proofs.Common.{◌≡◌, ℕ, ◌<◌, min, Bool, false, not, ◌&&◌, ◌||◌, T, ltb, List, [], ◌∷◌, length, Some, None, Ok, Option, sym, refl, ◌∙◌, subst, arith, nltb→le, T_not}
use lib.Dec.{not_T}
use Rattle.std.proofs.lemmas.Bool.{lt-ltb, le-ltb}
use Rattle.rows.specs.Numbers.{any, member, repeats}
use Rattle.rows.specs.Rows.{Row}
use Rattle.packed_layout.specs.declared.faults.RowFault.{RowFault}
use Rattle.packed_layout.specs.Records.{Read, entries, broken}
use Rattle.packed_layout.specs.Layout.{Entry, read_all}
use Rattle.project.specs.declared.Room.{Room}
use Rattle.project.specs.declared.faults.RescanFault.{RescanFault}
use Rattle.project.specs.declared.faults.RescanFault.TheVariants.{WrongRows, NoTarget, NoRoom}
use Rattle.project.specs.Rescan.{merged, rows_fault, numbers, dangling, records_of, bytes_of, rows_of, too_much, list_fault, judge_list, judge_rows, judge_read, unasked, from_snapshot}
use Rattle.project.specs.Laws.{Stands, Kept, TablesStand}
use Rattle.rows.proofs.Tests.{from-both, both-not, passed, differ, any_at, from-true, from_false, neither}
use Rattle.project.proofs.Limits.{AllLimited, read-limited}
use Rattle.project.proofs.Placing.{merged-longer, merged_keeps, merged-apart, merged-total, merged-linked, merged-others, merged-limited, merged-new}

-- a list that passed: its rows, and the table with them
record Passed (room : Room) (table : List Row) (wrong : List ℕ → Bool) (after : List Row) (es : List Entry) : Type 0 where
  faultless : rows_fault table es ≡ None
  each : AllLimited es
  right : T (not (wrong (numbers es)))
  once : T (not (repeats (numbers es)))
  led : T (not (any (dangling (length (merged table es))) (rows_of es)))
  roomy : T (not (too_much room table es))
  result : merged table es ≡ after

module _ (room : Room) (table : List Row) (wrong : List ℕ → Bool) (after : List Row) where
  list-passes : (es : List Entry) (o : Option RescanFault) → list_fault room table wrong es ≡ o → rows_fault table es ≡ None → AllLimited es → judge_list room table wrong es o ≡ Ok after → Passed room table wrong after es
  list-passes es (Some fault) is none all e = let z : ◌≡◌ {A = ℕ} 0 1 = cc in differ z
  list-passes es None is none all e =
      let a = passed (wrong (numbers es) || repeats (numbers es)) WrongRows _ is in
      let b = passed (any (dangling (length (merged table es))) (rows_of es)) NoTarget _ a.1 in
      let c = passed (too_much room table es) NoRoom _ b.1 in
      record { faultless = none; each = all; right = (both-not (wrong (numbers es)) _ a.0).0; once = (both-not (wrong (numbers es)) _ a.0).1; led = b.0; roomy = c.0; result = cc }

  rows_pass : (es : List Entry) (o : Option RowFault) → rows_fault table es ≡ o → AllLimited es → judge_rows room table wrong es o ≡ Ok after → Passed room table wrong after es
  rows_pass es None none all e = list-passes es (list_fault room table wrong es) refl none all e
  rows_pass es (Some f) some all e = let z : ◌≡◌ {A = ℕ} 0 1 = cc in differ z

  read-passes : (rd : Read Entry) → ((es : List Entry) → rd ≡ entries es → AllLimited es) → judge_read room table wrong rd ≡ Ok after → (es : List Entry) × (rd ≡ entries es) × Passed room table wrong after es
  read-passes (broken a) each e = let z : ◌≡◌ {A = ℕ} 0 1 = cc in differ z
  read-passes (entries es) each e = (es, refl, rows_pass es (rows_fault table es) refl (each es refl) e)

  -- `_` stands for what is compared with the room: the test is said in `too_much` alone
  stands : (es : List Entry) → Stands room table → Passed room table wrong after es → Stands room after
  stands es S p =
      let much = both-not (ltb (min room.rows 4096) (length (merged table es))) _ p.roomy in
      let more = both-not (ltb room.records _) _ much.1 in
      let few = nltb→le (min room.rows 4096) (length (merged table es)) much.0 in
      let records = nltb→le room.records _ more.0 in
      let bytes = nltb→le room.bytes _ more.1 in
      let placed_records = merged-total records_of table es in
      let placed_bytes = merged-total bytes_of table es in
      subst (Stands room) p.result (record {
        project = record {
          few = omega arith;
          each = merged-limited table es p.faultless S.project.each p.each;
          ids = merged-apart (λ r. r.id) (λ t e k. k.id) (λ t e k. k.own_id) table es p.faultless S.project.ids;
          stable_ids = merged-apart (λ r. r.stable_id) (λ t e k. k.stable_id) (λ t e k. k.own_stable_id) table es p.faultless S.project.stable_ids;
          linked = merged-linked (length (merged table es)) table es p.faultless (λ r t m. let a = S.project.linked r t m in let b = merged-longer table es p.faultless in omega arith) p.led;
        };
        few = few;
        records = omega arith;
        bytes = omega arith;
      })

-- a row that did not change is not in the list
not_listed : (table : List Row) (touched ns : List ℕ) → T (not (unasked table touched ns)) → (r : ℕ) → r < length table → T (not (member r touched)) → T (not (member r ns))
not_listed table touched ns right r l c = not_T (member r ns) (λ m. T_not (any (λ n. ltb n (length table) && not (member n touched)) ns) (both-not (any (λ n. ltb n (length table) && not (member n touched)) ns) _ right).0 (any_at (λ n. ltb n (length table) && not (member n touched)) ns r m (from-both (ltb r (length table)) _ (from-true (lt-ltb r (length table) l)) c)))

kept : (room : Room) (table : List Row) (touched : List ℕ) (after : List Row) (es : List Entry) → Passed room table (unasked table touched) after es → Kept touched table after
kept room table touched after es p = subst (Kept touched table) p.result (record {
  longer = merged-longer table es p.faultless;
  id = merged_keeps (λ r. r.id) (λ t e k. k.id) table es p.faultless;
  stable_id = merged_keeps (λ r. r.stable_id) (λ t e k. k.stable_id) table es p.faultless;
  sort = merged_keeps (λ r. r.sort) (λ t e k. k.sort) table es p.faultless;
  others = λ r l c. merged-others table es p.faultless r (not_listed table touched (numbers es) p.right r l c);
})

pub empty_stands : (room : Room) → Stands room []
empty_stands room = record {
  project = record { few = omega arith; each = λ r l. absurd (omega arith); ids = λ p q l m e. absurd (omega arith); stable_ids = λ p q l m e. absurd (omega arith); linked = λ r t m. absurd m };
  few = omega arith;
  records = omega arith;
  bytes = omega arith;
}

-- nothing is below 0
none-held : (ns : List ℕ) → T (not (any (λ n. ltb n 0) ns))
none-held [] = tt
none-held (n ∷ ns) = neither (ltb n 0) _ (from_false (le-ltb n 0 (omega arith))) (none-held ns)

pub tables-stand : TablesStand
tables-stand = record {
  snapshot = λ room s table e. (let p = made room s table e in stands room [] (λ ns. false) table p.0 (empty_stands room) p.2);
  in_order = λ room s table e. (let p = made room s table e in (p.0, p.1, sym p.2.result ∙ merged-new [] p.0 p.2.faultless (none-held (numbers p.0)) p.2.once));
  rescan = λ room table touched s after S e. (let p = read-passes room table (unasked table touched) after (read_all s) (read-limited s) e in (stands room table (unasked table touched) after p.0 S p.2, kept room table touched after p.0 p.2));
}
  where
    made : (room : Room) (s : List ℕ) (table : List Row) → from_snapshot room s ≡ Ok table → (es : List Entry) × (read_all s ≡ entries es) × Passed room [] (λ ns. false) table es
    made room s table e = read-passes room [] (λ ns. false) table (read_all s) (read-limited s) e
