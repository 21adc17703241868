use Rattle.std.proofs.Common.{◌≡◌, [], ◌∷◌, ◌++◌, length, Err, ap, ◌∙◌, rules}
use Rattle.std.proofs.lemmas.Result.{err_from_is_err_and}
use Rattle.packed_layout.specs.Layout.{read_all}
use Rattle.packed_rows.specs.Lists.{entries_of}
use Rattle.packed_rows.specs.Entries.{entry_in, readable, coming}
use Rattle.packed_rows.proofs.Coming.{coming-all}
use Rattle.name_order.specs.Listed.{listed}
use Rattle.module_table.proofs.Standing.{stands_at, stands-given}
use Rattle.module_table.proofs.Judging.{judging-start, judging-next, judging-long, judging-turn, judging-fault}
use Rattle.module_table.proofs.judge.judge_rows.Goals as goal

pub loop-offset-init : goal.loop-offset-init
loop-offset-init g c =
    let table = g.G.Graph.rows c.args.table.now in let s = c.args.bytes.now in
    let es = entries_of (read_all s) in
    let begun : coming c.into_iter-offset-iterator.result ≡ readable s 0 = search rules in
    let all : coming c.into_iter-offset-iterator.result ≡ es = begun ∙ coming-all s es c.requires.formed in
    let orders = c.args.draft.now.orders in
    ([], rw all (judging-start table s es c.args.draft.now.places (listed orders.ids) (listed orders.stable_ids) c.requires.begun c.requires.ordered))

pub judge_row-requires-clause-sized : goal.judge_row-requires-clause-sized
judge_row-requires-clause-sized g c = judging-long c.loop-offset.invariant.1

pub returns-in_err-twice-clause-answer : goal.returns-in_err-twice-clause-answer
returns-in_err-twice-clause-answer g c =
    let j = rw c.in-Some.ensures.steps at c.loop-offset.invariant.1 in
    let p = err_from_is_err_and c.from_residual.result c.from_residual.ensures.1 in
    p.1 ∙ ap Err p.2 ∙ judging-fault j c.in_err-twice.field-0.0 c.in_err-twice.ensures.answer

pub loop-offset-preserved : goal.loop-offset-preserved
loop-offset-preserved g c =
    let s = c.args.bytes.now in
    let done = c.loop-offset.invariant.0 in
    let e = entry_in (c.in-Some.offset, c.in-Some.row) in
    let j = rw c.in-Some.ensures.steps at c.loop-offset.invariant.1 in
    let seen = stands-given s e (stands_at s (length done) e (judging-next j)) in
    let new = c.judge_row.new.self in
    (done ++ e ∷ [], judging-turn j new.places (listed new.orders.ids) (listed new.orders.stable_ids) c.in_ok-twice.field-0 seen c.in_ok-twice.ensures.answer c.in_ok-twice.ensures.places c.in_ok-twice.ensures.orders)
