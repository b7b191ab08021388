use Rattle.std.proofs.Common.{◌≡◌, ◌+◌, [], ◌∷◌, ◌++◌, length, take, refl, ap, subst, ◌∙◌, append_assoc, arith}
use Rattle.std.proofs.lemmas.List.{append-nil, length-map}
use Rattle.std.proofs.lemmas.Result.{err_from_is_err_and}
use Rattle.carry_bindings.specs.declared.carried.Earlier.{Earlier}
use Rattle.book_year.specs.Records.{records_of}
use Rattle.book_year.specs.Rows.{row_of, year_rows, done_outputs}
use Rattle.book_year.specs.Jobs.{new_jobs, total_cost}
use Rattle.book_year.specs.Kept.{kept}
use Rattle.book_year.specs.Picks.{planned_after, planned_before}
use Rattle.std.specs.Borrow.{Bor}
use Rattle.payroll_records.specs.declared.record.Record.{Record}
use Rattle.book_year.specs.private.ChainClauses.{IsRan, PlanReadsNothing}
use Rattle.book_year.specs.ChainClauses.{old_jobs}
use Rattle.book_year.proofs.ChainLemmas.{IsWalk, earlier_few, quiet_at, out_before, out_after, walk_more, take_step}
use Rattle.book_year.proofs.FrontLemmas.{all_taken, rest_read, rest_within, walk_front}
use Rattle.book_year.proofs.OldLemmas.{rows_length}
use Rattle.book_year.proofs.chain.recalculate_rest.Goals as goal

pub lent_front-requires-clause-each : goal.lent_front-requires-clause-each
lent_front-requires-clause-each g c =
    let p = planned_before c.args.picks.now in
    let rs = c.args.old.records.now in
    ap length c.requires.old.are ∙ length-map (year_rows p rs) kept ∙ rows_length p [] rs

pub loop-item-init : goal.loop-item-init
loop-item-init g c =
    let none : c.args.kept + 0 ≡ c.args.kept = omega arith in
    rw (none, c.new.ensures.items, append-nil) (walk_front c.args.picks.now c.args.old c.some_reads-reads.result c.args.records.now c.args.kept c.in_ok-earlier.earlier.items c.args.steps.now c.args.steps.now c.requires.old c.requires.front (c.in_ok-earlier.ensures (planned_before c.args.picks.now) c.requires.old) refl)

pub next_run-requires-clause-few : goal.next_run-requires-clause-few
next_run-requires-clause-few g c =
    let i = c.args.kept + c.loop-item.item-index in
    let within = rest_within c.args.records.now c.args.kept c.loop-item.item-index c.loop-item-test.true in
    let few = earlier_few (planned_after c.args.picks.now) (old_jobs c.args.picks.now c.args.old) c.some_reads-reads.result c.args.records.now i _ _ _ _ _ _ c.loop-item.invariant c.requires.few within in
    omega (arith, ap length c.as_slice.ensures.value, few)

pub returns-in_err-ran-clause-counted : goal.returns-in_err-ran-clause-counted
returns-in_err-ran-clause-counted g c =
    let i = c.args.kept + c.loop-item.item-index in
    let p = err_from_is_err_and c.from_residual-in_err-ran.result c.from_residual-in_err-ran.ensures.1 in
    out_before (planned_after c.args.picks.now) (old_jobs c.args.picks.now c.args.old) c.some_reads-reads.result c.args.records.now i _ _ _ _ _ _ c.loop-item.invariant c.from_residual-in_err-ran.result p.0 c.next_run.new.steps p.1 c.in_err-ran.ensures.counted

pub returns-in_err-push-clause-counted : goal.returns-in_err-push-clause-counted
returns-in_err-push-clause-counted g c =
    let j = c.loop-item.item-index in
    let item = c.item-item.result in
    let old = old_jobs c.args.picks.now c.args.old in
    let p = err_from_is_err_and c.from_residual-in_err-push.result c.from_residual-in_err-push.ensures.1 in
    let quiet = quiet_at (λ (x : Bor Record). PlanReadsNothing (planned_after c.args.picks.now x.now.day)) c.some_reads-reads.result _ j item c.some_reads-reads.ensures c.loop-item-test.true c.item-item.is in
    let is : IsRan (row_of (planned_after c.args.picks.now item.now.day) c.loop-item.done.earlier.items item.now) (old item.now.day) c.in_ok-ran.ran = rw (← c.as_slice.ensures.value) c.in_ok-ran.ensures.ran in
    out_after (planned_after c.args.picks.now) old c.some_reads-reads.result c.args.records.now (c.args.kept + j) _ _ _ _ _ _ c.loop-item.invariant c.from_residual-in_err-push.result p.0 c.next_run.new.steps item c.in_ok-ran.ran p.1
    (rest_within c.args.records.now c.args.kept j c.loop-item-test.true) (rest_read c.args.records.now c.args.kept j item c.item-item.is) quiet is c.in_ok-ran.ensures.counted

pub loop-item-preserved : goal.loop-item-preserved
loop-item-preserved g c =
    let j = c.loop-item.item-index in
    let i = c.args.kept + j in
    let item = c.item-item.result in
    let old = old_jobs c.args.picks.now c.args.old in
    let quiet = quiet_at (λ (x : Bor Record). PlanReadsNothing (planned_after c.args.picks.now x.now.day)) c.some_reads-reads.result _ j item c.some_reads-reads.ensures c.loop-item-test.true c.item-item.is in
    let is : IsRan (row_of (planned_after c.args.picks.now item.now.day) c.loop-item.done.earlier.items item.now) (old item.now.day) c.in_ok-ran.ran = rw (← c.as_slice.ensures.value) c.in_ok-ran.ensures.ran in
    let e : Earlier = record { day = item.now.day; outputs = done_outputs c.in_ok-ran.ran.outcome.state } in
    let more = walk_more (planned_after c.args.picks.now) old c.some_reads-reads.result (take i (records_of c.args.records.now)) _ _ _ _ _ _ c.loop-item.invariant item.now c.in_ok-ran.ran quiet is e c.next_run.new.steps refl c.in_ok-ran.ensures.counted in
    let one : c.args.kept + (j + 1) ≡ i + 1 = omega arith in
    rw (one, take_step c.args.records.now i item (rest_within c.args.records.now c.args.kept j c.loop-item-test.true) (rest_read c.args.records.now c.args.kept j item c.item-item.is), c.in_ok-push.ensures.outcomes, c.in_ok-push.ensures.earlier, ← append_assoc (take c.args.kept c.args.old.outcomes.now) c.loop-item.done.outcomes.items (c.in_ok-ran.ran.outcome ∷ [])) more

pub returns-clause-done : goal.returns-clause-done
returns-clause-done g c =
    let items = c.args.records.now in
    let all = all_taken items c.args.kept c.loop-item.item-index c.loop-item-test.false in
    let walk : IsWalk (planned_after c.args.picks.now) (old_jobs c.args.picks.now c.args.old) c.some_reads-reads.result (records_of items) (take c.args.kept c.args.old.outcomes.now ++ c.loop-item.done.outcomes.items) c.loop-item.done.earlier.items c.loop-item.runs c.loop-item.taken c.args.steps.now c.loop-item.steps =
    subst (λ t. IsWalk (planned_after c.args.picks.now) (old_jobs c.args.picks.now c.args.old) c.some_reads-reads.result t (take c.args.kept c.args.old.outcomes.now ++ c.loop-item.done.outcomes.items) c.loop-item.done.earlier.items c.loop-item.runs c.loop-item.taken c.args.steps.now c.loop-item.steps) all c.loop-item.invariant in
    record {
      outcomes = walk.outcomes_are;
      bounded = walk.kept_bounded;
      work = λ i. record { runs = walk.runs_are i; steps = walk.taken_are i };
      few = walk.runs_few;
      cheap = walk.taken_few;
    }

pub returns-clause-counted : goal.returns-clause-counted
returns-clause-counted g c =
    let planned = planned_after c.args.picks.now in
    let old = old_jobs c.args.picks.now c.args.old in
    let all = all_taken c.args.records.now c.args.kept c.loop-item.item-index c.loop-item-test.false in
    omega (arith, c.loop-item.invariant.counted, c.loop-item.invariant.taken_are, ap (λ t. total_cost (new_jobs old (year_rows planned t))) all)
