use Rattle.std.proofs.Common.{◌≡◌, ◌+◌, drop, refl, ap, ap₂, sym, ◌∙◌, subst, arith}
use Rattle.std.specs.Prelude.{min}
use Rattle.pap_tree.specs.Term.{term_of}
use Rattle.pap_tree.specs.Flowchart.{flowchart_of, body_of, done}
use Rattle.pap_tree.specs.Statements.{written}
use Rattle.pap_tree.proofs.Laws.{stmt_at, branch_is, written_at}
use Rattle.pap_types.specs.Bounds.{term_bound, body_bound}
use Rattle.pap_types.specs.Counts.{AreSmallTerms}
use Rattle.interval_analysis.specs.private.BoundViews.{last_sum, bound_at, stopped_bound}
use Rattle.interval_analysis.proofs.BoundLemmas.{small_here, small_rest, sum_more, sum_all, if_sum}
use Rattle.interval_analysis.proofs.bounds.+bound.Goals as goal

pub body_bound-stmt_bound-requires : goal.body_bound-stmt_bound-requires
body_bound-stmt_bound-requires t c =
    let body = c.args.body.now in
    let i = c.loop-stmt.stmt-index in
    let s = c.stmt-item.result in
    let is = stmt_at body i s c.stmt-item.is c.loop-stmt-test.true in
    let count = written_at body i s c.stmt-item.is c.loop-stmt-test.true in
    let small = subst AreSmallTerms is c.loop-stmt.invariant.small in
    (omega (arith, count, c.loop-stmt.invariant.fewer), (small_here s (body_of (drop (i + 1) body)) small, c.requires.all))

pub body_bound-loop-stmt-preserved : goal.body_bound-loop-stmt-preserved
body_bound-loop-stmt-preserved t c =
    let body = c.args.body.now in
    let f = flowchart_of c.args.plan.now in
    let i = c.loop-stmt.stmt-index in
    let s = c.stmt-item.result in
    let is = stmt_at body i s c.stmt-item.is c.loop-stmt-test.true in
    let count = written_at body i s c.stmt-item.is c.loop-stmt-test.true in
    let small = subst AreSmallTerms is c.loop-stmt.invariant.small in
    record {
      fewer = omega (arith, count, c.loop-stmt.invariant.fewer);
      small = small_rest s (body_of (drop (i + 1) body)) small;
      fits = omega (arith, c.saturating_add-bound.ensures);
      sum = sum_more (bound_at f c.args.bounds.now) body (stopped_bound f c.args.bounds.now (body_of body)) c.loop-stmt.bound c.stmt_bound.result c.saturating_add-bound.result i s c.stmt-item.is c.loop-stmt-test.true c.stmt_bound.ensures c.saturating_add-bound.ensures c.loop-stmt.invariant.sum;
    }

pub body_bound-returns : goal.body_bound-returns
body_bound-returns t c =
    let f = flowchart_of c.args.plan.now in
    sum_all (bound_at f c.args.bounds.now) c.args.body.now (stopped_bound f c.args.bounds.now (body_of c.args.body.now)) c.loop-stmt.bound c.loop-stmt.stmt-index (omega (arith, c.loop-stmt-test.false)) c.loop-stmt.invariant.fits c.loop-stmt.invariant.sum

pub stmt_bound-body_bound-requires : goal.stmt_bound-body_bound-requires
stmt_bound-body_bound-requires t c =
    let is = branch_is c.args.stmt.now c.in-If.test c.in-If.yes c.in-If.no c.deref.result.now c.in-If.no.items c.in-If.is c.deref.ensures.value refl done in
    let count = ap written is in
    let small = subst AreSmallTerms is c.requires.small in
    (omega (arith, count), (small.1, c.requires.all))

pub stmt_bound-body_bound-second-requires : goal.stmt_bound-body_bound-second-requires
stmt_bound-body_bound-second-requires t c =
    let is = branch_is c.args.stmt.now c.in-If.test c.in-If.yes c.in-If.no c.deref.result.now c.deref-in-If.result.now c.in-If.is c.deref.ensures.value c.deref-in-If.ensures.value done in
    let count = ap written is in
    let small = subst AreSmallTerms is c.requires.small in
    (omega (arith, count), (small.2, c.requires.all))

pub stmt_bound-returns-in-If : goal.stmt_bound-returns-in-If
stmt_bound-returns-in-If t c =
    let f = flowchart_of c.args.plan.now in
    let bounds = c.args.bounds.now in
    let call = bound_at f bounds in
    let yes = body_of c.deref.result.now in
    let no = body_of c.deref-in-If.result.now in
    let is = branch_is c.args.stmt.now c.in-If.test c.in-If.yes c.in-If.no c.deref.result.now c.deref-in-If.result.now c.in-If.is c.deref.ensures.value c.deref-in-If.ensures.value done in
    subst (λ b. c.saturating_add.result ≡ stopped_bound f bounds b) (sym is)
    (if_sum (body_bound call yes) (body_bound call no) (term_bound (term_of c.in-If.test)) c.body_bound.result c.saturating_add-first.result c.body_bound-second.result c.saturating_add.result c.body_bound.ensures c.saturating_add-first.ensures c.body_bound-second.ensures (c.saturating_add.ensures ∙ ap₂ (λ m t. min (m + (t + 1)) last_sum) c.max.ensures c.term_bound-in-If.ensures.value))
