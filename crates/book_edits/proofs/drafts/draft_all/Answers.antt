use Rattle.std.proofs.Common.{◌≡◌, ◌+◌, [], refl, sym, subst, arith}
use Rattle.std.specs.List.{AllByRecursion}
use Rattle.std.specs.Vec.Iter.{into_iter_items}
use Rattle.std.proofs.lemmas.List.{nil_from_length}
use Rattle.book_year.specs.Accepted.{plans_in}
use Rattle.book_edits.specs.Kept.{runs_in}
use Rattle.book_edits.specs.declared.drafts.Draft.{Draft}
use Rattle.book_edits.specs.private.Groups.{IsGroup}
use Rattle.book_edits.specs.private.Drafts.{AreDrafted, groups_cost}
use Rattle.book_edits.proofs.DraftLemmas.{AreDraftedSoFar, cost_within, drafted_all, drafted_first, one_drafted}
use Rattle.book_edits.proofs.ErrLemmas.{err_counts, err_done}
use Rattle.book_edits.proofs.drafts.draft_all.Goals as goal

pub loop-group-init : goal.loop-group-init
loop-group-init g c =
    let plans = plans_in c.args.plans.now in
    let old = runs_in c.args.list.now in
    let groups = c.args.groups.items in
    let at = c.args.steps.now in
    subst (λ t. AreDraftedSoFar plans old groups t c.new-drafts.result.items 0 0 at at) (sym c.into_iter-group-iterator.ensures.into_iter_gives.0)
    (subst (λ t. AreDraftedSoFar plans old groups groups t 0 0 at at) (sym c.new-drafts.ensures.items) (drafted_first plans old groups at c.requires.groups c.requires.few))

pub loop-group-preserved : goal.loop-group-preserved
loop-group-preserved g c =
    let plans = plans_in c.args.plans.now in
    let old = runs_in c.args.list.now in
    let groups = c.args.groups.items in
    let l = c.loop-group in
    let rest = into_iter_items c.next.new.self in
    let group = c.in-Some.group in
    let done = c.in_ok-done.done in
    let d : Draft = record { key = group.key; items = group.items; room = done.room; outcomes = done.outcomes } in
    let so_far = subst (λ t. AreDraftedSoFar plans old groups t l.drafts.items l.runs l.taken c.args.steps.now l.steps) c.in-Some.ensures.steps.0 l.invariant in
    subst (λ t. AreDraftedSoFar plans old groups rest t (l.runs + done.work.runs) (l.taken + done.work.steps) c.args.steps.now c.compute.new.steps) (sym c.in_ok-push.ensures.items)
    (one_drafted plans old groups group rest l.drafts.items l.runs l.taken c.args.steps.now l.steps c.compute.new.steps done d so_far c.in_ok-done.ensures.done refl refl refl refl c.in_ok-done.ensures.counted)

pub overflow_add-runs : goal.overflow_add-runs
overflow_add-runs g c = let i = c.loop-group.invariant in omega (arith, i.small, i.few, c.in_ok-done.ensures.done.few)

pub overflow_add-taken : goal.overflow_add-taken
overflow_add-taken g c = let i = c.loop-group.invariant in omega (arith, i.cheap, i.few, c.in_ok-done.ensures.done.cheap)

pub compute-requires : goal.compute-requires
compute-requires g c = record {
  rising = c.requires.rising;
  years = c.requires.years;
  group = (subst (AllByRecursion IsGroup) c.in-Some.ensures.steps.0 c.loop-group.invariant.left).0;
}

pub returns-in_err-done : goal.returns-in_err-done
returns-in_err-done g c =
    let plans = plans_in c.args.plans.now in
    let old = runs_in c.args.list.now in
    let groups = c.args.groups.items in
    let l = c.loop-group in
    let so_far = subst (λ t. AreDraftedSoFar plans old groups t l.drafts.items l.runs l.taken c.args.steps.now l.steps) c.in-Some.ensures.steps.0 l.invariant in
    let within = cost_within plans old groups c.in-Some.group (into_iter_items c.next.new.self) l.drafts.items l.runs l.taken c.args.steps.now l.steps c.compute.new.steps so_far c.in_err-done.ensures.counted.0 c.in_err-done.ensures.counted.1 in
    record {
      done = err_done (AreDrafted plans old groups) c.from_residual.result c.from_residual.ensures.0;
      counted = err_counts c.from_residual.result c.from_residual.ensures.0 c.args.steps.now c.compute.new.steps (groups_cost plans old groups) within.0 within.1;
    }

pub returns-in_err-push : goal.returns-in_err-push
returns-in_err-push g c =
    let plans = plans_in c.args.plans.now in
    let old = runs_in c.args.list.now in
    let groups = c.args.groups.items in
    let l = c.loop-group in
    let so_far = subst (λ t. AreDraftedSoFar plans old groups t l.drafts.items l.runs l.taken c.args.steps.now l.steps) c.in-Some.ensures.steps.0 l.invariant in
    let within = cost_within plans old groups c.in-Some.group (into_iter_items c.next.new.self) l.drafts.items l.runs l.taken c.args.steps.now l.steps c.compute.new.steps so_far
    (omega (arith, c.in_ok-done.ensures.counted)) (omega (arith, c.in_ok-done.ensures.counted)) in
    let r = c.from_residual-in_err-push in
    record {
      done = err_done (AreDrafted plans old groups) r.result r.ensures.0;
      counted = err_counts r.result r.ensures.0 c.args.steps.now c.compute.new.steps (groups_cost plans old groups) within.0 within.1;
    }

pub returns : goal.returns
returns g c =
    let plans = plans_in c.args.plans.now in
    let old = runs_in c.args.list.now in
    let groups = c.args.groups.items in
    let l = c.loop-group in
    let it = l.group-iterator in
    let none : into_iter_items it ≡ [] = nil_from_length (into_iter_items it) (omega (arith, it.rest.ok.0, c.in-None.ensures.steps.0)) in
    let so_far = subst (λ t. AreDraftedSoFar plans old groups t l.drafts.items l.runs l.taken c.args.steps.now l.steps) none l.invariant in
    record {
      done = drafted_all plans old groups l.drafts l.runs l.taken c.args.steps.now l.steps so_far;
      counted = omega (arith, so_far.counted, so_far.cost);
    }
