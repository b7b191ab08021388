use Rattle.std.proofs.Common.{◌≡◌, ℕ, length, sym, subst, ap, arith}
use Rattle.std.specs.Prelude.{IfOk}
use Rattle.std.proofs.lemmas.Result.{IfOk-weaker}
use Rattle.std.proofs.Math.ListN.{length-map}
use Rattle.saved_items.specs.Fronts.{AreFirstItems, planning}
use Rattle.saved_items.specs.private.ItemDecisions.{Fits}
use Rattle.saved_items.specs.private.ItemViews.{Reads, front_at, plans_of}
use Rattle.saved_items.specs.ItemFaults.{plan_in, saved_in}
use Rattle.saved_items.specs.declared.front.Stage.{Stage}
use Rattle.saved_items.proofs.NextLemmas.{no_item}
use Rattle.saved_items.proofs.next.next_item.Goals as goal

pub returns-in_default : goal.returns-in_default
returns-in_default c = λ i rest fits e. no_item c.args.rest.now (rw c.in_default.is at c.in_ok-line.ensures) i rest e

pub returns-in-Title : goal.returns-in-Title
returns-in-Title c =
    rw c.in-Title.is (c.next_title.ensures c.args.rest.now (rw c.in-Some.is at c.in_ok-line.ensures))

pub returns-in-Work : goal.returns-in-Work
returns-in-Work c =
    rw c.in-Work.is (c.next_work.ensures c.args.rest.now (rw c.in-Some.is at c.in_ok-line.ensures))

pub returns-in-PlanCount : goal.returns-in-PlanCount
returns-in-PlanCount c =
    let items = c.args.front.now.items in
    rw c.in-PlanCount.is (c.next_plan_count.ensures items.runs items.steps c.args.rest.now
    (rw c.in-Some.is at c.in_ok-line.ensures))

pub returns-in-Plans : goal.returns-in-Plans
returns-in-Plans c =
    let items = c.args.front.now.items in
    let line = rw c.in-Some.is at c.in_ok-line.ensures in
    let read = c.next_plan.ensures items.runs items.steps c.in-Plans.count (omega (arith, c.if-plans-count.true))
    c.args.rest.now line in
    subst (λ (s : Stage). Reads (Fits (front_at s (saved_in items))) c.args.rest.now c.next_plan.result)
    (sym c.in-Plans.is) (rw c.as_slice-plans.ensures.value at read)

pub returns-in-Plans-2 : goal.returns-in-Plans-2
returns-in-Plans-2 c =
    let items = c.args.front.now.items in
    let plans = plans_of items.plans.items in
    let sound = subst (λ (s : Stage). AreFirstItems (front_at s (saved_in items))) c.in-Plans.is c.requires in
    let listed = ap length c.as_slice-plans.ensures.value in
    let even : length plans ≡ c.in-Plans.count = omega (
      arith,
      sound.1.within,
      c.if-plans-count.false,
      listed,
      length-map items.plans.items plan_in,
    ) in
    let line = rw c.in-Some.is at c.in_ok-line.ensures in
    subst (λ (s : Stage). Reads (Fits (front_at s (saved_in items))) c.args.rest.now c.next_run_count.result)
    (sym c.in-Plans.is)
    (subst (λ (n : ℕ). Reads (Fits (planning items.runs items.steps n plans)) c.args.rest.now c.next_run_count.result)
    even (c.next_run_count.ensures items.runs items.steps plans c.args.rest.now line))

pub returns-in-Runs : goal.returns-in-Runs
returns-in-Runs c =
    let items = c.args.front.now.items in
    let plans = plans_of items.plans.items in
    let line = rw c.in-Some.is at c.in_ok-line.ensures in
    let read = c.next_run.ensures items.runs items.steps c.in-Runs.count plans
    (omega (arith, c.if-records-count.true)) in
    subst (λ (s : Stage). IfOk c.next_run.result (Reads (Fits (front_at s (saved_in items))) c.args.rest.now))
    (sym c.in-Runs.is)
    (IfOk-weaker c.next_run.result _ _ (λ next h. h c.args.rest.now line) (rw c.as_slice-records.ensures.value at read))
