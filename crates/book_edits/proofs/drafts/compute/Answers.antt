use Rattle.std.proofs.Common.{◌≡◌, length, take, None, refl, sym, ap, subst, ◌∙◌, arith}
use Rattle.std.proofs.lemmas.List.{length-map}
use Rattle.rising_lists.specs.Keyed.{IsRising}
use Rattle.payroll_records.specs.Orders.{day_cmp}
use Rattle.plan_calendar.specs.Picking.{pick}
use Rattle.book_year.specs.Accepted.{plans_in}
use Rattle.book_year.specs.Kept.{job_by}
use Rattle.book_year.specs.declared.picks.Picks.{Picks}
use Rattle.book_year.specs.Records.{record_day, records_of}
use Rattle.book_year.specs.ChainClauses.{IsRecalculated}
use Rattle.book_year.proofs.Laws.{front_is, plans_stay}
use Rattle.book_edits.specs.Kept.{runs_in}
use Rattle.book_edits.specs.private.Groups.{group_year, put_runs}
use Rattle.book_edits.proofs.DraftLemmas.{computed_group, group_few}
use Rattle.book_edits.proofs.RecordLemmas.{now_of}
use Rattle.book_edits.proofs.drafts.compute.Goals as goal

pub references_with-requires : goal.references_with-requires
references_with-requires g c = (c.old_of-old.ensures.kept (plans_in c.args.plans.now) c.requires.years).rising

pub runs_before_all-kept-requires : goal.runs_before_all-kept-requires
runs_before_all-kept-requires g c = (c.old_of-old.ensures.kept (plans_in c.args.plans.now) c.requires.years).rising

pub recalculate-requires-clause-old : goal.recalculate-requires-clause-old
recalculate-requires-clause-old g c = c.old_of-old.ensures.kept (plans_in c.args.plans.now) c.requires.years

pub recalculate-requires-clause-front : goal.recalculate-requires-clause-front
recalculate-requires-clause-front g c =
    let old = c.old_of-old.result in
    let new = put_runs c.args.group.now.items.items old.records.now in
    let n = c.runs_before_all-kept.result in
    let runs : records_of c.as_slice-3.result.now ≡ new = ap records_of c.as_slice-3.ensures.value ∙ c.in_ok-runs.ensures ∙ ap (λ t. put_runs t old.records.now) c.as_slice.ensures.value in
    let same : take n new ≡ take n old.records.now = ap (λ t. take n (put_runs t old.records.now)) (sym c.as_slice-2.ensures.value) ∙ c.runs_before_all-kept.ensures.same in
    let picks : Picks = record { plans = c.args.plans; edit = None } in
    front_is picks old c.as_slice-3.result.now old.records.now new n refl runs c.runs_before_all-kept.ensures.within same (plans_stay picks (take n old.records.now) refl)

pub recalculate-requires-clause-few : goal.recalculate-requires-clause-few
recalculate-requires-clause-few g c =
    let runs : records_of c.as_slice-3.result.now ≡ (group_year (runs_in c.args.list.now) c.args.group.now).runs =
    ap records_of c.as_slice-3.ensures.value ∙ c.in_ok-runs.ensures ∙ (λ i. put_runs (c.as_slice.ensures.value i) (c.old_of-old.ensures.records i)) in
    let rising = subst (IsRising day_cmp record_day) c.old_of-old.ensures.records (c.old_of-old.ensures.kept (plans_in c.args.plans.now) c.requires.years).rising in
    let few = group_few (plans_in c.args.plans.now) c.args.list.now c.args.group.now c.requires.years c.requires.group rising in
    omega (arith, ap length runs, length-map c.as_slice-3.result.now now_of, few)

pub returns-clause-done : goal.returns-clause-done
returns-clause-done g c =
    let plans = plans_in c.args.plans.now in
    let group = c.args.group.now in
    let old = c.old_of-old in
    let runs : records_of c.as_slice-3.result.now ≡ (group_year (runs_in c.args.list.now) group).runs =
    ap records_of c.as_slice-3.ensures.value ∙ c.in_ok-runs.ensures ∙ (λ i. put_runs (c.as_slice.ensures.value i) (old.ensures.records i)) in
    let rising = subst (IsRising day_cmp record_day) old.ensures.records (old.ensures.kept plans c.requires.years).rising in
    let is = subst (λ t. IsRecalculated (pick plans) (job_by (pick plans) t) (group_year (runs_in c.args.list.now) group).runs c.in_ok-done.done) old.ensures.records
    (subst (λ t. IsRecalculated (pick plans) (job_by (pick plans) old.result.records.now) t c.in_ok-done.done) runs c.in_ok-done.ensures.done) in
    computed_group plans c.args.list.now group _ c.in_ok-done.done c.requires.years c.requires.group rising is refl refl
    (record { none = c.in_ok-room.ensures.items; bare = c.in_ok-room.ensures.len; enough = omega (arith, c.in_ok-room.ensures.capacity, ap length old.ensures.records, c.len.ensures) })
