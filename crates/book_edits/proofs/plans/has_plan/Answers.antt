use Rattle.std.proofs.Common.{rules, sym, ◌∙◌}
use Rattle.std.proofs.lemmas.List.Sorted.{answers_always}
use Rattle.rising_lists.proofs.Laws.{found}
use Rattle.pap_plan.specs.Plans.{Seen}
use Rattle.payroll_records.specs.Orders.{day_cmp}
use Rattle.payroll_records.proofs.Laws.{day_total}
use Rattle.plan_calendar.specs.Picking.{day_of}
use Rattle.book_edits.proofs.PlanLemmas.{found_or_not, plan_there}
use Rattle.book_edits.proofs.plans.has_plan.Goals as goal

pub returns : goal.returns
returns c =
    let es = c.args.entries.now in
    let facts = c.binary_search_by_key.ensures in
    let by_day = facts.position (day_of {P = Seen}) (answers_always _ _ _ (λ f a r g called. search rules)) in
    let both = found day_cmp day_total (day_of {P = Seen}) es c.args.day c.binary_search_by_key.result c.requires.rising facts.bound by_day in
    c.is_ok.ensures.value ∙ found_or_not es c.args.day c.binary_search_by_key.result both.0 both.1 ∙ sym (plan_there es c.args.day)
