use Rattle.std.proofs.Common.{◌≡◌, length, take, ap, subst, ◌∙◌, None, refl, arith}
use Rattle.std.proofs.lemmas.List.{length-map}
use Rattle.book_year.specs.Accepted.{plans_in}
use Rattle.book_year.specs.declared.picks.Picks.{Picks}
use Rattle.book_year.specs.Records.{AreBefore, records_of, without_run}
use Rattle.book_year.specs.Years.{IsOwn}
use Rattle.book_year.proofs.RecordLemmas.{now_of, rising_without, all_without}
use Rattle.book_year.proofs.BeforeLemmas.{front_without}
use Rattle.book_year.proofs.FrontLemmas.{front_is, plans_stay}
use Rattle.book_year.proofs.YearLemmas.{own_few, computed_done, computed_counted}
use Rattle.book_year.proofs.year.computed_without.Goals as goal

pub recalculate_rest-requires-clause-front : goal.recalculate_rest-requires-clause-front
recalculate_rest-requires-clause-front g c =
    let rs = c.args.year.now.records.items in
    let day = c.args.day in
    let n = c.runs_before-kept.result in
    let runs : records_of c.as_slice.result.now ≡ without_run day rs = ap records_of c.as_slice.ensures.value ∙ c.in_ok-runs.ensures ∙ ap (without_run day) c.as_slice-records.ensures.value in
    let is : AreBefore day rs n = subst (λ t. AreBefore day t n) c.as_slice-records.ensures.value c.runs_before-kept.ensures in
    let picks : Picks = record { plans = c.args.plans; edit = None } in
    front_is picks c.old_of.result c.as_slice.result.now rs (without_run day rs) n c.old_of.ensures.records runs is.within (front_without day rs n is.before) (plans_stay picks (take n rs) refl)

pub recalculate_rest-requires-clause-few : goal.recalculate_rest-requires-clause-few
recalculate_rest-requires-clause-few g c =
    let year = c.args.year.now in
    let rs = year.records.items in
    let day = c.args.day in
    let runs : records_of c.as_slice.result.now ≡ without_run day rs = ap records_of c.as_slice.ensures.value ∙ c.in_ok-runs.ensures ∙ ap (without_run day) c.as_slice-records.ensures.value in
    let few = own_few year.key (without_run day rs) (rising_without day rs c.requires.kept.rising) (all_without (IsOwn year.key) day rs c.requires.own) in
    omega (arith, ap length runs, length-map c.as_slice.result.now now_of, few)

pub returns-clause-done : goal.returns-clause-done
returns-clause-done g c =
    let runs : records_of c.as_slice.result.now ≡ without_run c.args.day c.args.year.now.records.items = ap records_of c.as_slice.ensures.value ∙ c.in_ok-runs.ensures ∙ ap (without_run c.args.day) c.as_slice-records.ensures.value in
    computed_done (plans_in c.args.plans.now) c.args.year.now c.old_of.result.records.now c.as_slice.result.now (without_run c.args.day c.args.year.now.records.items) c.recalculate_rest.result c.old_of.ensures.records runs c.old_of.result.outcomes.now c.old_of.ensures.outcomes c.recalculate_rest.ensures.done

pub returns-clause-counted : goal.returns-clause-counted
returns-clause-counted g c =
    let runs : records_of c.as_slice.result.now ≡ without_run c.args.day c.args.year.now.records.items = ap records_of c.as_slice.ensures.value ∙ c.in_ok-runs.ensures ∙ ap (without_run c.args.day) c.as_slice-records.ensures.value in
    computed_counted (plans_in c.args.plans.now) c.args.year.now c.old_of.result.records.now c.as_slice.result.now (without_run c.args.day c.args.year.now.records.items) c.recalculate_rest.result c.old_of.ensures.records runs c.args.steps.now c.recalculate_rest.new.steps c.recalculate_rest.ensures.counted
