use Rattle.std.proofs.Common.{◌≡◌, length, take, ap, subst, ◌∙◌, None, refl, arith}
use Rattle.std.proofs.lemmas.List.{length-map}
use Rattle.book_year.specs.Accepted.{plans_in}
use Rattle.book_year.specs.declared.picks.Picks.{Picks}
use Rattle.book_year.specs.Records.{AreBefore, records_of, put_run, without_run}
use Rattle.book_year.specs.Years.{IsOwn}
use Rattle.book_year.proofs.RecordLemmas.{now_of, rising_put, all_put, rising_without, all_without}
use Rattle.book_year.proofs.BeforeLemmas.{front_changed}
use Rattle.book_year.proofs.FrontLemmas.{front_is, plans_stay}
use Rattle.book_year.proofs.YearLemmas.{own_few, computed_done, computed_counted}
use Rattle.book_year.proofs.year.computed_with_change.Goals as goal

pub put_reference-requires : goal.put_reference-requires
put_reference-requires g c = rw (c.in_ok-runs.ensures, c.as_slice-records.ensures.value) (rising_without c.args.from c.args.year.now.records.items c.requires.year.kept.rising)

pub recalculate_rest-requires-clause-front : goal.recalculate_rest-requires-clause-front
recalculate_rest-requires-clause-front g c =
    let rs = c.args.year.now.records.items in
    let from = c.args.from in
    let item = c.args.item.now in
    let new = put_run item (without_run from rs) in
    let n = c.min-kept.result in
    let runs : records_of c.as_slice.result.now ≡ new =
    ap records_of c.as_slice.ensures.value ∙ c.in_ok-put_reference.ensures.ok ∙ ap (put_run item) (c.in_ok-runs.ensures ∙ ap (without_run from) c.as_slice-records.ensures.value) in
    let first : AreBefore from rs c.runs_before.result = subst (λ t. AreBefore from t c.runs_before.result) c.as_slice-records.ensures.value c.runs_before.ensures in
    let second : AreBefore item.day rs c.runs_before-2.result = subst (λ t. AreBefore item.day t c.runs_before-2.result) c.as_slice-records.ensures.value c.runs_before-2.ensures in
    let picks : Picks = record { plans = c.args.plans; edit = None } in
    front_is picks c.old_of.result c.as_slice.result.now rs new n c.old_of.ensures.records runs (omega (arith, c.min-kept.ensures, first.within)) (front_changed from item rs c.runs_before.result c.runs_before-2.result n first second c.min-kept.ensures) (plans_stay picks (take n rs) refl)

pub recalculate_rest-requires-clause-few : goal.recalculate_rest-requires-clause-few
recalculate_rest-requires-clause-few g c =
    let year = c.args.year.now in
    let rs = year.records.items in
    let left = without_run c.args.from rs in
    let item = c.args.item.now in
    let runs : records_of c.as_slice.result.now ≡ put_run item left =
    ap records_of c.as_slice.ensures.value ∙ c.in_ok-put_reference.ensures.ok ∙ ap (put_run item) (c.in_ok-runs.ensures ∙ ap (without_run c.args.from) c.as_slice-records.ensures.value) in
    let rising = rising_without c.args.from rs c.requires.year.kept.rising in
    let own = all_without (IsOwn year.key) c.args.from rs c.requires.year.own in
    let few = own_few year.key (put_run item left) (rising_put item left rising) (all_put (IsOwn year.key) item left c.requires.own own) in
    omega (arith, ap length runs, length-map c.as_slice.result.now now_of, few)

pub returns-clause-done : goal.returns-clause-done
returns-clause-done g c =
    let left = without_run c.args.from c.args.year.now.records.items in
    let item = c.args.item.now in
    let runs : records_of c.as_slice.result.now ≡ put_run item left =
    ap records_of c.as_slice.ensures.value ∙ c.in_ok-put_reference.ensures.ok ∙ ap (put_run item) (c.in_ok-runs.ensures ∙ ap (without_run c.args.from) c.as_slice-records.ensures.value) in
    computed_done (plans_in c.args.plans.now) c.args.year.now c.old_of.result.records.now c.as_slice.result.now (put_run item left) c.recalculate_rest.result c.old_of.ensures.records runs c.old_of.result.outcomes.now c.old_of.ensures.outcomes c.recalculate_rest.ensures.done

pub returns-clause-counted : goal.returns-clause-counted
returns-clause-counted g c =
    let left = without_run c.args.from c.args.year.now.records.items in
    let item = c.args.item.now in
    let runs : records_of c.as_slice.result.now ≡ put_run item left =
    ap records_of c.as_slice.ensures.value ∙ c.in_ok-put_reference.ensures.ok ∙ ap (put_run item) (c.in_ok-runs.ensures ∙ ap (without_run c.args.from) c.as_slice-records.ensures.value) in
    computed_counted (plans_in c.args.plans.now) c.args.year.now c.old_of.result.records.now c.as_slice.result.now (put_run item left) c.recalculate_rest.result c.old_of.ensures.records runs c.args.steps.now c.recalculate_rest.new.steps c.recalculate_rest.ensures.counted
