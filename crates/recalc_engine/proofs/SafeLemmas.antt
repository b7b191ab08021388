-- The job of each run of a book is safe: it is filled from kept values, after runs whose outputs keep their bound.
use Rattle.std.proofs.Common.{◌≡◌, ◌+◌, ◌≤◌, List, [], ◌∷◌, ◌++◌, length, Option, Some, None, refl, subst, arith}
use Rattle.std.specs.Prelude.{All, ⊤}
use Rattle.std.specs.List.{AllByRecursion, flat_map}
use Rattle.std.specs.Option.{option_and_then}
use Rattle.std.proofs.lemmas.List.{length-append}
use Rattle.std.proofs.lemmas.List.Elements.{All-nil, All-cons}
use Rattle.scaled_decimal.specs.Decimals.{Decimal}
use Rattle.scaled_decimal.specs.Limits.{IsKept}
use Rattle.rising_lists.specs.Keyed.{at_key, IsRising}
use Rattle.pap_tree.specs.declared.declaration.Kind.{Kind}
use Rattle.pap_tree.specs.declared.declaration.Kind.TheVariants as kinds
use Rattle.pap_tree.specs.Declarations.{Declaration}
use Rattle.limits_file.specs.Limits.{IsWithinBound}
use Rattle.pap_types.specs.Meaning.{AreInputs, IsSafeFor, SuitsKind}
use Rattle.interval_walk.specs.Ranges.{Ranges}
use Rattle.interval_walk.specs.Soundness.{AreOutputs}
use Rattle.payroll_records.specs.declared.day.Day.{Day}
use Rattle.payroll_records.specs.declared.record.Record.{Record}
use Rattle.payroll_records.specs.declared.values.NamedValue.{NamedValue}
use Rattle.payroll_records.specs.Orders.{day_cmp}
use Rattle.plan_calendar.specs.Picking.{Entry, pick, plan_of}
use Rattle.carry_bindings.specs.Conditions.{AreBounded}
use Rattle.carry_bindings.specs.Limits.{most_runs}
use Rattle.carry_bindings.specs.declared.carried.Earlier.{Earlier}
use Rattle.carry_bindings.specs.declared.filling.Filled.{Filled}
use Rattle.carry_bindings.specs.declared.filling.Filled.TheVariants as filling
use Rattle.pap_plan.specs.AcceptanceLaws.{RunsToItsEnd}
use Rattle.pap_plan.proofs.Laws.{never_fail, some_slots}
use Rattle.pay_run.specs.Runs.{IsKeptValue, filled, named_values, run_outputs}
use Rattle.pay_run.proofs.Laws.{filled_safe, outputs_are}
use Rattle.book_year.specs.Accepted.{Accepted}
use Rattle.book_year.specs.Records.{record_day}
use Rattle.book_year.specs.Rows.{Job, Planned, Row, done_outputs, row_filled, row_of, rows, year_rows}
use Rattle.book_year.proofs.Laws.{own_few}
use Rattle.book_edits.specs.Books.{YearRuns, runs_key, runs_or_none, year_cmp, year_of}
use Rattle.recalc_engine.specs.BookLaws.{HasKeptValues, HasOwnRuns, IsAcceptedPlan, IsSafeJob, JobsAreSafe}
use Rattle.recalc_engine.specs.private.BookLaws.{HasPlan}
use Rattle.recalc_engine.proofs.JobLemmas.{admits_filled, all_at_key}
use Rattle.recalc_engine.proofs.OutputLemmas.{all_both, picked_plan}
use Rattle.recalc_engine.proofs.RowLemmas.{next, row_day}

-- ---- a run of an accepted plan keeps the bound of outputs

kept_as : (kind : Kind) (v : Decimal) → SuitsKind kind v → IsKept v
kept_as kinds.Int v h = h.0
kept_as kinds.Long v h = h.0
kept_as kinds.Factor v h = h.0
kept_as kinds.Big v h = h
kept_as kinds.Table v h = h

given_kept : (ds : List Declaration) (vs : List Decimal) → AreInputs ds vs → All IsKept vs
given_kept [] [] h = All-nil IsKept
given_kept [] (v ∷ vs) h = absurd h
given_kept (d ∷ ds) [] h = absurd h
given_kept (d ∷ ds) (v ∷ vs) h = All-cons IsKept v vs (kept_as d.kind v h.0) (given_kept ds vs h.1)

named_bounded : (ds : List Declaration) (ranges : Ranges) (vs : List Decimal) → AreOutputs ranges vs →
    AllByRecursion (λ (v : NamedValue). IsWithinBound v.value) (named_values ds vs)
named_bounded [] ranges vs h = tt
named_bounded (d ∷ ds) ranges [] h = tt
named_bounded (d ∷ ds) [] (v ∷ vs) h = absurd h
named_bounded (d ∷ ds) (r ∷ ranges) (v ∷ vs) h = (h.0.bound, named_bounded ds ranges vs h.1)

module _ (p : Accepted) (plan : IsAcceptedPlan p) (values : List NamedValue) (earlier : List Earlier) (inputs : List Decimal)
    (is : filled p values earlier ≡ filling.Inputs inputs) (safe : IsSafeFor p.meaning.flowchart inputs) where
  filled_runs : RunsToItsEnd p.meaning inputs
  filled_runs =
      let m = p.meaning in
      let slots = some_slots m.limits m.flowchart.inputs plan.bound.suited.suited in
      let kept = given_kept m.flowchart.inputs inputs safe.given in
      never_fail p.plan p.limits m plan inputs (admits_filled p slots.0 inputs plan slots.1 kept values earlier is)

run_bounded : (p : Accepted) (inputs : List Decimal) → RunsToItsEnd p.meaning inputs →
    AreBounded (Some (run_outputs p inputs))
run_bounded p inputs runs =
    subst (λ os. AreBounded (Some os)) (outputs_are p inputs runs.outputs runs.are)
    (named_bounded p.meaning.flowchart.outputs p.meaning.outputs runs.outputs runs.within)

-- ---- the runs of a year, each after those before it

-- the job, where there is one, is safe
abbrev HasSafeJob : Option Job → Type 0
HasSafeJob None = ⊤
HasSafeJob (Some j) = IsSafeJob j

-- the run's job is safe, and its outputs keep their bound
record IsSound (row : Row) : Type 0 where
  job : HasSafeJob row.job
  bounded : AreBounded (done_outputs row.state)

abbrev KeepBound : List Earlier → Type 0
KeepBound earlier = AllByRecursion (λ (e : Earlier). AreBounded e.outputs) earlier

module _ (e : Entry Accepted) (d : Day) (plan : IsAcceptedPlan (plan_of e)) (values : List NamedValue)
    (kept : All IsKeptValue values) (earlier : List Earlier) (few : length earlier ≤ most_runs)
    (bounded : KeepBound earlier) where
  filled_sound : (f : Filled) → filled (plan_of e) values earlier ≡ f → IsSound (row_filled e d f)
  filled_sound (filling.Inputs inputs) is =
      let safe = filled_safe (plan_of e) values earlier inputs plan kept few bounded is in
      let runs = filled_runs (plan_of e) plan values earlier inputs is safe in
      record { job = record { plan = plan; runs = runs }; bounded = run_bounded (plan_of e) inputs runs }
  filled_sound (filling.State why) is = record { job = tt; bounded = tt }

row_sound : (o : Option (Entry Accepted)) → HasPlan o → (earlier : List Earlier) → length earlier ≤ most_runs →
    KeepBound earlier → (r : Record) → HasKeptValues r → IsSound (row_of o earlier r)
row_sound None plan earlier few bounded r kept = record { job = tt; bounded = tt }
row_sound (Some e) plan earlier few bounded r kept =
    filled_sound e r.day plan r.values kept earlier few bounded (filled (plan_of e) r.values earlier) refl

rows_safe : (planned : Planned) → ((d : Day) → HasPlan (planned d)) → (earlier : List Earlier) → KeepBound earlier →
    (rs : List Record) → length earlier + length rs ≤ most_runs → AllByRecursion HasKeptValues rs →
    AllByRecursion (λ row. HasSafeJob row.job) (rows planned earlier rs)
rows_safe planned plans earlier bounded [] few kept = tt
rows_safe planned plans earlier bounded (r ∷ rs) few kept =
    let first = row_sound (planned r.day) (plans r.day) earlier (omega (arith, few)) bounded r kept.0 in
    let more : KeepBound (next planned earlier r) =
    all_both (λ (e : Earlier). AreBounded e.outputs) earlier _ bounded (first.bounded, tt) in
    let long : length (next planned earlier r) + length rs ≤ most_runs = omega (arith, few, length-append earlier) in
    (first.job, rows_safe planned plans (next planned earlier r) more rs long kept.1)

-- ---- the runs of a book

front_kept : (rs ss : List Record) → AllByRecursion HasKeptValues (rs ++ ss) →
    AllByRecursion HasKeptValues rs × AllByRecursion HasKeptValues ss
front_kept [] ss h = (tt, h)
front_kept (r ∷ rs) ss h = let rest = front_kept rs ss h.1 in ((h.0, rest.0), rest.1)

-- what the runs of a year keep
record IsSoundYear (y : YearRuns) : Type 0 where
  days : IsRising day_cmp record_day y.runs
  own : HasOwnRuns y
  kept : AllByRecursion HasKeptValues y.runs

sound_years : (ys : List YearRuns) → AllByRecursion (λ y. IsRising day_cmp record_day y.runs) ys →
    AllByRecursion HasOwnRuns ys → AllByRecursion HasKeptValues (flat_map (λ (y : YearRuns). y.runs) ys) →
    AllByRecursion IsSoundYear ys
sound_years [] days own kept = tt
sound_years (y ∷ ys) days own kept =
    let parts = front_kept y.runs (flat_map (λ (y : YearRuns). y.runs) ys) kept in
    (record { days = days.0; own = own.0; kept = parts.0 }, sound_years ys days.1 own.1 parts.1)

pub jobs_safe : JobsAreSafe
jobs_safe book k j h kept job = by_year (at_key year_cmp runs_key book.years (year_of k)) refl job
  where
    rows_by : Option YearRuns → List Row
    rows_by o = year_rows (pick book.plans) (runs_or_none o)

    job_by : Option YearRuns → Option Job
    job_by o = option_and_then (λ (row : Row). row.job) (at_key day_cmp row_day (rows_by o) k.day)

    by_row : (rs : List Row) → AllByRecursion (λ row. HasSafeJob row.job) rs → (o : Option Row) →
        at_key day_cmp row_day rs k.day ≡ o → option_and_then (λ (row : Row). row.job) o ≡ Some j →
        HasSafeJob (Some j)
    by_row rs all None e is = cc
    by_row rs all (Some row) e is =
        subst HasSafeJob is (all_at_key day_cmp row_day (λ row. HasSafeJob row.job) rs k.day row all e)

    by_year : (o : Option YearRuns) → at_key year_cmp runs_key book.years (year_of k) ≡ o → job_by o ≡ Some j →
        HasSafeJob (Some j)
    by_year None e is = cc
    by_year (Some y) e is =
        let years = sound_years book.years h.order.days h.own kept in
        let year = all_at_key year_cmp runs_key IsSoundYear book.years (year_of k) y years e in
        let rs = year_rows (pick book.plans) y.runs in
        let few = own_few y.key y.runs year.days year.own in
        let all = rows_safe (pick book.plans) (λ d. picked_plan book.plans d h.entries h.plans) [] tt y.runs
        (omega (arith, few)) year.kept in
        by_row rs all (at_key day_cmp row_day rs k.day) refl is
