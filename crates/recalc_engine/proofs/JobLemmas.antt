-- The job of a key's run, as it is kept.
use Rattle.std.proofs.Common.{◌≡◌, ℕ, List, [], ◌∷◌, get_or, true, false, Option, Some, None, option_map, if◌then◌else◌, refl, sym, ap, subst, ◌∙◌, arith}
use Rattle.std.specs.Prelude.{All}
use Rattle.std.specs.List.{AllByRecursion}
use Rattle.std.specs.Option.{option_and_then}
use Rattle.std.specs.declared.cmp.Ordering.{Ordering}
use Rattle.std.specs.Ordering.{is_eq}
use Rattle.std.proofs.lemmas.List.{get_or-map}
use Rattle.scaled_decimal.specs.Decimals.{Decimal}
use Rattle.scaled_decimal.specs.Limits.{IsKept}
use Rattle.limits_file.specs.declared.slots.Slot.{Slot}
use Rattle.rising_lists.specs.Keyed.{at_key}
use Rattle.rising_lists.specs.Places.{IsAt, IsGap}
use Rattle.payroll_records.specs.declared.day.Day.{Day}
use Rattle.payroll_records.specs.declared.record.Record.{Record}
use Rattle.payroll_records.specs.declared.record.Key.{Key}
use Rattle.payroll_records.specs.declared.values.NamedValue.{NamedValue}
use Rattle.payroll_records.specs.Orders.{day_cmp}
use Rattle.plan_calendar.specs.Picking.{Entry, plan_of, pick}
use Rattle.carry_bindings.specs.Filling.{filled_by}
use Rattle.carry_bindings.specs.declared.carried.Earlier.{Earlier}
use Rattle.carry_bindings.specs.declared.filling.Filled.{Filled}
use Rattle.carry_bindings.specs.declared.filling.Filled.TheVariants as filling
use Rattle.pap_plan.specs.Acceptance.{IsAccepted}
use Rattle.pap_plan.specs.Inputs.{AreSlots}
use Rattle.pap_plan.specs.Plans.{Seen}
use Rattle.pap_plan.proofs.Laws.{accepted_limits}
use Rattle.pay_run.proofs.Laws.{are_slots, filled_admitted}
use Rattle.pay_run.specs.Runs.{filled}
use Rattle.book_year.specs.Accepted.{Accepted, accepted, accepted_entry, plans_in}
use Rattle.book_year.specs.declared.outcome.Outcome.{Outcome}
use Rattle.book_year.specs.declared.year.Year.{Year}
use Rattle.book_year.specs.Records.{record_day}
use Rattle.book_year.specs.Rows.{Planned, Job, Row, job_of, done_outputs, row_filled, row_of, year_rows}
use Rattle.book_year.specs.Kept.{AreKept, job_by, kept}
use Rattle.book_year.specs.Years.{IsYear}
use Rattle.book_year.proofs.Laws.{pick_in, rows_length}
use Rattle.book_edits.specs.Books.{runs_of, year_cmp, year_of}
use Rattle.book_edits.specs.Kept.{kept_key, runs_in}
use Rattle.book_edits.proofs.Laws.{runs_kept, runs_missed}
use Rattle.recalc_engine.specs.Jobs.{HasNoOutputs}
use Rattle.recalc_engine.specs.private.JobViews.{AdmitsWhatItFills, job_inputs}
use Rattle.recalc_engine.proofs.RowLemmas.{IsRunOn, row_day, row_gap, row_here, run_on}

-- ---- an employee's year

module _ {K X : Type 0} (cmp : K → K → Ordering) (key : X → K) (P : X → Type 0) where
  some_same : (x y : X) → ◌≡◌ {A = Option X} (Some x) (Some y) → x ≡ y
  some_same x y e = cc e

  -- what holds of all elements holds of the one at a key
  pub all_at_key : (xs : List X) (k : K) (x : X) → AllByRecursion P xs → at_key cmp key xs k ≡ Some x → P x
  all_at_key [] k x all h = cc
  all_at_key (y ∷ ys) k x all h =
      (elim (is_eq (cmp (key y) k)) as (λ b. (if b then Some y else at_key cmp key ys k) ≡ Some x → P x) [
        | true ↦ λ e. subst P (some_same y x e) all.0
        | false ↦ λ e. all_at_key ys k x all.1 e
      ]) h

-- the run of a key among these years, computed anew
abbrev pub row_in : List (Entry Accepted) → List Year → Key → Option Row
row_in plans ys k = at_key day_cmp row_day (year_rows (pick plans) (runs_of (runs_in ys) (year_of k))) k.day

abbrev pub job_of_row : Option Row → Option Job
job_of_row o = option_and_then (λ row. row.job) o

module _ (plans : List (Entry Accepted)) (ys read : List Year) (k : Key) (same : read ≡ ys) where
  -- where the year isn't there, nor is the run
  pub no_year : None ≡ at_key year_cmp kept_key read (year_of k) → row_in plans ys k ≡ None
  no_year h = ap (λ rs. at_key day_cmp row_day (year_rows (pick plans) rs) k.day) (runs_missed ys (year_of k) (ap (λ l. at_key year_cmp kept_key l (year_of k)) (sym same) ∙ sym h))

  -- where it is there, the run is that of its day
  pub year_row : (y : Year) → Some y ≡ at_key year_cmp kept_key read (year_of k) → row_in plans ys k ≡ at_key day_cmp row_day (year_rows (pick plans) y.records.items) k.day
  year_row y h = ap (λ rs. at_key day_cmp row_day (year_rows (pick plans) rs) k.day) (runs_kept ys (year_of k) y (ap (λ l. at_key year_cmp kept_key l (year_of k)) (sym same) ∙ sym h))

  pub year_is : (y : Year) → Some y ≡ at_key year_cmp kept_key read (year_of k) → AllByRecursion (IsYear plans) ys → IsYear plans y
  year_is y h each = all_at_key year_cmp kept_key (IsYear plans) ys (year_of k) y each (ap (λ l. at_key year_cmp kept_key l (year_of k)) (sym same) ∙ sym h)

-- ---- the inputs of a run

-- what is kept at the place of a day's record has the inputs of its job
pub inputs_here : (planned : Planned) (rs : List Record) (outcomes : List Outcome) (d : Day) (i : ℕ) (o : Outcome) → AreKept planned rs outcomes → IsAt day_cmp record_day rs d i → o ≡ get_or outcomes i o → o.inputs ≡ option_map job_inputs (job_by planned rs d)
inputs_here planned rs outcomes d i o are h read =
    let all = year_rows planned rs in
    let none : Row = record { day = d; plan = None; job = None; state = o.state } in
    let row = get_or all i none in
    let same : o ≡ kept row = read ∙ ap (λ t. get_or t i o) are.are ∙ get_or-map kept all i none o (omega (arith, rows_length planned [] rs, h.within)) in
    ap (λ (t : Outcome). t.inputs) same ∙ sym (ap (λ t. option_map job_inputs (option_and_then (λ (x : Row). x.job) t)) (row_here planned [] rs d i none h))

pub inputs_gap : (planned : Planned) (rs : List Record) (d : Day) (i : ℕ) → IsGap day_cmp record_day rs d i → job_by planned rs d ≡ None
inputs_gap planned rs d i h = ap (λ t. option_and_then (λ (x : Row). x.job) t) (row_gap planned [] rs d i h)

-- ---- the job of a run that has inputs

pub record IsFilled (planned : Planned) (rs : List Record) (d : Day) (inputs : List Decimal) : Type 0 where
  pub entry : Entry Accepted
  pub picked : planned d ≡ Some entry
  pub job : job_by planned rs d ≡ Some (job_of (plan_of entry) inputs)
  pub values : List NamedValue
  pub earlier : List Earlier
  pub filled : filled (plan_of entry) values earlier ≡ filling.Inputs inputs

one_list : (a b : List Decimal) → ◌≡◌ {A = Option (List Decimal)} (Some a) (Some b) → a ≡ b
one_list a b h = cc h

no_list : (a : List Decimal) → ◌≡◌ {A = Option (List Decimal)} (Some a) None → ⊥
no_list a h = cc h

one_of : {X : Type 0} (x y : X) → ◌≡◌ {A = Option X} (Some x) (Some y) → x ≡ y
one_of x y h = cc h

none_of : {X : Type 0} (x : X) → ◌≡◌ {A = Option X} None (Some x) → ⊥
none_of x h = cc h

-- the parts of a run's job
record HasParts (planned : Planned) (d : Day) (own : Option Job) (inputs : List Decimal) : Type 0 where
  pub entry : Entry Accepted
  pub picked : planned d ≡ Some entry
  pub job : own ≡ Some (job_of (plan_of entry) inputs)
  pub values : List NamedValue
  pub earlier : List Earlier
  pub filled : filled (plan_of entry) values earlier ≡ filling.Inputs inputs

module _ (planned : Planned) (d : Day) where
  filled_parts : (e : Entry Accepted) (values : List NamedValue) (earlier : List Earlier) (f : Filled) (on : Day) (inputs : List Decimal) → planned d ≡ Some e → filled (plan_of e) values earlier ≡ f → Some inputs ≡ option_map job_inputs (row_filled e on f).job →
      HasParts planned d (row_filled e on f).job inputs
  filled_parts e values earlier (filling.Inputs these) on inputs picked is h =
      let same = one_list inputs these h in
      record {
        entry = e;
        picked = picked;
        job = ap (λ t. Some (job_of (plan_of e) t)) (sym same);
        values = values;
        earlier = earlier;
        filled = is ∙ ap filling.Inputs (sym same);
      }
  filled_parts e values earlier (filling.State why) on inputs picked is h = absurd (no_list inputs h)

  row_parts : (o : Option (Entry Accepted)) (earlier : List Earlier) (r : Record) (inputs : List Decimal) → planned d ≡ o → Some inputs ≡ option_map job_inputs (row_of o earlier r).job → HasParts planned d (row_of o earlier r).job inputs
  row_parts None earlier r inputs picked h = absurd (no_list inputs h)
  row_parts (Some e) earlier r inputs picked h = filled_parts e r.values earlier (filled (plan_of e) r.values earlier) r.day inputs picked refl h

  filled_outputs : (e : Entry Accepted) (on : Day) (f : Filled) → (row_filled e on f).job ≡ None → done_outputs (row_filled e on f).state ≡ None
  filled_outputs e on (filling.Inputs these) h = cc h
  filled_outputs e on (filling.State why) h = refl

  row_outputs : (o : Option (Entry Accepted)) (earlier : List Earlier) (r : Record) → (row_of o earlier r).job ≡ None → done_outputs (row_of o earlier r).state ≡ None
  row_outputs None earlier r h = refl
  row_outputs (Some e) earlier r h = filled_outputs e r.day (filled (plan_of e) r.values earlier) h

-- the run of a day that has these inputs was filled with them
pub filled_on : (planned : Planned) (rs : List Record) (d : Day) (inputs : List Decimal) → Some inputs ≡ option_map job_inputs (job_by planned rs d) → IsFilled planned rs d inputs
filled_on planned rs d inputs h = by_row (at_key day_cmp row_day (year_rows planned rs) d) refl
  where
    by_run : (row : Row) → at_key day_cmp row_day (year_rows planned rs) d ≡ Some row → IsRunOn planned d row → IsFilled planned rs d inputs
    by_run row e run =
        let job : job_by planned rs d ≡ (row_of (planned d) run.earlier run.item).job = ap (λ t. option_and_then (λ (x : Row). x.job) t) e ∙ ap (λ (t : Row). t.job) run.is in
        let parts = row_parts planned d (planned d) run.earlier run.item inputs refl (h ∙ ap (λ t. option_map job_inputs t) job) in
        record {
          entry = parts.entry;
          picked = parts.picked;
          job = job ∙ parts.job;
          values = parts.values;
          earlier = parts.earlier;
          filled = parts.filled;
        }

    by_row : (o : Option Row) → at_key day_cmp row_day (year_rows planned rs) d ≡ o → IsFilled planned rs d inputs
    by_row None e = let g = h ∙ ap (λ t. option_map job_inputs (option_and_then (λ (x : Row). x.job) t)) e in absurd (no_list inputs g)
    by_row (Some row) e = by_run row e (run_on planned [] rs d row e)

-- a run without inputs has no job
pub no_job : (o : Option Job) → None ≡ option_map job_inputs o → None ≡ o
no_job None e = refl
no_job (Some j) e = cc e

-- the run of a day that has no inputs has no outputs
pub none_on : (planned : Planned) (rs : List Record) (d : Day) → None ≡ option_map job_inputs (job_by planned rs d) → HasNoOutputs (at_key day_cmp row_day (year_rows planned rs) d)
none_on planned rs d h = by_row (at_key day_cmp row_day (year_rows planned rs) d) refl
  where
    by_run : (row : Row) → row.job ≡ None → IsRunOn planned d row → done_outputs row.state ≡ None
    by_run row e run =
        ap (λ (t : Row). done_outputs t.state) run.is ∙ row_outputs planned d (planned d) run.earlier run.item (sym (ap (λ (t : Row). t.job) run.is) ∙ e)

    by_row : (o : Option Row) → at_key day_cmp row_day (year_rows planned rs) d ≡ o → HasNoOutputs o
    by_row None e = tt
    by_row (Some row) e = by_run row (sym (no_job row.job (h ∙ ap (λ t. option_map job_inputs (option_and_then (λ (x : Row). x.job) t)) e))) (run_on planned [] rs d row e)

-- what is lent of a run's plan and inputs is its job
pub record IsJob (planned : Planned) (rs : List Record) (d : Day) (p : Accepted) (inputs : List Decimal) : Type 0 where
  pub job : job_by planned rs d ≡ Some (job_of p inputs)
  pub values : List NamedValue
  pub earlier : List Earlier
  pub filled : filled p values earlier ≡ filling.Inputs inputs

module _ (planned : Planned) (rs : List Record) (d : Day) (inputs : List Decimal) (given : Some inputs ≡ option_map job_inputs (job_by planned rs d)) where
  same_plan : (e : Entry Accepted) (from : Day) (p : Accepted) → ◌≡◌ {A = Option (Entry Accepted)} (Some (from, p)) (Some e) → plan_of e ≡ p
  same_plan e from p h =
      let parts : ◌≡◌ {A = Entry Accepted} (from, p) e = one_of (from, p) e h in
      sym (ap (λ (t : Entry Accepted). plan_of t) parts)

  pub job_is : (from : Day) (p : Accepted) → Some (from, p) ≡ planned d → IsJob planned rs d p inputs
  job_is from p h =
      let f = filled_on planned rs d inputs given in
      let same = same_plan f.entry from p (h ∙ f.picked) in
      record {
        job = f.job ∙ ap (λ t. Some (job_of t inputs)) same;
        values = f.values;
        earlier = f.earlier;
        filled = ap (λ t. filled t f.values f.earlier) (sym same) ∙ f.filled;
      }

  -- its day has a plan
  pub has_plan : None ≡ planned d → ⊥
  has_plan h =
      let f = filled_on planned rs d inputs given in
      none_of f.entry (h ∙ f.picked)

-- an accepted plan admits what it fills, if that is kept
pub admits_filled : (p : Accepted) (slots : List Slot) (inputs : List Decimal) → IsAccepted p.plan p.limits p.meaning → AreSlots p.meaning.limits p.meaning.flowchart.inputs slots → All IsKept inputs → AdmitsWhatItFills p inputs
unfolding filled
admits_filled p slots inputs accepted are all values earlier h =
    let by_slots : filled_by slots values earlier ≡ filling.Inputs inputs = ap (λ s. filled_by s values earlier) (sym (are_slots p.meaning.limits p.meaning.flowchart.inputs slots are)) ∙ h in
    let limits = accepted_limits p.plan p.limits p.meaning accepted in
    filled_admitted p.meaning.limits p.meaning.flowchart.inputs slots values earlier inputs limits are all by_slots

-- ---- the plan of a day, which the calendar gives with its code

pub picked_some : (es : List (Entry Seen)) (d from : Day) (p : Seen) → Some (from, p) ≡ pick es d → Some (from, accepted p) ≡ pick (plans_in es) d
picked_some es d from p h = ap (option_map accepted_entry) h ∙ sym (pick_in es d)

pub picked_none : (es : List (Entry Seen)) (d : Day) → None ≡ pick es d → None ≡ pick (plans_in es) d
picked_none es d h = ap (option_map accepted_entry) h ∙ sym (pick_in es d)
