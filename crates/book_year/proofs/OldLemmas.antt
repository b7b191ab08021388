-- What is kept of a year tells the jobs of its days.
use Rattle.std.proofs.Common.{◌≡◌, ℕ, zero, suc, ◌<◌, List, [], ◌∷◌, ◌++◌, length, get_or, Option, Some, None, refl, sym, ap, subst, ◌∙◌, arith}
use Rattle.std.specs.List.{AllByRecursion}
use Rattle.std.specs.Option.{option_map}
use Rattle.std.specs.declared.cmp.Ordering.{Ordering}
use Rattle.std.proofs.lemmas.List.{get_or-map, length-map}
use Rattle.rising_lists.specs.Keyed.{at_key}
use Rattle.rising_lists.specs.Places.{IsAt, IsGap}
use Rattle.rising_lists.proofs.Laws.{at_tail, gap_tail, gap_first}
use Rattle.scaled_decimal.specs.Decimals.{Decimal}
use Rattle.payroll_records.specs.declared.day.Day.{Day}
use Rattle.payroll_records.specs.declared.record.Record.{Record}
use Rattle.payroll_records.specs.declared.values.NamedValue.{NamedValue}
use Rattle.payroll_records.specs.Orders.{day_cmp}
use Rattle.payroll_records.proofs.Laws.{day_total, day_same}
use Rattle.plan_calendar.specs.Picking.{Entry, plan_of}
use Rattle.carry_bindings.specs.Conditions.{AreBounded}
use Rattle.carry_bindings.specs.declared.carried.Earlier.{Earlier}
use Rattle.carry_bindings.specs.declared.filling.Filled.{Filled}
use Rattle.carry_bindings.specs.declared.filling.Filled.TheVariants as filling
use Rattle.pay_run.specs.Runs.{filled, run_outputs}
use Rattle.book_year.specs.Accepted.{Accepted}
use Rattle.book_year.specs.declared.outcome.State.{State}
use Rattle.book_year.specs.declared.outcome.State.TheVariants as state
use Rattle.book_year.specs.declared.outcome.Outcome.{Outcome}
use Rattle.book_year.specs.declared.chain.OldJob.{OldJob}
use Rattle.book_year.specs.Records.{record_day}
use Rattle.book_year.specs.Rows.{Planned, Job, Row, row_of, row_filled, rows, year_rows, earlier_of, done_outputs}
use Rattle.book_year.specs.Jobs.{job_at}
use Rattle.book_year.specs.Kept.{AreKept, IsBounded, kept}
use Rattle.book_year.specs.private.ChainClauses.{outcome_job, outcome_parts, old_parts, IsOldJob}
use Rattle.book_year.proofs.RowLemmas.{row_of_day}

abbrev pub row_day : Row → Day
row_day row = row.day

-- a run with a job has run: its outputs are those of the job, whose plan is that of its day
abbrev pub JobIsSound : Option (Entry Accepted) → State → Option Job → Type 0
JobIsSound o s None = Unit {0}
JobIsSound o s (Some j) = (s ≡ state.Done (run_outputs j.plan j.inputs)) × (option_map plan_of o ≡ Some j.plan)

filled_sound : (e : Entry Accepted) (d : Day) (f : Filled) → JobIsSound (Some e) (row_filled e d f).state (row_filled e d f).job
filled_sound e d (filling.Inputs is) = (refl, refl)
filled_sound e d (filling.State why) = tt

row_sound : (o : Option (Entry Accepted)) (earlier : List Earlier) (r : Record) → JobIsSound o (row_of o earlier r).state (row_of o earlier r).job
row_sound None earlier r = tt
row_sound (Some e) earlier r = filled_sound e r.day (filled (plan_of e) r.values earlier)

-- what an outcome has kept is the old job, where there was one
pub old_is : (was : Option (Entry Accepted)) (s : State) (j : Option Job) (result : Option OldJob) → JobIsSound was s j → AreBounded (done_outputs s) →
    option_map old_parts result ≡ outcome_parts (option_map (λ j. j.inputs) j) (done_outputs s) → IsOldJob was j result
old_is was s None None sound bounded e = refl
old_is was s None (Some o) sound bounded e = cc
old_is was s (Some j) None sound bounded e = let f = rw sound.0 at e in cc
old_is was s (Some j) (Some o) sound bounded e =
    let f = rw sound.0 at e in
    let parts : ◌≡◌ {A = List Decimal × List NamedValue} (o.inputs.now, o.outputs.now) (j.inputs, run_outputs j.plan j.inputs) = cc in
    let inputs : o.inputs.now ≡ j.inputs = ap (λ (t : List Decimal × List NamedValue). t.0) parts in
    let outputs : o.outputs.now ≡ run_outputs j.plan j.inputs = ap (λ (t : List Decimal × List NamedValue). t.1) parts in
    record {
      plan = j.plan;
      is = rw inputs;
      outputs = rw inputs outputs;
      planned = sound.1;
      bounded = rw outputs (subst (λ t. AreBounded (done_outputs t)) sound.0 bounded);
    }

abbrev pub next : Planned → List Earlier → Record → List Earlier
next planned earlier r = earlier ++ earlier_of (row_of (planned r.day) earlier r) ∷ []

pub all_at : {X : Type 0} (P : X → Type 0) (xs : List X) (i : ℕ) (d : X) → AllByRecursion P xs → i < length xs → P (get_or xs i d)
all_at P [] i d h l = absurd (omega arith)
all_at P (x ∷ xs) zero d h l = h.0
all_at P (x ∷ xs) (suc i) d h l = all_at P xs i d h.1 (omega arith)

module _ (planned : Planned) where
  pub rows_length : (earlier : List Earlier) (rs : List Record) → length (rows planned earlier rs) ≡ length rs
  rows_length earlier [] = refl
  rows_length earlier (r ∷ rs) = ap suc (rows_length (next planned earlier r) rs)

  -- the run at a day's place is sound
  pub rows_sound : (earlier : List Earlier) (rs : List Record) (k : Day) (i : ℕ) (d : Row) → IsAt day_cmp record_day rs k i →
      JobIsSound (planned k) (get_or (rows planned earlier rs) i d).state (get_or (rows planned earlier rs) i d).job
  rows_sound earlier [] k i d h = absurd (omega (arith, h.within))
  rows_sound earlier (r ∷ rs) k zero d h =
      subst (λ t. JobIsSound (planned t) (row_of (planned r.day) earlier r).state (row_of (planned r.day) earlier r).job) (day_same r.day k (h.here r)) (row_sound (planned r.day) earlier r)
  rows_sound earlier (r ∷ rs) k (suc i) d h = rows_sound (next planned earlier r) rs k i d (at_tail day_cmp day_total record_day r rs k i h)

  row_tie : (earlier : List Earlier) (r : Record) (k : Day) (o : Ordering) → day_cmp r.day k ≡ o → day_cmp (row_of (planned r.day) earlier r).day k ≡ o
  row_tie earlier r k o e = ap (λ t. day_cmp t k) (row_of_day (planned r.day) earlier r) ∙ e

  -- the row at a day's place
  pub row_here : (earlier : List Earlier) (rs : List Record) (k : Day) (i : ℕ) (d : Row) → IsAt day_cmp record_day rs k i → at_key day_cmp row_day (rows planned earlier rs) k ≡ Some (get_or (rows planned earlier rs) i d)
  row_here earlier [] k i d h = absurd (omega (arith, h.within))
  row_here earlier (r ∷ rs) k zero d h = rw (row_tie earlier r k _ (h.here r))
  row_here earlier (r ∷ rs) k (suc i) d h = rw (row_tie earlier r k _ (h.before 0 r (omega arith))) (row_here (next planned earlier r) rs k i d (at_tail day_cmp day_total record_day r rs k i h))

  pub row_gap : (earlier : List Earlier) (rs : List Record) (k : Day) (i : ℕ) → IsGap day_cmp record_day rs k i → at_key day_cmp row_day (rows planned earlier rs) k ≡ None
  row_gap earlier [] k i h = refl
  row_gap earlier (r ∷ rs) k zero h = rw (row_tie earlier r k _ (h.after 0 r (omega arith) (omega arith))) (row_gap (next planned earlier r) rs k zero (gap_first day_cmp day_total record_day r rs k h))
  row_gap earlier (r ∷ rs) k (suc i) h = rw (row_tie earlier r k _ (h.before 0 r (omega arith))) (row_gap (next planned earlier r) rs k i (gap_tail day_cmp day_total record_day r rs k i h))

  -- the job of the day at a place
  pub job_here : (rs : List Record) (k : Day) (i : ℕ) (d : Row) → IsAt day_cmp record_day rs k i → job_at (year_rows planned rs) k ≡ (get_or (year_rows planned rs) i d).job
  job_here rs k i d h = rw (row_here [] rs k i d h)

  pub job_gap : (rs : List Record) (k : Day) (i : ℕ) → IsGap day_cmp record_day rs k i → job_at (year_rows planned rs) k ≡ None
  job_gap rs k i h = rw (row_gap [] rs k i h)

  -- what is kept at a day's place tells its old job
  pub old_at : (rs : List Record) (outcomes : List Outcome) (k : Day) (i : ℕ) (o : Outcome) (result : Option OldJob) → AreKept planned rs outcomes → IsAt day_cmp record_day rs k i → o ≡ get_or outcomes i o →
      option_map old_parts result ≡ outcome_job o → IsOldJob (planned k) (job_at (year_rows planned rs) k) result
  old_at rs outcomes k i o result are h read e =
      let d : Row = record { day = k; plan = None; job = None; state = state.NoPlan } in
      let all = year_rows planned rs in
      let row = get_or all i d in
      let long = rows_length [] rs in
      let same : o ≡ kept row = read ∙ ap (λ t. get_or t i o) are.are ∙ get_or-map kept all i d o (omega (arith, h.within)) in
      let in_range : i < length outcomes = omega (arith, ap length are.are, length-map all kept, h.within) in
      let bounded : AreBounded (done_outputs row.state) = subst (λ (t : Outcome). AreBounded (done_outputs t.state)) (sym read ∙ same) (all_at IsBounded outcomes i o are.bounded in_range) in
      rw (job_here rs k i d h) (old_is (planned k) row.state row.job result (rows_sound [] rs k i d h) bounded (e ∙ ap outcome_job same))
