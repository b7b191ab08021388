-- Years computed anew, one after another.
use Rattle.std.proofs.Common.{◌≡◌, ℕ, ◌+◌, ◌*◌, ◌<◌, ◌≤◌, List, [], ◌∷◌, ◌++◌, length, get_or, take, drop, Some, None, refl, sym, ap, ◌∙◌, arith, Result, Err}
use Rattle.std.specs.List.{AllByRecursion}
use Rattle.std.proofs.lemmas.List.{append-nil, length-append, take_more, map-append, take-append-drop}
use Rattle.std.proofs.lemmas.List.Concat.{flat_map-append}
use Rattle.rising_lists.specs.Keyed.{IsRising}
use Rattle.payroll_records.specs.declared.day.Day.{Day}
use Rattle.payroll_records.specs.declared.record.Record.{Record}
use Rattle.book_year.specs.declared.chain.Recalculated.{Recalculated}
use Rattle.book_year.specs.declared.outcome.Work.{Work}
use Rattle.book_year.specs.declared.year.Year.{Year}
use Rattle.book_year.specs.ChainClauses.{IsRecalculated}
use Rattle.book_year.specs.Jobs.{new_jobs, total_cost, Counts}
use Rattle.book_year.specs.Kept.{job_by}
use Rattle.book_year.specs.Rows.{Planned, Job}
use Rattle.book_year.specs.Years.{IsOwn, year_jobs}
use Rattle.book_year.proofs.Laws.{rows_agree, total_append, year_quiet}
use Rattle.book_edits.specs.Books.{YearRuns, runs_of, year_cmp}
use Rattle.book_edits.specs.Kept.{jobs_in, kept_key, runs_in, runs_in_year}
use Rattle.book_edits.specs.declared.redone.RedoneYear.{RedoneYear}
use Rattle.book_edits.specs.RedoneClauses.{New, YearKept, IsYearRedone}
use Rattle.book_edits.specs.private.RedoneClauses.{AllRedone}
use Rattle.book_edits.proofs.YearLemmas.{runs_at}
use Rattle.book_edits.proofs.MergeLemmas.{redone_more}

-- ---- a year whose days keep their plans

module _ (p q : Planned) (y : Year) (same : (d : Day) → d.year ≡ y.key.year → q d ≡ p d) (own : AllByRecursion (IsOwn y.key) y.records.items) (kept : YearKept p y) where
  own_agree : (rs : List Record) → AllByRecursion (IsOwn y.key) rs → AllByRecursion (λ r. p r.day ≡ q r.day) rs
  own_agree [] h = tt
  own_agree (r ∷ rs) h = (sym (same r.day h.0.year), own_agree rs h.1)

  pub nothing_new : year_jobs p q y.records.items y.records.items ≡ []
  nothing_new =
      let rs = y.records.items in
      ap (new_jobs (job_by p rs)) (sym (rows_agree p q [] rs (own_agree rs own))) ∙ year_quiet p rs kept.rising

  stays_kept : YearKept q y
  stays_kept =
      let rs = y.records.items in
      record { are = rw (← rows_agree p q [] rs (own_agree rs own)) kept.are; bounded = kept.bounded; rising = kept.rising; few = kept.few }

  pub year_stays : (r : RedoneYear) → r ≡ record { outcomes = None; work = record { runs = 0; steps = 0 } } → IsYearRedone p q y r
  year_stays r is = rw is (record { kept = stays_kept; work_is = rw nothing_new refl; few = omega arith; cheap = omega arith })

-- a year that was computed anew
pub year_redone : (p q : Planned) (y : Year) (done : Recalculated) (r : RedoneYear) → YearKept p y → IsRecalculated q (job_by p y.records.items) y.records.items done → r ≡ record { outcomes = Some done.outcomes; work = done.work } → IsYearRedone p q y r
year_redone p q y done r kept is e = rw e (record {
  kept = record { are = is.outcomes; bounded = is.bounded; rising = kept.rising; few = kept.few };
  work_is = is.work;
  few = omega (arith, is.few, kept.few);
  cheap = omega (arith, is.cheap, kept.few);
})

-- ---- the years computed so far

jobs_in_append : (p q : Planned) (old xs ys : List YearRuns) → jobs_in p q old (xs ++ ys) ≡ jobs_in p q old xs ++ jobs_in p q old ys
jobs_in_append p q old xs ys = flat_map-append (λ (y : YearRuns). year_jobs p q (runs_of old y.key) y.runs) xs ys

-- the new jobs of the first years
abbrev pub jobs_to : Planned → Planned → List Year → ℕ → List Job
jobs_to p q years i = jobs_in p q (runs_in years) (runs_in (take i years))

abbrev pub all_jobs : Planned → Planned → List Year → List Job
all_jobs p q years = jobs_in p q (runs_in years) (runs_in years)

pub record IsRedoing (p q : Planned) (years : List Year) (i : ℕ) (news : List New) (runs taken began now : ℕ) : Type 0 where
  pub all : AllRedone q (take i years) news
  pub runs_are : runs ≡ length (jobs_to p q years i)
  pub taken_are : taken ≡ total_cost (jobs_to p q years i)
  pub runs_few : runs ≤ i * 366
  pub taken_few : taken ≤ i * 366000000000
  pub counted : now ≡ began + taken

pub counts_out : {T E : Type 0} (r : Result T E) (e : E) (began now total : ℕ) → r ≡ Err e → began ≤ now → now ≤ began + total → Counts r began now total
counts_out r e began now total is low high = rw is (low, high)

pub counts_err : {T E : Type 0} (r : Result T E) (e : E) (before now total : ℕ) → r ≡ Err e → Counts r before now total → (before ≤ now) × (now ≤ before + total)
counts_err r e before now total is counted = rw is at counted

module _ (p q : Planned) (years : List Year) (i : ℕ) (news : List New) (runs taken began now : ℕ) (so_far : IsRedoing p q years i news runs taken began now) (rising : IsRising year_cmp kept_key years) (y : Year) (l : i < length years) (is : y ≡ get_or years i y) where
  abbrev these : List Job
  these = year_jobs p q y.records.items y.records.items

  step : take (i + 1) years ≡ take i years ++ y ∷ []
  step = take_more years i y l ∙ ap (λ t. take i years ++ t ∷ []) (sym is)

  jobs_step : jobs_to p q years (i + 1) ≡ jobs_to p q years i ++ these
  jobs_step =
      let old = runs_in years in
      ap (λ t. jobs_in p q old (runs_in t)) step ∙ ap (jobs_in p q old) (map-append runs_in_year (take i years) (y ∷ [])) ∙ jobs_in_append p q old (runs_in (take i years)) (runs_in_year y ∷ [])
      ∙ ap (λ t. jobs_to p q years i ++ t) (append-nil _ ∙ ap (λ t. year_jobs p q t y.records.items) (runs_at years i y rising l is))

  cost_step : total_cost (jobs_to p q years (i + 1)) ≡ taken + total_cost these
  cost_step = ap total_cost jobs_step ∙ total_append (jobs_to p q years i) these ∙ ap (λ t. t + total_cost these) (sym so_far.taken_are)

  rest_step : total_cost (all_jobs p q years) ≡ total_cost (jobs_to p q years (i + 1)) + total_cost (jobs_in p q (runs_in years) (runs_in (drop (i + 1) years)))
  rest_step =
      let old = runs_in years in
      ap (λ t. total_cost (jobs_in p q old (runs_in t))) (sym (take-append-drop (i + 1) years))
      ∙ ap (λ t. total_cost (jobs_in p q old t)) (map-append runs_in_year (take (i + 1) years) (drop (i + 1) years))
      ∙ ap total_cost (jobs_in_append p q old (runs_in (take (i + 1) years)) (runs_in (drop (i + 1) years)))
      ∙ total_append (jobs_to p q years (i + 1)) (jobs_in p q old (runs_in (drop (i + 1) years)))

  -- the work so far and that of this year are within the whole
  part_le : taken + total_cost these ≤ total_cost (all_jobs p q years)
  part_le = omega (arith, cost_step, rest_step)

  -- where memory ran out in this year, or after it
  pub out_in : {T E U F : Type 0} (r : Result T E) (e : E) (s : Result U F) (f : F) (now' : ℕ) → r ≡ Err e → s ≡ Err f → Counts s now now' (total_cost these) → Counts r began now' (total_cost (all_jobs p q years))
  out_in r e s f now' is was counted =
      let c = counts_err s f now now' (total_cost these) was counted in
      counts_out r e began now' (total_cost (all_jobs p q years)) is (omega (arith, c.0, so_far.counted)) (omega (arith, c.1, so_far.counted, part_le))

  pub out_after : {T E : Type 0} (r : Result T E) (e : E) (now' : ℕ) → r ≡ Err e → now' ≡ now + total_cost these → Counts r began now' (total_cost (all_jobs p q years))
  out_after r e now' is counted =
      counts_out r e began now' (total_cost (all_jobs p q years)) is (omega (arith, counted, so_far.counted)) (omega (arith, counted, so_far.counted, part_le))

  pub redoing_more : (r : RedoneYear) (now' : ℕ) → IsYearRedone p q y r → now' ≡ now + total_cost these →
      IsRedoing p q years (i + 1) (news ++ r.outcomes ∷ []) (runs + r.work.runs) (taken + r.work.steps) began now'
  redoing_more r now' done counted =
      let steps : r.work.steps ≡ total_cost these = ap (λ (w : Work). w.steps) done.work_is in
      let count : r.work.runs ≡ length these = ap (λ (w : Work). w.runs) done.work_is in
      record {
        all = rw step (redone_more q (take i years) news y r.outcomes so_far.all done.kept);
        runs_are = omega (arith, so_far.runs_are, count, ap length jobs_step, length-append (jobs_to p q years i) these);
        taken_are = omega (arith, steps, cost_step);
        runs_few = omega (arith, so_far.runs_few, done.few);
        taken_few = omega (arith, so_far.taken_few, done.cheap);
        counted = omega (arith, so_far.counted, steps, counted);
      }
