-- What a trial of all years gives is the trial of the plan.
use Rattle.std.proofs.Common.{◌≡◌, ℕ, Result, Err, List, true, false, if◌then◌else◌, Some, sym, ap, subst, ◌∙◌}
use Rattle.std.specs.List.{flat_map}
use Rattle.std.specs.declared.alloc.AllocError.{AllocError}
use Rattle.payroll_records.specs.declared.day.Day.{Day}
use Rattle.plan_calendar.specs.Edits.{moves, picked_after}
use Rattle.plan_calendar.specs.Picking.{Entry, day_of, pick, plan_of, with_entry}
use Rattle.plan_calendar.proofs.Laws.{pick_put}
use Rattle.book_year.specs.Accepted.{Accepted}
use Rattle.book_year.specs.declared.outcome.Work.{Work}
use Rattle.book_year.specs.Jobs.{Counts, total_cost, work_of}
use Rattle.book_year.specs.Rows.{Planned}
use Rattle.book_edits.specs.declared.years.Years.{Years}
use Rattle.book_edits.specs.Kept.{jobs_in, years_of}
use Rattle.recalc_engine.specs.private.BookLaws.{HasPlan}
use Rattle.recalc_engine.specs.BookLaws.{IsBook, IsAcceptedPlan}
use Rattle.recalc_engine.specs.Contents.{Contents}
use Rattle.recalc_engine.proofs.Laws.{picked_plan}
use Rattle.what_if.specs.declared.trial.Trial.{Trial}
use Rattle.what_if.specs.declared.trial.TryRefusal.{TryRefusal}
use Rattle.what_if.specs.declared.trial.TryRefusal.TheVariants as trying
use Rattle.what_if.specs.Changes.{changes_between}
use Rattle.what_if.specs.Trials.{CountsTry, book_with, trial_of}
use Rattle.what_if.specs.private.YearViews.{ArePlanned, IsTried, year_changes}
use Rattle.what_if.proofs.ChangeLemmas.{changes_by_year}
use Rattle.what_if.proofs.KeyLemmas.{by_key}

module _ (book : Contents) (e : Entry Accepted) (is : IsBook book) (plans : List (Entry Accepted))
    (plans_are : plans ≡ book.plans) (p q : Planned) (old : (d : Day) → p d ≡ pick plans d) (new : (d : Day) →
    q d ≡ picked_after plans (day_of e) (Some e) d) where
  abbrev wanted : List (Entry Accepted)
  wanted = with_entry e book.plans

  old_is : p ≡ pick book.plans
  old_is = (λ i. λ d. old d i) ∙ ap (λ t. pick t) plans_are

  new_day : (d : Day) → q d ≡ pick wanted d
  new_day d = new d ∙ ap (λ t. picked_after t (day_of e) (Some e) d) plans_are
      ∙ sym (pick_put book.plans e d is.entries.rising)

  new_is : q ≡ pick wanted
  new_is = λ i. λ d. new_day d i

  -- the plans of the days are accepted
  pub old_planned : ArePlanned p
  old_planned d = subst HasPlan (sym (ap (λ t. t d) old_is)) (picked_plan book.plans d is.entries is.plans)

  pub new_planned : IsAcceptedPlan (plan_of e) → ArePlanned q
  new_planned plan d = subst HasPlan (sym (new d ∙ ap (λ t. picked_after t (day_of e) (Some e) d) plans_are))
      (elim (moves book.plans (day_of e) d) as (λ b. HasPlan (if b then Some e else pick book.plans d)) [
        | true ↦ plan
        | false ↦ picked_plan book.plans d is.entries is.plans
      ])

  module _ (years : Years) (years_are : years_of years ≡ book.years) where
    rows_are : flat_map (year_changes p q) (years_of years) ≡ changes_between book (book_with book e)
    rows_are = (λ i. flat_map (year_changes (old_is i) (new_is i)) (years_are i))
        ∙ sym (changes_by_year (pick book.plans) (pick wanted) book.years)
        ∙ sym (by_key book e is)

    work_is : work_of (jobs_in p q (years_of years) (years_of years)) ≡ (book_with book e).last
    work_is = λ i. work_of (jobs_in (old_is i) (new_is i) (years_are i) (years_are i))

    pub tried : (trial : Trial) → IsTried p q years trial → trial ≡ trial_of book e
    tried trial h = λ i. record { rows = (h.rows ∙ rows_are) i; work = (h.work ∙ work_is) i }

    pub cost_is : total_cost (jobs_in p q (years_of years) (years_of years)) ≡ (trial_of book e).work.steps
    cost_is = ap (λ (w : Work). w.steps) work_is

-- where memory ran out within the computing
pub counts_try : {T E : Type 0} (r : Result Trial TryRefusal) (e : TryRefusal) (a : AllocError) (s : Result T E)
    (f : E) (before now total : ℕ) →
    r ≡ Err e → e ≡ trying.Memory a → s ≡ Err f → Counts s before now total → CountsTry r before now total
counts_try r e a s f before now total is memory was counts = rw (is, memory) (rw was at counts)
