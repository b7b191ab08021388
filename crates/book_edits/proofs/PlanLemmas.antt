-- What an edit finds in the calendar, and what it makes of the plan of each day.
use Rattle.std.proofs.Common.{◌≡◌, ℕ, List, [], ◌∷◌, true, Option, Some, None, is_some, IsSome, option_map, refl, length, Result, Ok, Err, IfOk, IfErr, sym, ap, subst, ◌∙◌, arith}
use Rattle.std.specs.List.{AllByRecursion}
use Rattle.std.specs.Result.{is_ok}
use Rattle.std.proofs.lemmas.List.{length-map}
use Rattle.rising_lists.specs.Keyed.{IsRising}
use Rattle.rising_lists.specs.Places.{Finds, Misses}
use Rattle.payroll_records.specs.declared.day.Day.{Day}
use Rattle.payroll_records.specs.Orders.{day_cmp}
use Rattle.plan_calendar.specs.Edits.{picked_after}
use Rattle.plan_calendar.specs.Picking.{Entry, day_of, entry_at, pick, pick_before, with_entry, without_day}
use Rattle.plan_calendar.proofs.Laws.{pick_put, pick_drop}
use Rattle.pap_plan.specs.Plans.{Seen}
use Rattle.book_year.specs.Accepted.{Accepted, accepted_entry, plans_in}
use Rattle.book_year.specs.declared.year.Year.{Year}
use Rattle.book_year.specs.Jobs.{total_cost}
use Rattle.book_year.specs.Kept.{AreKept}
use Rattle.book_year.specs.Rows.{Planned}
use Rattle.book_year.specs.Years.{IsYear}
use Rattle.book_edits.specs.declared.years.Years.{Years}
use Rattle.book_edits.specs.Kept.{AreYears, jobs_in, years_of}
use Rattle.book_edits.specs.declared.redone.Redone.{Redone}
use Rattle.book_edits.specs.Replans.{replan_cost}
use Rattle.book_edits.specs.private.RedoneClauses.{AreRedone, AreRedoneFor}
use Rattle.book_edits.proofs.ListLemmas.{at_key_map, map_put, map_rising, map_without}

-- ---- the plan of a day, searched for

some_found : (es : List (Entry Seen)) (d : Day) (i : ℕ) → Finds day_cmp day_of es d i → is_some (entry_at es d) ≡ true
some_found [] d i finds = absurd (omega (arith, finds.within))
some_found (e ∷ es) d i finds = ap is_some (finds.at e)

pub found_or_not : (es : List (Entry Seen)) (d : Day) (r : Result ℕ ℕ) → IfOk r (Finds day_cmp day_of es d) → IfErr r (Misses day_cmp day_of es d) → is_ok r ≡ is_some (entry_at es d)
found_or_not es d (Ok i) finds misses = sym (some_found es d i finds)
found_or_not es d (Err i) finds misses = sym (ap is_some misses.at)

-- ---- the calendar with each plan without its code

some_map : {X Y : Type 0} (f : X → Y) (o : Option X) → is_some (option_map f o) ≡ is_some o
some_map f None = refl
some_map f (Some x) = refl

pub plan_there : (es : List (Entry Seen)) (d : Day) → is_some (entry_at (plans_in es) d) ≡ is_some (entry_at es d)
plan_there es d = ap is_some (at_key_map day_cmp day_of accepted_entry es d) ∙ some_map accepted_entry (entry_at es d)

pub put_in_plans : (e : Entry Seen) (es : List (Entry Seen)) → plans_in (with_entry e es) ≡ with_entry (accepted_entry e) (plans_in es)
put_in_plans e es = map_put day_cmp day_of accepted_entry e es

pub drop_in_plans : (d : Day) (es : List (Entry Seen)) → plans_in (without_day d es) ≡ without_day d (plans_in es)
drop_in_plans d es = map_without day_cmp day_of accepted_entry d es

pub plans_rise : (es : List (Entry Seen)) → IsRising day_cmp day_of es → IsRising day_cmp day_of (plans_in es)
plans_rise es h = map_rising day_cmp day_of accepted_entry es h

pub plans_length : (es : List (Entry Seen)) → length (plans_in es) ≡ length es
plans_length es = length-map es accepted_entry

-- ---- the plans that the days will have once a plan is put, or taken away

pub after_put : (plans : List (Entry Accepted)) (e : Entry Accepted) (after : Planned) → IsRising day_cmp day_of plans →
    ((d : Day) → after d ≡ picked_after plans (day_of e) (Some e) d) → (d : Day) → after d ≡ pick (with_entry e plans) d
after_put plans e after rising gives d = gives d ∙ sym (pick_put plans e d rising)

pub after_drop : (plans : List (Entry Accepted)) (day : Day) (left : Option (Entry Accepted)) (after : Planned) → IsRising day_cmp day_of plans → IsSome (entry_at plans day) → left ≡ pick_before plans day →
    ((d : Day) → after d ≡ picked_after plans day left d) → (d : Day) → after d ≡ pick (without_day day plans) d
after_drop plans day left after rising there is gives d =
    gives d ∙ ap (λ o. picked_after plans day o d) is ∙ sym (pick_drop plans day d rising there)

-- ---- calendars that give each day the same plan

same_each : (plans plans' : List (Entry Accepted)) (ys : List Year) → ((d : Day) → pick plans d ≡ pick plans' d) → AllByRecursion (IsYear plans) ys → AllByRecursion (IsYear plans') ys
same_each plans plans' [] same each = tt
same_each plans plans' (y ∷ ys) same each =
    let planned : pick plans ≡ pick plans' = λ i. λ d. same d i in
    (record { kept = subst (λ p. AreKept p y.records.items y.outcomes.items) planned each.0.kept; own = each.0.own }, same_each plans plans' ys same each.1)

pub same_years : (plans plans' : List (Entry Accepted)) (ys : Years) → ((d : Day) → pick plans d ≡ pick plans' d) → AreYears plans ys → AreYears plans' ys
same_years plans plans' ys same are = record { rising = are.rising; each = same_each plans plans' ys.list.items same are.each; some = are.some; count = are.count; few = are.few }

-- ---- years computed anew for the plans that the days will have, which are those of the wanted calendar

module _ (before after : Planned) (plans wanted : List (Entry Accepted)) (old : (d : Day) → before d ≡ pick plans d) (new : (d : Day) → after d ≡ pick wanted d) (ys : Years) where
  pub redone_for : {E : Type 0} (r : Result Redone E) → IfOk r (AreRedone before after ys) → IfOk r (AreRedoneFor plans wanted ys)
  redone_for r done = subst (λ (t : Planned × Planned). IfOk r (AreRedone t.0 t.1 ys)) (λ i. ((λ d. old d i), (λ d. new d i))) done

  pub cost_for : total_cost (jobs_in before after (years_of ys) (years_of ys)) ≡ replan_cost plans wanted ys
  cost_for = λ i. total_cost (jobs_in (λ d. old d i) (λ d. new d i) (years_of ys) (years_of ys))
