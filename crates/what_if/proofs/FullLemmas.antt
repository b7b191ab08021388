-- A calendar is full for a day, or it isn't.
use Rattle.std.proofs.Common.{◌≡◌, ◌⊎◌, inl, inr, ◌+◌, List, Option, Some, None, IsNone, IsSome, length, refl, sym, subst, arith}
use Rattle.std.proofs.lemmas.Bool.{cases_lt}
use Rattle.payroll_records.specs.declared.day.Day.{Day}
use Rattle.plan_calendar.specs.Picking.{Entry, entry_at}
use Rattle.book_year.specs.Accepted.{Accepted}
use Rattle.book_edits.specs.Replans.{HasMostPlans, most_plans}

none_or_some : {X : Type 0} (o : Option X) → IsNone o → IsSome o → ⊥
none_or_some None none some = cc
none_or_some (Some x) none some = cc

-- there are 64 plans and none of the day, or it isn't so
pub full_or_not : (plans : List (Entry Accepted)) (day : Day) → HasMostPlans plans day ⊎ (HasMostPlans plans day → ⊥)
full_or_not plans day = by (entry_at plans day) refl
  where
    new : IsNone (entry_at plans day) → HasMostPlans plans day ⊎ (HasMostPlans plans day → ⊥)
    new free = elim (cases_lt most_plans (length plans + 1)) [
      | inl over ↦ inl (record { free = free; full = over })
      | inr not_over ↦ inr (λ full. absurd (omega (arith, full.full)))
    ]

    by : (o : Option (Entry Accepted)) → entry_at plans day ≡ o → HasMostPlans plans day ⊎ (HasMostPlans plans day → ⊥)
    by None e = new (subst IsNone (sym e) refl)
    by (Some q) e = inr (λ full. none_or_some (entry_at plans day) full.free (subst IsSome (sym e) refl))
