-- A printed bound of steps is the bound.
use Rattle.std.proofs.Common.{◌≡◌, ℕ, ◌<◌, ◌≤◌, ◌^◌, List, [], ◌∷◌, ◌++◌, drop, get_or, refl, sym, ap, ◌∙◌, arith}
use Rattle.std.proofs.Common.{append_assoc, inl, inr}
use Rattle.std.specs.Fmt.{decimal}
use Rattle.std.specs.Str.Parse.{AllDigits}
use Rattle.std.proofs.lemmas.Bool.{cases_lt}
use Rattle.std.proofs.lemmas.Fmt.{decimal_injective, decimal_is_IsNumeral}
use Rattle.std.proofs.lemmas.Str.Parse.{digit_from_value}
use Rattle.scaled_decimal.specs.Decimals.{Decimal}
use Rattle.pap_types.specs.Meaning.{bound_of, cost_of}
use Rattle.interval_walk.specs.Admission.{AreAdmitted}
use Rattle.pap_plan.specs.Acceptance.{Meaning, IsAccepted}
use Rattle.pap_plan.proofs.Laws as plans
use Rattle.plan_answers.specs.Answers.{Answer, refusal}
use Rattle.plan_answers.specs.Lines.{bound_line}
use Rattle.script_steps.specs.Promises.{EndsWithin, NeverFailsWithin}

-- no digit is a line feed
no_feed : (c : ℕ) (more : List ℕ) → AllDigits 10 (c ∷ more) → 10 ≡ c → ⊥
no_feed c more h is = omega (arith, digit_from_value c h.0, is)

-- digits that stand before a line feed
same_digits : (xs ys more rest : List ℕ) → AllDigits 10 xs → AllDigits 10 ys
    → xs ++ (10 ∷ more) ≡ ys ++ (10 ∷ rest) → xs ≡ ys
same_digits [] [] more rest h k e = refl
same_digits [] (y ∷ ys) more rest h k e = absurd (no_feed y ys k (ap (λ t. get_or t 0 0) e))
same_digits (x ∷ xs) [] more rest h k e = absurd (no_feed x xs h (sym (ap (λ t. get_or t 0 0) e)))
same_digits (x ∷ xs) (y ∷ ys) more rest h k e =
    let tails : xs ≡ ys = same_digits xs ys more rest h.1 k.1 (ap (λ t. drop 1 t) e) in
    ap (λ z. z ∷ xs) (ap (λ t. get_or t 0 0) e) ∙ ap (λ zs. y ∷ zs) tails

-- what stands behind `accepted steps `
number_at : (bound : ℕ) (more : List ℕ) → drop 15 (bound_line bound ++ more) ≡ decimal bound ++ (10 ∷ more)
number_at bound more = append_assoc (decimal bound) (10 ∷ []) more

same_bound : (bound steps : ℕ) (more rest : List ℕ) → bound < 2 ^ 64 → steps < 2 ^ 64
    → bound_line bound ++ more ≡ bound_line steps ++ rest → bound ≡ steps
same_bound bound steps more rest small fits e =
    let tails = sym (number_at bound more) ∙ ap (λ t. drop 15 t) e ∙ number_at steps rest in
    decimal_injective bound steps small fits (same_digits (decimal bound) (decimal steps) more rest
    (decimal_is_IsNumeral bound small).0.1 (decimal_is_IsNumeral steps fits).0.1 tails)

-- what costs at most a bound costs at most the printed one
within_printed : (cost bound steps : ℕ) (more rest : List ℕ) → bound ≤ 1000000000 → cost ≤ bound
    → bound_line bound ++ more ≡ bound_line steps ++ rest → cost ≤ steps
within_printed cost bound steps more rest small within e = elim (cases_lt steps (2 ^ 64)) [
  | inl fits ↦ omega (arith, within, same_bound bound steps more rest (omega (arith, small)) fits e)
  | inr large ↦ omega (arith, small, within, large)
]

-- a refusal begins otherwise
pub refused_otherwise : (detail more : List ℕ) (steps : ℕ) (answer : Answer) → answer ≡ refusal detail
    → answer.text ≡ bound_line steps ++ more → ⊥
refused_otherwise detail more steps answer is begins =
    let first : 114 ≡ 97 = ap (λ t. get_or t 0 0) (sym (ap (λ (a : Answer). a.text) is) ∙ begins) in
    omega (arith, first)

-- a plan whose bound is printed
pub never_fails : (plan limits text more rest : List ℕ) (m : Meaning) (steps : ℕ) → IsAccepted plan limits m
    → text ≡ bound_line (bound_of m.flowchart) ++ more → text ≡ bound_line steps ++ rest
    → NeverFailsWithin plan limits steps
never_fails plan limits text more rest m steps h printed read =
    record { meaning = m; accepted = h; runs = ends }
  where
    ends : (inputs : List Decimal) → AreAdmitted m.flowchart m.limits inputs → EndsWithin m steps inputs
    ends inputs admitted =
        let run = plans.never_fail plan limits m h inputs admitted in
        record {
          run = run;
          cost = within_printed (cost_of m.flowchart inputs) (bound_of m.flowchart) steps more rest
              (plans.small_bounds plan limits m h) run.cost (sym printed ∙ read);
        }
