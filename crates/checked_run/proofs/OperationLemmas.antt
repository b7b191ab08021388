-- Whole numbers divided, from what is answered of the result.
use Rattle.std.proofs.Common.{◌≡◌, ◌≢◌, ℕ, ◌+◌, ◌<◌, ◌≤◌, ℤ, pos, Bool, true, false, Some, None, Result, Ok, Err, refl, sym, ap, ◌∙◌, subst, true≢false, to_z, of_z, arith, inl, inr}
use Rattle.std.specs.Prelude.{IsSome, if◌then◌else◌}
use Rattle.std.specs.Int.{w128}
use Rattle.std.specs.Ordering.{int_eq}
use Rattle.std.proofs.lemmas.Bool.{cases_Bool}
use Rattle.std.proofs.lemmas.Bool.Decides.{Decides-int_eq}
use Rattle.std.proofs.lemmas.Int.{ints, to_z-of_z, fits_signed_from_abs}
use Rattle.scaled_decimal.specs.Decimals.{Decimal, numerator_of, scale_of}
use Rattle.scaled_decimal.specs.ExactQuotients.{IsPlainDivisor}
use Rattle.scaled_decimal.specs.Limits.{IsWithinLimit, most_places}
use Rattle.scaled_decimal.specs.ShortenedDecimals.{exact_quotient}
use Rattle.scaled_decimal.specs.WorkingNumbers.{IsDivisorPlaces, ExactQuotientFits}
use Rattle.scaled_decimal.specs.WholeNumbers.{IsOfBits, whole_sum, whole_difference, whole_quotient, whole_remainder, whole_decimal, of_wholes}
use Rattle.pap_tree.specs.declared.expression.Binary.TheVariants as binaries
use Rattle.pap_tree.specs.declared.expression.Call.TheVariants as calls
use Rattle.pap_tree.specs.Term.{operator, method}
use Rattle.pap_types.specs.declared.kinds.NodeKind.{NodeKind}
use Rattle.pap_types.specs.Operations.{is_zero, unless_zero}
use Rattle.pap_types.specs.Safety.{bits_of}
use Rattle.checked_run.specs.declared.cause.FailureCause.{FailureCause}
use Rattle.checked_run.specs.declared.cause.FailureCause.TheVariants.{Wide, Scale}
use Rattle.checked_run.specs.OperationFailures.{TwoFails}
use Rattle.checked_run.specs.private.OperationViews.{WholeAnswer, TwoAnswer}

given_unless : (t : Bool) (x : Decimal) → t ≡ false → (if t then None else Some x) ≡ Some x
given_unless true x e = absurd (true≢false e)
given_unless false x e = refl

there_unless : (t : Bool) (x : Decimal) → t ≡ false → IsSome (if t then None else Some x)
there_unless true x e = absurd (true≢false e)
there_unless false x e = refl

pub quotient_answer : (k : NodeKind) (a b : Decimal) (n : ℤ) (r : Result Decimal FailureCause) → is_zero b ≡ false
    → n ≡ whole_quotient (numerator_of a) (numerator_of b) → WholeAnswer (bits_of k) n r
    → TwoAnswer (operator binaries.Div) k a b r
quotient_answer k a b n (Ok v) z e h = (
  subst (IsOfBits (bits_of k)) e h.0,
  given_unless (is_zero b) (of_wholes whole_quotient a b) z ∙ ap (λ n. Some (whole_decimal n)) (sym e)
      ∙ ap (λ v. Some v) (sym h.1),
)
quotient_answer k a b n (Err c) z e h =
    subst (TwoFails (operator binaries.Div) k a b) (sym h.0)
    (there_unless (is_zero b) (of_wholes whole_quotient a b) z, tt, λ fits. h.1 (subst (IsOfBits (bits_of k)) (sym e) fits))

pub sum_answer : (k : NodeKind) (a b : Decimal) (n : ℤ) (r : Result Decimal FailureCause)
    → n ≡ whole_sum (numerator_of a) (numerator_of b) → WholeAnswer (bits_of k) n r
    → TwoAnswer (operator binaries.Plus) k a b r
sum_answer k a b n (Ok v) e h = (
  subst (IsOfBits (bits_of k)) e h.0,
  ap (λ n. Some (whole_decimal n)) (sym e) ∙ ap (λ v. Some v) (sym h.1),
)
sum_answer k a b n (Err c) e h =
    subst (TwoFails (operator binaries.Plus) k a b) (sym h.0)
    (refl, tt, λ fits. h.1 (subst (IsOfBits (bits_of k)) (sym e) fits))

pub difference_answer : (k : NodeKind) (a b : Decimal) (n : ℤ) (r : Result Decimal FailureCause)
    → n ≡ whole_difference (numerator_of a) (numerator_of b) → WholeAnswer (bits_of k) n r
    → TwoAnswer (operator binaries.Sub) k a b r
difference_answer k a b n (Ok v) e h = (
  subst (IsOfBits (bits_of k)) e h.0,
  ap (λ n. Some (whole_decimal n)) (sym e) ∙ ap (λ v. Some v) (sym h.1),
)
difference_answer k a b n (Err c) e h =
    subst (TwoFails (operator binaries.Sub) k a b) (sym h.0)
    (refl, tt, λ fits. h.1 (subst (IsOfBits (bits_of k)) (sym e) fits))

pub remainder_answer : (k : NodeKind) (a b : Decimal) (n : ℤ) (r : Result Decimal FailureCause) → is_zero b ≡ false
    → n ≡ whole_remainder (numerator_of a) (numerator_of b) → WholeAnswer (bits_of k) n r
    → TwoAnswer (operator binaries.Rem) k a b r
remainder_answer k a b n (Ok v) z e h = (
  subst (IsOfBits (bits_of k)) e h.0,
  given_unless (is_zero b) (of_wholes whole_remainder a b) z ∙ ap (λ n. Some (whole_decimal n)) (sym e)
      ∙ ap (λ v. Some v) (sym h.1),
)
remainder_answer k a b n (Err c) z e h =
    subst (TwoFails (operator binaries.Rem) k a b) (sym h.0)
    (there_unless (is_zero b) (of_wholes whole_remainder a b) z, tt, λ fits. h.1 (subst (IsOfBits (bits_of k)) (sym e) fits))

-- a number within the limit as 128 bits hold it
pub held_is : (n : ℤ) → IsWithinLimit n → to_z w128 (of_z w128 n) ≡ n
held_is n h = to_z-of_z w128 n (fits_signed_from_abs w128 n (omega arith))

-- ---- quotients

pub quotient_there : (b x : Decimal) → is_zero b ≡ false → IsSome (unless_zero b x)
quotient_there b x z = there_unless (is_zero b) x z

pub quotient_given : (b x : Decimal) → is_zero b ≡ false → unless_zero b x ≡ Some x
quotient_given b x z = given_unless (is_zero b) x z

pub not_zero : (b : Decimal) → is_zero b ≡ false → numerator_of b ≢ pos 0
not_zero b z e = true≢false (sym (ap (λ n. int_eq n (pos 0)) e) ∙ z)

plain_some : (b : Decimal) → IsPlainDivisor (numerator_of b) → is_zero b ≡ false
plain_some b h = elim (cases_Bool (is_zero b)) [
  | inl nothing ↦ absurd (
      let none : numerator_of b ≡ pos 0 = (Decides-int_eq (numerator_of b) (pos 0)).0 nothing in
      let positive = h.positive in
      omega (arith, ints))
  | inr some ↦ some
]

module _ (a b : Decimal) (k : ℕ) (plain : IsPlainDivisor (numerator_of b)) (places : IsDivisorPlaces (numerator_of b) k) where
  pub exact_scale : most_places < scale_of a + k → (kind : NodeKind)
      → TwoAnswer (method calls.DivideExact) kind a b (Err Scale)
  exact_scale many kind = (
    quotient_there b (exact_quotient a (numerator_of b)) (plain_some b plain),
    λ few. absurd (let less = few k places in omega arith),
  )

  pub exact_wide : scale_of a + k ≤ most_places → (ExactQuotientFits a (numerator_of b) → ⊥) → (kind : NodeKind)
      → TwoAnswer (method calls.DivideExact) kind a b (Err Wide)
  exact_wide few wide kind = (
    quotient_there b (exact_quotient a (numerator_of b)) (plain_some b plain),
    (λ j at. let up = at.least k places.divides in omega arith),
    wide,
  )

  pub exact_found : (v : Decimal) → ExactQuotientFits a (numerator_of b) → v ≡ exact_quotient a (numerator_of b)
      → (kind : NodeKind) → TwoAnswer (method calls.DivideExact) kind a b (Ok v)
  exact_found v fits e kind = (
    fits,
    quotient_given b (exact_quotient a (numerator_of b)) (plain_some b plain) ∙ ap (λ v. Some v) (sym e),
  )
