-- When an operation fails on the values of its operands, and why: it has no value (Divisor), its result has more than 30 places
-- (Scale), or a number that it works with is beyond its limit (Wide). At most one of these holds.
use Rattle.std.specs.Prelude.{◌≡◌, ℕ, ◌+◌, ◌≤◌, None, IsSome, ⊤}
use Rattle.scaled_decimal.specs.Decimals.{Decimal, numerator_of, scale_of}
use Rattle.scaled_decimal.specs.Limits.{most_places}
use Rattle.scaled_decimal.specs.WorkingNumbers.{IsDivisorPlaces}
use Rattle.pap_tree.specs.declared.expression.Call.TheVariants as calls
use Rattle.pap_tree.specs.Term.{One, Two, method}
use Rattle.pap_types.specs.declared.kinds.NodeKind.{NodeKind}
use Rattle.pap_types.specs.Operations.{of_two}
use Rattle.pap_types.specs.Safety.{OneFits, TwoFits}
use Rattle.checked_run.specs.declared.cause.FailureCause.{FailureCause}
use Rattle.checked_run.specs.declared.cause.FailureCause.TheVariants.{Wide, Scale, Divisor, Index}

-- the exact result of an operation has at most 30 places; only those of a product and of divide(d) come from the operands alone
abbrev pub GivesFewPlaces : Two → Decimal → Decimal → Type 0
GivesFewPlaces (method calls.Multiply) a b = scale_of a + scale_of b ≤ most_places
GivesFewPlaces (method calls.DivideExact) a b =
    (k : ℕ) → IsDivisorPlaces (numerator_of b) k → scale_of a + k ≤ most_places
GivesFewPlaces _ a b = ⊤

-- an operation on one operand, whose result is of a kind, fails for a cause
abbrev pub OneFails : One → NodeKind → Decimal → FailureCause → Type 0
OneFails op k a Wide = ¬ (OneFits op k a)
OneFails op k a Scale = ⊥
OneFails op k a Divisor = ⊥
OneFails op k a Index = ⊥

-- the same of an operation on two operands
abbrev pub TwoFails : Two → NodeKind → Decimal → Decimal → FailureCause → Type 0
TwoFails op k a b Divisor = of_two op a b ≡ None
TwoFails op k a b Scale = IsSome (of_two op a b) × ¬ (GivesFewPlaces op a b)
TwoFails op k a b Wide = IsSome (of_two op a b) × GivesFewPlaces op a b × ¬ (TwoFits op k a b)
TwoFails op k a b Index = ⊥
