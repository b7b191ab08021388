-- What private contracts say of single operations.
use Rattle.std.specs.Prelude.{◌≡◌, ℕ, ℤ, ⊤, Some, Result, Ok, Err}
use Rattle.scaled_decimal.specs.Decimals.{Decimal}
use Rattle.scaled_decimal.specs.WholeNumbers.{IsOfBits, whole_decimal}
use Rattle.pap_tree.specs.declared.expression.Binary.{Binary}
use Rattle.pap_tree.specs.declared.expression.Binary.TheVariants as binaries
use Rattle.pap_tree.specs.declared.expression.Call.{Call}
use Rattle.pap_tree.specs.declared.expression.Call.TheVariants as calls
use Rattle.pap_tree.specs.Term as meant
use Rattle.pap_tree.specs.Term.{Term}
use Rattle.pap_types.specs.declared.kinds.NodeKind.{NodeKind}
use Rattle.pap_types.specs.Operations.{of_one, of_two}
use Rattle.pap_types.specs.Safety.{OneFits, TwoFits}
use Rattle.checked_run.specs.declared.cause.FailureCause.{FailureCause}
use Rattle.checked_run.specs.declared.cause.FailureCause.TheVariants.{Wide}
use Rattle.checked_run.specs.OperationFailures.{OneFails, TwoFails}

-- ---- what it is done with

-- the operator is a comparison
abbrev pub IsComparison : Binary → Type 0
IsComparison binaries.Less = ⊤
IsComparison binaries.LessEq = ⊤
IsComparison binaries.More = ⊤
IsComparison binaries.MoreEq = ⊤
IsComparison binaries.Same = ⊤
IsComparison binaries.Differs = ⊤
IsComparison _ = ⊥

-- the method asks for the order of its operands alone
abbrev pub IsOrdering : Call → Type 0
IsOrdering calls.CompareTo = ⊤
IsOrdering calls.Min = ⊤
IsOrdering calls.Max = ⊤
IsOrdering _ = ⊥

-- ---- what is answered

-- a whole number of so many bits, or that it has more
abbrev pub WholeAnswer : ℕ → ℤ → Result Decimal FailureCause → Type 0
WholeAnswer bits n (Ok v) = IsOfBits bits n × (v ≡ whole_decimal n)
WholeAnswer bits n (Err c) = (c ≡ Wide) × ¬ (IsOfBits bits n)

-- the value of an operation that fits, or why it fails
abbrev pub OneAnswer : meant.One → NodeKind → Term → Decimal → Result Decimal FailureCause → Type 0
OneAnswer op k t a (Ok v) = OneFits op k a × (v ≡ of_one op t a)
OneAnswer op k t a (Err c) = OneFails op k a c

abbrev pub TwoAnswer :
    meant.Two → NodeKind → Decimal → Decimal → Result Decimal FailureCause → Type 0
TwoAnswer op k a b (Ok v) = TwoFits op k a b × (of_two op a b ≡ Some v)
TwoAnswer op k a b (Err c) = TwoFails op k a b c
