-- When the evaluation of an expression is safe: every number that an operation works with is within its limit, and every
-- scale is at most 30.
use Rattle.std.specs.Prelude.{◌≡◌, ℕ, ◌≤◌, true, false, IsTrue, Some, ⊤}
use Rattle.scaled_decimal.specs.Decimals.{Decimal, numerator_of}
use Rattle.scaled_decimal.specs.Limits.{most_places}
use Rattle.scaled_decimal.specs.WholeNumbers.{int_bits, long_bits, IsOfBits, whole_sum, whole_difference, whole_product, whole_quotient, whole_remainder, whole_opposite}
use Rattle.scaled_decimal.specs.WorkingNumbers.{ComparisonFits, SumFits, DifferenceFits, ProductFits, RescaleFits, QuotientFits, ExactQuotientFits}
use Rattle.pap_tree.specs.declared.expression.Unary.TheVariants.{Minus}
use Rattle.pap_tree.specs.declared.expression.Binary.{Binary}
use Rattle.pap_tree.specs.declared.expression.Binary.TheVariants as binaries
use Rattle.pap_tree.specs.declared.expression.Call.{Call}
use Rattle.pap_tree.specs.declared.expression.Call.TheVariants as calls
use Rattle.pap_tree.specs.Term.{Term, leaf, item, one, two, choice, One, unary, value_of_scaled, set_scale, Two, operator, method, divide}
use Rattle.pap_types.specs.declared.kinds.NodeKind.{NodeKind}
use Rattle.pap_types.specs.declared.kinds.NodeKind.TheVariants.{Long}
use Rattle.pap_types.specs.Scopes.{Scope}
use Rattle.pap_types.specs.Kinds.{kind_of}
use Rattle.pap_types.specs.Operations.{is_zero}
use Rattle.pap_types.specs.Values.{Env, value, goes_right}

-- how many bits a whole number of a kind has
abbrev pub bits_of : NodeKind → ℕ
bits_of Long = long_bits
bits_of _ = int_bits

-- The working numbers of an operation whose result is of a kind fit: those of a whole number are its result.
abbrev pub OneFits : One → NodeKind → Decimal → Type 0
OneFits (unary Minus) k a = IsOfBits (bits_of k) (whole_opposite (numerator_of a))
OneFits (value_of_scaled s) k a = s ≤ most_places
OneFits (set_scale s mode) k a = RescaleFits mode a s
OneFits _ k a = ⊤

-- the numbers that an operator works with are within their limits
abbrev pub OperatorFits : Binary → NodeKind → Decimal → Decimal → Type 0
OperatorFits binaries.Mul k a b = IsOfBits (bits_of k) (whole_product (numerator_of a) (numerator_of b))
OperatorFits binaries.Div k a b = IsOfBits (bits_of k) (whole_quotient (numerator_of a) (numerator_of b))
OperatorFits binaries.Rem k a b = IsOfBits (bits_of k) (whole_remainder (numerator_of a) (numerator_of b))
OperatorFits binaries.Plus k a b = IsOfBits (bits_of k) (whole_sum (numerator_of a) (numerator_of b))
OperatorFits binaries.Sub k a b = IsOfBits (bits_of k) (whole_difference (numerator_of a) (numerator_of b))
OperatorFits binaries.And k a b = ⊤
OperatorFits binaries.Or k a b = ⊤
OperatorFits _ k a b = ComparisonFits a b

-- the numbers that a method of one argument works with are within their limits
abbrev pub MethodFits : Call → Decimal → Decimal → Type 0
MethodFits calls.Add a b = SumFits a b
MethodFits calls.Subtract a b = DifferenceFits a b
MethodFits calls.Multiply a b = ProductFits a b
MethodFits calls.DivideExact a b = ExactQuotientFits a (numerator_of b)
MethodFits _ a b = ComparisonFits a b

-- the numbers that an operation on two operands works with are within their limits
abbrev pub TwoFits : Two → NodeKind → Decimal → Decimal → Type 0
TwoFits (operator o) k a b = OperatorFits o k a b
TwoFits (method m) k a b = MethodFits m a b
TwoFits (divide s mode) k a b = QuotientFits mode a b s

-- The working numbers of every evaluated node fit.
abbrev pub IsSafe : Scope → Term → Env → Type 0
IsSafe scope (leaf l) env = ⊤
IsSafe scope (item x e) env = IsSafe scope e env
IsSafe scope (one op e) env =
    IsSafe scope e env
    × ((a : Decimal) → value scope e env ≡ Some a → OneFits op (kind_of scope (one op e)) a)
IsSafe scope (two op e f) env =
    IsSafe scope e env
    × ((a : Decimal) → value scope e env ≡ Some a → IsTrue (goes_right op a)
    → IsSafe scope f env
    × ((b : Decimal) → value scope f env ≡ Some b → TwoFits op (kind_of scope (two op e f)) a b))
IsSafe scope (choice c e f) env =
    IsSafe scope c env
    × ((t : Decimal) → value scope c env ≡ Some t
    → (is_zero t ≡ true → IsSafe scope f env) × (is_zero t ≡ false → IsSafe scope e env))
