-- What each operation of the flowchart's expressions gives, over unbounded numbers: Java's arithmetic on whole numbers
-- (The Java Language Specification, 15.15 to 15.24) and that of java.math.BigDecimal. A truth is 1 or 0, a whole number
-- has scale 0. Source: these, by the definitions of `scaled_decimal`.
use Rattle.std.specs.Prelude.{ℕ, Bool, false, not, ◌||◌, if◌then◌else◌, Option, Some, None, pos}
use Rattle.std.specs.Ordering.{int_eq, is_lt, is_gt}
use Rattle.std.specs.declared.cmp.Ordering.{Ordering}
use Rattle.scaled_decimal.specs.Decimals.{Decimal, decimal, numerator_of, sum, difference, product, negated, magnitude, value_order, comparison, lesser, greater}
use Rattle.scaled_decimal.specs.WholeNumbers.{whole_sum, whole_difference, whole_product, whole_quotient, whole_remainder, whole_opposite, whole_decimal, of_whole, of_wholes, truth}
use Rattle.scaled_decimal.specs.RoundedDecimals.{quotient, rescaled}
use Rattle.scaled_decimal.specs.ShortenedDecimals.{shortened, exact_quotient}
use Rattle.pap_tree.specs.declared.expression.Unary.TheVariants.{Minus, Not, Negate, Abs}
use Rattle.pap_tree.specs.declared.expression.Binary.{Binary}
use Rattle.pap_tree.specs.declared.expression.Binary.TheVariants as binaries
use Rattle.pap_tree.specs.declared.expression.Call.{Call}
use Rattle.pap_tree.specs.declared.expression.Call.TheVariants as calls
use Rattle.pap_tree.specs.Term.{point, Term, leaf, One, unary, value_of, value_of_scaled, new_big, set_scale, Two, operator, method, divide}

-- the value is 0, at any scale
abbrev pub is_zero : Decimal → Bool
is_zero a = int_eq (numerator_of a) (pos 0)

-- whether a comparison holds of two values in this order
abbrev pub holds_of : Binary → Ordering → Bool
holds_of binaries.Less o = is_lt o
holds_of binaries.LessEq o = not (is_gt o)
holds_of binaries.More o = is_gt o
holds_of binaries.MoreEq o = not (is_lt o)
holds_of binaries.Same o = not (is_lt o || is_gt o)
holds_of binaries.Differs o = is_lt o || is_gt o
holds_of _ o = false

-- whether a comparison holds of two decimals, as a truth
abbrev pub comparison_value : Binary → Decimal → Decimal → Option Decimal
comparison_value op a b = Some (truth (holds_of op (value_order a b)))

-- none where the divisor is zero
abbrev pub unless_zero : Decimal → Decimal → Option Decimal
unless_zero divisor result = if is_zero divisor then None else Some result

-- an operator between the values of its operands; the right operand of && and || decides where it is evaluated
abbrev pub of_operator : Binary → Decimal → Decimal → Option Decimal
of_operator binaries.Mul a b = Some (of_wholes whole_product a b)
of_operator binaries.Div a b = unless_zero b (of_wholes whole_quotient a b)
of_operator binaries.Rem a b = unless_zero b (of_wholes whole_remainder a b)
of_operator binaries.Plus a b = Some (of_wholes whole_sum a b)
of_operator binaries.Sub a b = Some (of_wholes whole_difference a b)
of_operator binaries.And a b = Some b
of_operator binaries.Or a b = Some b
of_operator o a b = comparison_value o a b

-- a method of one argument, of the value before the point and that in the brackets
abbrev pub of_method : Call → Decimal → Decimal → Option Decimal
of_method calls.Add a b = Some (sum a b)
of_method calls.Subtract a b = Some (difference a b)
of_method calls.Multiply a b = Some (product a b)
of_method calls.DivideExact a b = unless_zero b (exact_quotient a (numerator_of b))
of_method calls.CompareTo a b = Some (whole_decimal (comparison a b))
of_method calls.Min a b = Some (lesser a b)
of_method calls.Max a b = Some (greater a b)

-- an operation on the values of its two operands
abbrev pub of_two : Two → Decimal → Decimal → Option Decimal
of_two (operator o) a b = of_operator o a b
of_two (method m) a b = of_method m a b
of_two (divide s mode) a b = unless_zero b (quotient mode s a b)

-- the fewest places that valueOf of a literal with a point keeps
abbrev pub fewest_places : ℕ
fewest_places = 1

-- BigDecimal.valueOf: a literal with a point loses the zeros that end it, anything else is kept
abbrev pub as_big : Term → Decimal → Decimal
as_big (leaf (point d)) a = shortened fewest_places d
as_big _ a = a

-- an operation on the value of its operand
abbrev pub of_one : One → Term → Decimal → Decimal
of_one (unary Minus) e a = of_whole whole_opposite a
of_one (unary Not) e a = truth (is_zero a)
of_one (unary Negate) e a = negated a
of_one (unary Abs) e a = magnitude a
of_one value_of e a = as_big e a
of_one (value_of_scaled s) e a = decimal (numerator_of a) s
of_one new_big e a = a
of_one (set_scale s mode) e a = rescaled mode s a
