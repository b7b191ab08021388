-- What a node makes of the ranges of its operands: the row of its operation, at the bits of its kind.
use Rattle.std.specs.Prelude.{ℕ, ◌==◌, ◌&&◌, not, nat_lt, Bool, List, Option, Some, None, Ok, Err}
use Rattle.std.specs.Option.{option_map, option_or}
use Rattle.scaled_decimal.specs.Decimals.{Decimal, numerator_of}
use Rattle.scaled_decimal.specs.Limits.{most_places}
use Rattle.scaled_decimal.specs.WholeNumbers.{int_bits, long_bits, is_of_bits, whole_sum, whole_difference, whole_product, whole_decimal}
use Rattle.pap_tree.specs.declared.expression.Unary.TheVariants.{Minus, Not, Negate, Abs}
use Rattle.pap_tree.specs.declared.expression.Binary.{Binary}
use Rattle.pap_tree.specs.declared.expression.Binary.TheVariants as binaries
use Rattle.pap_tree.specs.declared.expression.Call.{Call}
use Rattle.pap_tree.specs.declared.expression.Call.TheVariants as calls
use Rattle.pap_tree.specs.Grammar.{known_value}
use Rattle.pap_tree.specs.Term.{Leaf, whole, long, point, text, known, named, Term, leaf, One, unary, value_of, value_of_scaled, new_big, set_scale, Two, operator, method, divide}
use Rattle.interval_num.specs.declared.cause.RangeCause.TheVariants.{Wide, Scale, Divisor}
use Rattle.interval_num.specs.Intervals.{Interval, interval}
use Rattle.interval_num.specs.Rows.{RowAnswer, item_row, sum_row, difference_row, product_row, min_row, max_row, comparison_row, negated_row, magnitude_row, quotient_row, exact_quotient_row, rescaled_row, whole_row, whole_opposite_row, whole_quotient_row, whole_remainder_row}
use Rattle.pap_types.specs.declared.kinds.NodeKind.{NodeKind}
use Rattle.pap_types.specs.declared.kinds.NodeKind.TheVariants.{Int, Long, Big}
use Rattle.interval_num.specs.Alignment.{unless}
use Rattle.pap_types.specs.Scopes.{Scope, constant_in}
use Rattle.pap_types.specs.Kinds.{leaf_kind, shown_divisor}
use Rattle.pap_types.specs.Operations.{as_big}
use Rattle.pap_types.specs.Safety.{bits_of}
use Rattle.interval_walk.specs.Ranges.{Ranges, single, range_named}

-- whole numbers of so many bits
abbrev pub is_whole_of : ℕ → Interval → Bool
is_whole_of bits a =
    (a.s_lo == 0) && ((a.s_hi == 0) && (is_of_bits bits a.lo && is_of_bits bits a.hi))

-- What is read of a kind is a whole number of its bits, or has at most 30 places. The literals, constants and variables of a
-- plan that was read always are so.
abbrev pub read_range : NodeKind → Interval → RowAnswer
read_range Int a = unless (not (is_whole_of int_bits a)) Wide (Ok a)
read_range Long a = unless (not (is_whole_of long_bits a)) Wide (Ok a)
read_range _ a = unless (nat_lt most_places a.s_hi) Scale (Ok a)

-- the range of a name: a variable's, or that of a constant's value
abbrev pub name_range : Scope → List ℕ → Ranges → Option Interval
name_range scope x env = option_or (range_named env x) (option_map single (constant_in scope x))

-- the range of a literal or a name
abbrev pub leaf_interval : Scope → Leaf → Ranges → Option Interval
leaf_interval scope (whole i) env = Some (single (whole_decimal i))
leaf_interval scope (long i) env = Some (single (whole_decimal i))
leaf_interval scope (point d) env = Some (single d)
leaf_interval scope (text d) env = Some (single d)
leaf_interval scope (known k) env = Some (single (known_value k))
leaf_interval scope (named x) env = name_range scope x env

-- an unknown name, which no well-formed plan has, is refused
abbrev pub read_leaf : NodeKind → Option Interval → RowAnswer
read_leaf k (Some a) = read_range k a
read_leaf k None = Err Wide

-- the range of a literal or a name, where it is one of its kind
abbrev pub leaf_range : Scope → Leaf → Ranges → RowAnswer
leaf_range scope l env = read_leaf (leaf_kind scope l) (leaf_interval scope l env)

-- an item of a table is read as a decimal
abbrev pub read_item : RowAnswer → RowAnswer
read_item (Ok a) = read_range Big a
read_item (Err cause) = Err cause

-- the range of an item that an index may choose
abbrev pub item_range : List Decimal → Interval → RowAnswer
item_range items index = read_item (item_row items index)

-- BigDecimal.valueOf: a literal with a point loses the zeros that end it, anything else is kept
abbrev pub big_range : Term → Interval → Interval
big_range (leaf (point d)) a = single (as_big (leaf (point d)) d)
big_range _ a = a

-- an operation on one operand; the kind is the result's, and a truth has no range
abbrev pub one_range : One → NodeKind → Term → Interval → RowAnswer
one_range (unary Minus) k e a = whole_opposite_row (bits_of k) a
one_range (unary Not) k e a = Err Wide
one_range (unary Negate) k e a = Ok (negated_row a)
one_range (unary Abs) k e a = Ok (magnitude_row a)
one_range value_of k e a = Ok (big_range e a)
one_range (value_of_scaled s) k e a = Ok (interval a.lo a.hi s s)
one_range new_big k e a = Ok a
one_range (set_scale s mode) k e a = rescaled_row mode s a

-- an operator of whole numbers; a truth has no range
abbrev pub operator_range : Binary → ℕ → Interval → Interval → RowAnswer
operator_range binaries.Mul bits a b = whole_row bits whole_product a b
operator_range binaries.Div bits a b = whole_quotient_row bits a b
operator_range binaries.Rem bits a b = whole_remainder_row a b
operator_range binaries.Plus bits a b = whole_row bits whole_sum a b
operator_range binaries.Sub bits a b = whole_row bits whole_difference a b
operator_range _ bits a b = Err Wide

-- divide(d) by the divisor that the text shows
abbrev pub shown_range : Option Decimal → Interval → RowAnswer
shown_range (Some d) a = exact_quotient_row (numerator_of d) a
shown_range None a = Err Divisor

-- a method of one argument
abbrev pub method_range : Call → Option Decimal → Interval → Interval → RowAnswer
method_range calls.Add shown a b = sum_row a b
method_range calls.Subtract shown a b = difference_row a b
method_range calls.Multiply shown a b = product_row a b
method_range calls.DivideExact shown a b = shown_range shown a
method_range calls.CompareTo shown a b = comparison_row a b
method_range calls.Min shown a b = min_row a b
method_range calls.Max shown a b = max_row a b

-- an operation on two operands, the right one being f
abbrev pub two_range : Scope → Two → NodeKind → Term → Interval → Interval → RowAnswer
two_range scope (operator o) k f a b = operator_range o (bits_of k) a b
two_range scope (method m) k f a b = method_range m (shown_divisor scope f) a b
two_range scope (divide s mode) k f a b = quotient_row mode s a b

-- the node of a comparison: its two ranges are aligned, as compareTo aligns them; no other operator is a comparison
abbrev pub comparison_range : Binary → Interval → Interval → RowAnswer
comparison_range binaries.Less a b = comparison_row a b
comparison_range binaries.LessEq a b = comparison_row a b
comparison_range binaries.More a b = comparison_row a b
comparison_range binaries.MoreEq a b = comparison_row a b
comparison_range binaries.Same a b = comparison_row a b
comparison_range binaries.Differs a b = comparison_row a b
comparison_range _ a b = Err Wide
