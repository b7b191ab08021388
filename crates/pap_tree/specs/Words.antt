-- The words and signs of the language, and how tightly each operation binds.
use Rattle.std.specs.Prelude.{ℕ, List, ◌++◌, codes}
use Rattle.scaled_decimal.specs.declared.rounding.Mode.{Mode}
use Rattle.scaled_decimal.specs.declared.rounding.Mode.TheVariants as modes
use Rattle.pap_tree.specs.declared.expression.Known.{Known}
use Rattle.pap_tree.specs.declared.expression.Known.TheVariants as knowns
use Rattle.pap_tree.specs.declared.expression.Binary.{Binary}
use Rattle.pap_tree.specs.declared.expression.Binary.TheVariants as binaries
use Rattle.pap_tree.specs.declared.expression.Call.{Call}
use Rattle.pap_tree.specs.declared.expression.Call.TheVariants as calls

-- how an operator is written
abbrev pub operator_text : Binary → List ℕ
operator_text binaries.Mul = codes "*"
operator_text binaries.Div = codes "/"
operator_text binaries.Rem = codes "%"
operator_text binaries.Plus = codes "+"
operator_text binaries.Sub = codes "-"
operator_text binaries.Less = codes "<"
operator_text binaries.LessEq = codes "<="
operator_text binaries.More = codes ">"
operator_text binaries.MoreEq = codes ">="
operator_text binaries.Same = codes "=="
operator_text binaries.Differs = codes "!="
operator_text binaries.And = codes "&&"
operator_text binaries.Or = codes "||"

-- The levels of the grammar: 0 is a conditional, 1 to 6 are the operators, 7 is a prefix operator, 8 a call, 9 the rest.
abbrev pub level_of_operator : Binary → ℕ
level_of_operator binaries.Or = 1
level_of_operator binaries.And = 2
level_of_operator binaries.Same = 3
level_of_operator binaries.Differs = 3
level_of_operator binaries.Less = 4
level_of_operator binaries.LessEq = 4
level_of_operator binaries.More = 4
level_of_operator binaries.MoreEq = 4
level_of_operator binaries.Plus = 5
level_of_operator binaries.Sub = 5
level_of_operator binaries.Mul = 6
level_of_operator binaries.Div = 6
level_of_operator binaries.Rem = 6

-- the name of a method of one argument
abbrev pub call_word : Call → List ℕ
call_word calls.Add = codes "add"
call_word calls.Subtract = codes "subtract"
call_word calls.Multiply = codes "multiply"
call_word calls.DivideExact = codes "divide"
call_word calls.CompareTo = codes "compareTo"
call_word calls.Min = codes "min"
call_word calls.Max = codes "max"

-- the name of a constant of `BigDecimal`
abbrev pub known_word : Known → List ℕ
known_word knowns.Zero = codes "ZERO"
known_word knowns.One = codes "ONE"
known_word knowns.Ten = codes "TEN"

-- the name of a rounding mode
abbrev pub mode_word : Mode → List ℕ
mode_word modes.Down = codes "DOWN"
mode_word modes.Up = codes "UP"
mode_word modes.Floor = codes "FLOOR"
mode_word modes.Ceiling = codes "CEILING"
mode_word modes.HalfUp = codes "HALF_UP"
mode_word modes.HalfDown = codes "HALF_DOWN"
mode_word modes.HalfEven = codes "HALF_EVEN"

-- a mode's other word
abbrev pub round_word : Mode → List ℕ
round_word m = codes "ROUND_" ++ mode_word m
