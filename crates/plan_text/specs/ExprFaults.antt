-- What is wrong with a text that isn't an expression.
use Rattle.std.specs.Prelude.{ℕ, List}
use Rattle.pap_tree.specs.Grammar.{Line}
use Rattle.pap_tree.specs.Stopping.{syntax, unsupported, binary_fraction, number, deep}
use Rattle.pap_tree.specs.Expressions.{IsWrong}
use Rattle.pap_expr.specs.declared.fault.ExprFault.{ExprFault}
use Rattle.pap_expr.specs.declared.fault.ExprFault.TheVariants as faults

-- the text is refused as a text of the line for this cause, at this byte; or memory ran out, which may be at
-- any text
abbrev pub IsExprFault : Line → List ℕ → ExprFault → Type 0
IsExprFault l text (faults.Syntax at) = IsWrong l text syntax at
IsExprFault l text (faults.Unsupported at) = IsWrong l text unsupported at
IsExprFault l text (faults.BinaryFraction at) = IsWrong l text binary_fraction at
IsExprFault l text (faults.Number at) = IsWrong l text number at
IsExprFault l text (faults.Deep at) = IsWrong l text deep at
IsExprFault l text faults.Memory = ⊥
