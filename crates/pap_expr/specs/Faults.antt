-- Which faults a text has.
use Rattle.std.specs.Prelude.{ℕ, List, ⊤}
use Rattle.pap_tree.specs.Grammar.{Line}
use Rattle.pap_tree.specs.Stopping.{syntax, unsupported, binary_fraction, number, deep}
use Rattle.pap_tree.specs.Expressions.{IsWrong}
use Rattle.pap_expr.specs.declared.fault.ExprFault.{ExprFault}
use Rattle.pap_expr.specs.declared.fault.ExprFault.TheVariants as faults

-- the bytes are wrong for this cause at this byte; or memory ran out, which says nothing of the bytes
abbrev pub IsFaultOf : Line → List ℕ → ExprFault → Type 0
IsFaultOf l bytes (faults.Syntax n) = IsWrong l bytes syntax n
IsFaultOf l bytes (faults.Unsupported n) = IsWrong l bytes unsupported n
IsFaultOf l bytes (faults.BinaryFraction n) = IsWrong l bytes binary_fraction n
IsFaultOf l bytes (faults.Number n) = IsWrong l bytes number n
IsFaultOf l bytes (faults.Deep n) = IsWrong l bytes deep n
IsFaultOf l bytes faults.Memory = ⊤
