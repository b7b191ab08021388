-- What the reading answers.
use Rattle.std.specs.Prelude.{◌≡◌, List, [], ◌∷◌, Option, Some, None, Result, Ok, Err, ⊤}
use Rattle.pap_tree.specs.Term.{term_of}
use Rattle.pap_tree.specs.Grammar.{Line, Level, Assignment, LineMeaning, tree, assignment}
use Rattle.pap_tree.specs.declared.name.Name.{Name}
use Rattle.expr_grammar.specs.Machine.{Frame, Assigning}
use Rattle.expr_grammar.specs.Run.{Refusal}
use Rattle.pap_expr.specs.declared.expression.Kind.{Kind}
use Rattle.pap_expr.specs.declared.expression.Kind.TheVariants as kinds
use Rattle.pap_expr.specs.declared.fault.ExprFault.{ExprFault}
use Rattle.pap_expr.specs.declared.fault.ExprFault.TheVariants as faults
use Rattle.pap_expr.specs.declared.reading.Reading.{Reading}
use Rattle.pap_expr.specs.declared.reading.Reading.TheVariants as readings
use Rattle.pap_expr.specs.private.Views.{refusal_of}

-- the line of the grammar that a text is read as
abbrev pub line_of : Kind → Line
line_of kinds.Test = Level 0
line_of kinds.Assignment = Assignment

abbrev pub meaning_of : Reading → LineMeaning
meaning_of (readings.Test e) = tree (term_of e)
meaning_of (readings.Assignment w e) = assignment w (term_of e)

-- what waits for the expression of an assignment, or of a test
abbrev pub base_of : Option Name → List Frame
base_of None = []
base_of (Some w) = Assigning w ∷ []

-- the fault is the refusal; or memory ran out
abbrev pub Fails : Result LineMeaning Refusal → ExprFault → Type 0
Fails r faults.Memory = ⊤
Fails r e = r ≡ Err (refusal_of e)

-- the same meaning or refusal; or memory ran out
abbrev pub Answers : Result LineMeaning Refusal → Result Reading ExprFault → Type 0
Answers r (Ok x) = r ≡ Ok (meaning_of x)
Answers r (Err e) = Fails r e
