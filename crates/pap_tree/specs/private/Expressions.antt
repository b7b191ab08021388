-- What private contracts cite beside the definitions of Expressions.
use Rattle.std.specs.Prelude.{ℕ, List}
use Rattle.pap_tree.specs.Grammar.{Constant, declared}
use Rattle.pap_tree.specs.Declarations.{DeclaredLiteral}
use Rattle.pap_tree.specs.Expressions.{IsText}

abbrev pub IsDeclared : List ℕ → DeclaredLiteral → Type 0
IsDeclared bytes d = IsText Constant bytes (declared d)
