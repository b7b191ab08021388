-- What may stand where: which expressions a stack waits for, and which tokens don't go on with one.
use Rattle.std.specs.Prelude.{ℕ, suc, Bool, true, false, nat_le, List, [], ◌∷◌}
use Rattle.pap_tree.specs.Words.{level_of_operator}
use Rattle.pap_tree.specs.Tokens.{Token}
use Rattle.pap_tree.specs.Grammar.{Line, Level, Assignment}
use Rattle.pap_tree.specs.Texts.{begins_number, begins_point}
use Rattle.expr_grammar.specs.Machine.{Frame, InNew, Negating, Denying, Left, State, Want, tightness}

-- the loosest level of an expression that the stack waits for
abbrev pub hole : List Frame → ℕ
hole [] = 0
hole (Negating ∷ k) = 7
hole (Denying ∷ k) = 7
hole (Left o x ∷ k) = suc (level_of_operator o)
hole (f ∷ k) = 0

-- The tokens may not begin what the state waits for: a number right after a prefix - would be a literal, and a literal
-- with a point is no argument of new BigDecimal.
abbrev pub clashes : State → List Token → Bool
clashes (Want (Negating ∷ k)) a = begins_number a
clashes (Want (InNew ∷ k)) a = begins_point a
clashes _ a = false

-- the token doesn't go on with what was read of the line
abbrev pub follows : Line → Token → Bool
follows (Level n) t = nat_le (tightness t) n
follows Assignment t = false
follows _ t = true
