-- What a text of a line stands for: a test has a tree, an assignment a target and a tree, a declared literal a literal.
use Rattle.std.proofs.Common.{◌≡◌, ℕ, List, refl}
use Rattle.std.specs.Prelude.{⊤}
use Rattle.pap_tree.specs.Term.{Term}
use Rattle.pap_tree.specs.Declarations.{DeclaredLiteral}
use Rattle.pap_tree.specs.Grammar.{Item, Line, Level, Signed, Rounding, Assignment, Constant, Big, Bigs, LineMeaning, tree, assignment, declared, Way}
use Rattle.pap_tree.specs.Grammar as ways
use Rattle.pap_tree.specs.Tokens.{Token}
use Rattle.pap_tree.specs.Texts.{Derives, by}

abbrev pub Suits : Line → LineMeaning → Type 0
Suits (Level n) x = (t : Term) × (x ≡ tree t)
Suits Assignment x = (name : List ℕ) × (e : Term) × (x ≡ assignment name e)
Suits Constant x = (d : DeclaredLiteral) × (x ≡ declared d)
Suits (Signed f) x = ⊤
Suits Rounding x = ⊤
Suits Big x = ⊤
Suits Bigs x = ⊤

of_way : (l : Line) (way : List Item) (x : LineMeaning) → Way l way x → Suits l x
of_way l way x (ways.choose c a b) = (_, refl)
of_way l way x (ways.tighter n t less) = (_, refl)
of_way l way x (ways.operation n o a b e) = (_, refl)
of_way l way x (ways.minus a) = (_, refl)
of_way l way x (ways.negation a) = (_, refl)
of_way l way x (ways.call c a b) = (_, refl)
of_way l way x (ways.divide_to s m a b h) = (_, refl)
of_way l way x (ways.set_scale_to s m a h) = (_, refl)
of_way l way x (ways.plain_call u w a h) = (_, refl)
of_way l way x (ways.a_literal f a) = (_, refl)
of_way l way x (ways.a_name w h) = (_, refl)
of_way l way x (ways.an_item w i h) = (_, refl)
of_way l way x (ways.in_brackets a) = (_, refl)
of_way l way x (ways.a_known k) = (_, refl)
of_way l way x (ways.a_value a) = (_, refl)
of_way l way x (ways.a_scaled_value s a h) = (_, refl)
of_way l way x (ways.a_new_big a) = (_, refl)
of_way l way x (ways.a_new_text d) = (_, refl)
of_way l way x (ways.assign w e h) = (_, _, refl)
of_way l way x (ways.assign_ended w e h) = (_, _, refl)
of_way l way x (ways.big_constant d) = (_, refl)
of_way l way x (ways.number_constant f a) = (_, refl)
of_way l way x (ways.table_constant ds) = (_, refl)
of_way l way x w = tt

pub of_text : (l : Line) (ts : List Token) (x : LineMeaning) → Derives l ts x → Suits l x
of_text l ts x (by way w inside) = of_way l way x w
