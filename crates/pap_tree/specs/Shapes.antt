-- What the node of an expression does, of the shapes that the code gives.
use Rattle.std.specs.Prelude.{◌≡◌}
use Rattle.pap_tree.specs.Term as meant
use Rattle.pap_tree.specs.Term.{Term, term_of, leaf, item, one, two, choice, whole, long, point, text, known, named, operator, method, divide}
use Rattle.pap_tree.specs.declared.shapes.Leaf.{Leaf}
use Rattle.pap_tree.specs.declared.shapes.Leaf.TheVariants as leaves
use Rattle.pap_tree.specs.declared.shapes.One.{One}
use Rattle.pap_tree.specs.declared.shapes.One.TheVariants as ones
use Rattle.pap_tree.specs.declared.shapes.Two.{Two}
use Rattle.pap_tree.specs.declared.shapes.Two.TheVariants as twos
use Rattle.pap_tree.specs.declared.shapes.Shape.{Shape}
use Rattle.pap_tree.specs.declared.shapes.Shape.TheVariants as shapes

-- what has no operand
abbrev pub leaf_meant : Leaf → meant.Leaf
leaf_meant (leaves.Int i) = whole i
leaf_meant (leaves.Long i) = long i
leaf_meant (leaves.Point d) = point d
leaf_meant (leaves.Text d) = text d
leaf_meant (leaves.Known k) = known k
leaf_meant (leaves.Var x) = named x.now

-- what is done with one operand
abbrev pub one_meant : One → meant.One
one_meant (ones.Unary op) = meant.unary op
one_meant ones.ValueOf = meant.value_of
one_meant (ones.ValueOfScaled s) = meant.value_of_scaled s
one_meant ones.NewInt = meant.new_big
one_meant (ones.SetScale s mode) = meant.set_scale s mode

-- what is done with two operands
abbrev pub two_meant : Two → meant.Two
two_meant (twos.Operator op) = operator op
two_meant (twos.Method m) = method m
two_meant (twos.Divide s mode) = divide s mode

-- an expression is of a shape
abbrev pub IsShape : Term → Shape → Type 0
IsShape t (shapes.Leaf l) = t ≡ leaf (leaf_meant l)
IsShape t (shapes.Item x e) = t ≡ item x.now (term_of e.now)
IsShape t (shapes.One op e) = t ≡ one (one_meant op) (term_of e.now)
IsShape t (shapes.Two op e f) = t ≡ two (two_meant op) (term_of e.now) (term_of f.now)
IsShape t (shapes.Choice c e f) = t ≡ choice (term_of c.now) (term_of e.now) (term_of f.now)
