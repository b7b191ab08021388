-- How many values a plan has on the stack at most: operands are evaluated from the left, each leaves its value, and
-- every statement begins with no value.
use Rattle.std.specs.Prelude.{ℕ, ◌+◌, max, List, [], ◌∷◌}
use Rattle.pap_tree.specs.declared.expression.Binary.TheVariants as binaries
use Rattle.pap_tree.specs.Term.{Term, leaf, item, one, two, choice, Two, operator}
use Rattle.pap_tree.specs.Flowchart.{Body, done, eval, branch, execute, Routine, Flowchart}

-- the height of a right operand: the value of the left one lies below it, but that of && and || is taken off
abbrev pub right_height : Two → ℕ → ℕ
right_height (operator binaries.And) height = height
right_height (operator binaries.Or) height = height
right_height _ height = height + 1

-- the greatest number of values on the stack while an expression is evaluated, beside those below
abbrev pub term_height : Term → ℕ
term_height (leaf l) = 1
term_height (item x e) = term_height e
term_height (one op e) = term_height e
term_height (two op e f) = max (term_height e) (right_height op (term_height f))
term_height (choice c e f) = max (term_height c) (max (term_height e) (term_height f))

-- the greatest number of values on the stack while a list of statements is executed, beside those below
abbrev pub body_height : Body → ℕ
body_height done = 0
body_height (eval x e rest) = max (term_height e) (body_height rest)
body_height (branch t a b rest) =
    max (term_height t) (max (max (body_height a) (body_height b)) (body_height rest))
body_height (execute m rest) = body_height rest

-- the greatest of the methods' heights
abbrev pub methods_height : List Routine → ℕ
methods_height [] = 0
methods_height (m ∷ ms) = max (body_height m.body) (methods_height ms)

-- the greatest number of values on the stack in a run of the plan
abbrev pub height_of : Flowchart → ℕ
height_of f = max (body_height f.main) (methods_height f.methods)
