-- The most that a run may cost: the same sum over the text, with the larger branch of each IF, the larger part of each
-- conditional, and both sides of && and ||.
use Rattle.std.specs.Prelude.{ℕ, zero, suc, ◌+◌, max, List}
use Rattle.std.specs.Option.{option_map_or}
use Rattle.pap_tree.specs.Term.{Term, leaf, item, one, two, choice}
use Rattle.pap_tree.specs.Flowchart.{Body, done, eval, branch, execute, Routine}
use Rattle.pap_types.specs.Routines.{body_named}

-- the most that the evaluation of an expression may cost
abbrev pub term_bound : Term → ℕ
term_bound (leaf l) = 1
term_bound (item x e) = term_bound e + 1
term_bound (one op e) = term_bound e + 1
term_bound (two op e f) = term_bound e + term_bound f + 1
term_bound (choice c e f) = term_bound c + max (term_bound e + 1) (term_bound f) + 1

-- the most that a list of statements may cost, given the bounds of the methods
abbrev pub body_bound : (List ℕ → ℕ) → Body → ℕ
body_bound call done = 0
body_bound call (eval x e rest) = term_bound e + 1 + body_bound call rest
body_bound call (branch t a b rest) = term_bound t + 1 + max (body_bound call a + 1) (body_bound call b) + body_bound call rest
body_bound call (execute m rest) = call m + 2 + body_bound call rest

-- the most that a method may cost, where a chain of methods has at most so many
unfoldable pub method_bound : List Routine → ℕ → List ℕ → ℕ
method_bound ms zero m = 0
method_bound ms (suc n) m = option_map_or (body_bound (method_bound ms n)) (body_named ms m) 0
