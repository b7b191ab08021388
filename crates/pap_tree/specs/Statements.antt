-- The numbers of statements: in the order of the text, a branch before its first list and this before its second.
use Rattle.std.specs.Prelude.{ℕ, ◌+◌, ◌-◌, ◌==◌, nat_lt, if◌then◌else◌, Option, Some, None}
use Rattle.pap_tree.specs.Term.{Term}
use Rattle.pap_tree.specs.Flowchart.{Body, done, eval, branch, execute}

-- how many statements a list has as it is written
abbrev pub written : Body → ℕ
written done = 0
written (eval x e rest) = 1 + written rest
written (branch t a b rest) = 1 + written a + written b + written rest
written (execute x rest) = 1 + written rest

-- the expression of the statement of a number: the value of an assignment, or the test of a branch
abbrev pub term_at : Body → ℕ → Option Term
term_at done n = None
term_at (eval x e rest) n = if n == 0 then Some e else term_at rest (n - 1)
term_at (branch t a b rest) n =
    if n == 0 then Some t
    else if nat_lt (n - 1) (written a) then term_at a (n - 1)
    else if nat_lt (n - 1) (written a + written b) then term_at b (n - 1 - written a)
    else term_at rest (n - 1 - (written a + written b))
term_at (execute m rest) n = if n == 0 then None else term_at rest (n - 1)
