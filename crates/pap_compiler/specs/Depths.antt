-- How many calls a run has open at most: those of the longest chain of methods that MAIN begins.
use Rattle.std.specs.Prelude.{ℕ, zero, suc, ◌+◌, max, List}
use Rattle.std.specs.Option.{option_map_or}
use Rattle.pap_tree.specs.Flowchart.{Body, done, eval, branch, execute, Routine, Flowchart}
use Rattle.pap_types.specs.Routines.{body_named}
use Rattle.pap_types.specs.Limits.{longest_chain}

-- the greatest number of open calls in a list of statements, given those of the methods
abbrev pub body_depth : (List ℕ → ℕ) → Body → ℕ
body_depth call done = 0
body_depth call (eval x e rest) = body_depth call rest
body_depth call (branch t a b rest) = max (max (body_depth call a) (body_depth call b)) (body_depth call rest)
body_depth call (execute m rest) = max (call m + 1) (body_depth call rest)

-- the greatest number of open calls in a method, where a chain of methods has at most so many
unfoldable pub method_depth : List Routine → ℕ → List ℕ → ℕ
method_depth ms zero m = 0
method_depth ms (suc n) m = option_map_or (body_depth (method_depth ms n)) (body_named ms m) 0

-- the greatest number of calls that are open in a run of the plan
abbrev pub depth_of : Flowchart → ℕ
depth_of f = body_depth (method_depth f.methods longest_chain) f.main
