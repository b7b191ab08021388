-- Expanded statements: an EVAL is one; an IF is one, with those of both its branches; an EXECUTE is one, with those of
-- the method's body.
use Rattle.std.specs.Prelude.{ℕ, zero, suc, ◌+◌, List}
use Rattle.std.specs.Option.{option_map_or}
use Rattle.pap_tree.specs.Flowchart.{Body, done, eval, branch, execute, Routine, Flowchart}
use Rattle.pap_types.specs.Routines.{body_named}
use Rattle.pap_types.specs.Limits.{longest_chain}

-- the expanded statements of a list of statements, given those of each method's body
abbrev pub expanded : (List ℕ → ℕ) → Body → ℕ
expanded call done = 0
expanded call (eval x e rest) = 1 + expanded call rest
expanded call (branch t a b rest) = 1 + expanded call a + expanded call b + expanded call rest
expanded call (execute m rest) = 1 + call m + expanded call rest

-- the expanded statements of a method's body, where a chain of methods has at most so many
unfoldable pub expanded_of : List Routine → ℕ → List ℕ → ℕ
expanded_of ms zero m = 0
expanded_of ms (suc n) m = option_map_or (expanded (expanded_of ms n)) (body_named ms m) 0

-- the expanded statements of MAIN
abbrev pub expanded_in : Flowchart → ℕ
expanded_in f = expanded (expanded_of f.methods longest_chain) f.main
