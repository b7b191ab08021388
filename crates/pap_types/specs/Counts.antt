-- How large a plan is at most (docs/PROFILE.md, "Limits").
use Rattle.std.specs.Prelude.{ℕ, ◌+◌, ◌≤◌, max, List, [], ◌∷◌, length, All, ⊤}
use Rattle.pap_tree.specs.Limits.{most_inputs, most_outputs, most_internals, most_constants, most_methods, most_statements, most_nesting, most_tokens}
use Rattle.pap_tree.specs.Term.{Term}
use Rattle.pap_tree.specs.Numbering.{nodes}
use Rattle.pap_tree.specs.Scales.{KeepsScales}
use Rattle.pap_tree.specs.Flowchart.{Body, done, eval, branch, execute, Routine, Flowchart}
use Rattle.pap_tree.specs.Statements.{written}

-- ---- expressions

-- an expression has no more nodes than an expression may have tokens
pub record IsSmallTerm (e : Term) : Type 0 where
  pub size : nodes e ≤ most_tokens
  pub scales : KeepsScales e

-- ---- statements

-- each expression of a list of statements is small
abbrev pub AreSmallTerms : Body → Type 0
AreSmallTerms done = ⊤
AreSmallTerms (eval x e rest) = IsSmallTerm e × AreSmallTerms rest
AreSmallTerms (branch t a b rest) = IsSmallTerm t × AreSmallTerms a × AreSmallTerms b × AreSmallTerms rest
AreSmallTerms (execute m rest) = AreSmallTerms rest

-- how many IFs stand in one another, at most
abbrev pub nesting : Body → ℕ
nesting done = 0
nesting (eval x e rest) = nesting rest
nesting (branch t a b rest) = max (1 + max (nesting a) (nesting b)) (nesting rest)
nesting (execute m rest) = nesting rest

-- how many statements the methods have as they are written
abbrev pub methods_written : List Routine → ℕ
methods_written [] = 0
methods_written (m ∷ ms) = written m.body + methods_written ms

-- how deep the IFs of the methods are nested at most
abbrev pub methods_nesting : List Routine → ℕ
methods_nesting [] = 0
methods_nesting (m ∷ ms) = max (nesting m.body) (methods_nesting ms)

-- ---- the plan

-- There is no more of anything in a plan than its limit.
pub record IsWithinCounts (f : Flowchart) : Type 0 where
  pub inputs : length f.inputs ≤ most_inputs
  pub outputs : length f.outputs ≤ most_outputs
  pub internals : length f.internals ≤ most_internals
  pub constants : length f.constants ≤ most_constants
  pub methods : length f.methods ≤ most_methods
  pub statements : written f.main + methods_written f.methods ≤ most_statements
  pub main_nesting : nesting f.main ≤ most_nesting
  pub nesting : methods_nesting f.methods ≤ most_nesting
  pub main_terms : AreSmallTerms f.main
  pub terms : All (λ m. AreSmallTerms m.body) f.methods
