-- What the private functions append for statements.
use Rattle.std.specs.Prelude.{◌≡◌, ℕ, ◌+◌, List, ◌++◌, length}
use Rattle.pap_tree.specs.Term.{Term}
use Rattle.pap_tree.specs.Flowchart.{Body, done}
use Rattle.pap_machine.specs.declared.code.Instr.{Instr}
use Rattle.pap_compiler.specs.declared.names.Names.{Names}
use Rattle.pap_compiler.specs.CodeDecisions.{term_length, term_code, body_length, body_code, factor_code}
use Rattle.pap_compiler.specs.private.EmitViews.{IsAppended}
use Rattle.pap_compiler.specs.private.NameViews.{scope_of_names, entry_in}

-- the code of statements in a plan
abbrev pub code_in : Names → ℕ → Body → List Instr
code_in n = body_code (scope_of_names n) (entry_in n)

-- the code of a list of statements was appended
abbrev pub HasBody : Names → Body → List Instr → List Instr → Type 0
HasBody n b old new = IsAppended old (code_in n (length old) b) (body_length b) new

-- the code of the value of a `double` was appended
abbrev pub HasFactor : Names → Term → List Instr → List Instr → Type 0
HasFactor n e old new =
    IsAppended old (factor_code e (term_code (scope_of_names n) (length old) e)) (term_length e) new

-- the code of a statement was appended: with that of whatever follows it, it is the code of both
pub record IsLedOn (n : Names) (with : Body → Body) (old new : List Instr) : Type 0 where
  pub whole : (rest : Body) → new ++ code_in n (length new) rest ≡ old ++ code_in n (length old) (with rest)
  pub place : length new ≡ length old + body_length (with done)
