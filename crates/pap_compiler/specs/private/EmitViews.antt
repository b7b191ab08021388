-- What the private functions append to a code.
use Rattle.std.specs.Prelude.{◌≡◌, ℕ, ◌+◌, ◌<◌, ◌^◌, List, [], ◌∷◌, ◌++◌, length, Option, Some, None}
use Rattle.pap_tree.specs.declared.expression.Binary.{Binary}
use Rattle.pap_tree.specs.declared.expression.Binary.TheVariants as binaries
use Rattle.pap_tree.specs.Term.{Term, operator, two}
use Rattle.pap_types.specs.Scopes.{Scope}
use Rattle.pap_machine.specs.declared.code.Instr.{Instr}
use Rattle.pap_machine.specs.declared.code.Instr.TheVariants as i
use Rattle.pap_compiler.specs.declared.names.Names.{Names}
use Rattle.pap_compiler.specs.private.NameViews.{scope_of_names}
use Rattle.pap_compiler.specs.CodeDecisions.{term_length, term_code}

-- so many instructions stand behind the old ones
pub record IsAppended (old more : List Instr) (count : ℕ) (new : List Instr) : Type 0 where
  pub code : new ≡ old ++ more
  pub place : length new ≡ length old + count

-- there is room for so many further instructions
abbrev pub HasRoom : List Instr → ℕ → Type 0
HasRoom old count = length old + count < 2 ^ 32

-- the code of an expression was appended
abbrev pub HasTerm : Names → Term → List Instr → List Instr → Type 0
HasTerm n e old new = IsAppended old (term_code (scope_of_names n) (length old) e) (term_length e) new

-- that of an operand, and an instruction
abbrev pub HasOne : Names → Term → Instr → List Instr → List Instr → Type 0
HasOne n e last old new =
    IsAppended old (term_code (scope_of_names n) (length old) e ++ last ∷ []) (term_length e + 1) new

-- how many instructions two operands and one behind or between them have
abbrev pub two_length : Term → Term → ℕ
two_length e f = term_length e + term_length f + 1

-- two operands, and an instruction
abbrev pub two_code : Scope → ℕ → Term → Term → Instr → List Instr
two_code scope at e f last = term_code scope at e ++ (term_code scope (at + term_length e) f ++ last ∷ [])

abbrev pub skip_to : Binary → ℕ → Instr
skip_to binaries.Or to = i.OrSkip to
skip_to _ to = i.AndSkip to

-- two operands, of which the right one may be skipped
abbrev pub skip_code : Scope → Binary → ℕ → Term → Term → List Instr
skip_code scope op at e f =
    term_code scope at e
    ++ skip_to op (at + term_length e + 1 + term_length f) ∷ term_code scope (at + term_length e + 1) f

-- the code of two operands was appended, with an instruction behind them, or with what skips the right one
abbrev pub HasTwo : Names → Term → Term → Instr → List Instr → List Instr → Type 0
HasTwo n e f last old new = IsAppended old (two_code (scope_of_names n) (length old) e f last) (two_length e f) new

abbrev pub HasJoined : Names → Binary → Term → Term → List Instr → List Instr → Type 0
HasJoined n op e f old new = IsAppended old (skip_code (scope_of_names n) op (length old) e f) (two_length e f) new

-- whether an instruction stands behind the operands of an operator
abbrev pub HasInstr : Binary → Option Instr → Type 0
HasInstr op (Some last) =
    (scope : Scope) (at : ℕ) (e f : Term) → term_code scope at (two (operator op) e f) ≡ two_code scope at e f last
HasInstr op None =
    (scope : Scope) (at : ℕ) (e f : Term) → term_code scope at (two (operator op) e f) ≡ skip_code scope op at e f
