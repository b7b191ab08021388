-- What the private functions put together for a plan.
use Rattle.std.specs.Prelude.{◌≡◌, ℕ, ◌+◌, ◌++◌, max, List, map}
use Rattle.scaled_decimal.specs.Decimals.{Decimal}
use Rattle.pap_tree.specs.Flowchart.{Body, Routine, Flowchart}
use Rattle.pap_types.specs.Scopes.{variables_of, declared_table}
use Rattle.pap_machine.specs.declared.code.Instr.{Instr}
use Rattle.pap_compiler.specs.declared.names.Names.{Names}
use Rattle.pap_compiler.specs.declared.assembly.Layout.{Layout}
use Rattle.pap_compiler.specs.CodeDecisions.{body_length, methods_code, entries_from}
use Rattle.pap_compiler.specs.Heights.{body_height, methods_height}
use Rattle.pap_compiler.specs.private.NameViews.{scope_of_names, entry_in}

-- the code of methods in a plan
abbrev pub methods_code_in : Names → ℕ → List Routine → List Instr
methods_code_in n = methods_code (scope_of_names n) (entry_in n)

-- the methods stand behind MAIN and the end
pub record IsLayout (main : Body) (ms : List Routine) (l : Layout) : Type 0 where
  pub entries : l.entries.items ≡ entries_from (body_length main + 1) ms
  pub height : l.height ≡ max (body_height main) (methods_height ms)

abbrev pub tables_in : Flowchart → List (List Decimal)
tables_in f = map (λ d. declared_table d.value) (variables_of f ++ f.constants)
