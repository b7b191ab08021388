-- What private contracts cite beside the definitions of CodeDecisions.
use Rattle.std.specs.Prelude.{ℕ, ◌+◌, List, [], ◌∷◌}
use Rattle.pap_tree.specs.declared.expression.Binary.TheVariants as binaries
use Rattle.pap_tree.specs.declared.expression.Call.TheVariants as calls
use Rattle.pap_tree.specs.Flowchart.{Routine, Flowchart}
use Rattle.pap_machine.specs.declared.code.Instr.TheVariants as i
use Rattle.pap_compiler.specs.CodeDecisions.{body_length}

abbrev pub methods_length : List Routine → ℕ
methods_length [] = 0
methods_length (m ∷ ms) = body_length m.body + 1 + methods_length ms

abbrev pub length_of : Flowchart → ℕ
length_of f = body_length f.main + 1 + methods_length f.methods
