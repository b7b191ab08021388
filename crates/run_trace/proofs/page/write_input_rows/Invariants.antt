use Rattle.std.proofs.Common.{◌≡◌, ◌++◌, drop, map}
use Rattle.pap_tree.specs.Declarations.{declaration_of}
use Rattle.run_trace.specs.RunPages.{input_rows}
use Rattle.run_trace.proofs.page.write_input_rows.Given as goal

abbrev pub invariant-loop-at : goal.invariant-loop-at
invariant-loop-at l =
    l.part ++ input_rows l.given (map declaration_of (drop l.at l.declared)) (drop l.at l.inputs)
    ≡ l.initial.part ++ input_rows l.given (map declaration_of l.declared) l.inputs
