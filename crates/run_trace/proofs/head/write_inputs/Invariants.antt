use Rattle.std.proofs.Common.{◌≡◌, ◌++◌, drop, map}
use Rattle.pap_tree.specs.Declarations.{declaration_of}
use Rattle.run_trace.specs.RunTexts.{input_lines}
use Rattle.run_trace.proofs.head.write_inputs.Given as goal

abbrev pub invariant-loop-at : goal.invariant-loop-at
invariant-loop-at l =
    l.out.items ++ input_lines l.given (map declaration_of (drop l.at l.declared)) (drop l.at l.inputs)
    ≡ l.initial.out.items ++ input_lines l.given (map declaration_of l.declared) l.inputs
