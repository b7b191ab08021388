use Rattle.std.proofs.Common.{◌≡◌, ◌++◌, drop, map}
use Rattle.pap_tree.specs.Declarations.{declaration_of}
use Rattle.failing_input.specs.SearchTexts.{input_words}
use Rattle.failing_input.proofs.text.write_values.Given as goal

abbrev pub invariant-loop-at : goal.invariant-loop-at
invariant-loop-at l =
    l.out.items ++ input_words (map declaration_of (drop l.at l.declared)) (drop l.at l.inputs)
    ≡ l.initial.out.items ++ input_words (map declaration_of l.declared) l.inputs
