use Rattle.std.proofs.Common.{◌≡◌, ◌++◌, take, string_bytes}
use Rattle.pap_cli.specs.private.RunViews.{named_lines}
use Rattle.pap_cli.proofs.once.write_values.Given as goal

abbrev pub invariant-loop-output : goal.invariant-loop-output
invariant-loop-output l =
    string_bytes l.text ≡ string_bytes l.initial.text ++ named_lines (take l.output-index l.outputs)
