use Rattle.std.proofs.Common.{◌≡◌, take}
use Rattle.correction_ledger.specs.private.RowViews.{dues_of}
use Rattle.correction_ledger.proofs.outputs.push_outputs.Given as goal

abbrev pub invariant-loop-output : goal.invariant-loop-output
invariant-loop-output l = l.dues.items ≡ dues_of l.key (take l.output-index l.outputs)
