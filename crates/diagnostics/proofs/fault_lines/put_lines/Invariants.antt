use Rattle.std.proofs.Common.{take, string_bytes}
use Rattle.diagnostics.specs.private.LineViews.{GivesWords, TellsAll}
use Rattle.diagnostics.proofs.fault_lines.put_lines.Given as goal

abbrev pub invariant-loop-fault : goal.invariant-loop-fault
invariant-loop-fault g l = TellsAll (GivesWords g.F.Fn l.words_of) (take l.fault-index l.told) (string_bytes l.initial.text) (string_bytes l.text)
