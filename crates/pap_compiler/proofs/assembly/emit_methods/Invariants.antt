use Rattle.pap_compiler.proofs.PlanLemmas.{ArePartly}
use Rattle.pap_compiler.proofs.assembly.emit_methods.Given as goal

abbrev pub invariant-loop-m : goal.invariant-loop-m
invariant-loop-m l = ArePartly l.names l.methods l.m-index l.initial.code.items l.code.items
