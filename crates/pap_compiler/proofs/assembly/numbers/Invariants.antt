use Rattle.std.proofs.Common.{◌≡◌, ◌+◌, ◌++◌, map, drop}
use Rattle.pap_tree.specs.Declarations.{declaration_of}
use Rattle.pap_compiler.specs.CodeDecisions.{numbers_from}
use Rattle.pap_compiler.proofs.assembly.numbers.Given as goal

abbrev pub invariant-loop-i : goal.invariant-loop-i
invariant-loop-i l = l.numbers.items ++ numbers_from (l.first + l.i) (map declaration_of (drop l.i l.declared)) ≡ numbers_from l.first (map declaration_of l.declared)
