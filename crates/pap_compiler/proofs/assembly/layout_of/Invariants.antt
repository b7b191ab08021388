use Rattle.std.proofs.Common.{◌≡◌, ◌+◌, ◌++◌, max, map, drop}
use Rattle.pap_tree.specs.Flowchart.{body_of, routine_of}
use Rattle.pap_compiler.specs.CodeDecisions.{body_length, entries_from}
use Rattle.pap_compiler.specs.private.CodeDecisions.{methods_length}
use Rattle.pap_compiler.specs.Heights.{body_height, methods_height}
use Rattle.pap_compiler.proofs.assembly.layout_of.Given as goal

abbrev pub invariant-loop-m : goal.invariant-loop-m
invariant-loop-m l =
    let main = body_of l.fn.main in
    let all = map routine_of l.methods in
    let left = map routine_of (drop l.m-index l.methods) in
    record {
      entries : l.entries.items ++ entries_from l.at left ≡ entries_from (body_length main + 1) all;
      length : l.at + methods_length left ≡ body_length main + 1 + methods_length all;
      height : max l.height (methods_height left) ≡ max (body_height main) (methods_height all);
    }
