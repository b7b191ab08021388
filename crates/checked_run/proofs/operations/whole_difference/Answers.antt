use Rattle.std.proofs.Common.{rules, FitsSigned}
use Rattle.std.specs.Int.{w128}
use Rattle.std.proofs.lemmas.Int.{to_z-of_z}
use Rattle.checked_run.proofs.OperationLemmas.{difference_answer}
use Rattle.checked_run.proofs.operations.whole_difference.Goals as goal

pub returns : goal.returns
returns c =
    let held : FitsSigned w128 c.difference_of.result = search rules in
    difference_answer c.args.kind c.args.a c.args.b c.difference_of.result c.whole.result
    c.difference_of.ensures (simp to_z-of_z at c.whole.ensures)
