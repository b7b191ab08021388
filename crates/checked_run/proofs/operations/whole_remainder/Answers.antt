use Rattle.std.proofs.Common.{rules, FitsSigned, sym, ◌∙◌}
use Rattle.std.specs.Int.{w128}
use Rattle.std.proofs.lemmas.Int.{to_z-of_z}
use Rattle.checked_run.proofs.OperationLemmas.{remainder_answer}
use Rattle.checked_run.proofs.operations.whole_remainder.Goals as goal

pub returns : goal.returns
returns c =
    let held : FitsSigned w128 c.remainder_of.result = search rules in
    remainder_answer c.args.kind c.args.a c.args.b c.remainder_of.result c.whole.result
    (sym c.is_zero.ensures ∙ c.if-is_zero.false)
    c.remainder_of.ensures (simp to_z-of_z at c.whole.ensures)
