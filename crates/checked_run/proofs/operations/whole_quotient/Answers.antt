use Rattle.std.proofs.Common.{rules, FitsSigned, sym, ◌∙◌}
use Rattle.std.specs.Int.{w128}
use Rattle.std.proofs.lemmas.Int.{to_z-of_z}
use Rattle.checked_run.proofs.OperationLemmas.{quotient_answer}
use Rattle.checked_run.proofs.operations.whole_quotient.Goals as goal

pub returns : goal.returns
returns c =
    let held : FitsSigned w128 c.quotient_of.result = search rules in
    quotient_answer c.args.kind c.args.a c.args.b c.quotient_of.result c.whole.result
    (sym c.is_zero.ensures ∙ c.if-is_zero.false)
    c.quotient_of.ensures (simp to_z-of_z at c.whole.ensures)
