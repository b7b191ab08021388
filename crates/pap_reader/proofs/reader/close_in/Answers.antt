use Rattle.std.proofs.Common.{sym, ◌∙◌}
use Rattle.std.proofs.lemmas.Result.{on_ok_weaker}
use Rattle.pap_reader.proofs.Closings.{closed_in_body, closed_in_plan}
use Rattle.pap_reader.proofs.reader.close_in.Goals as goal

pub returns-then-is_in_body : goal.returns-then-is_in_body
returns-then-is_in_body c =
    on_ok_weaker c.close_in_body.result
    (λ h. closed_in_body c.args.child c.args.parent.now c.close_in_body.new.parent c.args.plan.now c.args.element (sym c.is_in_body.ensures ∙ c.if-is_in_body.true) h)
    c.close_in_body.ensures

pub returns-else-is_in_body : goal.returns-else-is_in_body
returns-else-is_in_body c =
    on_ok_weaker c.close_in_plan.result
    (λ h. closed_in_plan c.args.child c.args.parent.now c.args.plan.now c.close_in_plan.new.plan c.args.element (sym c.is_in_body.ensures ∙ c.if-is_in_body.false) h)
    c.close_in_plan.ensures
