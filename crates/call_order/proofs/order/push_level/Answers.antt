use Rattle.std.proofs.Common.{ap, ◌∙◌}
use Rattle.call_order.proofs.OrderLemmas.{is_of, is_other, pushed, passed}
use Rattle.call_order.proofs.order.push_level.Goals as goal
use Rattle.call_order.proofs.order.push_level.Goals.{then-eq+in_ok-push, else-eq}

pub loop-i-preserved : goal.loop-i-preserved
loop-i-preserved c =
    elim c.if-eq.branch [
      | then-eq+in_ok-push w ↦ pushed _ _ _ c.loop-i.order.items _ c.loop-i.invariant c.loop-i-test.true (is_of _ _ w.if-eq.ensures) (ap (λ v. v.items) w.order-is ∙ w.in_ok-push.ensures.items)
      | else-eq w ↦ passed _ _ _ c.loop-i.order.items _ c.loop-i.invariant (is_other _ _ w.if-eq.ensures) (ap (λ v. v.items) w.order-is)
    ]
