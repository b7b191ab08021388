use Rattle.std.proofs.Common.{[], ◌∷◌, ◌++◌, sym, ap, ◌∙◌, append_assoc}
use Rattle.std.specs.Vec.Iter.{into_iter_items}
use Rattle.pap_plan.specs.declared.refusal.PlanRefusal.TheVariants.{Types}
use Rattle.diagnostics.proofs.FurtherLemmas.{mapped_more}
use Rattle.diagnostics.proofs.stages.as_type_refusals.Goals as goal

pub loop-fault-preserved : goal.loop-fault-preserved
loop-fault-preserved c =
    let l = c.loop-fault in
    let fault = c.in-Some.fault in
    record {
      told = mapped_more Types l.yielded fault l.refusals.items c.put.new.refusals.items l.invariant.told c.in_ok-put.ensures;
      rest = append_assoc l.yielded (fault ∷ []) (into_iter_items c.next.new.self) ∙ ap (λ t. l.yielded ++ t) (sym c.in-Some.ensures.steps.0) ∙ l.invariant.rest;
    }
