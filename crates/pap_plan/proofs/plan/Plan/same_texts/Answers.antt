use Rattle.std.proofs.Common.{sym, ◌∙◌}
use Rattle.pap_plan.proofs.RunLemmas.{seen_same}
use Rattle.pap_plan.proofs.plan.Plan.same_texts.Goals as goal

pub returns-then-same_bytes-clause-meaning : goal.returns-then-same_bytes-clause-meaning
returns-then-same_bytes-clause-meaning c t =
    let plans = sym c.deref.ensures.value ∙ c.same_bytes.ensures.0 c.if-same_bytes.true ∙ c.deref-2.ensures.value in
    let limits = sym c.deref-then-same_bytes.ensures.value ∙ c.same_bytes-then-same_bytes.ensures.0 t ∙ c.deref-then-same_bytes-2.ensures.value in
    seen_same _ _ _ _ _ _ _ _ c.self.view_is c.other.view_is c.self.invariant c.other.invariant plans limits
