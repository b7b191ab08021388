use Rattle.std.proofs.Common.{ap₂, ◌∙◌}
use Rattle.std.specs.Ordering.{nat_cmp, ordering_then}
use Rattle.pap_tree.proofs.PaddedOrder.{ordered}
use Rattle.pap_tree.proofs.FrontOrder.{decided}
use Rattle.pap_tree.proofs.short_text.ShortTextOrd.cmp.Goals as goal

pub returns-in-Equal : goal.returns-in-Equal
returns-in-Equal c =
    let a = c.self.inside in
    let b = c.other.inside in
    let same = ap₂ ordering_then c.cmp-in-Equal.ensures c.cmp-in-Equal-2.ensures ∙ ordered a.bytes b.bytes a.len b.len c.self.invariant c.other.invariant in
    rw (← c.self.view_is, ← c.other.view_is) (c.then.ensures ∙ same)

pub returns-in_default : goal.returns-in_default
returns-in_default c =
    let a = c.self.inside in
    let b = c.other.inside in
    let fronts = c.cmp.ensures ∙ ap₂ nat_cmp c.front.ensures c.front-2.ensures in
    rw (← c.self.view_is, ← c.other.view_is) (fronts ∙ decided a.bytes b.bytes a.len b.len c.self.told c.other.told c.self.invariant c.other.invariant
    (λ e. c.in_default.not-Equal (fronts ∙ e)))
