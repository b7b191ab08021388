use Rattle.std.proofs.Common.{sym, subst}
use Rattle.std.specs.Prelude.{is_ok}
use Rattle.flowchart_markup.specs.Fragments.{IsMarkedUp}
use Rattle.flowchart_markup.proofs.FragmentLemmas.{more_marked}
use Rattle.flowchart_markup.proofs.page.Page.append.Goals as goal

pub invariant_of-self : goal.invariant_of-self
invariant_of-self c =
    more_marked (is_ok c.extend_from_slice.result) c.self.inside.bytes.items c.deref.result.now c.extend_from_slice.new.self.items
    c.extend_from_slice.ensures.items c.self.invariant
    (subst IsMarkedUp (sym c.deref.ensures.value) c.part.invariant)
