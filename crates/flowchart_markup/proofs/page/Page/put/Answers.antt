use Rattle.std.proofs.Common.{◌++◌, IsTrue, map, sym, ap, subst, ◌∙◌}
use Rattle.std.specs.Prelude.{is_ok}
use Rattle.flowchart_markup.specs.Templates.{is_own}
use Rattle.flowchart_markup.specs.Fragments.{fill_text, template_text}
use Rattle.flowchart_markup.proofs.FragmentLemmas.{one_marked, fills_inert, more_marked}
use Rattle.flowchart_markup.proofs.page.Page.put.Goals as goal

pub invariant_of-self : goal.invariant_of-self
invariant_of-self c =
    let template = c.as_bytes.result.now in
    let fills = map fill_text c.args.fills.now in
    more_marked (is_ok c.extend_from_slice.result) c.self.inside.bytes.items c.deref.result.now c.extend_from_slice.new.self.items
    c.extend_from_slice.ensures.items c.self.invariant
    (one_marked template fills c.deref.result.now (subst (λ t. IsTrue (is_own t)) (sym c.as_bytes.ensures.value) c.requires)
    (fills_inert c.args.fills.now c.each_is_inert.ensures)
    (c.deref.ensures.value ∙ c.in_ok-push_filled.ensures ∙ ap (λ l. l ++ template_text template fills) c.new-html.ensures.items))
