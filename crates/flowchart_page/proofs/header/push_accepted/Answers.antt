use Rattle.std.proofs.Common.{◌≡◌, ◌++◌, ap, ◌∙◌}
use Rattle.pap_types.specs.Meaning.{bound_of}
use Rattle.pap_plan.specs.Plans.{meaning}
use Rattle.flowchart_page.specs.Pages.{accepted_text}
use Rattle.flowchart_page.proofs.HeaderLemmas.{on_ok}
use Rattle.flowchart_page.proofs.header.push_accepted.Goals as goal

pub returns : goal.returns
returns c =
    let old = c.args.html.now.items in
    let new = c.push_own.new.html.items in
    on_ok c.push_own.result (new ≡ old ++ c.deref.result.now)
    (new ≡ old ++ accepted_text (bound_of (meaning c.args.plan.now).flowchart)) c.push_own.ensures
    (λ e. e ∙ ap (λ t. old ++ t) (c.deref.ensures ∙ c.in_ok-text.ensures ∙ ap accepted_text c.bound.ensures.bound))
