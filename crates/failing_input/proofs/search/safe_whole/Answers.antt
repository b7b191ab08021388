use Rattle.std.proofs.Common.{◌∷◌, [], ◌++◌, ap, ◌∙◌}
use Rattle.pap_tree.specs.Flowchart.{flowchart_of}
use Rattle.failing_input.proofs.WholeLemmas.{whole_safe}
use Rattle.failing_input.proofs.search.safe_whole.Goals as goal

pub returns : goal.returns
returns c =
    let part = c.in_ok-part.part in
    whole_safe (flowchart_of c.args.t.now) c.args.limits.now part c.push.new.self.items c.plan-typed.ensures.well_typed
    c.plan-typed.ensures.counted c.requires.limits c.requires.passed c.in_ok-part.ensures
    (c.in_ok-push.ensures.items ∙ ap (λ ps. ps ++ part ∷ []) c.new-parts.ensures.items)
