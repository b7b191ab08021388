use Rattle.std.proofs.Common.{[], ◌∷◌, sym, ap, ◌∙◌}
use Rattle.interval_analysis.specs.private.Changes.{after_change, changed}
use Rattle.interval_analysis.proofs.ChangeLemmas.{changed-append}
use Rattle.interval_analysis.proofs.comparisons.add.Goals as goal

pub returns-in_ok-push : goal.returns-in_ok-push
returns-in_ok-push c ranges =
    let was = c.args.changes.now.items in
    ap (changed ranges) c.in_ok-push.ensures.items
    ∙ changed-append ranges was (c.in-Some.change ∷ [])
    ∙ ap (after_change (changed ranges was)) (sym c.in-Some.is)
