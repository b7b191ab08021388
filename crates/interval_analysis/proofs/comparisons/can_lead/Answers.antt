use Rattle.std.proofs.Common.{◌∙◌, ap, subst}
use Rattle.std.specs.Bool.{OnTrue}
use Rattle.interval_walk.specs.Branches.{can_have}
use Rattle.interval_analysis.specs.private.ComparisonViews.{AreApart}
use Rattle.interval_analysis.proofs.ApartLemmas.{apart_leads}
use Rattle.interval_analysis.proofs.comparisons.can_lead.Goals as goal

pub returns-then-are_apart : goal.returns-then-are_apart
returns-then-are_apart c =
    let apart : AreApart c.args.sides.now = subst (λ b. OnTrue b (AreApart c.args.sides.now)) c.if-are_apart.true c.are_apart.ensures in
    c.can_have.ensures ∙ ap (can_have c.args.allowed) c.requires.between
    ∙ apart_leads c.args.sides.now c.args.allowed c.args.ranges.now c.requires.can apart
