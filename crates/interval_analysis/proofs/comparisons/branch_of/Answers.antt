use Rattle.std.proofs.Common.{◌≡◌, Some, sym, ap, ◌∙◌, subst}
use Rattle.std.specs.Option.{option_map}
use Rattle.interval_analysis.specs.private.Changes.{after_change}
use Rattle.interval_analysis.specs.private.ComparisonViews.{CanNarrowAt, against, narrowed}
use Rattle.interval_analysis.proofs.PartLemmas.{second_narrows}
use Rattle.interval_analysis.proofs.comparisons.branch_of.Goals as goal

pub narrow-requires-2 : goal.narrow-requires-2
narrow-requires-2 c n right =
    let rs = c.args.ranges.now in
    let s = c.args.sides.now in
    let after = after_change rs c.in-Some.left in
    let first : Some after ≡ narrowed s.left.variable (against s.right.range c.args.allowed s.whole) rs =
    ap (option_map (after_change rs)) (sym c.in-Some.is)
    ∙ c.narrow.ensures
    ∙ ap (λ a. narrowed s.left.variable a rs) c.of-by_right.ensures in
    subst (λ a. CanNarrowAt n a after) (sym (c.of-by_left.ensures ∙ ap (λ e. against s.left.range e s.whole) c.exchanged.ensures))
    (second_narrows s c.args.allowed rs after c.requires.can first n right)
