use Rattle.std.proofs.Common.{◌≡◌, ◌⊎◌, Some, set, sym, subst}
use Rattle.std.specs.Prelude.{option_copied}
use Rattle.pap_tree.specs.Flowchart.{flowchart_of}
use Rattle.interval_analysis.specs.Surveys.{IsLeastRange}
use Rattle.range_marks.specs.private.InternalViews.{Joins, PutsFound}
use Rattle.range_marks.proofs.JoinLemmas.{no_range, range_joined}
use Rattle.range_marks.proofs.internals.join_found.Goals as goal

pub returns-then-number-ranges : goal.returns-then-number-ranges
returns-then-number-ranges c =
    let f = flowchart_of c.args.plan.now in
    let target = c.args.target.now in
    let a = c.args.ranges.now in
    let n = c.in-Some-internal_number.number in
    let range = c.in-Some.range.now in
    let known = c.index-ranges-number.result in
    let joined = c.joined.result in
    subst (λ o. Joins f.internals (PutsFound target (option_copied o)) a (set a n joined)) (sym c.in-Some.is)
    (range_joined f target range known joined a n c.in-Some-internal_number.ensures c.index-ranges-number.is c.if-number-ranges.true
    (subst (λ m. IsLeastRange (λ r. (m ≡ r) ⊎ (range ≡ r)) joined) (sym c.index-ranges-number.is) c.joined.ensures))

pub returns-else-number-ranges : goal.returns-else-number-ranges
returns-else-number-ranges c =
    let f = flowchart_of c.args.plan.now in
    let target = c.args.target.now in
    let a = c.args.ranges.now in
    subst (λ o. Joins f.internals (PutsFound target (option_copied o)) a a) (sym c.in-Some.is)
    (no_range f target (Some c.in-Some.range.now) a c.in-Some-internal_number.number c.in-Some-internal_number.ensures
    c.if-number-ranges.false)
