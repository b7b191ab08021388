use Rattle.std.proofs.Common.{subst, sym, arith, ◌∙◌}
use Rattle.flowchart_comparison.specs.private.AlignmentViews.{IsTaken}
use Rattle.flowchart_comparison.proofs.pairing.pair_new.Goals as goal

pub tell-requires-clause-old_within : goal.tell-requires-clause-old_within
tell-requires-clause-old_within c = let h = c.in-Some.ensures.taken.0 in omega (arith, h, c.requires.many)

pub returns-in-Some-clause-taken : goal.returns-in-Some-clause-taken
returns-in-Some-clause-taken c =
    subst (λ o. IsTaken c.args.free.now c.take_free.new.free o) (sym c.tell.ensures.old_place) c.in-Some.ensures.taken

pub returns-in-Some-clause-proposed : goal.returns-in-Some-clause-proposed
returns-in-Some-clause-proposed c = c.tell.ensures.old_place ∙ c.in-Some.ensures.proposed
