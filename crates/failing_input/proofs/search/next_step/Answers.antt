use Rattle.std.proofs.Common.{sym, subst}
use Rattle.std.specs.Prelude.{All}
use Rattle.failing_input.specs.private.SampleViews.{IsSoundRange}
use Rattle.pap_tree.specs.Flowchart.{flowchart_of}
use Rattle.failing_input.proofs.PartLemmas.{passes_walk}
use Rattle.failing_input.proofs.SampleLemmas.{sound_ranges}
use Rattle.failing_input.proofs.search.next_step.Goals as goal

pub best_split-requires-clause-ranges : goal.best_split-requires-clause-ranges
best_split-requires-clause-ranges c =
    subst (All IsSoundRange) (sym c.deref-2.ensures.value)
    (sound_ranges c.args.part.now c.args.t.now.inputs.items c.in_ok-ranges.ranges.items c.in_ok-ranges.ensures)

pub returns-then-passed : goal.returns-then-passed
returns-then-passed c =
    passes_walk (flowchart_of c.args.t.now) c.args.part.now c.in_ok-passed.passed c.if-passed.true c.in_ok-passed.ensures
