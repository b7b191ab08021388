use Rattle.std.proofs.Common.{sym, subst}
use Rattle.std.specs.Prelude.{All}
use Rattle.pap_tree.specs.Flowchart.{flowchart_of}
use Rattle.limits_file.specs.Limits.{HasSoundBounds}
use Rattle.range_parts.proofs.LimitLemmas.{found_sound}
use Rattle.range_parts.proofs.PartLemmas.{replaced_sound, are_parts}
use Rattle.range_parts.proofs.parts.split.Goals as goal

pub split_range-requires : goal.split_range-requires
split_range-requires c =
    found_sound c.args.limits.now c.args.range.now.name c.in-Some.limit.now c.requires (sym c.in-Some.ensures)

pub have_limits-requires : goal.have_limits-requires
have_limits-requires c =
    subst (All HasSoundBounds) (sym c.in_ok-first.ensures)
    (replaced_sound _ c.args.limits.now.inputs c.in-Some-split_range.ensures.first.sound c.requires)

pub have_limits-requires-then-have_limits : goal.have_limits-requires-then-have_limits
have_limits-requires-then-have_limits c =
    subst (All HasSoundBounds) (sym c.in_ok-second.ensures)
    (replaced_sound _ c.args.limits.now.inputs c.in-Some-split_range.ensures.second.sound c.requires)

pub returns-then-have_limits-2 : goal.returns-then-have_limits-2
returns-then-have_limits-2 c =
    are_parts (flowchart_of c.args.t.now) c.args.limits.now c.in-Some.limit.now c.args.range.now.name
    (sym c.in-Some.ensures) c.requires c.in_ok-first.first c.in_ok-second.second _ c.plan-typed.ensures.well_typed
    c.in-Some-split_range.ensures c.in_ok-first.ensures c.in_ok-second.ensures
    (c.have_limits.ensures c.if-have_limits.true)
    (c.have_limits-then-have_limits.ensures c.if-have_limits-2.true)
