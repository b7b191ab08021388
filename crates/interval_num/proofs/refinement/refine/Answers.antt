use Rattle.std.proofs.Common.{rules, arith, ◌∙◌, sym, FitsSigned}
use Rattle.std.specs.Int.{w128}
use Rattle.std.proofs.lemmas.Int.{ints, to_z-of_z}
use Rattle.interval_num.specs.Soundness.{RefinementIsSound, NoneIsAllowed}
use Rattle.interval_num.proofs.RefinementLemmas.{refinement_sound, none_allowed, refined_apart, refined_part, if_some, if_none}
use Rattle.interval_num.proofs.refinement.refine.Goals as goal

pub unless_empty-requires-clause-low : goal.unless_empty-requires-clause-low
unless_empty-requires-clause-low c =
    let fl : FitsSigned w128 c.low_end-lo.result = search rules in
    let fp : FitsSigned w128 c.past.result = search rules in
    let low = simp to_z-of_z at c.past.ensures.inside in
    let end = c.low_end-lo.ensures.inside in
    rw (to_z-of_z w128 c.past.result fp) (omega (arith, ints))

pub unless_empty-requires-clause-high : goal.unless_empty-requires-clause-high
unless_empty-requires-clause-high c =
    let fh : FitsSigned w128 c.high_end-hi.result = search rules in
    let fs : FitsSigned w128 c.short_of.result = search rules in
    let high = simp to_z-of_z at c.short_of.ensures.inside in
    let end = c.high_end-hi.ensures.inside in
    rw (to_z-of_z w128 c.short_of.result fs) (omega (arith, ints))

pub returns-then-is_apart-clause-exact : goal.returns-then-is_apart-clause-exact
returns-then-is_apart-clause-exact c =
    let fl : FitsSigned w128 c.low_end-lo.result = search rules in
    let fh : FitsSigned w128 c.high_end-hi.result = search rules in
    let fp : FitsSigned w128 c.past.result = search rules in
    let fs : FitsSigned w128 c.short_of.result = search rules in
    let fe : FitsSigned w128 c.lo.result = search rules in
    let ff : FitsSigned w128 c.lo-then-is_apart.result = search rules in
    let low = simp to_z-of_z at c.past.ensures.value in
    let high = simp to_z-of_z at c.short_of.ensures.value in
    let made = simp to_z-of_z at c.unless_empty.ensures in
    let row = refined_apart c.args.v c.args.e c.args.allowed c.args.whole (sym c.if-is_apart.ensures) in
    cc (made, row, low, high, c.low_end-lo.ensures.value, c.high_end-hi.ensures.value, c.lo.ensures.value, c.lo-then-is_apart.ensures.value)

pub returns-then-is_apart-clause-sound : goal.returns-then-is_apart-clause-sound
returns-then-is_apart-clause-sound c = if_some c.unless_empty.result (RefinementIsSound c.args.v c.args.e c.args.allowed) (λ r is. refinement_sound c.args.v c.args.e r c.args.allowed c.args.whole c.requires.left_whole c.requires.right_whole (sym (returns-then-is_apart-clause-exact c) ∙ is))

pub returns-then-is_apart-clause-none : goal.returns-then-is_apart-clause-none
returns-then-is_apart-clause-none c = if_none c.unless_empty.result (NoneIsAllowed c.args.v c.args.e c.args.allowed) (λ is. none_allowed c.args.v c.args.e c.args.allowed c.args.whole c.requires.left_whole c.requires.right_whole (sym (returns-then-is_apart-clause-exact c) ∙ is))

pub returns-clause-exact : goal.returns-clause-exact
returns-clause-exact c =
    let fl : FitsSigned w128 c.low_end-lo.result = search rules in
    let fh : FitsSigned w128 c.high_end-hi.result = search rules in
    let made = simp to_z-of_z at c.unless_empty-2.ensures in
    let row = refined_part c.args.v c.args.e c.args.allowed c.args.whole (sym c.if-is_apart.ensures) in
    cc (made, row, c.low_end-lo.ensures.value, c.high_end-hi.ensures.value)

pub returns-clause-sound : goal.returns-clause-sound
returns-clause-sound c = if_some c.unless_empty-2.result (RefinementIsSound c.args.v c.args.e c.args.allowed) (λ r is. refinement_sound c.args.v c.args.e r c.args.allowed c.args.whole c.requires.left_whole c.requires.right_whole (sym (returns-clause-exact c) ∙ is))

pub returns-clause-none : goal.returns-clause-none
returns-clause-none c = if_none c.unless_empty-2.result (NoneIsAllowed c.args.v c.args.e c.args.allowed) (λ is. none_allowed c.args.v c.args.e c.args.allowed c.args.whole c.requires.left_whole c.requires.right_whole (sym (returns-clause-exact c) ∙ is))
