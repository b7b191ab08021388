use Rattle.std.proofs.Common.{◌∙◌, sym, ap, Err}
use Rattle.std.proofs.lemmas.Result.{err_from_is_err_and}
use Rattle.interval_num.specs.Rows.{difference_of}
use Rattle.interval_num.specs.Soundness.{DifferenceIsSound}
use Rattle.interval_num.proofs.AlignmentLemmas.{if_ok}
use Rattle.interval_num.proofs.ExactLemmas.{difference_sound}
use Rattle.interval_num.proofs.MachineLemmas.{held_difference}
use Rattle.interval_num.proofs.decimals.abs_sub.Goals as goal

pub returns-in_err-x-clause-exact : goal.returns-in_err-x-clause-exact
returns-in_err-x-clause-exact c =
    let p = err_from_is_err_and c.from_residual.result c.from_residual.ensures.1 in
    p.1 ∙ ap Err p.2 ∙ sym (c.in_err-x.ensures.exact difference_of)

pub returns-clause-exact : goal.returns-clause-exact
returns-clause-exact c =
    let lo = held_difference c.lo.result c.hi.result c.in_ok-x.x.lo c.in_ok-x.y.hi c.lo.ensures.value c.hi.ensures.value c.lo.ensures.kept.ends.low c.hi.ensures.kept.ends.high in
    let hi = held_difference c.hi-2.result c.lo-2.result c.in_ok-x.x.hi c.in_ok-x.y.lo c.hi-2.ensures.value c.lo-2.ensures.value c.hi-2.ensures.kept.ends.high c.lo-2.ensures.kept.ends.low in
    cc (c.in_ok-x.ensures.exact difference_of, c.kept.ensures, lo, hi, c.s_lo.ensures.value, c.s_lo-2.ensures.value, c.s_hi.ensures.value, c.max-s_lo.ensures)

pub returns-clause-sound : goal.returns-clause-sound
returns-clause-sound c = if_ok c.kept.result (DifferenceIsSound c.args.a c.args.b) (λ r e. difference_sound c.args.a c.args.b r (sym (returns-clause-exact c) ∙ e))
