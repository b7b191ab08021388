use Rattle.std.proofs.Common.{◌∙◌, sym, ap, Err}
use Rattle.std.proofs.lemmas.Result.{err_from_is_err_and}
use Rattle.interval_num.specs.Rows.{sum_of}
use Rattle.interval_num.specs.Soundness.{SumIsSound}
use Rattle.interval_num.proofs.AlignmentLemmas.{if_ok}
use Rattle.interval_num.proofs.ExactLemmas.{sum_sound}
use Rattle.interval_num.proofs.MachineLemmas.{held_sum}
use Rattle.interval_num.proofs.decimals.abs_add.Goals as goal

pub returns-in_err-x-clause-exact : goal.returns-in_err-x-clause-exact
returns-in_err-x-clause-exact c =
    let p = err_from_is_err_and c.from_residual.result c.from_residual.ensures.1 in
    p.1 ∙ ap Err p.2 ∙ sym (c.in_err-x.ensures.exact sum_of)

pub returns-clause-exact : goal.returns-clause-exact
returns-clause-exact c =
    let lo = held_sum c.lo.result c.lo-2.result c.in_ok-x.x.lo c.in_ok-x.y.lo c.lo.ensures.value c.lo-2.ensures.value c.lo.ensures.kept.ends.low c.lo-2.ensures.kept.ends.low in
    let hi = held_sum c.hi.result c.hi-2.result c.in_ok-x.x.hi c.in_ok-x.y.hi c.hi.ensures.value c.hi-2.ensures.value c.hi.ensures.kept.ends.high c.hi-2.ensures.kept.ends.high in
    cc (c.in_ok-x.ensures.exact sum_of, c.kept.ensures, lo, hi, c.s_lo.ensures.value, c.s_lo-2.ensures.value, c.s_hi.ensures.value, c.max-s_lo.ensures)

pub returns-clause-sound : goal.returns-clause-sound
returns-clause-sound c = if_ok c.kept.result (SumIsSound c.args.a c.args.b) (λ r e. sum_sound c.args.a c.args.b r (sym (returns-clause-exact c) ∙ e))
