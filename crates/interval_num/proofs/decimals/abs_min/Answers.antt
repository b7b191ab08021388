use Rattle.std.proofs.Common.{◌∙◌, sym, ap, Err}
use Rattle.std.proofs.lemmas.Result.{err_from_is_err_and}
use Rattle.interval_num.specs.Rows.{min_of}
use Rattle.interval_num.proofs.OrderLemmas.{min_sound}
use Rattle.interval_num.proofs.MachineLemmas.{held_min, kept_min, min_order}
use Rattle.interval_num.proofs.decimals.abs_min.Goals as goal

pub returns-in_err-x-clause-exact : goal.returns-in_err-x-clause-exact
returns-in_err-x-clause-exact c =
    let p = err_from_is_err_and c.from_residual.result c.from_residual.ensures.1 in
    p.1 ∙ ap Err p.2 ∙ sym (c.in_err-x.ensures.exact min_of)

pub new-requires-clause-low : goal.new-requires-clause-low
new-requires-clause-low c =
    rw (held_min c.min.result c.lo.result c.lo-2.result c.in_ok-x.x.lo c.in_ok-x.y.lo c.min.ensures.value c.lo.ensures.value c.lo-2.ensures.value c.lo.ensures.kept.ends.low c.lo-2.ensures.kept.ends.low) (kept_min c.in_ok-x.x.lo c.in_ok-x.y.lo c.lo.ensures.kept.ends.low c.lo-2.ensures.kept.ends.low)

pub new-requires-clause-high : goal.new-requires-clause-high
new-requires-clause-high c =
    rw (held_min c.min-2.result c.hi.result c.hi-2.result c.in_ok-x.x.hi c.in_ok-x.y.hi c.min-2.ensures.value c.hi.ensures.value c.hi-2.ensures.value c.hi.ensures.kept.ends.high c.hi-2.ensures.kept.ends.high) (kept_min c.in_ok-x.x.hi c.in_ok-x.y.hi c.hi.ensures.kept.ends.high c.hi-2.ensures.kept.ends.high)

pub new-requires-clause-order : goal.new-requires-clause-order
new-requires-clause-order c =
    rw (held_min c.min.result c.lo.result c.lo-2.result c.in_ok-x.x.lo c.in_ok-x.y.lo c.min.ensures.value c.lo.ensures.value c.lo-2.ensures.value c.lo.ensures.kept.ends.low c.lo-2.ensures.kept.ends.low, held_min c.min-2.result c.hi.result c.hi-2.result c.in_ok-x.x.hi c.in_ok-x.y.hi c.min-2.ensures.value c.hi.ensures.value c.hi-2.ensures.value c.hi.ensures.kept.ends.high c.hi-2.ensures.kept.ends.high) (min_order c.in_ok-x.x.lo c.in_ok-x.y.lo c.in_ok-x.x.hi c.in_ok-x.y.hi c.lo.ensures.kept.order c.lo-2.ensures.kept.order)

pub returns-clause-exact : goal.returns-clause-exact
returns-clause-exact c =
    let lo = held_min c.min.result c.lo.result c.lo-2.result c.in_ok-x.x.lo c.in_ok-x.y.lo c.min.ensures.value c.lo.ensures.value c.lo-2.ensures.value c.lo.ensures.kept.ends.low c.lo-2.ensures.kept.ends.low in
    let hi = held_min c.min-2.result c.hi.result c.hi-2.result c.in_ok-x.x.hi c.in_ok-x.y.hi c.min-2.ensures.value c.hi.ensures.value c.hi-2.ensures.value c.hi.ensures.kept.ends.high c.hi-2.ensures.kept.ends.high in
    cc (c.in_ok-x.ensures.exact min_of, c.new.ensures, lo, hi, c.s_lo.ensures.value, c.s_lo-2.ensures.value, c.s_hi.ensures.value, c.min-s_lo.ensures)

pub returns-clause-sound : goal.returns-clause-sound
returns-clause-sound c = min_sound c.args.a c.args.b c.new.result (sym (returns-clause-exact c))
