use Rattle.std.proofs.Common.{◌∙◌, sym, ap, Err}
use Rattle.std.proofs.lemmas.Result.{err_from_is_err_and}
use Rattle.interval_num.specs.Signs.{least_sign, greatest_sign}
use Rattle.interval_num.specs.Rows.{comparison_of}
use Rattle.interval_num.proofs.OrderLemmas.{comparison_sound, some_sign, sign_kept}
use Rattle.interval_num.proofs.MachineLemmas.{held_at}
use Rattle.interval_num.proofs.decimals.abs_cmp.Goals as goal

pub returns-in_err-x-clause-exact : goal.returns-in_err-x-clause-exact
returns-in_err-x-clause-exact c =
    let p = err_from_is_err_and c.from_residual.result c.from_residual.ensures.1 in
    p.1 ∙ ap Err p.2 ∙ sym (c.in_err-x.ensures.exact comparison_of)

pub new-requires-clause-low : goal.new-requires-clause-low
new-requires-clause-low c =
    let kept = (sign_kept c.signs_at-signs.result).0 in
    rw (held_at c.least.result (least_sign c.signs_at-signs.result) c.least.ensures kept) kept

pub new-requires-clause-high : goal.new-requires-clause-high
new-requires-clause-high c =
    let kept = (sign_kept c.signs_at-signs.result).1 in
    rw (held_at c.greatest.result (greatest_sign c.signs_at-signs.result) c.greatest.ensures kept) kept

pub new-requires-clause-order : goal.new-requires-clause-order
new-requires-clause-order c =
    let s = c.signs_at-signs.result in
    let kept = sign_kept s in
    rw (held_at c.least.result (least_sign s) c.least.ensures kept.0, held_at c.greatest.result (greatest_sign s) c.greatest.ensures kept.1, c.signs_at-signs.ensures) (some_sign c.in_ok-x.x c.in_ok-x.y c.in_ok-x.ensures.left c.in_ok-x.ensures.right)

pub returns-clause-exact : goal.returns-clause-exact
returns-clause-exact c =
    let s = c.signs_at-signs.result in
    let kept = sign_kept s in
    cc (c.in_ok-x.ensures.exact comparison_of, c.new.ensures, held_at c.least.result (least_sign s) c.least.ensures kept.0, held_at c.greatest.result (greatest_sign s) c.greatest.ensures kept.1, c.signs_at-signs.ensures)

pub returns-clause-sound : goal.returns-clause-sound
returns-clause-sound c = comparison_sound c.args.a c.args.b c.new.result (sym (returns-clause-exact c))
