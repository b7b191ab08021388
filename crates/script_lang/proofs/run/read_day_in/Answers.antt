use Rattle.std.proofs.lemmas.Result.{err_from_is_err_and}
use Rattle.script_lang.proofs.WordLemmas.{month_breaks, day_breaks, other_month}
use Rattle.script_lang.proofs.run.read_day_in.Goals as goal

pub returns-in_err-month : goal.returns-in_err-month
returns-in_err-month c =
    let p = err_from_is_err_and c.from_residual.result c.from_residual.ensures.1 in
    rw (p.1, p.2) (month_breaks c.args.month.now c.args.day.now _ c.in_err-month.ensures)

pub returns-in_err-day : goal.returns-in_err-day
returns-in_err-day c =
    let p = err_from_is_err_and c.from_residual-in_err-day.result c.from_residual-in_err-day.ensures.1 in
    rw (p.1, p.2) (day_breaks c.args.month.now c.args.day.now _ (_, _, c.in_ok-month.ensures) c.in_err-day.ensures.0 c.in_err-day.ensures.1)

pub returns-then-ne : goal.returns-then-ne
returns-then-ne c =
    let apart = rw (c.of_day.ensures.0, c.of_day.ensures.1) at c.if-ne.ensures in
    other_month c.args.month.now c.args.day.now _ _ _ _ _ c.in_ok-month.ensures c.in_ok-day.ensures apart
