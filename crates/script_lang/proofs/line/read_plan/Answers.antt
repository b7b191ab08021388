use Rattle.std.proofs.Common.{◌≡◌, Some, arith, ◌∙◌}
use Rattle.std.proofs.lemmas.Result.{err_from_is_err_and}
use Rattle.script_lang.proofs.WordLemmas.{plan_broken, is_plan}
use Rattle.script_lang.proofs.line.read_plan.Goals as goal

pub returns-in_err-read_day-clause-err : goal.returns-in_err-read_day-clause-err
returns-in_err-read_day-clause-err c =
    let p = err_from_is_err_and c.from_residual-in_err-read_day.result c.from_residual-in_err-read_day.ensures.1 in
    let first : c.file.result ≡ Some c.in_ok-plan.plan = grind arith in
    let second : c.file-2.result ≡ Some c.in_ok-limits.limits = grind arith in
    let plan = rw first at c.file.ensures in
    let limits = rw second at c.file-2.ensures in
    rw (p.1, p.2) (plan_broken c.args.rest.now _ _ c.in-len3.len_at_least c.in-len3.len_below plan.1 limits.1 c.in_err-read_day.ensures)

pub returns-clause-ok : goal.returns-clause-ok
returns-clause-ok c = λ command.
    let first : c.file.result ≡ Some c.in_ok-plan.plan = grind arith in
    let second : c.file-2.result ≡ Some c.in_ok-limits.limits = grind arith in
    let plan = rw first at c.file.ensures in
    let limits = rw second at c.file-2.ensures in
    is_plan command c.args.rest.now _ _ _ _ c.in-len3.len_at_least c.in-len3.len_below plan.1 (c.in_ok-from_str.ensures.ok ∙ plan.0) limits.1 (c.in_ok-from_str-2.ensures.ok ∙ limits.0) c.in_ok-read_day.ensures
