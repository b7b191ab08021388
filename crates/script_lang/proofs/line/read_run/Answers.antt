use Rattle.std.proofs.lemmas.Result.{err_from_is_err_and}
use Rattle.script_lang.proofs.WordLemmas.{employee_broken, time_broken}
use Rattle.script_lang.proofs.line.read_run.Goals as goal

pub returns-in_err-read_employee-clause-err : goal.returns-in_err-read_employee-clause-err
returns-in_err-read_employee-clause-err c =
    let p = err_from_is_err_and c.from_residual.result c.from_residual.ensures.1 in
    rw (p.1, p.2) (employee_broken c.args.rest.now _ _ c.in-len2.len_at_least c.in-len2.len_below c.in_err-read_employee.ensures)

pub returns-in_err-read_when-clause-err : goal.returns-in_err-read_when-clause-err
returns-in_err-read_when-clause-err c =
    let p = err_from_is_err_and c.from_residual-in_err-read_when.result c.from_residual-in_err-read_when.ensures.1 in
    rw (p.1, p.2) (time_broken c.args.rest.now _ _ c.in-len2.len_at_least c.in-len2.len_below c.in_ok-read_employee.ensures.1 c.in_err-read_when.ensures)
