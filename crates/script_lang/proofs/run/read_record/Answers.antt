use Rattle.std.proofs.Common.{◌≡◌, ◌-◌, List, length, take, drop, arith, length-drop}
use denote.Ref.{Bor}
use Rattle.payroll_records.specs.Tables.{Text}
use Rattle.std.proofs.lemmas.List.{take_all}
use Rattle.std.proofs.lemmas.Result.{err_from_is_err_and}
use Rattle.script_lang.proofs.WordLemmas.{run_employee_broken, run_day_broken, run_values_broken}
use Rattle.script_lang.proofs.run.read_record.Goals as goal

rest_whole : (rest : List (Bor Text)) → take (length rest - 3) (drop 3 rest) ≡ drop 3 rest
rest_whole rest = take_all (length rest - 3) (drop 3 rest) (omega (arith, length-drop 3 rest))

pub returns-in_err-employee-clause-err : goal.returns-in_err-employee-clause-err
returns-in_err-employee-clause-err c =
    let p = err_from_is_err_and c.from_residual.result c.from_residual.ensures.1 in
    rw (p.1, p.2) (run_employee_broken c.args.rest.now _ _ c.in-len3-up.len_at_least (omega arith) c.in_err-employee.ensures)

pub returns-in_err-day-clause-err : goal.returns-in_err-day-clause-err
returns-in_err-day-clause-err c =
    let p = err_from_is_err_and c.from_residual-in_err-day.result c.from_residual-in_err-day.ensures.1 in
    rw (p.1, p.2) (run_day_broken c.args.rest.now _ _ c.in-len3-up.len_at_least (omega arith) c.in_ok-employee.ensures.1 c.in_err-day.ensures)

pub returns-in_err-values-clause-err : goal.returns-in_err-values-clause-err
returns-in_err-values-clause-err c =
    let p = err_from_is_err_and c.from_residual-in_err-values.result c.from_residual-in_err-values.ensures.1 in
    let d = c.in_ok-day.ensures in
    rw (p.1, p.2)
    (run_values_broken c.args.rest.now _ _ _ _ _ _ c.in-len3-up.len_at_least (omega arith) (rest_whole c.args.rest.now) c.in_ok-employee.ensures.1 d.0 d.1 c.in_err-values.ensures.err)
