use Rattle.std.proofs.lemmas.Result.{err_from_is_err_and}
use Rattle.script_lang.proofs.WordLemmas.{filing_broken, is_file_month}
use Rattle.script_lang.proofs.line.read_filing.Goals as goal

pub returns-in_err-read_month-clause-err : goal.returns-in_err-read_month-clause-err
returns-in_err-read_month-clause-err c =
    let p = err_from_is_err_and c.from_residual.result c.from_residual.ensures.1 in
    rw (p.1, p.2) (filing_broken c.args.rest.now _ _ c.in-len1.len_at_least c.in-len1.len_below c.in_err-read_month.ensures)

pub returns-clause-ok : goal.returns-clause-ok
returns-clause-ok c = is_file_month c.args.rest.now _ _ c.in-len1.len_at_least c.in-len1.len_below c.in_ok-read_month.ensures
