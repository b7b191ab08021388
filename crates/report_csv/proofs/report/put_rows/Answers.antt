use Rattle.std.proofs.lemmas.Result.{err_from_is_err_and}
use Rattle.report_csv.proofs.FrontLemmas.{prefix_front}
use Rattle.report_csv.proofs.report.put_rows.Goals as goal

pub returns-in_err-put_all-clause-err : goal.returns-in_err-put_all-clause-err
returns-in_err-put_all-clause-err g c =
    let p = err_from_is_err_and c.from_residual-in_err-put_all.result c.from_residual-in_err-put_all.ensures.1 in
    let put = rw (c.as_slice.ensures.value, c.in_ok-text.ensures) at c.in_err-put_all.ensures.err in
    rw p.1 (prefix_front (g.W.Sink.written c.args.sink.now) (g.W.Sink.written c.put_all.new.sink) c.args.rows put)
