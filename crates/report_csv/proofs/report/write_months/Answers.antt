use Rattle.std.proofs.Common.{◌≡◌, ◌++◌, [], arith, rules}
use Rattle.std.proofs.lemmas.Result.{err_from_is_err_and}
use Rattle.report_csv.specs.Reports.{run_text}
use Rattle.report_csv.specs.ReportTexts.{months_text}
use Rattle.report_csv.proofs.FrontLemmas.{front_then, underway_front, underway_longer, underway_more}
use Rattle.report_csv.proofs.report.write_months.Goals as goal

pub returns-in_err-rows-clause-err : goal.returns-in_err-rows-clause-err
returns-in_err-rows-clause-err g c =
    let p = err_from_is_err_and c.from_residual.result c.from_residual.ensures.1 in
    let underway = rw c.into_iter-row-iterator.ensures.into_iter_gives at c.loop-row.invariant.0 in
    let old = g.W.Sink.written c.args.sink.now in
    let whole = c.args.rows ++ months_text c.args.months in
    rw p.1 (underway_front old (g.W.Sink.written c.loop-row.sink) whole _ underway)

pub returns-in_err-room-clause-err : goal.returns-in_err-room-clause-err
returns-in_err-room-clause-err g c =
    let p = err_from_is_err_and c.from_residual-in_err-room.result c.from_residual-in_err-room.ensures.1 in
    let gives = c.into_iter-row-iterator.ensures.into_iter_gives in
    let underway = rw (c.in-Some.ensures.steps, gives) at c.loop-row.invariant.0 in
    let old = g.W.Sink.written c.args.sink.now in
    let now = g.W.Sink.written c.loop-row.sink in
    let whole = c.args.rows ++ months_text c.args.months in
    let row = c.in-Some.row in
    let piece = run_text row.key row.plan row.state.now in
    let rest = months_text c.next.new.self in
    let longer = underway_longer old now whole c.loop-row.rows piece rest c.in_ok-rows.rows underway c.in_ok-rows.ensures in
    rw p.1 (front_then old now (g.W.Sink.written c.put_rows.new.sink) _ _ _ longer c.in_err-room.ensures.err)

pub returns-in_err-rows-2-clause-err : goal.returns-in_err-rows-2-clause-err
returns-in_err-rows-2-clause-err g c =
    let p = err_from_is_err_and c.from_residual-in_err-rows-2.result c.from_residual-in_err-rows-2.ensures.1 in
    let gives = c.into_iter-row-iterator.ensures.into_iter_gives in
    let underway = rw (c.in-Some.ensures.steps, gives) at c.loop-row.invariant.0 in
    let old = g.W.Sink.written c.args.sink.now in
    let now = g.W.Sink.written c.loop-row.sink in
    let whole = c.args.rows ++ months_text c.args.months in
    let row = c.in-Some.row in
    let piece = run_text row.key row.plan row.state.now in
    let rest = months_text c.next.new.self in
    let longer = underway_longer old now whole c.loop-row.rows piece rest c.in_ok-rows.rows underway c.in_ok-rows.ensures in
    let more = underway_more _ _ _ _ _ _ longer c.in_ok-room.ensures.ok in
    rw p.1 (underway_front old (g.W.Sink.written c.put_rows.new.sink) _ _ more)

pub loop-row-preserved-then-least_length-ge-PIECE : goal.loop-row-preserved-then-least_length-ge-PIECE
loop-row-preserved-then-least_length-ge-PIECE g c =
    let underway = rw c.in-Some.ensures.steps at c.loop-row.invariant.0 in
    let old = g.W.Sink.written c.args.sink.now in
    let now = g.W.Sink.written c.loop-row.sink in
    let whole = c.args.rows ++ months_text c.into_iter-row-iterator.result in
    let row = c.in-Some.row in
    let piece = run_text row.key row.plan row.state.now in
    let rest = months_text c.next.new.self in
    let longer = underway_longer old now whole c.loop-row.rows piece rest c.in_ok-rows.rows underway c.in_ok-rows.ensures in
    let more = underway_more _ _ _ _ _ _ longer c.in_ok-room.ensures.ok in
    rw c.in_ok-rows-2.ensures (more, omega (arith, c.loop-row.invariant.1, c.in_ok-room.ensures.cause.later))

pub returns-in_err-put_rows-clause-err : goal.returns-in_err-put_rows-clause-err
returns-in_err-put_rows-clause-err g c =
    let p = err_from_is_err_and c.from_residual-in_err-put_rows.result c.from_residual-in_err-put_rows.ensures.1 in
    let none : c.loop-row.row-iterator ≡ [] = search rules in
    let gives = c.into_iter-row-iterator.ensures.into_iter_gives in
    let underway = rw (none, gives) at c.loop-row.invariant.0 in
    let old = g.W.Sink.written c.args.sink.now in
    let now = g.W.Sink.written c.loop-row.sink in
    let whole = c.args.rows ++ months_text c.args.months in
    let put = c.in_err-put_rows.ensures.err in
    rw p.1 (front_then old now (g.W.Sink.written c.put_rows-2.new.sink) whole c.loop-row.rows [] underway put)
