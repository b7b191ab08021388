use Rattle.std.proofs.Common.{subst}
use Rattle.std.specs.Prelude.{All}
use Rattle.std.proofs.lemmas.List.Elements.{All-map, All-push}
use Rattle.std.proofs.lemmas.Iterator.Splits.{YieldsList-from_lines}
use Rattle.std.proofs.lemmas.Iterator.Consumers.{YieldsList-end}
use Rattle.trial_rows.specs.Rows.{IsRightRow}
use Rattle.trial_rows.proofs.rows.all_rows.Goals as goal

pub loop-row-preserved : goal.loop-row-preserved
loop-row-preserved g c =
    All-push (λ row. IsRightRow g.F.Fn c.args.answer row.now) c.loop-row.yielded c.in-Some.row c.loop-row.invariant c.in_ok-check_row.ensures

pub returns : goal.returns
returns g c =
    let answered = IsRightRow g.F.Fn c.args.answer in
    let end = YieldsList-end (YieldsList-from_lines c.args.table.now cc) c.loop-row.yielded _ c.loop-row.yielded_by _ _ c.in-None.is c.next.ensures.steps in
    subst (All answered) end.0 (All-map answered (λ row. row.now) c.loop-row.yielded c.loop-row.invariant)
