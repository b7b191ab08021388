use Rattle.std.proofs.Common.{sym, subst}
use Rattle.std.specs.Prelude.{option_copied}
use Rattle.pap_tree.specs.Flowchart.{flowchart_of}
use Rattle.range_marks.specs.RangeMarks.{findings_in}
use Rattle.range_marks.specs.private.InternalViews.{Joins, PutsHere}
use Rattle.range_marks.proofs.JoinLemmas.{eval_joined}
use Rattle.range_marks.proofs.internals.join_statement.Goals as goal

pub returns-in-Set : goal.returns-in-Set
returns-in-Set c =
    let ds = (flowchart_of c.args.plan.now).internals in
    let w = findings_in c.args.survey.now in
    let place = c.args.place.now in
    let before = c.args.ranges.now in
    let behind = c.join_found.new.ranges in
    subst (λ form. Joins ds (PutsHere w place form) before behind) (sym c.in-Set.is)
    (eval_joined ds w place c.in-Set.target (option_copied c.get.result) before behind c.get.ensures.value c.join_found.ensures)
