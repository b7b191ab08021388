use Rattle.std.proofs.Common.{◌∙◌, ap}
use Rattle.book_edits.specs.Books.{run_count}
use Rattle.script_steps.proofs.OpenLemmas.{empty_by_plans}
use Rattle.script_steps.proofs.open.is_empty.Goals as goal

pub returns-then-years-eq0 : goal.returns-then-years-eq0
returns-then-years-eq0 c =
    empty_by_plans c.args.book.now c.years.result.now.count
    (c.years.ensures.kept.count ∙ ap run_count c.years.ensures.years) c.if-years-eq0.true c.plans.result.now
    c.plans.ensures c.is_empty.result c.is_empty.ensures
