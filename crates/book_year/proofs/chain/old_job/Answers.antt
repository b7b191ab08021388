use Rattle.std.proofs.Common.{length, ap, sym, ◌∙◌, arith, []}
use Rattle.std.proofs.lemmas.List.{length-map}
use Rattle.book_year.specs.Rows.{year_rows}
use Rattle.book_year.specs.Kept.{kept}
use Rattle.book_year.specs.Picks.{planned_before}
use Rattle.book_year.specs.private.ChainClauses.{outcome_job}
use Rattle.book_year.proofs.OldLemmas.{old_at, rows_length, job_gap}
use Rattle.book_year.proofs.chain.old_job.Goals as goal

pub returns-in_default : goal.returns-in_default
returns-in_default c = job_gap (planned_before c.args.picks.now) c.args.old.records.now c.args.day _ c.in_default.ensures.absent

pub bounds-old-at : goal.bounds-old-at
bounds-old-at c =
    let old = c.args.old in
    let p = planned_before c.args.picks.now in
    omega (arith, ap length c.requires.are, length-map (year_rows p old.records.now) kept, rows_length p [] old.records.now, c.in-Ok.ensures.found.within)

pub returns : goal.returns
returns c = old_at (planned_before c.args.picks.now) c.args.old.records.now c.args.old.outcomes.now c.args.day c.in-Ok.at c.index-old-at.result c.job_of.result c.requires c.in-Ok.ensures.found c.index-old-at.is (c.job_of.ensures ∙ ap outcome_job (sym c.index-old-at.is))
