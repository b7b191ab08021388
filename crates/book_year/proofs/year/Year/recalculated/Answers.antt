use Rattle.std.proofs.Common.{◌≡◌, ◌≤◌, length, take, refl, ap, subst, ◌∙◌, arith}
use Rattle.std.specs.List.{AllByRecursion}
use Rattle.book_year.specs.ChainClauses.{old_jobs}
use Rattle.book_year.specs.Jobs.{Counts, new_jobs, total_cost}
use Rattle.book_year.specs.Kept.{job_by}
use Rattle.book_year.specs.Picks.{planned_after, planned_before}
use Rattle.book_year.specs.Records.{records_of}
use Rattle.book_year.specs.Rows.{year_rows}
use Rattle.book_year.proofs.FrontLemmas.{KeepsPlan, front_is}
use Rattle.book_year.proofs.year.Year.recalculated.Goals as goal

pub recalculate-requires-clause-front : goal.recalculate-requires-clause-front
recalculate-requires-clause-front g c =
    let rs = c.args.self.now.records.items in
    let n = c.unmoved-kept.result in
    let runs : records_of c.as_slice.result.now ≡ rs = ap records_of c.as_slice.ensures.value ∙ c.in_ok-runs.ensures ∙ c.as_slice-records.ensures.value in
    let within : n ≤ length rs = omega (arith, c.unmoved-kept.ensures.within, ap length c.as_slice-records.ensures.value) in
    let plans = subst (λ t. AllByRecursion (KeepsPlan c.args.picks.now) (take n t)) c.as_slice-records.ensures.value c.unmoved-kept.ensures.plans in
    front_is c.args.picks.now c.old_of.result c.as_slice.result.now rs rs n c.old_of.ensures.records runs within refl plans

pub returns-clause-counted : goal.returns-clause-counted
returns-clause-counted g c =
    let picks = c.args.picks.now in
    let rs = c.args.self.now.records.items in
    let runs : records_of c.as_slice.result.now ≡ rs = ap records_of c.as_slice.ensures.value ∙ c.in_ok-runs.ensures ∙ c.as_slice-records.ensures.value in
    subst (λ t. Counts c.recalculate.result c.args.steps.now c.recalculate.new.steps (total_cost (new_jobs (job_by (planned_before picks) t) (year_rows (planned_after picks) rs)))) c.old_of.ensures.records
    (subst (λ t. Counts c.recalculate.result c.args.steps.now c.recalculate.new.steps (total_cost (new_jobs (old_jobs picks c.old_of.result) (year_rows (planned_after picks) t)))) runs c.recalculate.ensures.counted)
