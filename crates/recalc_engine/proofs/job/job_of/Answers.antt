use Rattle.book_year.specs.Accepted.{accepted}
use Rattle.recalc_engine.proofs.JobLemmas.{admits_filled}
use Rattle.recalc_engine.proofs.job.job_of.Goals as goal

pub returns-clause-admitted : goal.returns-clause-admitted
returns-clause-admitted c = admits_filled (accepted c.args.plan.now) c.spec.result.now.slots c.args.inputs.now c.law.ensures c.spec.ensures c.each_is_kept.ensures
