use Rattle.std.proofs.Common.{sym, ◌∙◌, subst}
use Rattle.book_year.specs.private.ChainClauses.{IsOldJob}
use Rattle.book_year.proofs.JobLemmas.{same_job}
use Rattle.book_year.proofs.chain.kept_outputs.Goals as goal

pub returns : goal.returns
returns c = λ was job e knows is.
    same_job was job e c.args.same c.in_ok-job.job c.args.inputs.now knows (subst (λ o. IsOldJob was job o) c.in_ok-job.was is) c.if-not-same.false (sym c.same_inputs.ensures ∙ c.if-not-same_inputs.false)
