use Rattle.std.proofs.Common.{subst}
use Rattle.std.specs.Bool.{OnFalse}
use Rattle.book_year.specs.private.ChainClauses.{PlanReadsNothing}
use Rattle.book_year.proofs.chain.plan_reads.Goals as goal

pub returns-in-Some : goal.returns-in-Some
returns-in-Some c = subst (λ o. OnFalse c.reads_earlier.result (PlanReadsNothing o)) c.in-Some.ensures.after c.reads_earlier.ensures

pub returns-in-None : goal.returns-in-None
returns-in-None c = subst (λ o. PlanReadsNothing o) c.in-None.ensures.after tt
