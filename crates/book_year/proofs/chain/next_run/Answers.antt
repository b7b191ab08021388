use Rattle.std.proofs.Common.{◌≡◌, Some, sym, ◌∙◌, subst}
use Rattle.carry_bindings.specs.declared.filling.Filled.TheVariants.{Inputs}
use Rattle.pay_run.specs.RunClauses.{AdmitsFilled}
use Rattle.pay_run.specs.Runs.{filled}
use Rattle.book_year.specs.Accepted.{accepted}
use Rattle.book_year.specs.Picks.{planned_before, planned_after, picked_plan, KnowsSame}
use Rattle.book_year.specs.ChainClauses.{old_jobs}
use Rattle.book_year.proofs.chain.next_run.Goals as goal

pub run_job-requires : goal.run_job-requires
run_job-requires g c = subst (λ f. AdmitsFilled (accepted c.in-Some.picked.plan.now) f) c.in-Inputs.is c.in_ok-why.ensures.admitted

pub returns-in-Inputs-clause-ran : goal.returns-in-Inputs-clause-ran
returns-in-Inputs-clause-ran g c =
    let p = c.args.picks.now in
    let d = c.args.item.now.day in
    let e = picked_plan c.in-Some.picked in
    let is : Some e ≡ planned_after p d = c.in-Some.ensures.after in
    let same : KnowsSame (planned_before p d) (Some e) c.in-Some.picked.same = subst (λ o. KnowsSame (planned_before p d) o c.in-Some.picked.same) (sym is) c.in-Some.ensures.same in
    let inputs : filled (accepted c.in-Some.picked.plan.now) c.args.item.now.values c.args.earlier.now ≡ Inputs c.in-Inputs.inputs = sym c.in_ok-why.ensures.are ∙ c.in-Inputs.is in
    rw (← is, inputs) (c.run_job.ensures.ran (planned_before p d) (old_jobs p c.args.old d) d same c.old_job.ensures)
