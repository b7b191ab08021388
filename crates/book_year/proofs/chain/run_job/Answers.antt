use Rattle.std.proofs.Common.{sym, ap, subst, arith, zero-add}
use Rattle.std.specs.Prelude.{Some}
use Rattle.carry_bindings.specs.Conditions.{AreBounded}
use Rattle.pay_run.specs.RunClauses.{HasRun}
use Rattle.book_year.specs.Accepted.{accepted}
use Rattle.book_year.specs.Jobs.{work_of}
use Rattle.book_year.specs.Picks.{picked_plan}
use Rattle.book_year.proofs.chain.run_job.Goals as goal

pub returns-in-Some-clause-ran : goal.returns-in-Some-clause-ran
returns-in-Some-clause-ran g c = λ was job day knows is.
    let k = c.in-Some.ensures was job (picked_plan c.args.picked) knows is in
    record {
      outcome = rw (c.finished.ensures, c.in_ok-outputs.ensures, k.1);
      work = ap work_of (sym k.0);
      bounded = subst (λ os. AreBounded (Some os)) k.1 k.2;
      one = omega arith;
      cheap = omega arith;
    }

pub returns-clause-ran : goal.returns-clause-ran
returns-clause-ran g c = λ was job day knows is.
    let k = c.in_default.ensures was job (picked_plan c.args.picked) knows is in
    let ran = subst (λ l. HasRun (accepted c.args.picked.plan.now) l c.in_ok-ran.ran) c.as_slice.ensures c.in_ok-ran.ensures.ran in
    record {
      outcome = rw (c.finished-2.ensures, ran.outputs);
      work = rw (k, zero-add, ran.cost);
      bounded = subst (λ os. AreBounded (Some os)) ran.outputs ran.bounded;
      one = omega arith;
      cheap = ran.cheap;
    }
