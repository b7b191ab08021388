use Rattle.std.proofs.Common.{arith}
use Rattle.book_file.proofs.WriteLemmas.{more_plans}
use Rattle.book_file.proofs.write.write_plans.Goals as goal

pub loop-entry-preserved : goal.loop-entry-preserved
loop-entry-preserved c =
    more_plans c.args.text.now.items c.loop-entry.text.items c.push_plan.new.out.items c.args.plans.now c.loop-entry.entry-index
    c.entry-item.result c.plan_bytes.result.now c.limits_bytes.result.now (omega arith) c.entry-item.is c.plan_bytes.ensures c.limits_bytes.ensures c.loop-entry.invariant c.in_ok-push_plan.ensures
