use Rattle.pay_run.specs.Accepted.{accepted}
use Rattle.table_coverage.proofs.BookLemmas.{put_refused}
use Rattle.table_coverage.proofs.book.put_alone.Goals as goal

pub memory_fault-requires : goal.memory_fault-requires
memory_fault-requires g c =
    put_refused c.args.book.now c.put_plan.new.self (c.args.day, accepted c.args.plan) c.in-Err.why c.requires.plans
    c.in-Err.ensures.answers
