use Rattle.pay_run.specs.Accepted.{accepted}
use Rattle.table_coverage.specs.private.Parts.{files_of}
use Rattle.table_coverage.proofs.TableLemmas.{covered_table, table_refused, has_plan}
use Rattle.table_coverage.proofs.table.cover_table.Goals as goal

pub cover_held-requires : goal.cover_held-requires
cover_held-requires c =
    has_plan (accepted c.in_ok-accepted.accepted) c.in-Ok.runs.items c.in_ok-book-in-Ok.book c.in_ok-book-in-Ok.ensures.book

pub returns-in-Ok-clause-covered : goal.returns-in-Ok-clause-covered
returns-in-Ok-clause-covered c =
    covered_table (files_of c.args.plan.now c.args.limits.now c.args.table.now) c.in_ok-reached.reached c.in_ok-accepted.accepted
    c.in-Ok.runs.items c.in_ok-book-in-Ok.book c.in_ok-cover_held-in-Ok.field-0 c.in_ok-reached.ensures.reached
    c.in_ok-accepted.ensures.accepted c.in-Ok.ensures.ok c.in_ok-book-in-Ok.ensures.book c.in_ok-cover_held-in-Ok.ensures

pub returns-clause-refused : goal.returns-clause-refused
returns-clause-refused c =
    table_refused (files_of c.args.plan.now c.args.limits.now c.args.table.now) c.in_ok-accepted.accepted c.in-Err.fault c.from.result
    c.in_ok-accepted.ensures.accepted c.in-Err.ensures.err c.from.ensures
