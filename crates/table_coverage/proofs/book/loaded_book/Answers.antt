use Rattle.std.proofs.Common.{subst}
use Rattle.pay_run.specs.Accepted.{accepted}
use Rattle.table_coverage.specs.TableCoverages.{IsFirstDay}
use Rattle.table_coverage.proofs.BookLemmas.{loaded_is}
use Rattle.table_coverage.proofs.book.loaded_book.Goals as goal

pub returns-clause-book : goal.returns-clause-book
returns-clause-book g c =
    loaded_is (accepted c.args.plan) c.args.runs.items c.first_day.result c.put_alone.new.book c.load_alone.new.book
    (subst (λ rs. IsFirstDay rs c.first_day.result) c.deref.ensures.value c.first_day.ensures) c.in_ok-put_alone.ensures.plans
    c.in_ok-load_alone.ensures.plans c.in_ok-load_alone.ensures.years
