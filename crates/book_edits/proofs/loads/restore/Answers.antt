use Rattle.std.proofs.Common.{Ok, Result, arith}
use Rattle.std.specs.declared.alloc.AllocError.{AllocError}
use Rattle.book_year.specs.Accepted.{plans_in}
use Rattle.book_edits.specs.declared.years.Years.{Years}
use Rattle.book_edits.specs.declared.loads.RestoredYears.{RestoredYears}
use Rattle.book_edits.proofs.LoadLemmas.{none_kept, restored, restored_counts}
use Rattle.book_edits.proofs.loads.restore.Goals as goal

pub load_runs-requires : goal.load_runs-requires
load_runs-requires g c = record {
  kept = none_kept (plans_in c.args.plans.now) c.new-list.result.items c.new-list.ensures.items;
  distinct = c.requires.distinct;
  few = c.requires.few;
}

pub returns : goal.returns
returns g c =
    let plans = plans_in c.args.plans.now in
    let items = c.args.items.items in
    let old = c.new-list.result.items in
    let none = c.new-list.ensures.items in
    let new : Years = record { list = c.load_runs.new.list; count = c.len-count.result } in
    let work = c.in_ok-work.work in
    let r : Result RestoredYears AllocError = Ok (record { years = new; work = work }) in
    let whole = restored plans old new items work none c.requires.distinct c.requires.few c.in_ok-work.ensures.ok
    (omega (arith, c.len-count.ensures, c.args.items.ok.0)) in
    record {
      kept = whole.kept;
      years = whole.years;
      work = whole.work_is;
      counted = restored_counts plans old items r c.args.steps.now c.load_runs.new.steps none
          c.in_ok-work.ensures.counted;
    }
