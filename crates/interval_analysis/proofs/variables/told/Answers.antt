use Rattle.std.proofs.Common.{Vec, Global, List, Result, Ok, Err, sym, subst}
use Rattle.std.specs.Prelude.{IfOk, ◌≡◌}
use Rattle.std.specs.declared.alloc.AllocError.{AllocError}
use Rattle.interval_num.specs.Intervals.{Interval}
use Rattle.interval_analysis.specs.declared.branches.Change.{Change}
use Rattle.interval_analysis.specs.private.Notes.{IsTold, taken_back}
use Rattle.interval_analysis.proofs.NoteLemmas.{told_noted, told_all, length-taken_back}
use Rattle.interval_analysis.proofs.variables.told.Goals as goal

-- an answer that is known is a told one
told_as : (was now : List Interval) (cs : List Change) (r : Result (Vec Change Global) AllocError) → IsTold was now cs → IfOk r (λ o. o.items ≡ cs) → IfOk r (λ o. IsTold was now o.items)
told_as was now cs (Ok v) h e = subst (IsTold was now) (sym e) h
told_as was now cs (Err x) h e = tt

pub returns-then-notes-ranges : goal.returns-then-notes-ranges
returns-then-notes-ranges c =
    told_as (taken_back c.args.ranges.now c.args.notes.now) c.args.ranges.now _ c.own_ranges.result (told_noted c.args.ranges.now c.args.notes.now) c.own_ranges.ensures

pub returns-else-notes-ranges : goal.returns-else-notes-ranges
returns-else-notes-ranges c =
    told_as (taken_back c.args.ranges.now c.args.notes.now) c.args.ranges.now _ c.all_ranges.result (told_all (taken_back c.args.ranges.now c.args.notes.now) c.args.ranges.now (length-taken_back c.args.ranges.now c.args.notes.now)) c.all_ranges.ensures
