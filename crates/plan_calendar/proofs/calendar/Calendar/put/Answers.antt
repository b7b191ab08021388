use Rattle.std.proofs.Common.{◌<◌, length, List, ℕ, Bool, true, false, if◌then◌else◌, sym, arith}
use Rattle.std.specs.List.{insert}
use Rattle.std.proofs.lemmas.Cmp.{tied_itself}
use Rattle.std.proofs.lemmas.List.{length-set}
use Rattle.std.proofs.lemmas.List.Edits.{length-insert}
use Rattle.rising_lists.specs.Places.{Misses}
use Rattle.rising_lists.proofs.Laws.{put_rising}
use Rattle.payroll_records.specs.Orders.{day_cmp}
use Rattle.payroll_records.proofs.Laws.{day_total}
use Rattle.plan_calendar.specs.Picking.{AreEntries, Entry, day_of}
use Rattle.plan_calendar.proofs.calendar.Calendar.put.Goals as goal
use Rattle.plan_calendar.proofs.calendar.Calendar.put.Goals.{in-Ok-insert, in-Err-insert}

-- the entries after an insertion that may have failed
inserted : {P : Type 0} (done : Bool) (es : List (Entry P)) (e : Entry P) (i : ℕ) → Misses day_cmp day_of es (day_of e) i →
    AreEntries es → length es < 64 → AreEntries (if done then insert es i e else es)
inserted {P} true es e i gap h few =
    let put = gap.put e (tied_itself day_total (day_of e)) in
    let longer = length-insert es i e gap.within in
    record { rising = rw (← put) (put_rising day_cmp day_total (day_of {P = P}) e es h.rising); few = omega arith }
inserted false es e i gap h few = h

pub invariant_of-self : goal.invariant_of-self
invariant_of-self g c =
    let xs = c.self.inside.entries.items in
    let e : Entry g.row.P.Denot = (c.args.day, c.args.plan) in
    let found = rw c.as_slice.ensures.value at c.in-Ok.ensures.found in
    let put = found.put e (tied_itself day_total c.args.day) in
    let same = length-set xs c.in-Ok.at e in
    rw c.replace-old.ensures.after (record {
      rising = rw (← put) (put_rising day_cmp day_total (day_of {P = g.row.P.Denot}) e xs c.self.invariant.rising);
      few = omega (arith, c.self.invariant.few);
    })

pub returns-in-Ok-clause-ok : goal.returns-in-Ok-clause-ok
returns-in-Ok-clause-ok g c =
    let e : Entry g.row.P.Denot = (c.args.day, c.args.plan) in
    let found = rw (c.as_slice.ensures.value, c.self.view_is) at c.in-Ok.ensures.found in
    rw (c.replace-old.ensures.after, c.self.view_is) (sym (found.put e (tied_itself day_total c.args.day)))

pub invariant_of-self-in-Err : goal.invariant_of-self-in-Err
invariant_of-self-in-Err g c =
    let xs = c.self.inside.entries.items in
    let e : Entry g.row.P.Denot = (c.args.day, c.args.plan) in
    let gap = rw c.as_slice.ensures.value at c.in-Err.ensures.absent in
    rw c.insert.ensures.items (inserted _ xs e c.in-Err.at gap c.self.invariant (omega (arith, c.self.invariant.few)))

pub returns-after-insert-clause-ok : goal.returns-after-insert-clause-ok
returns-after-insert-clause-ok g c =
    let e : Entry g.row.P.Denot = (c.args.day, c.args.plan) in
    let gap = rw (c.as_slice.ensures.value, c.self.view_is) at c.in-Err.ensures.absent in
    elim c.match-insert.branch [
      | in-Ok-insert w ↦ rw (w.result-is, c.insert.ensures.items, w.in-Ok-insert.is, c.self.view_is) (sym (gap.put e (tied_itself day_total c.args.day)))
      | in-Err-insert w ↦ rw w.result-is tt
    ]
