use Rattle.std.proofs.Common.{refl, ap, arith}
use Rattle.book_year.specs.Picks.{planned_before, planned_after}
use Rattle.book_year.specs.Jobs.{total_cost}
use Rattle.book_edits.proofs.RedoneLemmas.{nothing_new, year_stays, year_redone}
use Rattle.book_edits.proofs.redone.redo_year.Goals as goal

pub returns-then-not-may_move-clause-done : goal.returns-then-not-may_move-clause-done
returns-then-not-may_move-clause-done g c =
    let picks = c.args.picks.now in
    let is = c.requires.year in
    year_stays (planned_before picks) (planned_after picks) c.args.year.now c.if-not-may_move.ensures.stays is.own is.kept _ refl

pub returns-then-not-may_move-clause-counted : goal.returns-then-not-may_move-clause-counted
returns-then-not-may_move-clause-counted g c =
    let picks = c.args.picks.now in
    let is = c.requires.year in
    omega (arith, ap total_cost (nothing_new (planned_before picks) (planned_after picks) c.args.year.now c.if-not-may_move.ensures.stays is.own is.kept))

pub returns-clause-done : goal.returns-clause-done
returns-clause-done g c =
    let picks = c.args.picks.now in
    year_redone (planned_before picks) (planned_after picks) c.args.year.now c.in_ok-done.done _ c.requires.year.kept c.in_ok-done.ensures.done refl
