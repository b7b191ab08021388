use Rattle.std.proofs.Common.{◌≡◌, true, sym, ap, subst, ◌∙◌, ◌&&◌}
use Rattle.plan_calendar.specs.Picking.{serves}
use Rattle.plan_calendar.specs.Edits.{is_by, moves}
use Rattle.book_year.specs.Accepted.{plans_in}
use Rattle.book_year.specs.Picks.{IsEdit}
use Rattle.book_year.proofs.PickLemmas.{moved}
use Rattle.book_year.proofs.picks.Picks.pick.Goals as goal
use Rattle.book_year.proofs.picks.Picks.pick.Goals.{in-None, in-Some-entry}

pub returns-clause-same : goal.returns-clause-same
returns-clause-same c = elim c.match-edit.branch [
  | in-None w ↦ rw w.result-is tt
  | in-Some-entry w ↦
      let plans = plans_in c.args.self.now.plans.now in
      let edit = c.in-Some.edit in
      let day = c.args.day in
      let decides : moves plans edit.day day ≡ true = ap (λ o. serves edit.day day && is_by o edit.day) (sym c.picked_now-now.ensures) ∙ sym c.moves.ensures ∙ c.if-moves.true in
      rw (w.result-is, c.in-Some.is) (moved plans edit day decides (subst (IsEdit plans) c.in-Some.is c.requires))
]
