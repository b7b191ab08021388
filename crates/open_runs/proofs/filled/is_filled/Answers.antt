use Rattle.std.proofs.Common.{◌∙◌, Option, ap, sym, false}
use Rattle.std.specs.Option.{option_map, option_map_or}
use Rattle.plan_calendar.specs.Picking.{Entry, pick, plan_of}
use Rattle.book_year.specs.Accepted.{Accepted, accepted_entry}
use Rattle.book_year.proofs.Laws.{pick_in}
use Rattle.open_runs.specs.OpenRuns.{fills}
use Rattle.open_runs.proofs.filled.is_filled.Goals as goal

pub returns : goal.returns
returns c =
    let day = c.args.day in
    let filled = λ (o : Option (Entry Accepted)). option_map_or (λ e. fills (plan_of e) c.args.name.now) o false in
    c.is_filled_in.ensures
    ∙ ap filled (ap (option_map accepted_entry) c.pick.ensures ∙ (sym (pick_in c.plans.result.now day)
    ∙ ap (λ es. pick es day) c.plans.ensures))
