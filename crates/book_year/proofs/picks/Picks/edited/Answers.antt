use Rattle.std.proofs.Common.{sym, ◌∙◌}
use Rattle.std.specs.Option.{option_map}
use Rattle.std.proofs.lemmas.Bool.{OnTrue_at}
use Rattle.book_year.specs.Accepted.{plans_in}
use Rattle.book_year.specs.Picks.{lent_entry}
use Rattle.book_year.proofs.PickLemmas.{stays, unmoved}
use Rattle.book_year.proofs.picks.Picks.edited.Goals as goal

pub returns-then-keeps_day-clause-after : goal.returns-then-keeps_day-clause-after
returns-then-keeps_day-clause-after c d =
    let left = option_map lent_entry c.args.entry in
    let same = stays (option_map lent_entry c.picked_now-was.result) left c.keeps_texts-same.result c.keeps_texts-same.ensures c.if-same.true (OnTrue_at c.if-keeps_day.true c.keeps_day.ensures) in
    unmoved (plans_in c.args.plans.now) c.args.day left d (sym c.picked_now-was.ensures ∙ same)
