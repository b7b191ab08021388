use Rattle.std.proofs.Common.{◌≡◌, Some, sym, ap, ◌∙◌}
use Rattle.std.specs.Option.{option_map}
use Rattle.std.proofs.lemmas.Bool.{OnTrue_from}
use Rattle.payroll_records.specs.declared.day.Day.{Day}
use Rattle.plan_calendar.specs.Picking.{day_of}
use Rattle.book_year.specs.Picks.{lent_entry}
use Rattle.book_year.proofs.PickLemmas.{days_one}
use Rattle.book_year.proofs.picks.keeps_day.Goals as goal

pub returns : goal.returns
returns c = OnTrue_from c.eq.result (option_map day_of (option_map lent_entry c.args.was) ≡ option_map day_of (option_map lent_entry c.args.now)) (λ t.
    rw (c.in-Some-Some.is-0, c.in-Some-Some.is-1) (ap (λ (d : Day). Some d) (days_one c.in-Some-Some.was c.in-Some-Some.now (sym c.eq.ensures ∙ t))))
