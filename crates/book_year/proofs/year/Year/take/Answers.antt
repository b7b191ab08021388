use Rattle.std.proofs.Common.{◌++◌, take, refl, ap, ◌∙◌}
use Rattle.book_year.specs.Accepted.{plans_in}
use Rattle.book_year.specs.Records.{without_run}
use Rattle.book_year.specs.Years.{IsOwn}
use Rattle.book_year.proofs.RecordLemmas.{rising_without, all_without}
use Rattle.book_year.proofs.YearLemmas.{year_edit}
use Rattle.book_year.proofs.year.Year.take.Goals as goal

pub returns-clause-ok : goal.returns-clause-ok
returns-clause-ok g c =
    let old = c.args.self.now in
    let day = c.args.day in
    let rs = old.records.items in
    year_edit (plans_in c.args.plans.now) old _ (without_run day rs) c.in_ok-rest.rest (rising_without day rs c.requires.kept.rising) (all_without (IsOwn old.key) day rs c.requires.own)
    refl c.take_record.ensures.items
    (c.put_rest.ensures ∙ ap (λ t. take c.in_ok-rest.rest.kept t ++ c.in_ok-rest.rest.outcomes.items) c.in_ok-reserve.ensures.items) c.in_ok-rest.ensures.done
