use Rattle.std.proofs.Common.{◌++◌, take, refl, ap, ◌∙◌}
use Rattle.book_year.specs.Accepted.{plans_in}
use Rattle.book_year.specs.Records.{put_run}
use Rattle.book_year.specs.Years.{IsOwn}
use Rattle.book_year.proofs.RecordLemmas.{rising_put, all_put}
use Rattle.book_year.proofs.YearLemmas.{year_edit}
use Rattle.book_year.proofs.year.Year.put.Goals as goal

pub returns-clause-ok : goal.returns-clause-ok
returns-clause-ok g c =
    let old = c.args.self.now in
    let item = c.args.item in
    let rs = old.records.items in
    year_edit (plans_in c.args.plans.now) old _ (put_run item rs) c.in_ok-rest.rest (rising_put item rs c.requires.year.kept.rising) (all_put (IsOwn old.key) item rs c.requires.own c.requires.year.own)
    refl c.in_ok-put_record.ensures.ok
    (c.put_rest.ensures ∙ ap (λ t. take c.in_ok-rest.rest.kept t ++ c.in_ok-rest.rest.outcomes.items) c.in_ok-reserve.ensures.items) c.in_ok-rest.ensures.done
