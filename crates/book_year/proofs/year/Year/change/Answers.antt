use Rattle.std.proofs.Common.{◌++◌, take, refl, ap, ◌∙◌}
use Rattle.book_year.specs.Accepted.{plans_in}
use Rattle.book_year.specs.Records.{put_run, without_run}
use Rattle.book_year.specs.Years.{IsOwn}
use Rattle.book_year.proofs.RecordLemmas.{rising_put, all_put, rising_without, all_without}
use Rattle.book_year.proofs.YearLemmas.{year_edit}
use Rattle.book_year.proofs.year.Year.change.Goals as goal

pub put_in_room-requires-clause-rising : goal.put_in_room-requires-clause-rising
put_in_room-requires-clause-rising g c =
    rw (c.take_record.ensures.items, c.in_ok-reserve.ensures.items) (rising_without c.args.from c.args.self.now.records.items c.requires.year.kept.rising)

pub returns-clause-ok : goal.returns-clause-ok
returns-clause-ok g c =
    let old = c.args.self.now in
    let item = c.args.item in
    let rs = old.records.items in
    let left = without_run c.args.from rs in
    let rising = rising_without c.args.from rs c.requires.year.kept.rising in
    let own = all_without (IsOwn old.key) c.args.from rs c.requires.year.own in
    year_edit (plans_in c.args.plans.now) old _ (put_run item left) c.in_ok-rest.rest (rising_put item left rising) (all_put (IsOwn old.key) item left c.requires.own own)
    refl (c.put_in_room.ensures.items ∙ ap (put_run item) (c.take_record.ensures.items ∙ ap (without_run c.args.from) c.in_ok-reserve.ensures.items))
    (c.put_rest.ensures ∙ ap (λ t. take c.in_ok-rest.rest.kept t ++ c.in_ok-rest.rest.outcomes.items) c.in_ok-reserve-2.ensures.items) c.in_ok-rest.ensures.done
