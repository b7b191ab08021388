use Rattle.std.proofs.Common.{◌+◌, drop, filter, sym, ap, ◌∙◌}
use Rattle.book_edits.specs.Books.{is_in_month}
use Rattle.book_edits.proofs.MonthLemmas.{month_all, month_more, only_one_after}
use Rattle.book_edits.proofs.places.only_one.Goals as goal

pub loop-run-preserved : goal.loop-run-preserved
loop-run-preserved c =
    let rs = c.args.records.now in
    let i = c.loop-run.run-index in
    ap (λ t. only_one_after t (filter (λ r. is_in_month c.args.month r.day) (drop (i + 1) rs))) c.with_one_more-found.ensures
    ∙ month_more c.args.month rs i c.loop-run.found c.run-item.result c.loop-run-test.true c.run-item.is ∙ c.loop-run.invariant

pub returns : goal.returns
returns c =
    let i = c.loop-run.run-index in
    sym (month_all c.args.month c.args.records.now i c.loop-run.found c.loop-run-test.false) ∙ c.loop-run.invariant
