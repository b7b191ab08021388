use Rattle.std.proofs.Common.{◌≤◌, length, sym, ap, subst, ◌∙◌, arith}
use Rattle.book_edits.specs.Refusals.{most_records}
use Rattle.recalc_engine.specs.RowLaws.{AreBookRows}
use Rattle.recalc_engine.specs.LentRows.{lent_row}
use Rattle.recalc_engine.proofs.Laws.{book_rows_counted}
use Rattle.pap_cli.proofs.TaxLemmas.{IsUnderway, begins, tax_fits, one_more, all_added, sum_of}
use Rattle.pap_cli.proofs.sample.tax_sum.Goals as goal

pub loop-row-init : goal.loop-row-init
loop-row-init c =
    let is = c.into_iter-row-iterator.ensures.into_iter_gives ∙ c.months-row-items.ensures in
    let rows = subst AreBookRows (sym is) c.rows_law.ensures in
    let few : length c.into_iter-row-iterator.result ≤ most_records = omega (arith, ap (λ r. length r) is, book_rows_counted c.args.book.now, c.law.ensures.few) in
    begins c.into_iter-row-iterator.result c.new-total.result c.new-total.ensures rows.bounded few

pub with_tax-total-requires : goal.with_tax-total-requires
with_tax-total-requires c =
    let underway = rw c.in-Some.ensures.steps at c.loop-row.invariant in
    tax_fits c.into_iter-row-iterator.result (lent_row c.in-Some.row) c.next.new.self c.loop-row.total underway

pub loop-row-preserved : goal.loop-row-preserved
loop-row-preserved c =
    let underway = rw c.in-Some.ensures.steps at c.loop-row.invariant in
    subst (λ t. IsUnderway c.into_iter-row-iterator.result c.next.new.self t) (sym c.with_tax-total.ensures)
    (one_more c.into_iter-row-iterator.result (lent_row c.in-Some.row) c.next.new.self c.loop-row.total underway)

pub returns : goal.returns
returns c =
    let is = c.into_iter-row-iterator.ensures.into_iter_gives ∙ c.months-row-items.ensures in
    all_added c.into_iter-row-iterator.result c.loop-row.row-iterator c.loop-row.total (c.in-None.ensures.steps.0) c.loop-row.invariant
    ∙ ap (λ r. sum_of r) is
