use Rattle.std.proofs.Common.{sym, subst, ◌∙◌}
use Rattle.recalc_engine.specs.LentRows.{lent_row}
use Rattle.recalc_engine.specs.RowLaws.{AreBookRows, HaveNames}
use Rattle.correction_ledger.specs.private.RowViews.{AreReported}
use Rattle.correction_ledger.proofs.ReportedLemmas.{begins, named_there, underway_done, underway_more}
use Rattle.correction_ledger.proofs.rows.reported.Goals as goal

pub loop-row-init : goal.loop-row-init
loop-row-init c = record {
  underway = begins c.into_iter-row-iterator.result c.args.month c.new-dues.result.items c.new-dues.ensures.items;
  empty = c.new-of_run.ensures.items;
}

pub loop-row-preserved : goal.loop-row-preserved
loop-row-preserved c =
    let rows = subst AreBookRows (sym (c.into_iter-row-iterator.ensures.into_iter_gives ∙ c.months-row-items.ensures)) c.rows_law.ensures in
    let underway = rw c.in-Some.ensures.steps at c.loop-row.invariant.underway in
    let listed = rw c.outputs_by.ensures at c.in_ok-list_outputs.ensures in
    record {
      underway = rw c.in_ok-append.ensures.items (underway_more c.into_iter-row-iterator.result c.args.month (lent_row c.in-Some.row) c.next.new.self c.loop-row.dues.items c.list_outputs.new.dues.items rows.rise rows.bounded underway listed);
      empty = c.in_ok-append.ensures.other_items;
    }

pub list_outputs-requires-clause-named : goal.list_outputs-requires-clause-named
list_outputs-requires-clause-named c =
    let rows = subst AreBookRows (sym (c.into_iter-row-iterator.ensures.into_iter_gives ∙ c.months-row-items.ensures)) c.rows_law.ensures in
    let underway = rw c.in-Some.ensures.steps at c.loop-row.invariant.underway in
    subst HaveNames (sym c.outputs_by.ensures) (named_there c.into_iter-row-iterator.result c.args.month (lent_row c.in-Some.row) c.next.new.self c.loop-row.dues.items rows.named underway)

pub returns : goal.returns
returns c =
    let none = c.in-None.ensures.steps.0 in
    let done = underway_done c.into_iter-row-iterator.result c.args.month c.loop-row.row-iterator c.loop-row.dues.items none c.loop-row.invariant.underway in
    subst (λ rows. AreReported rows c.args.month c.loop-row.dues.items) (c.into_iter-row-iterator.ensures.into_iter_gives ∙ c.months-row-items.ensures) done
