use Rattle.std.proofs.Common.{ap, ◌∙◌}
use Rattle.plan_notes.specs.declared.tag.Starts.TheVariants.{Of}
use Rattle.plan_notes.specs.Walks.{behind_start}
use Rattle.plan_notes.proofs.Laws.{comments_found, one_start_more}
use Rattle.flowchart_page.specs.private.TableViews.{source_of}
use Rattle.flowchart_page.proofs.TableLemmas.{no_rows, next_row, all_rows}
use Rattle.flowchart_page.proofs.declarations.write_rows.Goals as goal

pub loop-number-init : goal.loop-number-init
loop-number-init c = record {
  rows = no_rows (source_of c.args.declarations) c.args.element c.args.page.now;
  left = c.walk-walk.ensures.left;
  same = c.walk-walk.ensures.notes;
}

pub loop-number-preserved : goal.loop-number-preserved
loop-number-preserved c =
    let before = c.loop-number.invariant in
    let i = c.loop-number.number in
    let notes = c.args.declarations.notes.now in
    let found = c.skip_to-comments in
    record {
      rows = next_row (source_of c.args.declarations) c.args.element c.args.names.now i c.index-names-number.result
          found.result.now c.args.page.now c.loop-number.page c.append_part.new.page c.write_name.new.page
          c.loop-number-test.true c.index-names-number.is before.rows c.in_ok-append_part.ensures
          (found.ensures.comments ∙ comments_found notes c.loop-number.walk c.args.element i before.same before.left)
          c.in_ok-write_name.ensures;
      left = found.ensures.left ∙ ap (behind_start (Of c.args.element)) before.left
          ∙ one_start_more (Of c.args.element) i notes.marks.items;
      same = found.ensures.notes ∙ before.same;
    }

pub returns : goal.returns
returns c =
    all_rows (source_of c.args.declarations) c.args.element c.args.names.now c.loop-number.number c.args.page.now
    c.loop-number.page c.append_others.new.page c.loop-number-test.false c.loop-number.invariant.rows
    c.in_ok-append_others.ensures
