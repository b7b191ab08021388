use Rattle.std.proofs.Common.{arith, subst, All}
use Rattle.saved_items.specs.SavedBooks.{IsRun}
use Rattle.book_file.specs.private.WritingViews.{HasRuns}
use Rattle.book_file.proofs.WriteLemmas.{more_years, one_more, years_cut}
use Rattle.book_file.proofs.write.write_years.Goals as goal

pub returns-then-len-gt-MOST_BOOK_TEXT-clause-refused :
    goal.returns-then-len-gt-MOST_BOOK_TEXT-clause-refused
returns-then-len-gt-MOST_BOOK_TEXT-clause-refused c =
    years_cut c.args.text.now.items c.loop-year.text.items c.write_runs.new.text.items c.args.years.now c.loop-year.year-index
    c.year-item.result (omega arith) c.year-item.is c.loop-year.invariant.text (rw (← c.as_slice.ensures.value) c.in_ok-write_runs.ensures.ok)
    (omega (arith, c.len.ensures, c.if-len-gt-MOST_BOOK_TEXT.true))

pub loop-year-preserved : goal.loop-year-preserved
loop-year-preserved c = record {
  text =
      more_years c.args.text.now.items c.loop-year.text.items c.write_runs.new.text.items c.args.years.now c.loop-year.year-index
      c.year-item.result (omega arith) c.year-item.is c.loop-year.invariant.text (rw (← c.as_slice.ensures.value) c.in_ok-write_runs.ensures.ok);
  runs =
      one_more HasRuns c.args.years.now c.loop-year.year-index c.year-item.result (omega arith) c.year-item.is
      (subst (All IsRun) c.as_slice.ensures.value c.in_ok-write_runs.ensures.runs) c.loop-year.invariant.runs;
}
