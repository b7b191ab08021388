use Rattle.std.proofs.Common.{◌<◌, ◌++◌, length, arith, ap, subst, ◌∙◌}
use Rattle.std.specs.List.{All, flat_map}
use Rattle.std.proofs.lemmas.Result.{err_from_is_err_and}
use Rattle.book_edits.specs.Kept.{runs_in}
use Rattle.saved_items.specs.SavedBooks.{IsWork, end_text}
use Rattle.book_year.specs.declared.outcome.Work.{Work}
use Rattle.book_file.specs.Limits.{most_book_text}
use Rattle.book_file.specs.Saving.{IsUnsaved}
use Rattle.book_file.specs.private.WritingViews.{HasRuns, IsCutFrom, year_text}
use Rattle.book_file.proofs.ReadLemmas.{err_holds}
use Rattle.book_file.proofs.SoundLemmas.{sound}
use Rattle.book_file.proofs.WriteLemmas.{begun, cut_short, whole_text}
use Rattle.book_file.proofs.write.write_book.Goals as goal

pub returns-in_err-write_years-clause-refused : goal.returns-in_err-write_years-clause-refused
returns-in_err-write_years-clause-refused c =
    let book = c.args.b.now in
    let es = c.entries.result.now in
    let ys = c.years-years.result.now in
    let text = c.push_run_count.new.out.items in
    let so_far =
    begun book c.last_work-work.result es c.plans-plans.result.now ys c.len.result c.new-text.result.items c.push_head.new.out.items c.write_plans.new.text.items text
    c.last_work-work.ensures c.entries.ensures.all c.plans-plans.ensures c.len.ensures c.years-years.ensures.years c.years-years.ensures.kept.count
    c.new-text.ensures.items c.in_ok-push_head.ensures c.in_ok-write_plans.ensures c.in_ok-push_run_count.ensures in
    let p = err_from_is_err_and c.from_residual-in_err-write_years.result c.from_residual-in_err-write_years.ensures.1 in
    let given = c.in_err-write_years.field-0.0 in
    err_holds c.from_residual-in_err-write_years.result (IsUnsaved book) p.0 given p.1 p.2
    (cut_short book es ys text so_far given
    (subst (λ years. IsCutFrom (text ++ flat_map year_text (runs_in years)) given) c.as_slice.ensures.value c.in_err-write_years.ensures.refused))

pub returns-then-len-gt-MOST_BOOK_TEXT-clause-refused : goal.returns-then-len-gt-MOST_BOOK_TEXT-clause-refused
returns-then-len-gt-MOST_BOOK_TEXT-clause-refused c =
    let book = c.args.b.now in
    let es = c.entries.result.now in
    let ys = c.years-years.result.now in
    let text = c.push_run_count.new.out.items in
    let so_far =
    begun book c.last_work-work.result es c.plans-plans.result.now ys c.len.result c.new-text.result.items c.push_head.new.out.items c.write_plans.new.text.items text
    c.last_work-work.ensures c.entries.ensures.all c.plans-plans.ensures c.len.ensures c.years-years.ensures.years c.years-years.ensures.kept.count
    c.new-text.ensures.items c.in_ok-push_head.ensures c.in_ok-write_plans.ensures c.in_ok-push_run_count.ensures in
    let whole =
    c.in_ok-push_end.ensures
    ∙ ap (λ t. t ++ end_text) (c.in_ok-write_years.ensures.ok ∙ ap (λ years. text ++ flat_map year_text (runs_in years)) c.as_slice.ensures.value)
    ∙ whole_text book es ys text so_far in
    subst (λ t. most_book_text < length t) whole (omega (arith, c.len-2.ensures, c.if-len-gt-MOST_BOOK_TEXT.true))

pub returns-clause-saved : goal.returns-clause-saved
returns-clause-saved c =
    let book = c.args.b.now in
    let es = c.entries.result.now in
    let ys = c.years-years.result.now in
    let text = c.push_run_count.new.out.items in
    let so_far =
    begun book c.last_work-work.result es c.plans-plans.result.now ys c.len.result c.new-text.result.items c.push_head.new.out.items c.write_plans.new.text.items text
    c.last_work-work.ensures c.entries.ensures.all c.plans-plans.ensures c.len.ensures c.years-years.ensures.years c.years-years.ensures.kept.count
    c.new-text.ensures.items c.in_ok-push_head.ensures c.in_ok-write_plans.ensures c.in_ok-push_run_count.ensures in
    let whole =
    c.in_ok-push_end.ensures
    ∙ ap (λ t. t ++ end_text) (c.in_ok-write_years.ensures.ok ∙ ap (λ years. text ++ flat_map year_text (runs_in years)) c.as_slice.ensures.value)
    ∙ whole_text book es ys text so_far in
    (whole, omega (arith, c.len-2.ensures, c.if-len-gt-MOST_BOOK_TEXT.false))

pub returns-clause-read : goal.returns-clause-read
returns-clause-read c =
    let book = c.args.b.now in
    let es = c.entries.result.now in
    let ys = c.years-years.result.now in
    let text = c.push_run_count.new.out.items in
    let so_far =
    begun book c.last_work-work.result es c.plans-plans.result.now ys c.len.result c.new-text.result.items c.push_head.new.out.items c.write_plans.new.text.items text
    c.last_work-work.ensures c.entries.ensures.all c.plans-plans.ensures c.len.ensures c.years-years.ensures.years c.years-years.ensures.kept.count
    c.new-text.ensures.items c.in_ok-push_head.ensures c.in_ok-write_plans.ensures c.in_ok-push_run_count.ensures in
    let whole =
    c.in_ok-push_end.ensures
    ∙ ap (λ t. t ++ end_text) (c.in_ok-write_years.ensures.ok ∙ ap (λ years. text ++ flat_map year_text (runs_in years)) c.as_slice.ensures.value)
    ∙ whole_text book es ys text so_far in
    let saved =
    sound book ys.list.items c.law.ensures (subst (λ (w : Work). IsWork w.runs w.steps) c.last_work-work.ensures c.work_law.ensures)
    c.years-years.ensures.years (subst (All HasRuns) c.as_slice.ensures.value c.in_ok-write_years.ensures.runs) in
    record {
      few = omega (arith, c.len-2.ensures, c.if-len-gt-MOST_BOOK_TEXT.false);
      book_is = c.law.ensures;
      text = record { sound = saved; text = whole };
    }
