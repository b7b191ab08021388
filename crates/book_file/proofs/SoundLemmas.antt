-- What is saved of a book has a text.
use Rattle.std.proofs.Common.{◌≡◌, ◌≤◌, List, [], ◌∷◌, ◌++◌, map, sym, subst}
use Rattle.std.specs.List.{All, AllByRecursion}
use Rattle.std.proofs.lemmas.List.{length-map}
use Rattle.std.proofs.lemmas.List.Elements.{All-head, All-tail, recursion_from_All}
use Rattle.payroll_records.specs.declared.record.Record.{Record}
use Rattle.payroll_records.specs.Orders.{day_cmp}
use Rattle.plan_calendar.specs.Picking.{AreEntries, Entry}
use Rattle.saved_items.specs.SavedBooks.{ArePlans, IsRun, IsSaved, IsWork}
use Rattle.saved_items.specs.SavedBooks as saved
use Rattle.book_year.specs.Accepted.{Accepted}
use Rattle.book_year.specs.declared.year.Year.{Year}
use Rattle.book_edits.specs.Kept.{runs_in}
use Rattle.book_edits.proofs.Laws.{map_rising}
use Rattle.recalc_engine.specs.BookLaws.{IsBook}
use Rattle.recalc_engine.specs.Contents.{Contents}
use Rattle.recalc_engine.proofs.Laws.{runs_rise}
use Rattle.book_file.specs.BookTexts.{saved_entry, saved_of}
use Rattle.book_file.specs.private.WritingViews.{HasRuns}
use Rattle.book_file.proofs.BookLemmas.{count_listed}
use Rattle.book_file.proofs.RunLemmas.{listed}

all_append : (rs ss : List Record) → AllByRecursion IsRun rs → AllByRecursion IsRun ss → AllByRecursion IsRun (rs ++ ss)
all_append [] ss h k = k
all_append (r ∷ rs) ss h k = (h.0, all_append rs ss h.1 k)

all_runs : (ys : List Year) → All HasRuns ys → AllByRecursion IsRun (listed (runs_in ys))
all_runs [] h = tt
all_runs (y ∷ ys) h =
    all_append y.records.items (listed (runs_in ys)) (recursion_from_All IsRun y.records.items (All-head HasRuns y ys h))
    (all_runs ys (All-tail HasRuns y ys h))

plans_are : (es : List (Entry Accepted)) → AreEntries es → ArePlans (map saved_entry es)
plans_are es h = record {
  rising = map_rising day_cmp saved.saved_day saved_entry es h.rising;
  few = subst (λ t. t ≤ 64) (sym (length-map es saved_entry)) h.few;
}

pub sound : (book : Contents) (ys : List Year) → IsBook book → IsWork book.last.runs book.last.steps → runs_in ys ≡ book.years →
    All HasRuns ys → IsSaved (saved_of book)
sound book ys h work same runs = record {
  work = work;
  plans = plans_are book.plans h.entries;
  records = record {
    rising = runs_rise book h;
    each = subst (λ t. AllByRecursion IsRun (listed t)) same (all_runs ys runs);
    few = subst (λ t. t ≤ 50000) (count_listed book.years) h.few;
  };
}
