-- A book and what is saved of it: each is that of the other.
use Rattle.std.proofs.Common.{◌≡◌, ◌+◌, ◌≤◌, ℕ, List, [], ◌∷◌, length, map, refl, sym, ap, subst, ◌∙◌}
use Rattle.std.proofs.lemmas.List.{length-append, length-map}
use Rattle.std.proofs.lemmas.List.Sums.{sum_by-cons}
use Rattle.rising_lists.specs.Keyed.{IsRising}
use Rattle.payroll_records.specs.Orders.{day_cmp}
use Rattle.plan_calendar.specs.Picking.{AreEntries, Entry}
use Rattle.saved_items.specs.SavedBooks.{IsSaved, IsSavedText, Saved}
use Rattle.saved_items.specs.SavedBooks as saved
use Rattle.book_year.specs.Accepted.{Accepted}
use Rattle.book_edits.specs.Books.{YearRuns, loaded, run_count}
use Rattle.book_edits.proofs.Laws.{rising_map}
use Rattle.recalc_engine.specs.BookLaws.{IsBook}
use Rattle.recalc_engine.specs.Contents.{Contents, book_of}
use Rattle.recalc_engine.proofs.Laws.{parts_make}
use Rattle.book_file.specs.BookTexts.{IsTextOf, saved_of, saved_entry}
use Rattle.book_file.specs.Limits.{most_book_text}
use Rattle.book_file.specs.private.Views.{AreEntriesOf, book_of_saved}
use Rattle.book_file.proofs.PlanLemmas.{entries_same}
use Rattle.book_file.proofs.RunLemmas.{listed, years_made}

-- ---- books with the same runs, plans as texts and last work are one

pub books_same : (a b : Contents) → IsBook a → IsBook b → saved_of a ≡ saved_of b → a ≡ b
books_same a b h k same =
    let plans : a.plans ≡ b.plans = entries_same a.plans b.plans h.plans k.plans (ap (λ s. s.plans) same) in
    sym (parts_make a h)
    ∙ (λ i. book_of ((same i).records) (plans i) (record { runs = (same i).runs; steps = (same i).steps }))
    ∙ parts_make b k

-- ---- the book of what is saved

pub count_listed : (ys : List YearRuns) → run_count ys ≡ length (listed ys)
count_listed [] = refl
count_listed (y ∷ ys) =
    sum_by-cons (λ y. length y.runs) y ys ∙ ap (λ t. length y.runs + t) (count_listed ys) ∙ sym (length-append y.runs (listed ys))

are_entries : (s : Saved) (es : List (Entry Accepted)) → IsSaved s → map saved_entry es ≡ s.plans → AreEntries es
are_entries s es h texts = record {
  rising = rising_map day_cmp saved.saved_day saved_entry es (subst (IsRising day_cmp saved.saved_day) (sym texts) h.plans.rising);
  few = subst (λ t. t ≤ 64) (sym (ap length texts) ∙ length-map es saved_entry) h.plans.few;
}

pub made_book : (s : Saved) (es : List (Entry Accepted)) → IsSaved s → AreEntriesOf s.plans es →
    IsBook (book_of_saved s es)
made_book s es h e =
    let g = years_made s.records h.records.rising in
    record {
      order = record { rising = g.rising; days = g.days; some = g.some };
      own = g.own;
      few = subst (λ t. t ≤ 50000) (sym (count_listed (loaded s.records []) ∙ ap length g.runs)) h.records.few;
      entries = are_entries s es h e.texts;
      plans = e.plans;
    }

pub made_saved : (s : Saved) (es : List (Entry Accepted)) → IsSaved s → AreEntriesOf s.plans es → saved_of (book_of_saved s es) ≡ s
made_saved s es h e = λ i. record {
  runs = s.runs;
  steps = s.steps;
  plans = e.texts i;
  records = (years_made s.records h.records.rising).runs i;
}

-- the text of what is saved is the book's
pub made_text : (bytes : List ℕ) (s : Saved) (es : List (Entry Accepted)) → length bytes ≤ most_book_text → IsSavedText bytes s →
    AreEntriesOf s.plans es → IsTextOf bytes (book_of_saved s es)
made_text bytes s es few h e = record {
  few = few;
  book_is = made_book s es h.sound e;
  text = subst (IsSavedText bytes) (sym (made_saved s es h.sound e)) h;
}
