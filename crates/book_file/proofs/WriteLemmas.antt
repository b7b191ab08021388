-- The parts of a book's text, and what is sound of it.
use Rattle.std.proofs.Common.{◌≡◌, ◌⊎◌, inl, inr, ◌<◌, ◌≤◌, ◌+◌, ℕ, suc, List, [], ◌∷◌, ◌++◌, length, map, take, drop, get_or, Result, Ok, Err, refl, sym, ap, subst, ◌∙◌, arith, append_assoc, length-append}
use Rattle.std.specs.List.{flat_map}
use Rattle.std.proofs.lemmas.Grind.{flat_map-append}
use Rattle.std.proofs.Math.Seq.{take-suc}
use Rattle.std.proofs.lemmas.Bool.{cases_lt}
use Rattle.std.proofs.lemmas.List.{append-nil, get_or_default, length-map, take-append-drop}
use Rattle.std.proofs.lemmas.List.Folds.{flat_map-map}
use Rattle.saved_items.specs.SavedBooks.{end_text, head_text, saved_plan_text, run_count_text, saved_run_text, saved_plan}
use Rattle.payroll_records.specs.declared.record.Record.{Record}
use Rattle.plan_calendar.specs.Picking.{Entry}
use Rattle.pap_plan.specs.Plans.{Seen}
use Rattle.book_year.specs.Accepted.{Accepted, accepted_entry, plans_in}
use Rattle.book_year.specs.declared.outcome.Work.{Work}
use Rattle.book_year.specs.declared.year.Year.{Year}
use Rattle.book_edits.specs.declared.years.Years.{Years}
use Rattle.book_edits.specs.Books.{YearRuns, run_count}
use Rattle.book_edits.specs.Kept.{runs_in, runs_in_year, years_of}
use Rattle.recalc_engine.specs.Contents.{Contents}
use Rattle.book_file.specs.BookLaws.{BooksAreSaved}
use Rattle.book_file.specs.BookTexts.{book_text, saved_entry}
use Rattle.book_file.specs.Limits.{most_book_text}
use Rattle.book_file.specs.Saving.{IsUnsaved, SaveSays}
use Rattle.book_file.specs.private.WritingViews.{IsCutFrom, entry_text, year_text}
use Rattle.book_file.specs.declared.refusal.SaveRefusal.{SaveRefusal}
use Rattle.book_file.specs.declared.refusal.SaveRefusal.TheVariants as refusal
use Rattle.book_file.proofs.BookLemmas.{count_listed}
use Rattle.book_file.proofs.RunLemmas.{listed}

entries_text : (es : List (Entry Accepted)) → flat_map entry_text es ≡ flat_map saved_plan_text (map saved_entry es)
entries_text [] = refl
entries_text (e ∷ es) = ap (λ t. entry_text e ++ t) (entries_text es)

years_text : (ys : List YearRuns) → flat_map year_text ys ≡ flat_map saved_run_text (listed ys)
years_text [] = refl
years_text (y ∷ ys) = ap (λ t. year_text y ++ t) (years_text ys) ∙ sym (flat_map-append saved_run_text y.runs (listed ys))

-- ---- one entry more, one year more

pub one_more : {X : Type 0} (P : X → Type 0) (xs : List X) (i : ℕ) (x : X) → i < length xs → x ≡ get_or xs i x → P x →
    ((k : ℕ) (d : X) → k < i → P (get_or xs k d)) → (k : ℕ) (d : X) → k < i + 1 → P (get_or xs k d)
one_more P xs i x within is holds below k d lt = elim (cases_lt k i) [
  | inl l ↦ below k d l
  | inr g ↦
      let same : i ≡ k = omega arith in
      subst (λ n. P (get_or xs n d)) same (subst P (is ∙ get_or_default xs i x d within) holds)
]

more_text : {X : Type 0} (f : X → List ℕ) (before text new : List ℕ) (xs : List X) (i : ℕ) (x : X) → i < length xs → x ≡ get_or xs i x →
    text ≡ before ++ flat_map f (take i xs) → new ≡ text ++ f x → new ≡ before ++ flat_map f (take (suc i) xs)
more_text f before text new xs i x within is said more =
    let one : flat_map f (take (suc i) xs) ≡ flat_map f (take i xs) ++ f x =
    ap (flat_map f) (take-suc xs i x within ∙ ap (λ t. take i xs ++ t ∷ []) (sym is))
    ∙ flat_map-append f (take i xs) (x ∷ []) ∙ ap (λ t. flat_map f (take i xs) ++ t) (append-nil (f x)) in
    more ∙ ap (λ t. t ++ f x) said ∙ append_assoc before (flat_map f (take i xs)) (f x) ∙ ap (λ t. before ++ t) (sym one)

pub more_runs : (before text new : List ℕ) (rs : List Record) (i : ℕ) (r : Record) → i < length rs → r ≡ get_or rs i r →
    text ≡ before ++ flat_map saved_run_text (take i rs) → new ≡ text ++ saved_run_text r → new ≡ before ++ flat_map saved_run_text (take (i + 1) rs)
more_runs before text new rs i r within is said more =
    let next : suc i ≡ i + 1 = omega arith in
    more_text saved_run_text before text new rs i r within is said more ∙ ap (λ n. before ++ flat_map saved_run_text (take n rs)) next

pub more_plans : (before text new : List ℕ) (es : List (Entry Seen)) (i : ℕ) (e : Entry Seen) (plan limits : List ℕ) → i < length es →
    e ≡ get_or es i e → plan ≡ e.1.plan → limits ≡ e.1.limits → text ≡ before ++ flat_map entry_text (plans_in (take i es)) →
    new ≡ text ++ saved_plan_text (saved_plan e.0 plan limits) → new ≡ before ++ flat_map entry_text (plans_in (take (i + 1) es))
more_plans before text new es i e plan limits within is p l said more =
    let f : Entry Seen → List ℕ = λ e. entry_text (accepted_entry e) in
    let here : text ≡ before ++ flat_map f (take i es) = said ∙ ap (λ t. before ++ t) (flat_map-map entry_text accepted_entry (take i es)) in
    let there : new ≡ text ++ f e = more ∙ (λ k. text ++ saved_plan_text (saved_plan e.0 (p k) (l k))) in
    let next : suc i ≡ i + 1 = omega arith in
    more_text f before text new es i e within is here there
    ∙ ap (λ t. before ++ t) (sym (flat_map-map entry_text accepted_entry (take (suc i) es)))
    ∙ ap (λ t. before ++ flat_map entry_text (plans_in (take t es))) next

pub more_years : (before text new : List ℕ) (ys : List Year) (i : ℕ) (y : Year) → i < length ys → y ≡ get_or ys i y →
    text ≡ before ++ flat_map year_text (runs_in (take i ys)) → new ≡ text ++ flat_map saved_run_text y.records.items →
    new ≡ before ++ flat_map year_text (runs_in (take (i + 1) ys))
more_years before text new ys i y within is said more =
    let f : Year → List ℕ = λ y. year_text (runs_in_year y) in
    let here : text ≡ before ++ flat_map f (take i ys) = said ∙ ap (λ t. before ++ t) (flat_map-map year_text runs_in_year (take i ys)) in
    let next : suc i ≡ i + 1 = omega arith in
    more_text f before text new ys i y within is here more
    ∙ ap (λ t. before ++ t) (sym (flat_map-map year_text runs_in_year (take (suc i) ys)))
    ∙ ap (λ n. before ++ flat_map year_text (runs_in (take n ys))) next

pub years_cut : (before text new : List ℕ) (ys : List Year) (i : ℕ) (y : Year) → i < length ys → y ≡ get_or ys i y →
    text ≡ before ++ flat_map year_text (runs_in (take i ys)) → new ≡ text ++ flat_map saved_run_text y.records.items →
    most_book_text < length new → most_book_text < length (before ++ flat_map year_text (runs_in ys))
years_cut before text new ys i y within is said more long =
    let f : Year → List ℕ = λ y. year_text (runs_in_year y) in
    let here : text ≡ before ++ flat_map f (take i ys) = said ∙ ap (λ t. before ++ t) (flat_map-map year_text runs_in_year (take i ys)) in
    let there = more_text f before text new ys i y within is here more in
    let whole : before ++ flat_map year_text (runs_in ys) ≡ new ++ flat_map f (drop (suc i) ys) =
    ap (λ t. before ++ t) (flat_map-map year_text runs_in_year ys ∙ ap (flat_map f) (sym (take-append-drop (suc i) ys)) ∙ flat_map-append f (take (suc i) ys) (drop (suc i) ys))
    ∙ sym (append_assoc before (flat_map f (take (suc i) ys)) (flat_map f (drop (suc i) ys)))
    ∙ ap (λ t. t ++ flat_map f (drop (suc i) ys)) (sym there) in
    subst (λ t. most_book_text < length t) (sym whole) (omega (arith, long, length-append new (flat_map f (drop (suc i) ys))))

-- ---- the parts of a text, one behind the other

-- what was appended to an empty text, part by part, before the runs
pub record IsBegun (book : Contents) (es : List (Entry Seen)) (ys : Years) (text : List ℕ) : Type 0 where
  pub n : ℕ
  pub counted : n ≡ length es
  pub plans : plans_in es ≡ book.plans
  pub years : years_of ys ≡ book.years
  pub runs : ys.count ≡ run_count (years_of ys)
  pub is : text ≡ ((([] ++ head_text book.last.runs book.last.steps n) ++ flat_map entry_text (plans_in es)) ++ run_count_text ys.count)

pub begun : (book : Contents) (work : Work) (es calendar : List (Entry Seen)) (ys : Years) (n : ℕ) (empty head plans runs : List ℕ) →
    work ≡ book.last → es ≡ calendar → plans_in calendar ≡ book.plans → n ≡ length calendar → years_of ys ≡ book.years →
    ys.count ≡ run_count (years_of ys) → empty ≡ [] → head ≡ empty ++ head_text work.runs work.steps n →
    plans ≡ head ++ flat_map entry_text (plans_in es) → runs ≡ plans ++ run_count_text ys.count → IsBegun book es ys runs
begun book work es calendar ys n empty head plans runs last same plans_same counted years count none e f g = record {
  n = n;
  counted = counted ∙ ap length (sym same);
  plans = ap plans_in same ∙ plans_same;
  years = years;
  runs = count;
  is = g ∙ ap (λ t. t ++ run_count_text ys.count) (f ∙ ap (λ t. t ++ flat_map entry_text (plans_in es)) (e ∙ (λ i. none i ++ head_text (last i).runs (last i).steps n)));
}

regrouped : (a b c d e : List ℕ) → ((((a ++ b) ++ c) ++ d) ++ e) ≡ a ++ (b ++ (c ++ (d ++ e)))
regrouped a b c d e = append_assoc ((a ++ b) ++ c) d e ∙ append_assoc (a ++ b) c (d ++ e) ∙ append_assoc a b (c ++ (d ++ e))

module _ (book : Contents) (es : List (Entry Seen)) (ys : Years) (text : List ℕ) (h : IsBegun book es ys text) where
  plans_are : h.n ≡ length (map saved_entry book.plans)
  plans_are = h.counted ∙ sym (length-map es accepted_entry) ∙ ap length h.plans ∙ sym (length-map book.plans saved_entry)

  runs_are : ys.count ≡ length (listed book.years)
  runs_are = h.runs ∙ ap run_count h.years ∙ count_listed book.years

  pub whole_text : (text ++ flat_map year_text (years_of ys)) ++ end_text ≡ book_text book
  whole_text =
      ap (λ t. (t ++ flat_map year_text (years_of ys)) ++ end_text) h.is
      ∙ regrouped (head_text book.last.runs book.last.steps h.n) (flat_map entry_text (plans_in es)) (run_count_text ys.count) (flat_map year_text (years_of ys)) end_text
      ∙ (λ i. head_text book.last.runs book.last.steps (plans_are i)
      ++ ((ap (flat_map entry_text) h.plans ∙ entries_text book.plans) i
      ++ (run_count_text (runs_are i) ++ ((ap (flat_map year_text) h.years ∙ years_text book.years) i ++ end_text))))

  pub cut_short : (why : SaveRefusal) → IsCutFrom (text ++ flat_map year_text (years_of ys)) why → IsUnsaved book why
  cut_short refusal.Long long =
      subst (λ t. most_book_text < length t) whole_text (omega (arith, long, length-append (text ++ flat_map year_text (years_of ys)) end_text))
  cut_short (refusal.Memory e) long = tt

-- ---- a law

pub saved_some : BooksAreSaved
saved_some book = by (cases_lt most_book_text (length (book_text book)))
  where
    by : (most_book_text < length (book_text book)) ⊎ (length (book_text book) ≤ most_book_text) → (said : Result (List ℕ) SaveRefusal) × SaveSays book said
    by (inl many) = (Err refusal.Long, many)
    by (inr few) = (Ok (book_text book), (refl, few))
