-- Each text says one thing.
use Rattle.std.proofs.Common.{◌≡◌, ◌⊎◌, inl, inr, ◌≤◌, ◌<◌, ℕ, List, length, take, Result, Ok, Err, refl, sym, ap, subst, ◌∙◌, arith}
use Rattle.std.specs.List.{AllByRecursion}
use Rattle.std.proofs.lemmas.Bool.{cases_lt}
use Rattle.std.proofs.lemmas.List.{length-take-le, take_all}
use Rattle.payroll_records.specs.declared.day.Day.{Day}
use Rattle.saved_items.specs.SavedBooks.{IsSavedText, Saved}
use Rattle.saved_items.specs.Texts.{Stop, TextSays}
use Rattle.saved_items.proofs.Laws.{text_once, text_some}
use Rattle.recalc_engine.specs.Contents.{Contents}
use Rattle.book_file.specs.BookLaws.{FrontsTell, TextsSayOneThing, TextsSaySomething}
use Rattle.book_file.specs.BookSays.{BookSays, BreaksAtItem, HasRefusedPlan, IsAcceptable, IsFirstRefused, plans_read}
use Rattle.book_file.specs.BookTexts.{IsTextOf, saved_of}
use Rattle.book_file.specs.Limits.{most_book_text}
use Rattle.book_file.specs.declared.refusal.BookFault.{BookFault}
use Rattle.book_file.specs.declared.refusal.BookFault.TheVariants as fault
use Rattle.book_file.specs.private.Views.{book_of_saved}
use Rattle.book_file.proofs.BookLemmas.{books_same, made_text}
use Rattle.book_file.proofs.PlanLemmas.{all_acceptable, entries_for, first_refused, never_refused, one_refused}

abbrev Said : Type 0
Said = Result Saved Stop

abbrev ok_said : Saved → Said
ok_said s = Ok s

abbrev err_said : Stop → Said
err_said s = Err s

saved_same : (x y : Saved) → ok_said x ≡ ok_said y → x ≡ y
saved_same x y e = cc e

stop_same : (x y : Stop) → err_said x ≡ err_said y → x ≡ y
stop_same x y e = cc e

ok_or_err : (x : Saved) (y : Stop) → ok_said x ≡ err_said y → ⊥
ok_or_err x y e = cc e

-- ---- at most one

module _ (bytes : List ℕ) where
  pub one_book : (a b : Contents) → IsTextOf bytes a → IsTextOf bytes b → a ≡ b
  one_book a b h k =
      books_same a b h.book_is k.book_is
      (saved_same (saved_of a) (saved_of b) (text_once bytes (Ok (saved_of a)) (Ok (saved_of b)) h.text k.text))

  whole_or_broken : (a : Contents) (item : ℕ) → IsTextOf bytes a → BreaksAtItem bytes item → ⊥
  whole_or_broken a item h k = ok_or_err (saved_of a) k.stop (text_once bytes (Ok (saved_of a)) (Err k.stop) h.text k.says)

  whole_or_refused : (a : Contents) (day : Day) → IsTextOf bytes a → HasRefusedPlan bytes day → ⊥
  whole_or_refused a day h k =
      never_refused (saved_of a).plans day (all_acceptable a.plans h.book_is.plans)
      (subst (λ t. IsFirstRefused (plans_read t) day) (text_once bytes k.said (Ok (saved_of a)) k.says h.text) k.first)

  broken_or_refused : (item : ℕ) (day : Day) → BreaksAtItem bytes item → HasRefusedPlan bytes day → ⊥
  broken_or_refused item day h k =
      never_refused h.stop.plans day h.accepted
      (subst (λ t. IsFirstRefused (plans_read t) day) (text_once bytes k.said (Err h.stop) k.says h.says) k.first)

  one_break : (a b : ℕ) → BreaksAtItem bytes a → BreaksAtItem bytes b → a ≡ b
  one_break a b h k =
      h.item_is ∙ ap (λ s. s.item) (stop_same h.stop k.stop (text_once bytes (Err h.stop) (Err k.stop) h.says k.says)) ∙ sym k.item_is

  one_plan : (a b : Day) → HasRefusedPlan bytes a → HasRefusedPlan bytes b → a ≡ b
  one_plan a b h k =
      one_refused (plans_read k.said) a b
      (subst (λ t. IsFirstRefused (plans_read t) a) (text_once bytes h.said k.said h.says k.says) h.first) k.first

  too_many : length bytes ≤ most_book_text → most_book_text < length bytes → ⊥
  too_many few many = omega (arith, few, many)

pub one : TextsSayOneThing
one bytes (Ok a) (Ok b) h k = ap (λ t. Ok t) (one_book bytes a b h k)
one bytes (Ok a) (Err fault.Long) h k = absurd (too_many bytes h.few k)
one bytes (Ok a) (Err (fault.Form item)) h k = absurd (whole_or_broken bytes a item h k)
one bytes (Ok a) (Err (fault.Plan day)) h k = absurd (whole_or_refused bytes a day h k)
one bytes (Err fault.Long) (Ok b) h k = absurd (too_many bytes k.few h)
one bytes (Err fault.Long) (Err fault.Long) h k = refl
one bytes (Err fault.Long) (Err (fault.Form item)) h k = absurd (too_many bytes k.few h)
one bytes (Err fault.Long) (Err (fault.Plan day)) h k = absurd (too_many bytes k.few h)
one bytes (Err (fault.Form item)) (Ok b) h k = absurd (whole_or_broken bytes b item k h)
one bytes (Err (fault.Form item)) (Err fault.Long) h k = absurd (too_many bytes h.few k)
one bytes (Err (fault.Form item)) (Err (fault.Form other)) h k = ap (λ t. Err (fault.Form t)) (one_break bytes item other h k)
one bytes (Err (fault.Form item)) (Err (fault.Plan day)) h k = absurd (broken_or_refused bytes item day h k)
one bytes (Err (fault.Plan day)) (Ok b) h k = absurd (whole_or_refused bytes b day k h)
one bytes (Err (fault.Plan day)) (Err fault.Long) h k = absurd (too_many bytes h.few k)
one bytes (Err (fault.Plan day)) (Err (fault.Form item)) h k = absurd (broken_or_refused bytes item day k h)
one bytes (Err (fault.Plan day)) (Err (fault.Plan other)) h k = ap (λ t. Err (fault.Plan t)) (one_plan bytes day other h k)
one bytes (Err (fault.Memory e)) b h k = absurd h
one bytes a (Err (fault.Memory e)) h k = absurd k

-- ---- and one

abbrev Answer : List ℕ → Type 0
Answer bytes = (said : Result Contents BookFault) × BookSays bytes said

module _ (bytes : List ℕ) (few : length bytes ≤ most_book_text) where
  whole : (s : Saved) → IsSavedText bytes s → AllByRecursion IsAcceptable s.plans ⊎ ((day : Day) × IsFirstRefused s.plans day) → Answer bytes
  whole s h (inl all) = (let es = entries_for s.plans all in (
    Ok (book_of_saved s es.0),
    made_text bytes s es.0 few h es.1,
  ))
  whole s h (inr (day, f)) = (Err (fault.Plan day), record { few = few; said = Ok s; says = h; first = f })

  broken : (s : Stop) → TextSays bytes (Err s) → AllByRecursion IsAcceptable s.plans ⊎ ((day : Day) × IsFirstRefused s.plans day) → Answer bytes
  broken s h (inl all) = (Err (fault.Form s.item), record { few = few; stop = s; says = h; accepted = all; item_is = refl })
  broken s h (inr (day, f)) = (Err (fault.Plan day), record { few = few; said = Err s; says = h; first = f })

  by_reading : (a : Said) → TextSays bytes a → Answer bytes
  by_reading (Ok s) h = whole s h (first_refused s.plans)
  by_reading (Err s) h = broken s h (first_refused s.plans)

pub some : TextsSaySomething
some bytes = by (cases_lt most_book_text (length bytes))
  where
    by : (most_book_text < length bytes) ⊎ (length bytes ≤ most_book_text) → Answer bytes
    by (inl many) = (Err fault.Long, many)
    by (inr few) = (let a = text_some bytes in by_reading bytes few a.0 a.1)

-- ---- a front that is longer than the limit tells

front_whole : (n : ℕ) (bytes : List ℕ) → most_book_text < n → length (take n bytes) ≤ most_book_text → take n bytes ≡ bytes
front_whole n bytes more few = by (cases_lt n (length bytes))
  where
    by : (n < length bytes) ⊎ (length bytes ≤ n) → take n bytes ≡ bytes
    by (inl less) = absurd (omega (arith, more, few, length-take-le n bytes (omega (arith, less))))
    by (inr le) = take_all n bytes le

front_long : (n : ℕ) (bytes : List ℕ) → most_book_text < n → most_book_text < length (take n bytes) → most_book_text < length bytes
front_long n bytes more long = by (cases_lt n (length bytes))
  where
    by : (n < length bytes) ⊎ (length bytes ≤ n) → most_book_text < length bytes
    by (inl less) = omega (arith, more, less)
    by (inr le) = subst (λ t. most_book_text < length t) (take_all n bytes le) long

pub fronts : FrontsTell
fronts n bytes more (Ok book) h = subst (λ t. IsTextOf t book) (front_whole n bytes more h.few) h
fronts n bytes more (Err fault.Long) h = front_long n bytes more h
fronts n bytes more (Err (fault.Form item)) h = subst (λ t. BreaksAtItem t item) (front_whole n bytes more h.few) h
fronts n bytes more (Err (fault.Plan day)) h = subst (λ t. HasRefusedPlan t day) (front_whole n bytes more h.few) h
fronts n bytes more (Err (fault.Memory e)) h = absurd h
