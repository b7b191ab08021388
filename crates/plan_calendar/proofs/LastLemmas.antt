-- The last of the entries up to a day, where it is of that day's year, is the entry that is picked.
use Rattle.std.proofs.Common.{◌≡◌, ℕ, zero, suc, ◌+◌, ◌<◌, ◌≤◌, ◌-◌, List, [], ◌∷◌, length, take, get_or, slice_get, Bool, true, false, ◌&&◌, ◌==◌, Option, Some, None, if◌then◌else◌, refl, sym, ap, ◌∙◌, subst, arith, inl, inr}
use Rattle.std.specs.declared.cmp.Ordering.TheVariants.{Less, Equal, Greater}
use Rattle.std.specs.Option.{option_or}
use Rattle.std.specs.Ordering.{is_lt}
use Rattle.std.proofs.lemmas.Bool.{cases_lt}
use Rattle.std.proofs.lemmas.Bool.Decides.{nat_tests}
use Rattle.std.proofs.lemmas.Option.{slice_get_within}
use Rattle.rising_lists.specs.Keyed.{AreAbove, IsRising}
use Rattle.rising_lists.specs.Places.{IsAt, IsGap}
use Rattle.rising_lists.proofs.Laws.{rising_far}
use Rattle.payroll_records.specs.declared.day.Day.{Day}
use Rattle.payroll_records.specs.Orders.{day_cmp}
use Rattle.payroll_records.proofs.Laws.{day_total}
use Rattle.plan_calendar.specs.Picking.{Entry, day_of, last_where, pick, pick_before}
use Rattle.plan_calendar.specs.private.Views.{last_of_year}
use Rattle.plan_calendar.proofs.DayLemmas.{greater_back, not_after}

-- a day that isn't after another is of its year or of an earlier one
by_year : (a b : Day) → not_after a b ≡ true → a.year ≤ b.year
by_year a b h = grind (arith, nat_tests)

before_year : (a b : Day) → is_lt (day_cmp a b) ≡ true → a.year ≤ b.year
before_year a b h = grind (arith, nat_tests)

year_below : (a b year : ℕ) → a ≤ b → b ≤ year → (b == year) ≡ false → (a == year) ≡ false
year_below a b year h k n = grind (arith, nat_tests)

and_true : (a b : Bool) → b ≡ true → (a && b) ≡ a
and_true true b e = e
and_true false b e = refl

and_false : (a b : Bool) → b ≡ false → (a && b) ≡ false
and_false true b e = e
and_false false b e = refl

option_or-first : {X : Type 0} (o t : Option X) → (o ≡ None → t ≡ None) → option_or o t ≡ o
option_or-first None t h = h refl
option_or-first (Some x) t h = refl

not_here : {X : Type 0} (t : Bool) (x : X) → (if t then Some x else None) ≡ None → t ≡ false
not_here true x e = cc
not_here false x e = refl

-- the test holds of the days before a place, and of none from it on
pub record Parts {P : Type 0} (by : Day → Bool) (es : List (Entry P)) (end : ℕ) : Type 0 where
  pub before : (j : ℕ) (d : Entry P) → j < end → j < length es → by (day_of (get_or es j d)) ≡ true
  pub after : (j : ℕ) (d : Entry P) → end ≤ j → j < length es → by (day_of (get_or es j d)) ≡ false

tail_parts : {P : Type 0} (by : Day → Bool) (x : Entry P) (xs : List (Entry P)) (end : ℕ) →
    Parts by (x ∷ xs) (suc end) → Parts by xs end
tail_parts by x xs end h = record {
  before = λ j d l w. h.before (suc j) d (omega (arith, l)) (omega (arith, w));
  after = λ j d l w. h.after (suc j) d (omega (arith, l)) (omega (arith, w));
}

tail_none : {P : Type 0} (by : Day → Bool) (x : Entry P) (xs : List (Entry P)) → Parts by (x ∷ xs) 0 → Parts by xs 0
tail_none by x xs h = record {
  before = λ j d l w. absurd (omega (arith, l));
  after = λ j d l w. h.after (suc j) d (omega arith) (omega (arith, w));
}

-- a test that holds of days of a year or of earlier ones alone
module _ {P : Type 0} (by : Day → Bool) (year : ℕ) (near : (a : Day) → by a ≡ true → a.year ≤ year) where
  abbrev passes : Entry P → Bool
  passes e = (day_of e).year == year && by (day_of e)

  none_passes : (es : List (Entry P)) → Parts by es 0 → last_where passes es ≡ None
  none_passes [] h = refl
  none_passes (x ∷ xs) h =
      ap (λ o. option_or o (if passes x then Some x else None)) (none_passes xs (tail_none by x xs h))
      ∙ ap (λ t. if t then Some x else None)
      (and_false ((day_of x).year == year) (by (day_of x)) (h.after 0 x (omega arith) (omega arith)))

  here_passes : (x : Entry P) → by (day_of x) ≡ true →
      (if (day_of x).year == year then Some x else None) ≡ (if passes x then Some x else None)
  here_passes x b = ap (λ t. if t then Some x else None) (sym (and_true ((day_of x).year == year) (by (day_of x)) b))

  here_older : (k : Day) (z : Entry P) → day_cmp k (day_of z) ≡ Less → by (day_of z) ≡ true →
      (if (day_of z).year == year then Some z else None) ≡ None → (k.year == year) ≡ false
  here_older k z less b none =
      year_below k.year (day_of z).year year (before_year k (day_of z) (ap (λ o. is_lt o) less)) (near (day_of z) b)
      (not_here ((day_of z).year == year) z none)

  -- where the last entry is of another year, so is an earlier day
  older : (k : Day) (z : Entry P) (zs : List (Entry P)) (e : ℕ) → AreAbove day_cmp day_of k (z ∷ zs) →
      Parts by (z ∷ zs) (suc e) → last_of_year (z ∷ take e zs) year ≡ None → (k.year == year) ≡ false
  older k z zs zero above h none = here_older k z above.0 (h.before 0 z (omega arith) (omega arith)) none
  older k z [] (suc e) above h none = here_older k z above.0 (h.before 0 z (omega arith) (omega arith)) none
  older k z (w ∷ ws) (suc e) above h none = older k w ws e above.1 (tail_parts by z (w ∷ ws) (suc e) h) none

  picked : (es : List (Entry P)) (end : ℕ) → IsRising day_cmp day_of es → Parts by es end →
      last_of_year (take end es) year ≡ last_where passes es
  picked [] zero r h = refl
  picked [] (suc end) r h = refl
  picked (x ∷ xs) zero r h = sym (none_passes (x ∷ xs) h)
  picked (x ∷ xs) (suc zero) r h =
      here_passes x (h.before 0 x (omega arith) (omega arith))
      ∙ sym (ap (λ o. option_or o (if passes x then Some x else None)) (none_passes xs (tail_parts by x xs 0 h)))
  picked (x ∷ []) (suc (suc e)) r h = here_passes x (h.before 0 x (omega arith) (omega arith))
  picked (x ∷ (y ∷ ys)) (suc (suc e)) r h =
      let rest = tail_parts by x (y ∷ ys) (suc e) h in
      let same = picked (y ∷ ys) (suc e) r.1 rest in
      same
      ∙ sym (option_or-first (last_where passes (y ∷ ys)) (if passes x then Some x else None) (λ none.
      ap (λ t. if t && by (day_of x) then Some x else None) (older (day_of x) y ys e r.0 rest (same ∙ none))))

-- ---- the places that a search gives

module _ {P : Type 0} (es : List (Entry P)) (day : Day) (i : ℕ) (rising : IsRising day_cmp day_of es) where
  -- the entries behind the one of the day are of later days
  later : IsAt day_cmp day_of es day i → (j : ℕ) (d : Entry P) → i < j → j < length es →
      day_cmp (day_of (get_or es j d)) day ≡ Greater
  later h j d l w =
      greater_back day (day_of (get_or es j d))
      (sym (day_total.congr (day_of (get_or es i d)) day (day_of (get_or es j d)) (h.here d))
      ∙ rising_far day_cmp day_total (day_of {P = P}) es i j d rising l w)

  here : IsAt day_cmp day_of es day i → (j : ℕ) (d : Entry P) → i ≡ j → day_cmp (day_of (get_or es j d)) day ≡ Equal
  here h j d e = subst (λ n. day_cmp (day_of (get_or es n d)) day ≡ Equal) e (h.here d)

  at_by : IsAt day_cmp day_of es day i → Parts (λ a. not_after a day) es (i + 1)
  at_by h = record {
    before = λ j d l w. elim (cases_lt j i) [
      | inl less ↦ rw (h.before j d less)
      | inr le ↦ rw (here h j d (omega (arith, l, le)))
    ];
    after = λ j d l w. rw (later h j d (omega (arith, l)) w);
  }

  at_before : IsAt day_cmp day_of es day i → Parts (λ a. is_lt (day_cmp a day)) es i
  at_before h = record {
    before = λ j d l w. rw (h.before j d l);
    after = λ j d l w. elim (cases_lt i j) [
      | inl less ↦ rw (later h j d less w)
      | inr le ↦ rw (here h j d (omega (arith, l, le)))
    ];
  }

  gap_by : IsGap day_cmp day_of es day i → Parts (λ a. not_after a day) es i
  gap_by h = record { before = λ j d l w. rw (h.before j d l); after = λ j d l w. rw (h.after j d l w) }

  gap_before : IsGap day_cmp day_of es day i → Parts (λ a. is_lt (day_cmp a day)) es i
  gap_before h = record { before = λ j d l w. rw (h.before j d l); after = λ j d l w. rw (h.after j d l w) }

  pub pick_at : IsAt day_cmp day_of es day i → last_of_year (take (i + 1) es) day.year ≡ pick es day
  pick_at h = picked (λ a. not_after a day) day.year (λ a b. by_year a day b) es (i + 1) rising (at_by h)

  pub pick_gap : IsGap day_cmp day_of es day i → last_of_year (take i es) day.year ≡ pick es day
  pick_gap h = picked (λ a. not_after a day) day.year (λ a b. by_year a day b) es i rising (gap_by h)

  pub pick_before_at : IsAt day_cmp day_of es day i → last_of_year (take i es) day.year ≡ pick_before es day
  pick_before_at h =
      picked (λ a. is_lt (day_cmp a day)) day.year (λ a b. before_year a day b) es i rising (at_before h)

  pub pick_before_gap : IsGap day_cmp day_of es day i → last_of_year (take i es) day.year ≡ pick_before es day
  pick_before_gap h =
      picked (λ a. is_lt (day_cmp a day)) day.year (λ a b. before_year a day b) es i rising (gap_before h)

-- ---- the last of some entries

last_at : {P : Type 0} (es : List (Entry P)) (year i : ℕ) (x : Entry P) → i + 1 ≡ length es →
    slice_get es i ≡ Some x → last_of_year es year ≡ (if (day_of x).year == year then Some x else None)
last_at [] year i x l e = cc
last_at {P} (y ∷ []) year zero x l e =
    let same : y ≡ x = cc in
    ap (λ (z : Entry P). if (day_of z).year == year then Some z else None) same
last_at (y ∷ []) year (suc i) x l e = absurd (omega (arith, l))
last_at (y ∷ (z ∷ zs)) year zero x l e = absurd (omega (arith, l))
last_at (y ∷ (z ∷ zs)) year (suc i) x l e = last_at (z ∷ zs) year i x (omega (arith, l)) e

module _ {P : Type 0} (es : List (Entry P)) (year : ℕ) (x : Entry P)
    (last : slice_get es (length es - 1) ≡ Some x) where
  of_last : last_of_year es year ≡ (if (day_of x).year == year then Some x else None)
  of_last =
      let within = slice_get_within es (length es - 1) x last in
      last_at es year (length es - 1) x (omega (arith, within)) last

  pub last_here : (day_of x).year ≡ year → Some x ≡ last_of_year es year
  last_here same = sym (of_last ∙ ap (λ t. if t then Some x else None) (is_year (day_of x).year year same))
    where
      is_year : (m n : ℕ) → m ≡ n → (m == n) ≡ true
      is_year m n e = grind (arith, nat_tests)

  pub last_elsewhere : ((day_of x).year ≡ year → ⊥) → None ≡ last_of_year es year
  last_elsewhere other = sym (of_last ∙ ap (λ t. if t then Some x else None) (no_year (day_of x).year year other))
    where
      no_year : (m n : ℕ) → (m ≡ n → ⊥) → (m == n) ≡ false
      no_year m n e = grind (arith, nat_tests)
