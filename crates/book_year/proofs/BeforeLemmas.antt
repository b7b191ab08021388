-- The records before a day: an edit at that day or later leaves them.
use Rattle.std.proofs.Common.{◌≡◌, ℕ, zero, suc, ◌<◌, ◌≤◌, min, List, [], ◌∷◌, length, take, drop, get_or, false, refl, sym, ap, subst, ◌∙◌, arith}
use Rattle.std.specs.List.{AllByRecursion}
use Rattle.std.specs.Ordering.{is_lt, ordering_reverse}
use Rattle.std.specs.declared.cmp.Ordering.TheVariants.{Less, Greater}
use Rattle.std.proofs.lemmas.List.{length-take, length-take-le}
use Rattle.rising_lists.specs.Keyed.{AreAbove, IsRising}
use Rattle.rising_lists.specs.Places.{IsAt, IsGap}
use Rattle.rising_lists.proofs.Laws.{at_tail}
use Rattle.payroll_records.specs.declared.day.Day.{Day}
use Rattle.payroll_records.specs.declared.record.Record.{Record}
use Rattle.payroll_records.specs.Orders.{day_cmp}
use Rattle.payroll_records.proofs.Laws.{day_total, day_same}
use Rattle.book_year.specs.Records.{AreBefore, record_day, put_run, without_run}

abbrev pub IsBefore : Day → Record → Type 0
IsBefore d r = day_cmp r.day d ≡ Less

abbrev pub IsNotBefore : Day → Record → Type 0
IsNotBefore d r = is_lt (day_cmp r.day d) ≡ false

pub day_back : (a b : Day) → day_cmp a b ≡ Less → day_cmp b a ≡ Greater
day_back a b e = day_total.antisymm b a ∙ ap ordering_reverse e

-- ---- the place of a day

front_before : (d : Day) (rs : List Record) (i : ℕ) → i ≤ length rs → ((j : ℕ) (x : Record) → j < i → IsBefore d (get_or rs j x)) → AllByRecursion (IsBefore d) (take i rs)
front_before d rs zero l h = tt
front_before d [] (suc i) l h = absurd (omega (arith, l))
front_before d (r ∷ rs) (suc i) l h = (h 0 r (omega arith), front_before d rs i (omega (arith, l)) (λ j x lt. h (suc j) x (omega (arith, lt))))

rest_above : (d : Day) (rs : List Record) → AreAbove day_cmp record_day d rs → AllByRecursion (IsNotBefore d) rs
rest_above d [] h = tt
rest_above d (r ∷ rs) h = (ap is_lt (day_back d r.day h.0), rest_above d rs h.1)

rest_at : (d : Day) (rs : List Record) (i : ℕ) → IsRising day_cmp record_day rs → IsAt day_cmp record_day rs d i → AllByRecursion (IsNotBefore d) (drop i rs)
rest_at d [] i rising h = absurd (omega (arith, h.within))
rest_at d (r ∷ rs) zero rising h = (ap is_lt (h.here r), rest_above d rs (subst (λ t. AreAbove day_cmp record_day t rs) (day_same r.day d (h.here r)) rising.0))
rest_at d (r ∷ rs) (suc i) rising h = rest_at d rs i rising.1 (at_tail day_cmp day_total record_day r rs d i h)

rest_after : (d : Day) (rs : List Record) (i : ℕ) → ((j : ℕ) (x : Record) → i ≤ j → j < length rs → IsNotBefore d (get_or rs j x)) → AllByRecursion (IsNotBefore d) (drop i rs)
rest_after d [] zero h = tt
rest_after d [] (suc i) h = tt
rest_after d (r ∷ rs) zero h = (h 0 r (omega arith) (omega arith), rest_after d rs zero (λ j x le lt. h (suc j) x (omega arith) (omega (arith, lt))))
rest_after d (r ∷ rs) (suc i) h = rest_after d rs i (λ j x le lt. h (suc j) x (omega (arith, le)) (omega (arith, lt)))

pub before_at : (d : Day) (rs : List Record) (i : ℕ) → IsRising day_cmp record_day rs → IsAt day_cmp record_day rs d i → AreBefore d rs i
before_at d rs i rising h = record {
  within = omega (arith, h.within);
  before = front_before d rs i (omega (arith, h.within)) h.before;
  others = rest_at d rs i rising h;
}

pub before_gap : (d : Day) (rs : List Record) (i : ℕ) → IsGap day_cmp record_day rs d i → AreBefore d rs i
before_gap d rs i h = record {
  within = h.within;
  before = front_before d rs i h.within h.before;
  others = rest_after d rs i (λ j x le lt. ap is_lt (h.after j x le lt));
}

-- ---- edits at a day

pub all_fewer : {X : Type 0} (P : X → Type 0) (xs : List X) (m n : ℕ) → m ≤ n → AllByRecursion P (take n xs) → AllByRecursion P (take m xs)
all_fewer P xs zero n l h = tt
all_fewer P [] (suc m) n l h = tt
all_fewer P (x ∷ xs) (suc m) zero l h = absurd (omega (arith, l))
all_fewer P (x ∷ xs) (suc m) (suc n) l h = (h.0, all_fewer P xs m n (omega (arith, l)) h.1)

pub front_put : (r : Record) (rs : List Record) (n : ℕ) → n ≤ length rs → AllByRecursion (IsBefore r.day) (take n rs) → take n (put_run r rs) ≡ take n rs
front_put r rs zero l h = refl
front_put r [] (suc n) l h = absurd (omega (arith, l))
front_put r (x ∷ rs) (suc n) l h = rw (day_back x.day r.day h.0) (ap (λ t. x ∷ t) (front_put r rs n (omega (arith, l)) h.1))

pub front_without : (d : Day) (rs : List Record) (n : ℕ) → AllByRecursion (IsBefore d) (take n rs) → take n (without_run d rs) ≡ take n rs
front_without d rs zero h = refl
front_without d [] (suc n) h = refl
front_without d (x ∷ rs) (suc n) h = rw h.0 (ap (λ t. x ∷ t) (front_without d rs n h.1))

pub front_long : {X : Type 0} (xs ys : List X) (n : ℕ) → take n xs ≡ take n ys → n ≤ length ys → n ≤ length xs
front_long xs ys n e l = omega (arith, ap length e, length-take n xs, length-take-le n ys l)

-- one taken away and another put
pub front_changed : (from : Day) (r : Record) (rs : List Record) (a b n : ℕ) → AreBefore from rs a → AreBefore r.day rs b → n ≡ min a b → take n (put_run r (without_run from rs)) ≡ take n rs
front_changed from r rs a b n first second is =
    let left = without_run from rs in
    let l : n ≤ a = omega (arith, is) in
    let m : n ≤ b = omega (arith, is) in
    let same = front_without from rs n (all_fewer (IsBefore from) rs n a l first.before) in
    let long = front_long left rs n same (omega (arith, first.within)) in
    let below = subst (λ t. AllByRecursion (IsBefore r.day) t) (sym same) (all_fewer (IsBefore r.day) rs n b m second.before) in
    front_put r left n long below ∙ same
