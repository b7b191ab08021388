-- A year's records with several new ones, and references to them.
use Rattle.std.proofs.Common.{◌≡◌, ℕ, ◌+◌, ◌<◌, ◌≤◌, min, List, [], ◌∷◌, take, length, get_or, sym, ap, subst, ◌∙◌, arith}
use Rattle.std.specs.List.{AllByRecursion}
use Rattle.std.specs.Borrow.{Bor}
use Rattle.std.proofs.lemmas.List.{take_more, take-take}
use Rattle.rising_lists.specs.Keyed.{IsRising}
use Rattle.payroll_records.specs.declared.record.Record.{Record}
use Rattle.payroll_records.specs.Orders.{day_cmp}
use Rattle.book_year.specs.Records.{AreBefore, record_day, put_run}
use Rattle.book_year.proofs.Laws.{IsBefore, all_fewer, all_put, front_long, front_put, rising_put}
use Rattle.book_edits.specs.private.Groups.{put_runs}
use Rattle.book_edits.proofs.GroupLemmas.{put_runs_more}

pub rising_puts : (is rs : List Record) → IsRising day_cmp record_day rs → IsRising day_cmp record_day (put_runs is rs)
rising_puts [] rs h = h
rising_puts (i ∷ is) rs h = rising_puts is (put_run i rs) (rising_put i rs h)

pub all_puts : (P : Record → Type 0) (is rs : List Record) → AllByRecursion P is → AllByRecursion P rs → AllByRecursion P (put_runs is rs)
all_puts P [] rs new old = old
all_puts P (i ∷ is) rs new old = all_puts P is (put_run i rs) new.1 (all_put P i rs new.0 old)

-- one more of the runs that are to be put
pub puts_next : (is : List Record) (i : ℕ) (d : Record) (rs : List Record) → i < length is → put_run (get_or is i d) (put_runs (take i is) rs) ≡ put_runs (take (i + 1) is) rs
puts_next is i d rs lt = sym (ap (λ t. put_runs t rs) (take_more is i d lt) ∙ put_runs_more (take i is) (get_or is i d) rs)

-- the first records stay where all that are put are at later days
pub puts_before : (is : List Record) (i : ℕ) (item : Record) (rs : List Record) (m b n : ℕ) → i < length is → item ≡ get_or is i item → n ≡ min m b → m ≤ length rs → AreBefore item.day rs b → take m (put_runs (take i is) rs) ≡ take m rs →
    take n (put_runs (take (i + 1) is) rs) ≡ take n rs
puts_before is i item rs m b n lt at least long before same =
    let put = put_runs (take i is) rs in
    let l : n ≤ m = omega (arith, least) in
    let below = all_fewer (IsBefore item.day) rs n b (omega (arith, least)) before.before in
    let stays : take n put ≡ take n rs = sym (take-take n m put l) ∙ ap (take n) same ∙ take-take n m rs l in
    let first = subst (λ t. AllByRecursion (IsBefore item.day) t) (sym stays) below in
    ap (take n) (sym (puts_next is i item rs lt) ∙ ap (λ r. put_run r put) (sym at)) ∙ front_put item put n (front_long put rs n stays (omega (arith, l))) first ∙ stays

-- ---- references

abbrev pub now_of : Bor Record → Record
now_of r = r.now
