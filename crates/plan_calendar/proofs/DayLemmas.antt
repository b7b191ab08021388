-- Which days a plan serves, by the laws of a total order.
use Rattle.std.proofs.Common.{◌≡◌, ℕ, Bool, true, false, not, ◌&&◌, ◌==◌, sym, ap, arith, refl, ◌∙◌}
use Rattle.std.specs.declared.cmp.Ordering.{Ordering}
use Rattle.std.specs.declared.cmp.Ordering.TheVariants.{Less, Equal, Greater}
use Rattle.std.specs.Ordering.{nat_cmp, is_lt, is_gt, ordering_then, ordering_reverse}
use Rattle.std.proofs.lemmas.Bool.{false≢true}
use Rattle.std.proofs.lemmas.Bool.Decides.{nat_tests}
use Rattle.std.proofs.lemmas.Cmp.{alike_right}
use Rattle.payroll_records.specs.declared.day.Day.{Day}
use Rattle.payroll_records.specs.Orders.{day_cmp}
use Rattle.payroll_records.proofs.Laws.{day_total}
use Rattle.plan_calendar.specs.Picking.{serves, serves_before}

pub and_both : (a b : Bool) → (a && b) ≡ true → (a ≡ true) × (b ≡ true)
and_both true b e = (refl, e)
and_both false b e = absurd (false≢true e)

-- a isn't after b
abbrev pub not_after : Day → Day → Bool
not_after a b = not (is_gt (day_cmp a b))

pub greater_back : (a b : Day) → day_cmp a b ≡ Less → day_cmp b a ≡ Greater
greater_back a b e = day_total.antisymm b a ∙ ap ordering_reverse e

pub less_back : (a b : Day) → day_cmp a b ≡ Greater → day_cmp b a ≡ Less
less_back a b e = day_total.antisymm b a ∙ ap ordering_reverse e

pub not_after_trans : (a b c : Day) → not_after a b ≡ true → not_after b c ≡ true → not_after a c ≡ true
not_after_trans a b c h k = elim (day_cmp a b) as (λ o. day_cmp a b ≡ o → not (is_gt o) ≡ true → not_after a c ≡ true) [
  | Less ↦ λ e _. elim (day_cmp b c) as (λ o. day_cmp b c ≡ o → not (is_gt o) ≡ true → not_after a c ≡ true) [
    | Less ↦ λ f _. rw (day_total.trans a b c e f)
    | Equal ↦ λ f _. rw (sym (alike_right day_total b c a f) ∙ e)
    | Greater ↦ λ f t. absurd (false≢true t)
  ] refl k
  | Equal ↦ λ e _. rw (day_total.congr a b c e) k
  | Greater ↦ λ e t. absurd (false≢true t)
] refl h

year_test : (x y z : ℕ) → (y == z) ≡ true → (x == y) ≡ (x == z)
year_test x y z e = grind (arith, nat_tests)

same_year : (m n : ℕ) (o : Ordering) → ordering_then (nat_cmp m n) o ≡ Equal → m ≡ n
same_year m n o e = grind (arith, nat_tests)

-- a day that is no later than one that serves d serves both or neither
pub serves_through : (e day d : Day) → serves day d ≡ true → not_after e day ≡ true → serves e day ≡ serves e d
serves_through e day d s b =
    let both = and_both _ _ s in
    rw (b, not_after_trans e day d b both.1, year_test e.year day.year d.year both.0)

-- a day that doesn't serve d doesn't serve one that does
pub serves_neither : (e day d : Day) → serves day d ≡ true → serves e d ≡ false → serves e day ≡ false
serves_neither e day d s n = elim (serves e day) as (λ b. serves e day ≡ b → b ≡ false) [
  | true ↦ λ t. sym t ∙ serves_through e day d s (and_both _ _ t).1 ∙ n
  | false ↦ λ t. refl
] refl

pub less_serves : (x day d : Day) → day_cmp x day ≡ Less → serves day d ≡ true → serves x d ≡ serves_before x day
less_serves x day d l s =
    let both = and_both _ _ s in
    let near : not_after x day ≡ true = rw l in
    rw (not_after_trans x day d near both.1, l, year_test x.year day.year d.year both.0)

pub tie_serves : (x y d : Day) → day_cmp x y ≡ Equal → serves x d ≡ serves y d
tie_serves x y d e = rw (day_total.congr x y d e, same_year x.year y.year _ e)

pub tie_before : (x d : Day) → day_cmp x d ≡ Equal → serves_before x d ≡ false
tie_before x d e = elim (x.year == d.year) as (λ b. (b && is_lt (day_cmp x d)) ≡ false) [ true ↦ rw e | false ↦ refl ]

pub above_before : (x d : Day) → day_cmp d x ≡ Less → serves_before x d ≡ false
above_before x d l = elim (x.year == d.year) as (λ b. (b && is_lt (day_cmp x d)) ≡ false) [ true ↦ rw (greater_back d x l) | false ↦ refl ]
