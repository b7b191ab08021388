-- The plan of a day: it is the latest that serves, and what an edit of the calendar does to it.
use Rattle.std.proofs.Common.{◌≡◌, suc, List, [], ◌∷◌, Bool, true, false, if◌then◌else◌, Option, Some, None, IsSome, refl, sym, ap, ◌∙◌, arith, ◌&&◌}
use Rattle.std.specs.List.{Contains, AllByRecursion}
use Rattle.std.specs.Option.{option_or}
use Rattle.std.specs.declared.cmp.Ordering.TheVariants.{Less, Equal, Greater}
use Rattle.std.specs.Ordering.{is_eq, is_gt}
use Rattle.std.proofs.lemmas.Bool.{false≢true}
use Rattle.std.proofs.lemmas.Cmp.{tied_back, tied_itself}
use Rattle.rising_lists.specs.Keyed.{put_by, AreAbove, IsRising}
use Rattle.rising_lists.proofs.Laws.{above_all, above_more, above_same, at_key_above}
use Rattle.payroll_records.specs.declared.day.Day.{Day}
use Rattle.payroll_records.specs.Orders.{day_cmp}
use Rattle.payroll_records.proofs.Laws.{day_total}
use Rattle.plan_calendar.specs.Picking.{Entry, day_of, entry_at, with_entry, without_day, pick, pick_before, serves, serves_before, last_where, IsLatest}
use Rattle.plan_calendar.specs.Edits.{is_by, moves, picked_after}
use Rattle.plan_calendar.proofs.DayLemmas.{and_both, greater_back, less_back, serves_through, serves_neither, less_serves, tie_serves, tie_before, above_before}

module _ {P : Type 0} where
  -- one entry, where its day serves
  one : Entry P → Day → Option (Entry P)
  one e d = if serves (day_of e) d then Some e else None

  -- the days that an edit decides had the plan of the edit's own day

  head_same : (e : Entry P) (day d : Day) → serves day d ≡ true → is_by (if serves (day_of e) d then Some e else None) day ≡ true →
      serves (day_of e) day ≡ serves (day_of e) d
  head_same e day d s b = elim (serves (day_of e) d) as (λ t. serves (day_of e) d ≡ t → is_by (if t then Some e else None) day ≡ true → serves (day_of e) day ≡ t) [
    | true ↦ λ t h. serves_through (day_of e) day d s h ∙ t
    | false ↦ λ t h. serves_neither (day_of e) day d s t
  ] refl b

  by_tail : (e : Entry P) (day d : Day) (o p : Option (Entry P)) → p ≡ o → serves day d ≡ true →
      is_by (option_or o (if serves (day_of e) d then Some e else None)) day ≡ true →
      option_or p (if serves (day_of e) day then Some e else None) ≡ option_or o (if serves (day_of e) d then Some e else None)
  by_tail e day d None p same s b = rw (same, head_same e day d s b)
  by_tail e day d (Some x) p same s b = rw same

  tail_by : (o t : Option (Entry P)) (day : Day) → is_by (option_or o t) day ≡ true → is_by o day ≡ true
  tail_by None t day b = refl
  tail_by (Some x) t day b = b

  same_of : (es : List (Entry P)) (day d : Day) → serves day d ≡ true → is_by (pick es d) day ≡ true → pick es day ≡ pick es d
  same_of [] day d s b = refl
  same_of (e ∷ es) day d s b = by_tail e day d (pick es d) (pick es day) (same_of es day d s (tail_by (pick es d) _ day b)) s b

  pub pick_same : (es : List (Entry P)) (day d : Day) → moves es day d ≡ true → pick es day ≡ pick es d
  pick_same es day d m = let both = and_both _ _ m in same_of es day d both.0 both.1

  -- what a later part of the calendar gives is above the earlier days, and serves the day
  abbrev PickedAbove : Day → Day → Option (Entry P) → Type 0
  PickedAbove k d None = Unit {0}
  PickedAbove k d (Some a) = (day_cmp k (day_of a) ≡ Less) × (serves (day_of a) d ≡ true)

  picked_head : (k d : Day) (x : Entry P) → day_cmp k (day_of x) ≡ Less → PickedAbove k d (if serves (day_of x) d then Some x else None)
  picked_head k d x l = elim (serves (day_of x) d) as (λ b. serves (day_of x) d ≡ b → PickedAbove k d (if b then Some x else None)) [ true ↦ λ e. (l, e) | false ↦ λ e. tt ] refl

  picked_or : (k d : Day) (o t : Option (Entry P)) → PickedAbove k d o → PickedAbove k d t → PickedAbove k d (option_or o t)
  picked_or k d None t h g = g
  picked_or k d (Some a) t h g = h

  picked_above : (k : Day) (xs : List (Entry P)) (d : Day) → AreAbove day_cmp day_of k xs → PickedAbove k d (pick xs d)
  picked_above k [] d h = tt
  picked_above k (x ∷ xs) d h = picked_or k d (pick xs d) _ (picked_above k xs d h.1) (picked_head k d x h.0)

  -- an entry after a day isn't by it
  not_by : (y : Day) (a : Entry P) → day_cmp y (day_of a) ≡ Less → is_by (Some a) y ≡ false
  not_by y a l = rw (greater_back y (day_of a) l)

  -- a plan that is put
  less_case : (y : Entry P) (d : Day) (o : Option (Entry P)) → PickedAbove (day_of y) d o →
      option_or o (if serves (day_of y) d then Some y else None) ≡ (if serves (day_of y) d && is_by o (day_of y) then Some y else o)
  less_case y d None h = elim (serves (day_of y) d) as (λ b. (if b then Some y else None) ≡ (if b && true then Some y else None)) [ true ↦ refl | false ↦ refl ]
  less_case y d (Some a) h = elim (serves (day_of y) d) as (λ b. Some a ≡ (if b && is_by (Some a) (day_of y) then Some y else Some a)) [ true ↦ rw (not_by (day_of y) a h.0) | false ↦ refl ]

  equal_case : (x y : Entry P) (d : Day) (o : Option (Entry P)) → day_cmp (day_of y) (day_of x) ≡ Equal → PickedAbove (day_of y) d o →
      option_or o (if serves (day_of y) d then Some y else None) ≡ (if serves (day_of y) d && is_by (option_or o (if serves (day_of x) d then Some x else None)) (day_of y) then Some y else option_or o (if serves (day_of x) d then Some x else None))
  equal_case x y d None e h =
      let back = tied_back day_total (day_of y) (day_of x) e in
      rw (sym (tie_serves (day_of y) (day_of x) d e)) (elim (serves (day_of y) d) as (λ b. (if b then Some y else None) ≡ (if b && is_by (if b then Some x else None) (day_of y) then Some y else (if b then Some x else None))) [ true ↦ rw back | false ↦ refl ])
  equal_case x y d (Some a) e h = less_case y d (Some a) h

  by_head : (x y : Entry P) (d : Day) → day_cmp (day_of x) (day_of y) ≡ Less → is_by (if serves (day_of x) d then Some x else None) (day_of y) ≡ true
  by_head x y d l = elim (serves (day_of x) d) as (λ b. is_by (if b then Some x else None) (day_of y) ≡ true) [ true ↦ rw l | false ↦ refl ]

  greater_case : (y : Entry P) (d : Day) (o t : Option (Entry P)) → is_by t (day_of y) ≡ true →
      option_or (if serves (day_of y) d && is_by o (day_of y) then Some y else o) t ≡ (if serves (day_of y) d && is_by (option_or o t) (day_of y) then Some y else option_or o t)
  greater_case y d None t h = elim (serves (day_of y) d) as (λ b. option_or (if b && true then Some y else None) t ≡ (if b && is_by t (day_of y) then Some y else t)) [ true ↦ rw h | false ↦ refl ]
  greater_case y d (Some a) t h = elim (serves (day_of y) d && is_by (Some a) (day_of y)) as (λ b. option_or (if b then Some y else Some a) t ≡ (if b then Some y else Some a)) [ true ↦ refl | false ↦ refl ]

  pub pick_put : (es : List (Entry P)) (y : Entry P) (d : Day) → IsRising day_cmp day_of es → pick (with_entry y es) d ≡ picked_after es (day_of y) (Some y) d
  pick_put [] y d h = elim (serves (day_of y) d) as (λ b. (if b then Some y else None) ≡ (if b && true then Some y else None)) [ true ↦ refl | false ↦ refl ]
  pick_put (x ∷ es) y d h = elim (day_cmp (day_of y) (day_of x)) as (λ o. day_cmp (day_of y) (day_of x) ≡ o → pick (put_by o y x es (with_entry y es)) d ≡ picked_after (x ∷ es) (day_of y) (Some y) d) [
    | Less ↦ λ e. less_case y d (pick (x ∷ es) d) (picked_above (day_of y) (x ∷ es) d (e, above_more day_cmp day_total (day_of {P = P}) (day_of y) (day_of x) es e h.0))
    | Equal ↦ λ e. equal_case x y d (pick es d) e (picked_above (day_of y) es d (above_same day_cmp day_total (day_of {P = P}) (day_of y) (day_of x) es e h.0))
    | Greater ↦ λ e. rw (pick_put es y d h.1) (greater_case y d (pick es d) (if serves (day_of x) d then Some x else None) (by_head x y d (less_back (day_of y) (day_of x) e)))
  ] refl

  -- a plan that is dropped
  none_before : (k : Day) (xs : List (Entry P)) → AreAbove day_cmp day_of k xs → pick_before xs k ≡ None
  none_before k [] h = refl
  none_before k (x ∷ xs) h = rw (none_before k xs h.1, above_before (day_of x) k h.0)

  drop_equal : (x : Entry P) (day d : Day) (o b : Option (Entry P)) → day_cmp (day_of x) day ≡ Equal → PickedAbove day d o → b ≡ None →
      o ≡ (if serves day d && is_by (option_or o (if serves (day_of x) d then Some x else None)) day then option_or b (if serves_before (day_of x) day then Some x else None) else option_or o (if serves (day_of x) d then Some x else None))
  drop_equal x day d None b e h none = rw (none, tie_before (day_of x) day e, tie_serves (day_of x) day d e) (elim (serves day d) as (λ s. ◌≡◌ {A = Option (Entry P)} None (if s && is_by (if s then Some x else None) day then None else (if s then Some x else None))) [ true ↦ rw e | false ↦ refl ])
  drop_equal x day d (Some a) b e h none = elim (serves day d) as (λ s. Some a ≡ (if s && is_by (Some a) day then option_or b (if serves_before (day_of x) day then Some x else None) else Some a)) [ true ↦ rw (not_by day a h.0) | false ↦ refl ]

  drop_less : (x : Entry P) (day d : Day) (o b : Option (Entry P)) → day_cmp (day_of x) day ≡ Less →
      option_or (if serves day d && is_by o day then b else o) (if serves (day_of x) d then Some x else None) ≡ (if serves day d && is_by (option_or o (if serves (day_of x) d then Some x else None)) day then option_or b (if serves_before (day_of x) day then Some x else None) else option_or o (if serves (day_of x) d then Some x else None))
  drop_less x day d None b e = elim (serves day d) as (λ s. serves day d ≡ s → option_or (if s && true then b else None) (if serves (day_of x) d then Some x else None) ≡ (if s && is_by (if serves (day_of x) d then Some x else None) day then option_or b (if serves_before (day_of x) day then Some x else None) else (if serves (day_of x) d then Some x else None))) [
    | true ↦ λ s. rw (by_day x day d e) (ap (λ t. option_or b (if t then Some x else None)) (less_serves (day_of x) day d e s))
    | false ↦ λ s. refl
  ] refl
    where
      by_day : (x : Entry P) (day d : Day) → day_cmp (day_of x) day ≡ Less → is_by (if serves (day_of x) d then Some x else None) day ≡ true
      by_day x day d l = elim (serves (day_of x) d) as (λ b. is_by (if b then Some x else None) day ≡ true) [ true ↦ rw l | false ↦ refl ]
  drop_less x day d (Some a) b e = elim (serves day d && is_by (Some a) day) as (λ s. (serves day d && is_by (Some a) day) ≡ s → option_or (if s then b else Some a) (if serves (day_of x) d then Some x else None) ≡ (if s then option_or b (if serves_before (day_of x) day then Some x else None) else Some a)) [
    | true ↦ λ s. ap (λ t. option_or b (if t then Some x else None)) (less_serves (day_of x) day d e (and_both (serves day d) (is_by (Some a) day) s).0)
    | false ↦ λ s. refl
  ] refl

  pub pick_drop : (es : List (Entry P)) (day d : Day) → IsRising day_cmp day_of es → IsSome (entry_at es day) → pick (without_day day es) d ≡ picked_after es day (pick_before es day) d
  pick_drop [] day d h there = absurd (false≢true there)
  pick_drop (x ∷ es) day d h there = elim (day_cmp (day_of x) day) as (λ o. day_cmp (day_of x) day ≡ o → pick (if is_eq o then es else x ∷ without_day day es) d ≡ picked_after (x ∷ es) day (pick_before (x ∷ es) day) d) [
    | Less ↦ λ e. rw (pick_drop es day d h.1 (rw e at there)) (drop_less x day d (pick es d) (pick_before es day) e)
    | Equal ↦ λ e. let back = tied_back day_total (day_of x) day e in
        let above = above_same day_cmp day_total (day_of {P = P}) day (day_of x) es back h.0 in
        drop_equal x day d (pick es d) (pick_before es day) e (picked_above day es d above) (none_before day es above)
    | Greater ↦ λ e. let less = less_back (day_of x) day e in
        let none = at_key_above day_cmp day_total (day_of {P = P}) day day es (above_more day_cmp day_total (day_of {P = P}) day (day_of x) es less h.0) (tied_itself day_total day) in
        absurd (false≢true (rw (e, none) at there))
  ] refl

  -- what is picked is the latest

  none_passes : (test : Day → Bool) (k : Entry P) (es : List (Entry P)) → AllByRecursion (λ e. test (day_of e) ≡ false) es →
      AllByRecursion (λ f. test (day_of f) ≡ true → is_gt (day_cmp (day_of f) (day_of k)) ≡ false) es
  none_passes test k [] h = tt
  none_passes test k (e ∷ es) h = (λ t. absurd (false≢true (sym h.0 ∙ t)), none_passes test k es h.1)

  contained_above : (k : Day) (es : List (Entry P)) (a : Entry P) → AreAbove day_cmp day_of k es → Contains es a → day_cmp k (day_of a) ≡ Less
  contained_above k es a above there = rw there.2 at (above_all day_cmp day_total (day_of {P = P}) k es there.0 a above there.1)

  contained_more : (e : Entry P) (es : List (Entry P)) (a : Entry P) → Contains es a → Contains (e ∷ es) a
  contained_more e es a there = (suc there.0, omega (arith, there.1), there.2)

  latest_more : (test : Day → Bool) (e : Entry P) (es : List (Entry P)) (o : Option (Entry P)) → IsLatest es test o → AreAbove day_cmp day_of (day_of e) es →
      IsLatest (e ∷ es) test (option_or o (if test (day_of e) then Some e else None))
  latest_more test e es None h above = elim (test (day_of e)) as (λ b. test (day_of e) ≡ b → IsLatest (e ∷ es) test (if b then Some e else None)) [
    | true ↦ λ t. ((0, omega arith, refl), t, (λ _. rw (tied_itself day_total (day_of e)), none_passes test e es h))
    | false ↦ λ t. (t, h)
  ] refl
  latest_more test e es (Some a) h above =
      (contained_more e es a h.0, h.1, ((λ _. rw (contained_above (day_of e) es a above h.0)), h.2))

  latest : (test : Day → Bool) (es : List (Entry P)) → IsRising day_cmp day_of es → IsLatest es test (last_where (λ e. test (day_of e)) es)
  latest test [] h = tt
  latest test (e ∷ es) h = latest_more test e es (last_where (λ f. test (day_of f)) es) (latest test es h.1) h.0

  pub pick_latest : (es : List (Entry P)) (d : Day) → IsRising day_cmp day_of es → IsLatest es (λ a. serves a d) (pick es d)
  pick_latest es d h = latest (λ a. serves a d) es h

  pub pick_before_latest : (es : List (Entry P)) (d : Day) → IsRising day_cmp day_of es → IsLatest es (λ a. serves_before a d) (pick_before es d)
  pick_before_latest es d h = latest (λ a. serves_before a d) es h
