-- Whether the plan of a day keeps its texts.
use Rattle.std.proofs.Common.{◌≡◌, List, [], ◌∷◌, map, Bool, true, false, ◌&&◌, if◌then◌else◌, refl, sym, ap, subst, ◌∙◌}
use Rattle.std.specs.Prelude.{Option, Some, None, nat_eq}
use Rattle.std.specs.Cmp.{unsigned_Decides}
use Rattle.std.specs.Ordering.{nat_cmp, ordering_then}
use Rattle.std.proofs.lemmas.Cmp.{tied_itself}
use Rattle.std.specs.Option.{option_map, option_or}
use Rattle.std.specs.Borrow.{Bor}
use Rattle.std.specs.Str.{bytes_eq}
use Rattle.std.proofs.lemmas.Bool.{false≢true}
use Rattle.std.proofs.lemmas.Slice.Eq.{bytes_eq-Decides}
use Rattle.payroll_records.specs.declared.day.Day.{Day}
use Rattle.payroll_records.proofs.Laws.{day_total, day_same}
use Rattle.plan_calendar.specs.Picking.{Entry, day_of, last_where, pick, pick_before, plan_of, serves, serves_before}
use Rattle.plan_calendar.specs.Edits.{moves, picked_after}
use Rattle.plan_calendar.specs.Picks.{picked_entry as entry_lent}
use Rattle.plan_calendar.proofs.Laws.{pick_same}
use Rattle.pap_plan.specs.Acceptance.{Meaning}
use Rattle.pap_plan.specs.Plans.{Seen}
use Rattle.book_year.specs.Accepted.{Accepted, accepted_entry, plans_in}
use Rattle.book_year.specs.declared.picks.Edit.{Edit}
use Rattle.book_year.specs.Jobs.{has_texts}
use Rattle.book_year.specs.Picks.{IsEdit, KnowsSame, edit_entry, after_by, lent_entry}

and_both : (a b : Bool) → (a && b) ≡ true → (a ≡ true) × (b ≡ true)
and_both true b e = (refl, e)
and_both false b e = cc

-- where an edit decides the plan of a day, that day had the plan of the edit's day
pub moved : (plans : List (Entry Accepted)) (e : Edit) (d : Day) → moves plans e.day d ≡ true → IsEdit plans (Some e) → KnowsSame (pick plans d) (after_by plans (Some e) d) e.same
moved plans e d m knows =
    let after_is : after_by plans (Some e) d ≡ edit_entry e = ap (λ b. if b then edit_entry e else pick plans d) m in
    subst (λ o. KnowsSame o (after_by plans (Some e) d) e.same) (pick_same plans e.day d m)
    (subst (λ o. KnowsSame (pick plans e.day) o e.same) (sym after_is) knows)

-- ---- a plan that stays at its day with its texts

-- days with the same numbers are one day
pub days_one : (a b : Day) → (nat_eq a.year b.year && (nat_eq a.month b.month && nat_eq a.day b.day)) ≡ true → a ≡ b
days_one a b e =
    let h = and_both (nat_eq a.year b.year) (nat_eq a.month b.month && nat_eq a.day b.day) e in
    let g = and_both (nat_eq a.month b.month) (nat_eq a.day b.day) h.1 in
    let year = (unsigned_Decides a.year b.year).0 h.0 in
    let month = (unsigned_Decides a.month b.month).0 g.0 in
    let day = (unsigned_Decides a.day b.day).0 g.1 in
    day_same a b
    ((λ i. ordering_then (nat_cmp (year i) b.year) (ordering_then (nat_cmp (month i) b.month) (nat_cmp (day i) b.day)))
    ∙ tied_itself day_total b)

same_whole : (a b : Entry Accepted) → day_of a ≡ day_of b → has_texts (plan_of a) (plan_of b) ≡ true → (plan_of a).meaning ≡ (plan_of b).meaning → a ≡ b
same_whole a b day texts means =
    let p = plan_of a in
    let q = plan_of b in
    let both = and_both (bytes_eq p.plan q.plan) (bytes_eq p.limits q.limits) texts in
    let plan = (bytes_eq-Decides p.plan q.plan).0 both.0 in
    let limits = (bytes_eq-Decides p.limits q.limits).0 both.1 in
    λ i. (day i, record { plan = plan i; limits = limits i; meaning = means i })

-- it is the plan that the day had
pub stays : (was now : Option (Entry Accepted)) (same : Bool) → KnowsSame was now same → same ≡ true →
    option_map day_of was ≡ option_map day_of now → was ≡ now
stays None now same knows true_is days = absurd (false≢true (sym knows.texts ∙ true_is))
stays (Some a) None same knows true_is days = absurd (false≢true (sym knows.texts ∙ true_is))
stays (Some a) (Some b) same knows true_is days =
    ap (λ t. Some t) (same_whole a b (one_day (day_of a) (day_of b) days) (sym knows.texts ∙ true_is) (one_meaning (plan_of a).meaning (plan_of b).meaning (knows.means true_is)))
  where
    one_day : (x y : Day) → ◌≡◌ {A = Option Day} (Some x) (Some y) → x ≡ y
    one_day x y e = cc e

    one_meaning : (x y : Meaning) → ◌≡◌ {A = Option Meaning} (Some x) (Some y) → x ≡ y
    one_meaning x y e = cc e

-- so each day has the plan that it had
pub unmoved : (plans : List (Entry Accepted)) (day : Day) (left : Option (Entry Accepted)) (d : Day) → pick plans day ≡ left →
    pick plans d ≡ picked_after plans day left d
unmoved plans day left d same = elim (moves plans day d) as (λ b. moves plans day d ≡ b → pick plans d ≡ (if b then left else pick plans d)) [
  | true ↦ λ m. sym (pick_same plans day d m) ∙ same
  | false ↦ λ m. refl
] refl

-- ---- a calendar of plans without their code

module _ {X Y : Type 0} (f : X → Y) where
  option_or-map : (a b : Option X) → option_or (option_map f a) (option_map f b) ≡ option_map f (option_or a b)
  option_or-map None b = refl
  option_or-map (Some x) b = refl

  one_map : (b : Bool) (x : X) → (if b then Some (f x) else None) ≡ option_map f (if b then Some x else None)
  one_map true x = refl
  one_map false x = refl

  pub last_map : (p : X → Bool) (q : Y → Bool) → ((x : X) → q (f x) ≡ p x) → (xs : List X) → last_where q (map f xs) ≡ option_map f (last_where p xs)
  last_map p q same [] = refl
  last_map p q same (x ∷ xs) =
      ap (λ b. option_or (last_where q (map f xs)) (if b then Some (f x) else None)) (same x)
      ∙ ap (λ o. option_or o (if p x then Some (f x) else None)) (last_map p q same xs)
      ∙ ap (option_or (option_map f (last_where p xs))) (one_map (p x) x)
      ∙ option_or-map (last_where p xs) (if p x then Some x else None)

-- the plan of a day is picked alike
pub pick_in : (es : List (Entry Seen)) (d : Day) → pick (plans_in es) d ≡ option_map accepted_entry (pick es d)
pick_in es d = last_map accepted_entry (λ e. serves (day_of e) d) (λ e. serves (day_of e) d) (λ e. refl) es

pub pick_before_in : (es : List (Entry Seen)) (d : Day) → pick_before (plans_in es) d ≡ option_map accepted_entry (pick_before es d)
pick_before_in es d = last_map accepted_entry (λ e. serves_before (day_of e) d) (λ e. serves_before (day_of e) d) (λ e. refl) es

lent_is : (o : Option (Day × Bor Seen)) → option_map lent_entry o ≡ option_map accepted_entry (option_map entry_lent o)
lent_is None = refl
lent_is (Some p) = refl

-- so is a plan that is lent
pub pick_lent : (es : List (Entry Seen)) (d : Day) (o : Option (Day × Bor Seen)) → option_map entry_lent o ≡ pick es d → option_map lent_entry o ≡ pick (plans_in es) d
pick_lent es d o is = lent_is o ∙ ap (option_map accepted_entry) is ∙ sym (pick_in es d)

pub pick_before_lent : (es : List (Entry Seen)) (d : Day) (o : Option (Day × Bor Seen)) → option_map entry_lent o ≡ pick_before es d → option_map lent_entry o ≡ pick_before (plans_in es) d
pick_before_lent es d o is = lent_is o ∙ ap (option_map accepted_entry) is ∙ sym (pick_before_in es d)
