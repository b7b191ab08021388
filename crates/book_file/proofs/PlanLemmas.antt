-- Saved plans: each is accepted or refused and never both, and accepted ones are those of one list of entries.
use Rattle.std.proofs.Common.{◌≡◌, ◌⊎◌, inl, inr, ℕ, List, [], ◌∷◌, ◌++◌, map, Result, Ok, Err, refl, sym, ap, subst, ◌∙◌}
use Rattle.std.specs.List.{AllByRecursion}
use Rattle.payroll_records.specs.declared.day.Day.{Day}
use Rattle.plan_calendar.specs.Picking.{Entry, plan_of}
use Rattle.saved_items.specs.SavedBooks.{SavedPlan}
use Rattle.pap_plan.specs.declared.refusal.PlanRefusal.{PlanRefusal}
use Rattle.pap_plan.specs.Acceptance.{AcceptanceSays, IsAccepted, Meaning}
use Rattle.pap_plan.proofs.Laws as plans
use Rattle.book_year.specs.Accepted.{Accepted}
use Rattle.recalc_engine.specs.BookLaws.{AreAcceptedPlans, IsAcceptedPlan}
use Rattle.book_file.specs.BookSays.{IsAcceptable, IsFirstRefused, IsUnacceptable}
use Rattle.book_file.specs.BookTexts.{saved_entry}
use Rattle.book_file.specs.private.Views.{AreEntriesOf}

-- ---- one plan

abbrev Out : Type 0
Out = Result Meaning PlanRefusal

abbrev ok_out : Meaning → Out
ok_out m = Ok m

abbrev err_out : PlanRefusal → Out
err_out why = Err why

ok_same : (m n : Meaning) → ok_out m ≡ ok_out n → m ≡ n
ok_same m n e = cc e

ok_or_err : (m : Meaning) (why : PlanRefusal) → ok_out m ≡ err_out why → ⊥
ok_or_err m why e = cc e

pub one_meaning : (plan limits : List ℕ) (m n : Meaning) → IsAccepted plan limits m → IsAccepted plan limits n → m ≡ n
one_meaning plan limits m n h k = ok_same m n (plans.one plan limits (Ok m) (Ok n) h k)

pub never_both : (p : SavedPlan) → IsAcceptable p → IsUnacceptable p → ⊥
never_both p h k = ok_or_err h.0 k.0 (plans.one p.plan p.limits (Ok h.0) (Err k.0) h.1 k.1)

judged : (p : SavedPlan) → IsAcceptable p ⊎ IsUnacceptable p
judged p = (let a = plans.some p.plan p.limits in by a.0 a.1)
  where
    by : (a : Out) → AcceptanceSays p.plan p.limits a → IsAcceptable p ⊎ IsUnacceptable p
    by (Ok m) h = inl (m, h)
    by (Err why) h = inr (why, h)

-- ---- the first that is refused

head_same : {X : Type 0} (x y : X) (xs ys : List X) → ◌≡◌ {A = List X} (x ∷ xs) (y ∷ ys) → x ≡ y
head_same x y xs ys e = cc e

tail_same : {X : Type 0} (x y : X) (xs ys : List X) → ◌≡◌ {A = List X} (x ∷ xs) (y ∷ ys) → xs ≡ ys
tail_same x y xs ys e = cc e

pub first_refused : (ps : List SavedPlan) → AllByRecursion IsAcceptable ps ⊎ ((day : Day) × IsFirstRefused ps day)
first_refused [] = inl tt
first_refused (p ∷ ps) = by (judged p) (first_refused ps)
  where
    by : IsAcceptable p ⊎ IsUnacceptable p → AllByRecursion IsAcceptable ps ⊎ ((day : Day) × IsFirstRefused ps day) →
        AllByRecursion IsAcceptable (p ∷ ps) ⊎ ((day : Day) × IsFirstRefused (p ∷ ps) day)
    by (inr bad) more = inr (p.day, record { before = []; plan = p; after = ps; parts = refl; accepted = tt; refused = bad; day_is = refl })
    by (inl good) (inl all) = inl (good, all)
    by (inl good) (inr (day, f)) = inr (
      day,
      record {
        before = p ∷ f.before;
        plan = f.plan;
        after = f.after;
        parts = ap (λ t. p ∷ t) f.parts;
        accepted = (good, f.accepted);
        refused = f.refused;
        day_is = f.day_is;
      },
    )

among : (before : List SavedPlan) (p : SavedPlan) (after : List SavedPlan) → AllByRecursion IsAcceptable (before ++ p ∷ after) → IsAcceptable p
among [] p after h = h.0
among (q ∷ before) p after h = among before p after h.1

pub never_refused : (ps : List SavedPlan) (day : Day) → AllByRecursion IsAcceptable ps → IsFirstRefused ps day → ⊥
never_refused ps day all f =
    never_both f.plan (among f.before f.plan f.after (subst (AllByRecursion IsAcceptable) f.parts all)) f.refused

same_first : (b : List SavedPlan) (p : SavedPlan) (a : List SavedPlan) (c : List SavedPlan) (q : SavedPlan) (d : List SavedPlan) →
    AllByRecursion IsAcceptable b → IsUnacceptable p → AllByRecursion IsAcceptable c → IsUnacceptable q →
    b ++ p ∷ a ≡ c ++ q ∷ d → p ≡ q
same_first [] p a [] q d hb hp hc hq e = head_same p q a d e
same_first [] p a (x ∷ c) q d hb hp hc hq e = absurd (never_both x hc.0 (subst IsUnacceptable (head_same p x a (c ++ q ∷ d) e) hp))
same_first (x ∷ b) p a [] q d hb hp hc hq e = absurd (never_both x hb.0 (subst IsUnacceptable (sym (head_same x q (b ++ p ∷ a) d e)) hq))
same_first (x ∷ b) p a (y ∷ c) q d hb hp hc hq e = same_first b p a c q d hb.1 hp hc.1 hq (tail_same x y (b ++ p ∷ a) (c ++ q ∷ d) e)

pub one_refused : (ps : List SavedPlan) (x y : Day) → IsFirstRefused ps x → IsFirstRefused ps y → x ≡ y
one_refused ps x y f g =
    let same = same_first f.before f.plan f.after g.before g.plan g.after f.accepted f.refused g.accepted g.refused (sym f.parts ∙ g.parts) in
    f.day_is ∙ ap (λ p. p.day) same ∙ sym g.day_is

-- ---- entries of a calendar

abbrev both : Accepted → List ℕ × List ℕ
both a = (a.plan, a.limits)

accepted_same : (a b : Accepted) → IsAcceptedPlan a → IsAcceptedPlan b → a.plan ≡ b.plan → a.limits ≡ b.limits → a ≡ b
accepted_same a b h k p l =
    let moved : IsAccepted b.plan b.limits a.meaning = subst (λ (t : List ℕ × List ℕ). IsAccepted t.0 t.1 a.meaning) (λ i. (p i, l i)) h in
    let same : a.meaning ≡ b.meaning = one_meaning b.plan b.limits a.meaning b.meaning moved k in
    λ i. record { plan = p i; limits = l i; meaning = same i }

entry_same : (e f : Entry Accepted) → IsAcceptedPlan (plan_of e) → IsAcceptedPlan (plan_of f) → saved_entry e ≡ saved_entry f → e ≡ f
entry_same e f h k same =
    let a = accepted_same e.1 f.1 h k (ap (λ t. t.plan) same) (ap (λ t. t.limits) same) in
    λ i. ((same i).day, a i)

pub entries_same : (es fs : List (Entry Accepted)) → AreAcceptedPlans es → AreAcceptedPlans fs → map saved_entry es ≡ map saved_entry fs → es ≡ fs
entries_same [] [] h k same = refl
entries_same [] (f ∷ fs) h k same = absurd (cc same)
entries_same (e ∷ es) [] h k same = absurd (cc same)
entries_same (e ∷ es) (f ∷ fs) h k same =
    let first = entry_same e f h.0 k.0 (head_same (saved_entry e) (saved_entry f) (map saved_entry es) (map saved_entry fs) same) in
    let more = entries_same es fs h.1 k.1 (tail_same (saved_entry e) (saved_entry f) (map saved_entry es) (map saved_entry fs) same) in
    λ i. first i ∷ more i

pub entries_for : (ps : List SavedPlan) → AllByRecursion IsAcceptable ps → (es : List (Entry Accepted)) × AreEntriesOf ps es
entries_for [] h = ([], record { plans = tt; texts = refl })
entries_for (p ∷ ps) h =
    let more = entries_for ps h.1 in
    let e : Entry Accepted = (p.day, record { plan = p.plan; limits = p.limits; meaning = h.0.0 }) in
    (e ∷ more.0, record { plans = (h.0.1, more.1.plans); texts = ap (λ t. p ∷ t) more.1.texts })

pub all_acceptable : (es : List (Entry Accepted)) → AreAcceptedPlans es → AllByRecursion IsAcceptable (map saved_entry es)
all_acceptable [] h = tt
all_acceptable (e ∷ es) h = (((plan_of e).meaning, h.0), all_acceptable es h.1)
