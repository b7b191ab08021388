-- Plans accepted one after another, and what the text then says.
use Rattle.std.proofs.Common.{◌≡◌, ◌⊎◌, inl, inr, ◌<◌, ◌≤◌, ◌+◌, ℕ, suc, List, [], ◌∷◌, ◌++◌, length, map, take, drop, get_or, Result, Ok, Err, IfErr, IfOk, OnOk, false, refl, sym, ap, subst, ◌∙◌, arith}
use Rattle.std.specs.List.{AllByRecursion}
use Rattle.std.specs.Result.{is_err}
use Rattle.std.proofs.lemmas.Bool.{false≢true}
use Rattle.std.specs.declared.cmp.Ordering.TheVariants.{Less}
use Rattle.std.proofs.Math.Seq.{split_at, take-suc}
use Rattle.std.proofs.lemmas.List.{map-append}
use Rattle.rising_lists.specs.Keyed.{IsRising}
use Rattle.payroll_records.specs.declared.day.Day.{Day}
use Rattle.payroll_records.specs.Orders.{day_cmp}
use Rattle.payroll_records.proofs.Laws.{day_total}
use Rattle.plan_calendar.specs.Picking.{Entry, day_of, plan_of, with_entry}
use Rattle.saved_items.specs.Fronts.{FirstItems, nothing, titled, worked, planning, running, AreFirstItems, plans_of_first as front_plans}
use Rattle.saved_items.specs.SavedBooks.{IsSavedText, Saved, SavedPlan, ArePlans}
use Rattle.saved_items.specs.SavedBooks as saved
use Rattle.saved_items.specs.Texts.{Stop, StopsAtItem}
use Rattle.saved_items.specs.ItemFaults.{plan_in}
use Rattle.saved_items.specs.declared.items.PlanItem.{PlanItem}
use Rattle.pap_plan.specs.Acceptance.{IsAccepted}
use Rattle.pap_plan.specs.Plans.{Seen, meaning}
use Rattle.std.specs.declared.alloc.AllocError.{AllocError}
use Rattle.book_year.specs.Accepted.{Accepted, accepted, accepted_entry, plans_in}
use Rattle.book_year.specs.Jobs.{Counts}
use Rattle.book_edits.proofs.Laws.{map_put}
use Rattle.recalc_engine.specs.declared.book.RestoredBook.{RestoredBook}
use Rattle.recalc_engine.specs.BookLaws.{AreAcceptedPlans, IsAcceptedPlan}
use Rattle.recalc_engine.specs.Contents.{Contents, whole_cost}
use Rattle.recalc_engine.proofs.Laws.{front_below, put_end}
use Rattle.book_file.specs.BookSays.{BookSays, BreaksAtItem, IsAcceptable}
use Rattle.book_file.specs.BookTexts.{IsTextOf, saved_entry}
use Rattle.book_file.specs.Clauses.{CountsRead, IsBookFaultOrMemory, said_cost}
use Rattle.book_file.specs.Limits.{most_book_text}
use Rattle.book_file.specs.private.Views.{AreEntriesOf, CountsMade, HasNoPlan, IsBookOf, IsNoPlan, IsPartlyMade, IsPlanOf, book_of_saved}
use Rattle.book_file.specs.declared.refusal.BookFault.{BookFault}
use Rattle.book_file.specs.declared.refusal.BookFault.TheVariants as fault
use Rattle.book_file.proofs.AnswerLemmas.{one}
use Rattle.book_file.proofs.BookLemmas.{made_text}
use Rattle.book_file.proofs.PlanLemmas.{all_acceptable}

-- ---- results

-- what a `?` hands on
pub err_holds : {T E : Type 0} (r : Result T E) (P : E → Type 0) (x y : E) → r ≡ Err x → x ≡ y → P y → IfErr r P
err_holds r P x y is same h = rw (is, same) h

pub ok_from_not_err : {T E : Type 0} (r : Result T E) (P : Type 0) → is_err r ≡ false → OnOk r P → P
ok_from_not_err (Ok x) P e h = h
ok_from_not_err (Err x) P e h = absurd (false≢true (sym e))

pub ok_more : {T E : Type 0} (r : Result T E) (P Q : T → Type 0) → ((x : T) → P x → Q x) → IfOk r P → IfOk r Q
ok_more (Ok x) P Q f h = f x h
ok_more (Err e) P Q f h = tt

pub err_more : {T E : Type 0} (r : Result T E) (P Q : E → Type 0) → ((e : E) → P e → Q e) → IfErr r P → IfErr r Q
err_more (Ok x) P Q f h = tt
err_more (Err e) P Q f h = f e h

-- ---- one plan more

below_entries : (es : List (Entry Accepted)) (d : Day) → AllByRecursion (λ p. day_cmp (saved.saved_day p) d ≡ Less) (map saved_entry es) →
    AllByRecursion (λ (e : Entry Accepted). day_cmp (day_of e) d ≡ Less) es
below_entries [] d h = tt
below_entries (e ∷ es) d h = (h.0, below_entries es d h.1)

all_more : (es : List (Entry Accepted)) (e : Entry Accepted) → AreAcceptedPlans es → IsAcceptedPlan (plan_of e) → AreAcceptedPlans (es ++ e ∷ [])
all_more [] e h k = (k, tt)
all_more (f ∷ es) e h k = (h.0, all_more es e h.1 k)

module _ (front : List SavedPlan) (p : SavedPlan) (more : List SavedPlan) where
  -- it goes behind the others
  put_behind : (es : List (Entry Seen)) (seen : Seen) → IsRising day_cmp saved.saved_day (front ++ p ∷ more) → AreEntriesOf front (plans_in es) →
      plans_in (with_entry (p.day, seen) es) ≡ plans_in es ++ (p.day, accepted seen) ∷ []
  put_behind es seen rising are =
      let below = front_below day_cmp day_total saved.saved_day front p more rising in
      let texts = subst (AllByRecursion (λ t. day_cmp (saved.saved_day t) p.day ≡ Less)) (sym are.texts) below in
      map_put day_cmp day_of accepted_entry (p.day, seen) es
      ∙ put_end day_cmp day_total day_of (p.day, accepted seen) (plans_in es) (below_entries (plans_in es) p.day texts)

  pub next_entries : (es : List (Entry Seen)) (seen : Seen) → IsRising day_cmp saved.saved_day (front ++ p ∷ more) → AreEntriesOf front (plans_in es) →
      IsPlanOf p seen → AreEntriesOf (front ++ p ∷ []) (plans_in (with_entry (p.day, seen) es))
  next_entries es seen rising are of =
      let e : Entry Accepted = (p.day, accepted seen) in
      let text : saved_entry e ≡ p = λ i. record { day = p.day; plan = of.plan_bytes i; limits = of.limits_bytes i } in
      subst (AreEntriesOf (front ++ p ∷ [])) (sym (put_behind es seen rising are)) (record {
        plans = all_more (plans_in es) e are.plans (subst (λ (t : List ℕ × List ℕ). IsAccepted t.0 t.1 (meaning seen)) (λ i. (sym of.plan_bytes i, sym of.limits_bytes i)) of.accepted);
        texts = map-append saved_entry (plans_in es) (e ∷ []) ∙ (λ i. are.texts i ++ text i ∷ []);
      })

  -- it is the first that is refused
  pub first_no_plan : (es : List (Entry Accepted)) (f : BookFault) → AreEntriesOf front es → IsNoPlan p f → HasNoPlan (front ++ p ∷ more) f
  first_no_plan es (fault.Plan day) are bad = record {
    before = front;
    plan = p;
    after = more;
    parts = refl;
    accepted = subst (AllByRecursion IsAcceptable) are.texts (all_acceptable es are.plans);
    refused = bad.0;
    day_is = bad.1;
  }
  first_no_plan es (fault.Memory e) are bad = tt
  first_no_plan es fault.Long are bad = absurd bad
  first_no_plan es (fault.Form item) are bad = absurd bad

-- ---- the plans of these items, and one more

module _ (items : List PlanItem) (i : ℕ) (item : PlanItem) (within : i < length items) (is : item ≡ get_or items i item) where
  abbrev before : List SavedPlan
  before = map plan_in (take i items)

  abbrev after : List SavedPlan
  after = map plan_in (drop (suc i) items)

  parted : map plan_in items ≡ before ++ plan_in item ∷ after
  parted =
      ap (map plan_in) (split_at items i item within)
      ∙ map-append plan_in (take i items) (get_or items i item ∷ drop (suc i) items)
      ∙ ap (λ t. before ++ plan_in t ∷ after) (sym is)

  with_one : map plan_in (take (suc i) items) ≡ before ++ plan_in item ∷ []
  with_one =
      ap (map plan_in) (take-suc items i item within)
      ∙ map-append plan_in (take i items) (get_or items i item ∷ [])
      ∙ ap (λ t. before ++ plan_in t ∷ []) (sym is)

  pub item_accepted : (es new : List (Entry Seen)) (seen : Seen) → ArePlans (map plan_in items) → AreEntriesOf before (plans_in es) →
      IsPlanOf (plan_in item) seen → new ≡ with_entry (item.day, seen) es → AreEntriesOf (map plan_in (take (i + 1) items)) (plans_in new)
  item_accepted es new seen h are of e =
      let next : suc i ≡ i + 1 = omega arith in
      subst (λ t. AreEntriesOf (map plan_in (take t items)) (plans_in new)) next
      (subst (λ t. AreEntriesOf t (plans_in new)) (sym with_one)
      (subst (λ t. AreEntriesOf (before ++ plan_in item ∷ []) (plans_in t)) (sym e)
      (next_entries before (plan_in item) after es seen (subst (IsRising day_cmp saved.saved_day) parted h.rising) are of)))

  pub item_refused : (es : List (Entry Seen)) (f : BookFault) → AreEntriesOf before (plans_in es) → IsNoPlan (plan_in item) f → HasNoPlan (map plan_in items) f
  item_refused es f are bad = subst (λ t. HasNoPlan t f) (sym parted) (first_no_plan before (plan_in item) after (plans_in es) f are bad)

-- ---- the plans of a front are at most 64, and their days rise

front_plans_are : (f : FirstItems) → AreFirstItems f → ArePlans (front_plans f)
front_plans_are nothing h = record { rising = tt; few = omega arith }
front_plans_are titled h = record { rising = tt; few = omega arith }
front_plans_are (worked runs steps) h = record { rising = tt; few = omega arith }
front_plans_are (planning runs steps count plans) h = record { rising = h.1.rising; few = omega (arith, h.1.within, h.1.counted) }
front_plans_are (running runs steps plans count records) h = h.1

-- ---- the counter of a book that is made

rose : {T E : Type 0} (q : Result T E) (f : E) (before now total : ℕ) → q ≡ Err f → Counts q before now total → (before ≤ now) × (now ≤ before + total)
rose q f before now total was counts = rw was at counts

pub counts_made : {T E : Type 0} (s : Saved) (es : List (Entry Accepted)) (r : Result RestoredBook BookFault)
    (why : BookFault) (error : AllocError) (q : Result T E) (f : E) (before now : ℕ) → AreEntriesOf s.plans es →
    r ≡ Err why → why ≡ fault.Memory error → q ≡ Err f →
    Counts q before now (whole_cost (book_of_saved s es)) → CountsMade s r before now
counts_made s es r why error q f before now are is memory was counts =
    let within = rose q f before now (whole_cost (book_of_saved s es)) was counts in
    let part : IsPartlyMade s before now = record {
      book = book_of_saved s es;
      of = record { entries = es; are = are; book_is = refl };
      later = within.0;
      most = within.1;
    } in
    rw (is, memory) (inr part)

-- ---- what the text says

module _ (bytes : List ℕ) (few : length bytes ≤ most_book_text) where
  pub unread_whole : (s : Saved) (f : BookFault) → IsSavedText bytes s → HasNoPlan s.plans f → IsBookFaultOrMemory bytes f
  unread_whole s (fault.Plan day) h bad = record { few = few; said = Ok s; says = h; first = bad }
  unread_whole s (fault.Memory e) h bad = few
  unread_whole s fault.Long h bad = absurd bad
  unread_whole s (fault.Form item) h bad = absurd bad

  pub unread_broken : (stop : Stop) (f : BookFault) → StopsAtItem bytes stop → HasNoPlan stop.plans f →
      IsBookFaultOrMemory bytes f
  unread_broken stop (fault.Plan day) h bad = record { few = few; said = Err stop; says = h; first = bad }
  unread_broken stop (fault.Memory e) h bad = few
  unread_broken stop fault.Long h bad = absurd bad
  unread_broken stop (fault.Form item) h bad = absurd bad

  pub breaks : (stop : Stop) (es : List (Entry Accepted)) → StopsAtItem bytes stop → AreEntriesOf stop.plans es → BreaksAtItem bytes stop.item
  breaks stop es h are = record {
    few = few;
    stop = stop;
    says = h;
    accepted = subst (AllByRecursion IsAcceptable) are.texts (all_acceptable es are.plans);
    item_is = refl;
  }

  pub says_book : (s : Saved) (book : Contents) → IsSavedText bytes s → IsBookOf s book → IsTextOf bytes book
  says_book s book h of = subst (IsTextOf bytes) (sym of.book_is) (made_text bytes s of.entries few h of.are)

  abbrev Said : Type 0
  Said = Result Contents BookFault

  -- the counter
  within : (s : Saved) (old now : ℕ) → IsSavedText bytes s → (now ≡ old) ⊎ IsPartlyMade s old now → (said : Said) → BookSays bytes said → now ≤ old + said_cost said
  within s old now h (inl same) said says = omega (arith, same)
  within s old now h (inr part) said says =
      subst (λ t. now ≤ old + said_cost t) (one bytes (Ok part.book) said (says_book s part.book h part.of) says) part.most

  later : (s : Saved) (old now : ℕ) → (now ≡ old) ⊎ IsPartlyMade s old now → old ≤ now
  later s old now (inl same) = omega (arith, same)
  later s old now (inr part) = part.later

  pub counts_read : (s : Saved) (result : Result RestoredBook BookFault) (old now : ℕ) → IsSavedText bytes s →
      CountsMade s result old now → CountsRead bytes result old now
  counts_read s (Ok restored) old now h c = c
  counts_read s (Err (fault.Memory e)) old now h c = (later s old now c, within s old now h c)
  counts_read s (Err fault.Long) old now h c = c
  counts_read s (Err (fault.Form item)) old now h c = c
  counts_read s (Err (fault.Plan day)) old now h c = c

  -- where nothing was run
  pub counts_nothing : (f : BookFault) (old now : ℕ) → now ≡ old → CountsRead bytes (Err f) old now
  counts_nothing (fault.Memory e) old now same = (omega (arith, same), λ said says. omega (arith, same))
  counts_nothing fault.Long old now same = same
  counts_nothing (fault.Form item) old now same = same
  counts_nothing (fault.Plan day) old now same = same
