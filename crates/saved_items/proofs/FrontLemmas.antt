-- The first items of a saved book, item by item.
use Rattle.std.proofs.Common.{◌≡◌, ℕ, zero, suc, ◌+◌, ◌<◌, List, [], ◌∷◌, ◌++◌, length, refl, sym, ap, ap₂, ◌∙◌, subst, arith, append_assoc, length-append, inl, inr}
use Rattle.std.specs.List.{AllByRecursion, flat_map}
use Rattle.std.specs.declared.cmp.Ordering.{Ordering}
use Rattle.std.specs.declared.cmp.Ordering.TheVariants.{Less}
use Rattle.std.proofs.lemmas.Bool.{cases_lt}
use Rattle.std.proofs.lemmas.List.{append-nil, flat_map_more}
use Rattle.rising_lists.specs.Keyed.{IsRising, AreAbove}
use Rattle.rising_lists.proofs.Laws.{rising_append}
use Rattle.payroll_records.specs.Orders.{day_cmp, key_cmp}
use Rattle.payroll_records.specs.Tables.{Text, key_of}
use Rattle.payroll_records.specs.declared.record.Record.{Record}
use Rattle.payroll_records.proofs.Laws.{day_total, key_total}
use Rattle.saved_items.specs.Fronts.{FirstItems, nothing, titled, worked, planning, running, items_in, front_text, AreFirstItems}
use Rattle.saved_items.specs.private.ItemDecisions.{Item, title, work, plan_count, plan, run_count, run, item_text, Fits, with_item}
use Rattle.saved_items.specs.SavedBooks.{SavedPlan, saved_day, IsRun, title_text, work_text, plan_count_text, head_text, saved_plan_text, run_count_text, saved_run_text}
use Rattle.saved_items.proofs.ItemLemmas.{fit_once}

-- ---- lists with one more element

pub all_push : {X : Type 0} (P : X → Type 0) (xs : List X) (y : X) → AllByRecursion P xs → P y →
    AllByRecursion P (xs ++ (y ∷ []))
all_push P [] y h p = (p, tt)
all_push P (x ∷ xs) y h p = (h.0, all_push P xs y h.1 p)

all_front : {X : Type 0} (P : X → Type 0) (xs : List X) (y : X) → AllByRecursion P (xs ++ (y ∷ [])) →
    AllByRecursion P xs × P y
all_front P [] y h = (tt, h.0)
all_front P (x ∷ xs) y h = let more = all_front P xs y h.1 in ((h.0, more.0), more.1)

above_front : {K X : Type 0} (cmp : K → K → Ordering) (key : X → K) (k : K) (xs : List X) (y : X) →
    AreAbove cmp key k (xs ++ (y ∷ [])) → AreAbove cmp key k xs × (cmp k (key y) ≡ Less)
above_front cmp key k [] y h = (tt, h.0)
above_front cmp key k (x ∷ xs) y h = let more = above_front cmp key k xs y h.1 in ((h.0, more.0), more.1)

rising_front : {K X : Type 0} (cmp : K → K → Ordering) (key : X → K) (xs : List X) (y : X) →
    IsRising cmp key (xs ++ (y ∷ [])) → IsRising cmp key xs × AllByRecursion (λ x. cmp (key x) (key y) ≡ Less) xs
rising_front cmp key [] y h = (tt, tt)
rising_front cmp key (x ∷ xs) y h =
    let first = above_front cmp key (key x) xs y h.0 in
    let more = rising_front cmp key xs y h.1 in
    ((first.0, more.0), (first.1, more.1))

length_one_more : {X : Type 0} (xs : List X) (y : X) → length (xs ++ (y ∷ [])) ≡ length xs + 1
length_one_more xs y = length-append xs (y ∷ [])

record Ending {X : Type 0} (xs : List X) : Type 0 where
  front : List X
  last : X
  whole : xs ≡ front ++ (last ∷ [])

ending : {X : Type 0} (x : X) (xs : List X) → Ending (x ∷ xs)
ending x [] = record { front = []; last = x; whole = refl }
ending x (y ∷ ys) = let more = ending y ys in record {
  front = x ∷ more.front;
  last = more.last;
  whole = ap (λ zs. x ∷ zs) more.whole;
}

-- ---- with an item that fits

pub text_more : (f : FirstItems) (i : Item) → Fits f i → front_text (with_item f i) ≡ front_text f ++ item_text i
text_more nothing title h = refl
text_more titled (work a b) h = refl
text_more (worked a b) (plan_count n) h = append-nil (head_text a b n)
    ∙ sym (append_assoc title_text (work_text a b) (plan_count_text n))
text_more (planning a b n ps) (plan p) h = sym (flat_map_more saved_plan_text (head_text a b n) ps p)
text_more (planning a b n ps) (run_count m) h =
    let head = head_text a b (length ps) in
    let plans = flat_map saved_plan_text ps in
    ap (λ t. head ++ (plans ++ t)) (append-nil (run_count_text m)) ∙ sym (append_assoc head plans (run_count_text m))
    ∙ ap (λ k. (head_text a b k ++ plans) ++ run_count_text m) h.0
text_more (running a b ps n rs) (run r) h =
    let head = head_text a b (length ps) in
    let plans = flat_map saved_plan_text ps in
    ap (λ t. head ++ (plans ++ t)) (sym (flat_map_more saved_run_text (run_count_text n) rs r))
    ∙ ap (λ t. head ++ t) (sym (append_assoc plans (run_count_text n ++ flat_map saved_run_text rs) (saved_run_text r)))
    ∙ sym (append_assoc head (plans ++ (run_count_text n ++ flat_map saved_run_text rs)) (saved_run_text r))
text_more nothing i h = absurd h
text_more titled i h = absurd h
text_more (worked a b) i h = absurd h
text_more (planning a b n ps) i h = absurd h
text_more (running a b ps n rs) i h = absurd h

pub sound_more : (f : FirstItems) (i : Item) → AreFirstItems f → Fits f i → AreFirstItems (with_item f i)
sound_more nothing title s h = tt
sound_more titled (work a b) s h = h
sound_more (worked a b) (plan_count n) s h = (s, record { counted = h; within = omega arith; rising = tt })
sound_more (planning a b n ps) (plan p) s h = (
  s.0,
  record {
    counted = s.1.counted;
    within = omega (arith, h.0, length_one_more ps p);
    rising = rising_append day_cmp day_total saved_day ps p s.1.rising h.1;
  },
)
sound_more (planning a b n ps) (run_count m) s h = (
  s.0,
  record { rising = s.1.rising; few = omega (arith, h.0, s.1.counted) },
  record { counted = h.1; within = omega arith; rising = tt; each = tt },
)
sound_more (running a b ps n rs) (run r) s h = (
  s.0,
  s.1,
  record {
    counted = s.2.counted;
    within = omega (arith, h.0, length_one_more rs r);
    rising = rising_append key_cmp key_total key_of rs r s.2.rising h.2;
    each = all_push IsRun rs r s.2.each h.1;
  },
)
sound_more nothing i s h = absurd h
sound_more titled i s h = absurd h
sound_more (worked a b) i s h = absurd h
sound_more (planning a b n ps) i s h = absurd h
sound_more (running a b ps n rs) i s h = absurd h

pub items_more : (f : FirstItems) (i : Item) → Fits f i → items_in (with_item f i) ≡ items_in f + 1
items_more nothing title h = refl
items_more titled (work a b) h = refl
items_more (worked a b) (plan_count n) h = refl
items_more (planning a b n ps) (plan p) h = omega (arith, length_one_more ps p)
items_more (planning a b n ps) (run_count m) h = omega arith
items_more (running a b ps n rs) (run r) h = omega (arith, length_one_more rs r)
items_more nothing i h = absurd h
items_more titled i h = absurd h
items_more (worked a b) i h = absurd h
items_more (planning a b n ps) i h = absurd h
items_more (running a b ps n rs) i h = absurd h

-- ---- without the last item

pub record Parent (g : FirstItems) : Type 0 where
  pub front : FirstItems
  pub item : Item
  pub sound : AreFirstItems front
  pub fits : Fits front item
  pub whole : g ≡ with_item front item

planning_parent : (a b n : ℕ) (ps : List SavedPlan) (p : SavedPlan) → AreFirstItems (planning a b n (ps ++ (p ∷ []))) →
    Parent (planning a b n (ps ++ (p ∷ [])))
planning_parent a b n ps p s =
    let rising = rising_front day_cmp saved_day ps p s.1.rising in
    let below : length ps < n = omega (arith, s.1.within, length_one_more ps p) in
    record {
      front = planning a b n ps;
      item = plan p;
      sound = (s.0, record { counted = s.1.counted; within = omega arith; rising = rising.0 });
      fits = (below, rising.1);
      whole = refl;
    }

running_parent : (a b n : ℕ) (ps : List SavedPlan) (rs : List Record) (r : Record) →
    AreFirstItems (running a b ps n (rs ++ (r ∷ []))) → Parent (running a b ps n (rs ++ (r ∷ [])))
running_parent a b n ps rs r s =
    let rising = rising_front key_cmp key_of rs r s.2.rising in
    let each = all_front IsRun rs r s.2.each in
    let below : length rs < n = omega (arith, s.2.within, length_one_more rs r) in
    record {
      front = running a b ps n rs;
      item = run r;
      sound = (s.0, s.1, record { counted = s.2.counted; within = omega arith; rising = rising.0; each = each.0 });
      fits = (below, each.1, rising.1);
      whole = refl;
    }

pub parent : (g : FirstItems) → AreFirstItems g → 0 < items_in g → Parent g
parent nothing s some = absurd (omega (arith, some))
parent titled s some = record { front = nothing; item = title; sound = tt; fits = tt; whole = refl }
parent (worked a b) s some = record { front = titled; item = work a b; sound = tt; fits = s; whole = refl }
parent (planning a b n []) s some = record {
  front = worked a b;
  item = plan_count n;
  sound = s.0;
  fits = s.1.counted;
  whole = refl;
}
parent (planning a b n (p ∷ ps)) s some =
    let e = ending p ps in
    subst (λ xs. Parent (planning a b n xs)) (sym e.whole)
    (planning_parent a b n e.front e.last (subst (λ xs. AreFirstItems (planning a b n xs)) e.whole s))
parent (running a b ps n []) s some = record {
  front = planning a b (length ps) ps;
  item = run_count n;
  sound = (s.0, record { counted = s.1.few; within = omega arith; rising = s.1.rising });
  fits = (refl, s.2.counted);
  whole = refl;
}
parent (running a b ps n (r ∷ rs)) s some =
    let e = ending r rs in
    subst (λ xs. Parent (running a b ps n xs)) (sym e.whole)
    (running_parent a b n ps e.front e.last (subst (λ xs. AreFirstItems (running a b ps n xs)) e.whole s))

pub parent_items : (g : FirstItems) (p : Parent g) → items_in g ≡ items_in p.front + 1
parent_items g p = ap items_in p.whole ∙ items_more p.front p.item p.fits

pub parent_text : (g : FirstItems) (p : Parent g) → front_text g ≡ front_text p.front ++ item_text p.item
parent_text g p = ap front_text p.whole ∙ text_more p.front p.item p.fits

-- ---- the first so many items, and the one that follows them

pub record Step (g : FirstItems) (k : ℕ) : Type 0 where
  pub front : FirstItems
  pub item : Item
  pub sound : AreFirstItems front
  pub fits : Fits front item
  pub count : items_in front ≡ k
  pub rest : Text
  pub text : front_text g ≡ front_text front ++ (item_text item ++ rest)

step_by : (n : ℕ) (g : FirstItems) (k : ℕ) → AreFirstItems g → items_in g ≡ n → k < n → Step g k
step_by zero g k s e lt = absurd (omega (arith, lt))
step_by (suc n) g k s e lt =
    let p = parent g s (omega (arith, e)) in
    let count = parent_items g p in
    let text = parent_text g p in
    elim (cases_lt k n) [
      | inr last ↦ record {
        front = p.front;
        item = p.item;
        sound = p.sound;
        fits = p.fits;
        count = omega (arith, e, count, lt, last);
        rest = [];
        text = text ∙ ap (λ t. front_text p.front ++ t) (sym (append-nil (item_text p.item)));
      }
      | inl earlier ↦
          let more = step_by n p.front k p.sound (omega (arith, e, count)) earlier in
          record {
            front = more.front;
            item = more.item;
            sound = more.sound;
            fits = more.fits;
            count = more.count;
            rest = more.rest ++ item_text p.item;
            text = text ∙ ap (λ t. t ++ item_text p.item) more.text
                ∙ append_assoc (front_text more.front) (item_text more.item ++ more.rest) (item_text p.item)
                ∙ ap (λ t. front_text more.front ++ t) (append_assoc (item_text more.item) more.rest
                (item_text p.item));
          }
    ]

pub step : (g : FirstItems) (k : ℕ) → AreFirstItems g → k < items_in g → Step g k
step g k s lt = step_by (items_in g) g k s refl lt

-- ---- a text begins with one front of so many items

no_items : (f : FirstItems) → items_in f ≡ 0 → f ≡ nothing
no_items nothing e = refl
no_items titled e = absurd (omega (arith, e))
no_items (worked a b) e = absurd (omega (arith, e))
no_items (planning a b n ps) e = absurd (omega (arith, e))
no_items (running a b ps n rs) e = absurd (omega (arith, e))

pub fronts_once : (n : ℕ) (f g : FirstItems) (r q : Text) → items_in f ≡ n → items_in g ≡ n → AreFirstItems f → AreFirstItems g →
    front_text f ++ r ≡ front_text g ++ q → (f ≡ g) × (r ≡ q)
fronts_once zero f g r q a b s t e =
    let x = no_items f a in
    let y = no_items g b in
    (x ∙ sym y, ap (λ h. front_text h ++ r) (sym x) ∙ e ∙ ap (λ h. front_text h ++ q) y)
fronts_once (suc n) f g r q a b s t e =
    let x = parent f s (omega (arith, a)) in
    let y = parent g t (omega (arith, b)) in
    let earlier = fronts_once n x.front y.front (item_text x.item ++ r) (item_text y.item ++ q)
    (omega (arith, a, parent_items f x)) (omega (arith, b, parent_items g y)) x.sound y.sound
    (sym (append_assoc (front_text x.front) (item_text x.item) r) ∙ ap (λ z. z ++ r) (sym (parent_text f x)) ∙ e
    ∙ ap (λ z. z ++ q) (parent_text g y) ∙ append_assoc (front_text y.front) (item_text y.item) q) in
    let here = fit_once y.front x.item y.item (subst (λ h. Fits h x.item) earlier.0 x.fits) y.fits r q earlier.1 in
    (x.whole ∙ ap₂ with_item earlier.0 here.0 ∙ sym y.whole, here.1)
