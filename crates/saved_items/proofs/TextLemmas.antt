-- What a text says: at most one thing, and what it says where no item goes on.
use Rattle.std.proofs.Common.{◌≡◌, ℕ, ◌+◌, ◌-◌, ◌<◌, List, ◌++◌, length, Result, Ok, Err, refl, sym, ap, ap₂, ◌∙◌, subst, arith, append_assoc, length-append, inl, inr}
use Rattle.std.specs.List.{flat_map}
use Rattle.std.proofs.lemmas.Bool.{cases_lt}
use Rattle.payroll_records.specs.Tables.{Text}
use Rattle.payroll_records.specs.declared.record.Record.{Record}
use Rattle.saved_items.specs.Fronts.{FirstItems, items_in, plans_of_first, front_text, AreFirstItems}
use Rattle.saved_items.specs.private.ItemDecisions.{Item, run, item_text, Fits, with_item, Goes, all_of, Ends}
use Rattle.saved_items.specs.SavedBooks.{SavedPlan, Saved, IsSaved, IsSavedText, head_text, saved_plan_text, run_count_text, saved_run_text, end_text, saved_text}
use Rattle.saved_items.specs.Texts.{Stop, StopsAtItem, TextSays}
use Rattle.saved_items.proofs.FrontLemmas.{step, fronts_once, sound_more, items_more, text_more}

pub all_sound : (s : Saved) → IsSaved s → AreFirstItems (all_of s)
all_sound s h = (
  h.work,
  h.plans,
  record { counted = h.records.few; within = omega arith; rising = h.records.rising; each = h.records.each },
)

pub all_text : (s : Saved) → saved_text s ≡ front_text (all_of s) ++ end_text
all_text s =
    let head = head_text s.runs s.steps (length s.plans) in
    let plans = flat_map saved_plan_text s.plans in
    let count = run_count_text (length s.records) in
    let runs = flat_map saved_run_text s.records in
    ap (λ t. head ++ (plans ++ t)) (sym (append_assoc count runs end_text))
    ∙ ap (λ t. head ++ t) (sym (append_assoc plans (count ++ runs) end_text))
    ∙ sym (append_assoc head (plans ++ (count ++ runs)) end_text)

-- nothing goes on behind all items
all_full : (s : Saved) (i : Item) → Fits (all_of s) i → ⊥
all_full s (run r) h = omega (arith, h.0)
all_full s i h = h

pub ends_text : (bytes : Text) (f : FirstItems) (rest : Text) → AreFirstItems f → bytes ≡ front_text f ++ rest →
    (e : Ends f rest) → IsSavedText bytes e.saved
ends_text bytes f rest s text e =
    let sound = subst AreFirstItems e.all s in
    record {
      sound = record {
        work = sound.0;
        plans = sound.1;
        records = record {
          rising = sound.2.rising;
          each = sound.2.each;
          few = sound.2.counted;
        };
      };
      text = text ∙ ap₂ (λ g t. front_text g ++ t) e.all e.last ∙ sym (all_text e.saved);
    }

-- ---- no item goes on

module _ (bytes : Text) (f : FirstItems) (rest : Text) (sound : AreFirstItems f) (text : bytes ≡ front_text f ++ rest)
    (none : Goes f rest → ⊥) where
  -- a longer front would go on
  pub not_longer : (g : FirstItems) (more : Text) → AreFirstItems g → bytes ≡ front_text g ++ more → items_in f < items_in g → ⊥
  not_longer g more s e lt =
      let t = step g (items_in f) s lt in
      let left = item_text t.item ++ (t.rest ++ more) in
      let same = fronts_once (items_in f) t.front f left rest t.count refl t.sound sound
      (ap (λ z. front_text t.front ++ z) (sym (append_assoc (item_text t.item) t.rest more))
      ∙ sym (append_assoc (front_text t.front) (item_text t.item ++ t.rest) more)
      ∙ ap (λ z. z ++ more) (sym t.text) ∙ sym e ∙ text) in
      none (record {
        item = t.item;
        fits = subst (λ h. Fits h t.item) same.0 t.fits;
        rest = t.rest ++ more;
        text = sym same.1;
      })

  pub stops : (Ends f rest → ⊥) → StopsAtItem bytes (record { item = items_in f + 1; at = length (front_text f); plans = plans_of_first f })
  stops open_end = record {
    front = f;
    shown = record { sound = sound; rest = rest; begins = text };
    item = refl;
    at = refl;
    plans = refl;
    stuck = λ longer shown counted. not_longer longer shown.rest shown.sound shown.begins (omega (arith, counted));
    unfinished = unfinished;
  }
    where
      unfinished : (s : Saved) → IsSavedText bytes s → ⊥
      unfinished s h = elim (cases_lt (items_in f) (items_in (all_of s))) [
        | inl fewer ↦ not_longer (all_of s) end_text (all_sound s h.sound) (h.text ∙ all_text s) fewer
        | inr enough ↦ elim (cases_lt (items_in (all_of s)) (items_in f)) [
          | inl more ↦ beyond more
          | inr no_more ↦ exactly (omega (arith, enough, no_more))
        ]
      ]
        where
          whole : bytes ≡ front_text (all_of s) ++ end_text
          whole = h.text ∙ all_text s

          beyond : items_in (all_of s) < items_in f → ⊥
          beyond lt =
              let t = step f (items_in (all_of s)) sound lt in
              let left = item_text t.item ++ (t.rest ++ rest) in
              let same = fronts_once (items_in (all_of s)) t.front (all_of s) left end_text t.count refl t.sound
              (all_sound s h.sound)
              (ap (λ z. front_text t.front ++ z) (sym (append_assoc (item_text t.item) t.rest rest))
              ∙ sym (append_assoc (front_text t.front) (item_text t.item ++ t.rest) rest)
              ∙ ap (λ z. z ++ rest) (sym t.text) ∙ sym text ∙ whole) in
              all_full s t.item (subst (λ g. Fits g t.item) same.0 t.fits)

          exactly : items_in f ≡ items_in (all_of s) → ⊥
          exactly e =
              let same = fronts_once (items_in f) f (all_of s) rest end_text refl (sym e) sound (all_sound s h.sound)
              (sym text ∙ whole) in
              open_end (record { saved = s; all = same.0; last = same.1 })

  pub stops_as : (item at : ℕ) (plans : List SavedPlan) → item ≡ items_in f + 1 → at ≡ length bytes - length rest →
      plans ≡ plans_of_first f → (Ends f rest → ⊥) → StopsAtItem bytes (record { item = item; at = at; plans = plans })
  stops_as item at plans counted left same open_end =
      let s = stops open_end in
      record {
        front = f;
        shown = record { sound = sound; rest = rest; begins = text };
        item = counted;
        at = omega (arith, left, ap length text, length-append (front_text f) rest);
        plans = same;
        stuck = λ longer shown many. s.stuck longer shown (many ∙ counted);
        unfinished = s.unfinished;
      }

-- the items with one more
pub goes_on : (bytes : Text) (f g : FirstItems) (rest left : Text) (i : Item) → AreFirstItems f → bytes ≡ front_text f ++ rest →
    Fits f i → rest ≡ item_text i ++ left → g ≡ with_item f i → AreFirstItems g × (bytes ≡ front_text g ++ left)
goes_on bytes f g rest left i sound text fits here next = (
  subst AreFirstItems (sym next) (sound_more f i sound fits),
  text ∙ ap (λ t. front_text f ++ t) here ∙ sym (append_assoc (front_text f) (item_text i) left)
      ∙ ap (λ t. t ++ left) (sym (text_more f i fits) ∙ ap front_text (sym next)),
)

-- ---- a text says at most one thing

all_once : (s t : Saved) → all_of s ≡ all_of t → s ≡ t
all_once s t e =
    ap (λ (x : ℕ). make x s.steps s.plans s.records) (parts.0)
    ∙ ap (λ (x : ℕ). make t.runs x s.plans s.records) (parts.1)
    ∙ ap (λ (x : List SavedPlan). make t.runs t.steps x s.records) (parts.2)
    ∙ ap (λ (x : List Record). make t.runs t.steps t.plans x) (parts.3)
  where
    make : ℕ → ℕ → List SavedPlan → List Record → Saved
    make runs steps plans records = record { runs = runs; steps = steps; plans = plans; records = records }

    parts : (s.runs ≡ t.runs) × (s.steps ≡ t.steps) × (s.plans ≡ t.plans) × (s.records ≡ t.records)
    parts = (cc, cc, cc, cc)

-- no text has fewer items than another text of the same bytes
no_fewer : (bytes : Text) (s t : Saved) → IsSavedText bytes s → IsSavedText bytes t →
    items_in (all_of s) < items_in (all_of t) → ⊥
no_fewer bytes s t h k lt =
    not_longer bytes (all_of s) end_text (all_sound s h.sound) (h.text ∙ all_text s) (λ g. all_full s g.item g.fits)
    (all_of t) end_text (all_sound t k.sound) (k.text ∙ all_text t) lt

pub saved_once : (bytes : Text) (s t : Saved) → IsSavedText bytes s → IsSavedText bytes t → s ≡ t
saved_once bytes s t h k = elim (cases_lt (items_in (all_of s)) (items_in (all_of t))) [
  | inl fewer ↦ absurd (no_fewer bytes s t h k fewer)
  | inr enough ↦ elim (cases_lt (items_in (all_of t)) (items_in (all_of s))) [
    | inl more ↦ absurd (no_fewer bytes t s k h more)
    | inr no_more ↦ all_once s t
        (fronts_once (items_in (all_of s)) (all_of s) (all_of t) end_text end_text refl
        (omega (arith, enough, no_more)) (all_sound s h.sound) (all_sound t k.sound)
        (sym (all_text s) ∙ sym h.text ∙ k.text ∙ all_text t)).0
  ]
]

-- of two stops none comes earlier
no_earlier : (bytes : Text) (a b : Stop) (h : StopsAtItem bytes a) (k : StopsAtItem bytes b) →
    items_in h.front < items_in k.front → ⊥
no_earlier bytes a b h k lt =
    let t = step k.front (items_in h.front) k.shown.sound lt in
    let longer = with_item t.front t.item in
    h.stuck longer
    (record {
      sound = sound_more t.front t.item t.sound t.fits;
      rest = t.rest ++ k.shown.rest;
      begins = k.shown.begins ∙ ap (λ z. z ++ k.shown.rest) (t.text
          ∙ sym (append_assoc (front_text t.front) (item_text t.item) t.rest)
          ∙ ap (λ z. z ++ t.rest) (sym (text_more t.front t.item t.fits)))
          ∙ append_assoc (front_text longer) t.rest k.shown.rest;
    })
    (omega (arith, items_more t.front t.item t.fits, t.count, h.item))

same_stop : (a b : Stop) → a.item ≡ b.item → a.at ≡ b.at → a.plans ≡ b.plans → a ≡ b
same_stop a b i t p =
    ap (λ (x : ℕ). make x a.at a.plans) i ∙ ap (λ (x : ℕ). make b.item x a.plans) t
    ∙ ap (λ (x : List SavedPlan). make b.item b.at x) p
  where
    make : ℕ → ℕ → List SavedPlan → Stop
    make item at plans = record { item = item; at = at; plans = plans }

stop_once : (bytes : Text) (a b : Stop) → StopsAtItem bytes a → StopsAtItem bytes b → a ≡ b
stop_once bytes a b h k = elim (cases_lt (items_in h.front) (items_in k.front)) [
  | inl fewer ↦ absurd (no_earlier bytes a b h k fewer)
  | inr enough ↦ elim (cases_lt (items_in k.front) (items_in h.front)) [
    | inl more ↦ absurd (no_earlier bytes b a k h more)
    | inr no_more ↦ exactly (omega (arith, enough, no_more))
  ]
]
  where
    exactly : items_in h.front ≡ items_in k.front → a ≡ b
    exactly e =
        let same = fronts_once (items_in h.front) h.front k.front h.shown.rest k.shown.rest refl
        (sym e) h.shown.sound k.shown.sound (sym h.shown.begins ∙ k.shown.begins) in
        same_stop a b (h.item ∙ ap (λ n. n + 1) e ∙ sym k.item)
        (h.at ∙ ap (λ f. length (front_text f)) same.0 ∙ sym k.at) (h.plans ∙ ap plans_of_first same.0 ∙ sym k.plans)

pub text_once : (bytes : Text) (r q : Result Saved Stop) → TextSays bytes r → TextSays bytes q → r ≡ q
text_once bytes (Ok s) (Ok t) h k = ap Ok (saved_once bytes s t h k)
text_once bytes (Ok s) (Err b) h k = absurd (k.unfinished s h)
text_once bytes (Err a) (Ok t) h k = absurd (h.unfinished t k)
text_once bytes (Err a) (Err b) h k = ap Err (stop_once bytes a b h k)
