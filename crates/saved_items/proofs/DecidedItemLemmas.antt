-- Whether an item stands next, and what a text says: always decided.
use Rattle.std.proofs.Common.{◌≡◌, ℕ, zero, suc, ◌+◌, ◌^◌, ◌<◌, ◌≤◌, List, [], ◌∷◌, ◌++◌, length, take, map, pos, ℤ, negsuc, Result, Ok, Err, refl, sym, ap, ap₂, ◌∙◌, subst, arith, ◌⊎◌, inl, inr, append_assoc, length-append}
use Rattle.std.specs.Prelude.{codes, IsTrue}
use Rattle.std.specs.List.{AllByRecursion, slice_split}
use Rattle.std.specs.declared.cmp.Ordering.{Ordering}
use Rattle.std.specs.declared.cmp.Ordering.TheVariants.{Less, Equal, Greater}
use Rattle.std.proofs.lemmas.Bool.{cases_lt, cases_eq}
use Rattle.rising_lists.specs.Keyed.{IsRising, AreAbove}
use Rattle.scaled_decimal.specs.Decimals.{Decimal, decimal}
use Rattle.scaled_decimal.specs.NumberTexts.{Spells}
use Rattle.scaled_decimal.specs.PlainTexts.{whole_text}
use Rattle.scaled_decimal.proofs.Laws.{number_once, number_or_none}
use Rattle.payroll_records.specs.Days.{IsDay}
use Rattle.payroll_records.specs.Employees.{is_employee}
use Rattle.payroll_records.specs.NamedValues.{AreValues, name_cmp, name_of}
use Rattle.payroll_records.specs.Orders.{day_cmp, key_cmp}
use Rattle.payroll_records.specs.Tables.{Text, key_of}
use Rattle.payroll_records.specs.ValueWords.{IsValueWord}
use Rattle.payroll_records.specs.declared.day.Day.{Day}
use Rattle.payroll_records.specs.declared.record.Record.{Record}
use Rattle.payroll_records.specs.declared.values.NamedValue.{NamedValue}
use Rattle.payroll_records.proofs.Laws.{Decided, both, by_iff, true_decided, eq_decided, text_decided, day_spelled_decided, value_word_decided, value_once}
use Rattle.saved_items.specs.Fronts.{FirstItems, nothing, titled, worked, planning, running, items_in, plans_of_first, front_text, AreFirstItems}
use Rattle.saved_items.specs.private.ItemDecisions.{Item, title, work, plan_count, plan, run_count, run, item_text, Fits, with_item, IsLater, IsBeyond, Goes, all_of, Ends}
use Rattle.saved_items.specs.private.LineViews.{Misses, is_space, IsLine}
use Rattle.saved_items.specs.SavedBooks.{SavedPlan, Saved, saved_plan, IsRun, IsValue, line_of_words, day_word, value_word, title_words, work_words, plan_words, saved_plan_text, run_words, saved_run_text, end_text}
use Rattle.saved_items.specs.Texts.{Stop, TextSays}
use Rattle.saved_items.proofs.DayLemmas.{day_spells}
use Rattle.saved_items.proofs.FrontLemmas.{sound_more, text_more}
use Rattle.saved_items.proofs.ItemLemmas.{same_length_cut, run_words_once}
use Rattle.saved_items.proofs.LineLemmas.{cut_at}
use Rattle.saved_items.proofs.NextLemmas.{no_item, line_is, none_nothing, none_titled, none_worked, none_planned, none_within, plan_is, plan_words_once, work_words_once, run_seen, run_few}
use Rattle.saved_items.proofs.NumberLemmas.{whole_spells}
use Rattle.saved_items.proofs.TextLemmas.{ends_text, stops}
use Rattle.saved_items.proofs.WordLemmas.{value_given, values_once}

-- ---- words

pos_of : (z : ℤ) → Decided ((n : ℕ) × (z ≡ pos n))
pos_of (pos n) = inl (n, refl)
pos_of (negsuc n) = inr (λ h. let e = h.1 in cc)

whole_decided : (w : Text) → Decided ((n : ℕ) × (w ≡ whole_text n))
whole_decided w = elim (number_or_none w) [
  | inr none ↦ inr (λ h. none (decimal (pos h.0) 0) (subst (λ t. Spells t (decimal (pos h.0) 0)) (sym h.1)
      (whole_spells h.0)))
  | inl d ↦ elim (pos_of d.0.0) [
    | inr negative ↦ inr (λ h. negative (
      h.0,
      ap (λ (x : Decimal). x.0)
          (number_once w d.0 (decimal (pos h.0) 0) d.1 (subst (λ t. Spells t (decimal (pos h.0) 0)) (sym h.1)
          (whole_spells h.0))),
    ))
    | inl n ↦ by_iff (λ e. (n.0, e)) (λ h. again d.0 d.1 n.0 n.1 h.0 h.1) (text_decided w (whole_text n.0))
  ]
]
  where
    pos_same : (m n : ℕ) → pos m ≡ pos n → m ≡ n
    pos_same m n e = cc

    again : (d : Decimal) → Spells w d → (n : ℕ) → d.0 ≡ pos n → (m : ℕ) → w ≡ whole_text m → w ≡ whole_text n
    again d s n is m e =
        let same = ap (λ (x : Decimal). x.0) (number_once w d (decimal (pos m) 0) s
        (subst (λ t. Spells t (decimal (pos m) 0)) (sym e) (whole_spells m))) in
        e ∙ ap whole_text (pos_same m n (sym same ∙ is))

day_decided : (w : Text) → Decided ((d : Day) × (w ≡ day_word d))
day_decided w = by_iff
    (λ h. (day_of h.0 h.1 h.2 h.3.exists, h.3.written))
    (λ h. (h.0.year, h.0.month, h.0.day, day_spells w h.0 h.1))
    (day_spelled_decided w)
  where
    day_of : (y m d : ℕ) → IsDay y m d → Day
    day_of y m d h = record { year = y; month = m; day = d; exists = h }

value_decided : (w : Text) → Decided ((v : NamedValue) × IsValue v × (w ≡ value_word v))
value_decided w = elim (value_word_decided w) [
  | inr none ↦ inr (λ h. none (h.0, subst (λ t. IsValueWord t h.0) (sym h.2) (value_given h.0 h.1)))
  | inl v ↦ by_iff (λ e. (v.0, record { named = v.1.named; kept = v.1.kept }, e))
      (λ h. h.2 ∙ ap value_word (value_once w h.0 v.0 (subst (λ t. IsValueWord t h.0) (sym h.2) (value_given h.0 h.1))
      v.1))
      (text_decided w (value_word v.0))
]

values_decided : (ws : List Text) → Decided ((vs : List NamedValue) × AllByRecursion IsValue vs ×
    (ws ≡ map value_word vs))
values_decided [] = inl ([], tt, refl)
values_decided (w ∷ ws) = elim (value_decided w) [
  | inr none ↦ inr (λ h. no_first none h.0 h.1 h.2)
  | inl v ↦ elim (values_decided ws) [
    | inr none ↦ inr (λ h. no_rest none h.0 h.1 h.2)
    | inl vs ↦ inl (v.0 ∷ vs.0, (v.1, vs.1), ap₂ (λ x xs. x ∷ xs) v.2 vs.2)
  ]
]
  where
    no_first : (((v : NamedValue) × IsValue v × (w ≡ value_word v)) → ⊥) → (vs : List NamedValue) →
        AllByRecursion IsValue vs → w ∷ ws ≡ map value_word vs → ⊥
    no_first none [] h e = cc
    no_first none (v ∷ vs) h e = (let s : w ≡ value_word v = cc in none (v, h.0, s))

    no_rest : (((vs : List NamedValue) × AllByRecursion IsValue vs × (ws ≡ map value_word vs)) → ⊥) →
        (vs : List NamedValue) → AllByRecursion IsValue vs → w ∷ ws ≡ map value_word vs → ⊥
    no_rest none [] h e = cc
    no_rest none (v ∷ vs) h e = (let s : ws ≡ map value_word vs = cc in none (vs, h.1, s))

-- ---- the words of items

words_decided : (a b : List Text) → Decided (a ≡ b)
words_decided [] [] = inl refl
words_decided [] (y ∷ b) = inr (λ e. cc)
words_decided (x ∷ a) [] = inr (λ e. cc)
words_decided (x ∷ a) (y ∷ b) = by_iff (λ h. ap₂ (λ z zs. z ∷ zs) h.0 h.1) (λ e. (head_same e, tail_same e))
    (both (text_decided x y) (words_decided a b))
  where
    head_same : x ∷ a ≡ y ∷ b → x ≡ y
    head_same e = cc

    tail_same : x ∷ a ≡ y ∷ b → a ≡ b
    tail_same e = cc

lt_decided : (m n : ℕ) → Decided (m < n)
lt_decided m n = elim (cases_lt m n) [ inl less ↦ inl less | inr past ↦ inr (λ h. omega arith) ]

-- one number behind a word
count_decided : (f : Text) (ws : List Text) → Decided ((n : ℕ) × (ws ≡ f ∷ whole_text n ∷ []))
count_decided f [] = inr (λ h. let e = h.1 in cc)
count_decided f (g ∷ []) = inr (λ h. let e = h.1 in cc)
count_decided f (g ∷ x ∷ y ∷ more) = inr (λ h. let e = h.1 in cc)
count_decided f (g ∷ x ∷ []) = by_iff (λ h. (h.1.0, joined h.1.0 h.0 h.1.1))
    (λ h. (first h.0 h.1, (h.0, second h.0 h.1))) (both (text_decided g f) (whole_decided x))
  where
    joined : (n : ℕ) → g ≡ f → x ≡ whole_text n → g ∷ x ∷ [] ≡ f ∷ whole_text n ∷ []
    joined n p q = cc

    first : (n : ℕ) → g ∷ x ∷ [] ≡ f ∷ whole_text n ∷ [] → g ≡ f
    first n e = cc

    second : (n : ℕ) → g ∷ x ∷ [] ≡ f ∷ whole_text n ∷ [] → x ≡ whole_text n
    second n e = cc

work_decided : (ws : List Text) → Decided ((a : ℕ) × (b : ℕ) × (ws ≡ work_words a b))
work_decided [] = inr (λ h. let e = h.2 in cc)
work_decided (f ∷ []) = inr (λ h. let e = h.2 in cc)
work_decided (f ∷ x ∷ []) = inr (λ h. let e = h.2 in cc)
work_decided (f ∷ x ∷ y ∷ z ∷ more) = inr (λ h. let e = h.2 in cc)
work_decided (f ∷ x ∷ y ∷ []) =
    by_iff (λ h. (h.1.0.0, h.1.1.0, joined h.1.0.0 h.1.1.0 h.0 h.1.0.1 h.1.1.1))
    (λ h. (first h.0 h.1 h.2, ((h.0, second h.0 h.1 h.2), (h.1, third h.0 h.1 h.2))))
    (both (text_decided f (codes "work")) (both (whole_decided x) (whole_decided y)))
  where
    joined : (a b : ℕ) → f ≡ codes "work" → x ≡ whole_text a → y ≡ whole_text b → f ∷ x ∷ y ∷ [] ≡ work_words a b
    joined a b p q r = cc

    first : (a b : ℕ) → f ∷ x ∷ y ∷ [] ≡ work_words a b → f ≡ codes "work"
    first a b e = cc

    second : (a b : ℕ) → f ∷ x ∷ y ∷ [] ≡ work_words a b → x ≡ whole_text a
    second a b e = cc

    third : (a b : ℕ) → f ∷ x ∷ y ∷ [] ≡ work_words a b → y ≡ whole_text b
    third a b e = cc

plan_words_decided : (ws : List Text) → Decided ((d : Day) × (a : ℕ) × (b : ℕ) × (ws ≡ plan_words d a b))
plan_words_decided [] = inr (λ h. let e = h.3 in cc)
plan_words_decided (f ∷ []) = inr (λ h. let e = h.3 in cc)
plan_words_decided (f ∷ w ∷ []) = inr (λ h. let e = h.3 in cc)
plan_words_decided (f ∷ w ∷ x ∷ []) = inr (λ h. let e = h.3 in cc)
plan_words_decided (f ∷ w ∷ x ∷ y ∷ z ∷ more) = inr (λ h. let e = h.3 in cc)
plan_words_decided (f ∷ w ∷ x ∷ y ∷ []) =
    by_iff (λ h. (h.1.0.0, h.1.1.0.0, h.1.1.1.0, joined h.1.0.0 h.1.1.0.0 h.1.1.1.0 h.0 h.1.0.1 h.1.1.0.1 h.1.1.1.1))
    (λ h. (
      first h.0 h.1 h.2 h.3,
      (
        (h.0, second h.0 h.1 h.2 h.3),
        ((h.1, third h.0 h.1 h.2 h.3), (h.2, fourth h.0 h.1 h.2 h.3)),
      ),
    ))
    (both (text_decided f (codes "plan")) (both (day_decided w) (both (whole_decided x) (whole_decided y))))
  where
    joined : (d : Day) (a b : ℕ) → f ≡ codes "plan" → w ≡ day_word d → x ≡ whole_text a → y ≡ whole_text b →
        f ∷ w ∷ x ∷ y ∷ [] ≡ plan_words d a b
    joined d a b p q r s = cc

    first : (d : Day) (a b : ℕ) → f ∷ w ∷ x ∷ y ∷ [] ≡ plan_words d a b → f ≡ codes "plan"
    first d a b e = cc

    second : (d : Day) (a b : ℕ) → f ∷ w ∷ x ∷ y ∷ [] ≡ plan_words d a b → w ≡ day_word d
    second d a b e = cc

    third : (d : Day) (a b : ℕ) → f ∷ w ∷ x ∷ y ∷ [] ≡ plan_words d a b → x ≡ whole_text a
    third d a b e = cc

    fourth : (d : Day) (a b : ℕ) → f ∷ w ∷ x ∷ y ∷ [] ≡ plan_words d a b → y ≡ whole_text b
    fourth d a b e = cc

less_decided : (o : Ordering) → Decided (o ≡ Less)
less_decided Less = inl refl
less_decided Equal = inr (λ e. cc)
less_decided Greater = inr (λ e. cc)

all_decided : {X : Type 0} (P : X → Type 0) → ((x : X) → Decided (P x)) → (xs : List X) → Decided (AllByRecursion P xs)
all_decided P d [] = inl tt
all_decided P d (x ∷ xs) = both (d x) (all_decided P d xs)

above_decided : (n : List ℕ) (vs : List NamedValue) → Decided (AreAbove name_cmp name_of n vs)
above_decided n [] = inl tt
above_decided n (v ∷ vs) = both (less_decided (name_cmp n v.name)) (above_decided n vs)

rising_decided : (vs : List NamedValue) → Decided (IsRising name_cmp name_of vs)
rising_decided [] = inl tt
rising_decided (v ∷ vs) = both (above_decided v.name vs) (rising_decided vs)

are_values_decided : (vs : List NamedValue) → Decided (AreValues vs)
are_values_decided vs = by_iff (λ h. record { rising = h.0; few = h.1 }) (λ h. (h.rising, h.few))
    (both (rising_decided vs) (le_decided (length vs) 256))
  where
    le_decided : (m n : ℕ) → Decided (m ≤ n)
    le_decided m n = elim (cases_lt n m) [ inl more ↦ inr (λ h. omega arith) | inr le ↦ inl le ]

record RunParts (f e d : Text) (ws : List Text) : Type 0 where
  first : f ≡ codes "run"
  employee : IsTrue (is_employee e)
  day : Day
  day_is : d ≡ day_word day
  values : List NamedValue
  each : AllByRecursion IsValue values
  words : ws ≡ map value_word values

parts_decided : (f e d : Text) (ws : List Text) → Decided (RunParts f e d ws)
parts_decided f e d ws =
    by_iff (λ h. record {
      first = h.0;
      employee = h.1.0;
      day = h.1.1.0.0;
      day_is = h.1.1.0.1;
      values = h.1.1.1.0;
      each = h.1.1.1.1;
      words = h.1.1.1.2;
    })
    (λ h. (h.first, (h.employee, ((h.day, h.day_is), (h.values, h.each, h.words)))))
    (both (text_decided f (codes "run")) (both (true_decided (is_employee e))
    (both (day_decided d) (values_decided ws))))

parts_of : (f e d : Text) (ws : List Text) (r : Record) → IsRun r → f ∷ e ∷ d ∷ ws ≡ run_words r → RunParts f e d ws
parts_of f e d ws r h same =
    let who : e ≡ r.employee = cc in
    let p : f ≡ codes "run" = cc in
    let q : d ≡ day_word r.day = cc in
    let s : ws ≡ map value_word r.values = cc in
    record {
      first = p;
      employee = subst (λ x. IsTrue (is_employee x)) (sym who) h.employee;
      day = r.day;
      day_is = q;
      values = r.values;
      each = h.each;
      words = s;
    }

run_decided : (ws : List Text) → Decided ((r : Record) × IsRun r × (ws ≡ run_words r))
run_decided [] = inr (λ h. let e = h.2 in cc)
run_decided (f ∷ []) = inr (λ h. let e = h.2 in cc)
run_decided (f ∷ e ∷ []) = inr (λ h. let e = h.2 in cc)
run_decided (f ∷ e ∷ d ∷ ws) = elim (parts_decided f e d ws) [
  | inr none ↦ inr (λ h. none (parts_of f e d ws h.0 h.1 h.2))
  | inl p ↦ elim (are_values_decided p.values) [
    | inl good ↦ inl (made p, record { employee = p.employee; values = good; each = p.each }, joined p)
    | inr bad ↦ inr (λ h. bad (subst AreValues (same_values h.0.values h.1.each p (values_are h.0 h.2)) h.1.values))
  ]
]
  where
    made : RunParts f e d ws → Record
    made p = record { employee = e; day = p.day; values = p.values }

    joined : (p : RunParts f e d ws) → f ∷ e ∷ d ∷ ws ≡ run_words (made p)
    joined p = ap (λ x. x ∷ e ∷ d ∷ ws) p.first ∙ ap (λ x. codes "run" ∷ e ∷ x ∷ ws) p.day_is
        ∙ ap (λ x. codes "run" ∷ e ∷ day_word p.day ∷ x) p.words

    values_are : (r : Record) → f ∷ e ∷ d ∷ ws ≡ run_words r → ws ≡ map value_word r.values
    values_are r same = cc

    same_values : (vs : List NamedValue) → AllByRecursion IsValue vs → (p : RunParts f e d ws) →
        ws ≡ map value_word vs → vs ≡ p.values
    same_values vs h p w = values_once vs p.values h p.each (sym w ∙ p.words)

-- ---- the next item

record FirstLine (bytes : Text) : Type 0 where
  text : Text
  left : Text
  is : IsLine bytes text left

line_decided : (bytes : Text) → FirstLine bytes ⊎ Misses 10 bytes
line_decided bytes = elim (cut_at 10 bytes) [
  | inl c ↦ inl (record { text = c.0; left = c.1; is = record { cut = c.3; ends = c.2 } })
  | inr none ↦ inr none
]

-- so many bytes stand first
record Leads (bytes : Text) (n : ℕ) : Type 0 where
  front : Text
  back : Text
  long : length front ≡ n
  parts : bytes ≡ front ++ back

leads_decided : (bytes : Text) (n : ℕ) → Decided (Leads bytes n)
leads_decided bytes zero = inl (record { front = []; back = bytes; long = refl; parts = refl })
leads_decided [] (suc n) = inr (λ h. let l = ap length h.parts in omega
    (arith, h.long, l, length-append h.front h.back))
leads_decided (b ∷ bytes) (suc n) = by_iff
    (λ h. record { front = b ∷ h.front; back = h.back; long = omega (arith, h.long); parts = ap (λ x. b ∷ x) h.parts })
    (λ h. rest h.front h.back h.long h.parts)
    (leads_decided bytes n)
  where
    rest : (front back : Text) → length front ≡ suc n → b ∷ bytes ≡ front ++ back → Leads bytes n
    rest [] back l e = absurd (omega (arith, l))
    rest (x ∷ xs) back l e = (let t : bytes ≡ xs ++ back = cc in record {
      front = xs;
      back = back;
      long = omega (arith, l);
      parts = t;
    })

record Bodies (left : Text) (a b : ℕ) : Type 0 where
  first : Text
  second : Text
  rest : Text
  first_long : length first ≡ a
  second_long : length second ≡ b
  text : left ≡ (first ++ (second ++ (10 ∷ []))) ++ rest

bodies_text : (p l rest : Text) → (p ++ (l ++ (10 ∷ []))) ++ rest ≡ p ++ (l ++ (10 ∷ rest))
bodies_text p l rest = append_assoc p (l ++ (10 ∷ [])) rest ∙ ap (λ t. p ++ t) (append_assoc l (10 ∷ []) rest)

second_back : (left : Text) (a b : ℕ) (p : Leads left a) (h : Bodies left a b) → p.back ≡ h.second ++ (10 ∷ h.rest)
second_back left a b p h = (same_length_cut p.front h.first p.back (h.second ++ (10 ∷ h.rest))
    (p.long ∙ sym h.first_long) (sym p.parts ∙ h.text ∙ bodies_text h.first h.second h.rest)).1

feed_decided : (bytes : Text) → Decided ((rest : Text) × (bytes ≡ 10 ∷ rest))
feed_decided [] = inr (λ h. let e = h.1 in cc)
feed_decided (x ∷ xs) = elim (cases_eq x 10) [
  | inl same ↦ inl (xs, ap (λ y. y ∷ xs) same)
  | inr other ↦ inr (λ h. other (first_same h.0 h.1))
]
  where
    first_same : (rest : Text) → x ∷ xs ≡ 10 ∷ rest → x ≡ 10
    first_same rest e = cc

bodies_decided : (left : Text) (a b : ℕ) → Decided (Bodies left a b)
bodies_decided left a b = elim (leads_decided left a) [
  | inr none ↦ inr (λ h. none (record {
    front = h.first;
    back = h.second ++ (10 ∷ h.rest);
    long = h.first_long;
    parts = h.text ∙ bodies_text h.first h.second h.rest;
  }))
  | inl p ↦ elim (leads_decided p.back b) [
    | inr none ↦ inr (λ h. none (record {
      front = h.second;
      back = 10 ∷ h.rest;
      long = h.second_long;
      parts = second_back left a b p h;
    }))
    | inl q ↦ elim (feed_decided q.back) [
      | inr none ↦ inr (λ h. none (
        h.rest,
        (same_length_cut q.front h.second q.back (10 ∷ h.rest)
            (q.long ∙ sym h.second_long) (sym q.parts ∙ second_back left a b p h)).1,
      ))
      | inl r ↦ inl (record {
        first = p.front;
        second = q.front;
        rest = r.0;
        first_long = p.long;
        second_long = q.long;
        text = p.parts ∙ ap (λ t. p.front ++ t) (q.parts ∙ ap (λ t. q.front ++ t) r.1)
            ∙ sym (bodies_text p.front q.front r.0);
      })
    ]
  ]
]

module _ (bytes : Text) (l : FirstLine bytes) where
  seen : List Text
  seen = take 260 (slice_split is_space l.text)

  title_next : Decided (Goes nothing bytes)
  unfolding seen
  title_next = elim (words_decided seen title_words) [
    | inl e ↦ inl (record {
      item = title;
      fits = tt;
      rest = l.left;
      text = line_is bytes l.text l.left seen l.is refl title_words (omega arith) e;
    })
    | inr none ↦ inr (λ g. none_nothing bytes l.text l.left seen l.is refl none g.item g.rest g.fits g.text)
  ]

  work_next : Decided (Goes titled bytes)
  unfolding seen
  work_next = elim (work_decided seen) [
    | inr none ↦ inr (λ g. none_titled bytes l.text l.left seen l.is refl
        (λ a b h e. none (a, b, e)) g.item g.rest g.fits g.text)
    | inl w ↦ elim (both (lt_decided w.0 (2 ^ 64)) (lt_decided w.1 (2 ^ 64))) [
      | inl fits ↦ inl (record {
        item = work w.0 w.1;
        fits = record { runs_fit = fits.0; steps_fit = fits.1 };
        rest = l.left;
        text = line_is bytes l.text l.left seen l.is refl (work_words w.0 w.1) (omega arith) w.2;
      })
      | inr wide ↦ inr (λ g. none_titled bytes l.text l.left seen l.is refl
          (λ a b h e. let s = work_words_once w.0 w.1 a b (sym w.2 ∙ e) in wide
          (subst (λ (n : ℕ). n < 2 ^ 64) (sym s.0) h.runs_fit, subst (λ (n : ℕ). n < 2 ^ 64) (sym s.1) h.steps_fit))
          g.item g.rest g.fits g.text)
    ]
  ]

  plan_count_next : (a b : ℕ) → Decided (Goes (worked a b) bytes)
  unfolding seen
  plan_count_next a b = elim (count_decided (codes "plans") seen) [
    | inr none ↦ inr (λ g. none_worked bytes l.text l.left seen l.is refl
        (λ n small e. none (n, e)) a b g.item g.rest g.fits g.text)
    | inl c ↦ elim (cases_lt 64 c.0) [
      | inl many ↦ inr (λ g. none_worked bytes l.text l.left seen l.is refl
          (none_within (codes "plans") seen c.0 64 c.1 many) a b g.item g.rest g.fits g.text)
      | inr few ↦ inl (record {
        item = plan_count c.0;
        fits = few;
        rest = l.left;
        text = line_is bytes l.text l.left seen l.is refl (codes "plans" ∷ whole_text c.0 ∷ []) (omega arith) c.1;
      })
    ]
  ]

  run_count_next : (a b : ℕ) (ps : List SavedPlan) → Decided (Goes (planning a b (length ps) ps) bytes)
  unfolding seen
  run_count_next a b ps = elim (count_decided (codes "runs") seen) [
    | inr none ↦ inr (λ g. none_planned bytes l.text l.left seen l.is refl
        (λ n small e. none (n, e)) a b ps g.item g.rest g.fits g.text)
    | inl c ↦ elim (cases_lt 50000 c.0) [
      | inl many ↦ inr (λ g. none_planned bytes l.text l.left seen l.is refl
          (none_within (codes "runs") seen c.0 50000 c.1 many) a b ps g.item g.rest g.fits g.text)
      | inr few ↦ inl (record {
        item = run_count c.0;
        fits = (refl, few);
        rest = l.left;
        text = line_is bytes l.text l.left seen l.is refl (codes "runs" ∷ whole_text c.0 ∷ []) (omega arith) c.1;
      })
    ]
  ]

  plan_next : (a b n : ℕ) (ps : List SavedPlan) → length ps < n → Decided (Goes (planning a b n ps) bytes)
  unfolding seen
  plan_next a b n ps more = elim (plan_words_decided seen) [
    | inr none ↦ inr (λ g. only_plans (λ p rest later e. none
        (p.day, length p.plan, length p.limits, (plan_is bytes l.text l.left seen l.is refl p rest e).0)) g.item
        g.rest g.fits g.text)
    | inl w ↦ elim (bodies_decided l.left w.1 w.2) [
      | inr none ↦ inr (λ g. only_plans (λ p rest later e. no_bodies w none p rest e) g.item g.rest g.fits g.text)
      | inl t ↦ elim (all_decided (λ (q : SavedPlan). day_cmp q.day w.0 ≡ Less)
          (λ q. less_decided (day_cmp q.day w.0)) ps) [
            | inr early ↦ inr (λ g. only_plans (λ p rest later e. early
                (subst (λ (d : Day). AllByRecursion (λ (q : SavedPlan). day_cmp q.day d ≡ Less) ps)
                (same_day_of w p rest e) later)) g.item g.rest g.fits g.text)
            | inl late ↦ inl (record {
              item = plan (saved_plan w.0 t.first t.second);
              fits = (more, late);
              rest = t.rest;
              text = line_is bytes l.text l.left seen l.is refl (plan_words w.0 w.1 w.2) (omega arith) w.3
                  ∙ ap (λ x. line_of_words (plan_words w.0 x w.2) ++ l.left) (sym t.first_long)
                  ∙ ap (λ x. line_of_words (plan_words w.0 (length t.first) x) ++ l.left) (sym t.second_long)
                  ∙ ap (λ x. line_of_words (plan_words w.0 (length t.first) (length t.second)) ++ x) t.text
                  ∙ sym (append_assoc (line_of_words (plan_words w.0 (length t.first) (length t.second)))
                  (t.first ++ (t.second ++ (10 ∷ []))) t.rest);
            })
          ]
    ]
  ]
    where
      only_plans : ((p : SavedPlan) (rest : Text) → IsLater ps p → bytes ≡ saved_plan_text p ++ rest → ⊥) →
          (i : Item) (rest : Text) → Fits (planning a b n ps) i → bytes ≡ item_text i ++ rest → ⊥
      only_plans none (plan p) rest fits e = none p rest fits.1 e
      only_plans none (run_count m) rest fits e = omega (arith, fits.0, more)
      only_plans none i rest fits e = fits

      no_bodies : (w : (d : Day) × (x : ℕ) × (y : ℕ) × (seen ≡ plan_words d x y)) → (Bodies l.left w.1 w.2 → ⊥) →
          (p : SavedPlan) (rest : Text) → bytes ≡ saved_plan_text p ++ rest → ⊥
      no_bodies w none p rest e =
          let h = plan_is bytes l.text l.left seen l.is refl p rest e in
          let same = plan_words_once p.day w.0 (length p.plan) (length p.limits) w.1 w.2 (sym h.0 ∙ w.3) in
          none (record {
            first = p.plan;
            second = p.limits;
            rest = rest;
            first_long = same.1;
            second_long = same.2;
            text = h.1;
          })

      same_day_of : (w : (d : Day) × (x : ℕ) × (y : ℕ) × (seen ≡ plan_words d x y)) (p : SavedPlan) (rest : Text) →
          bytes ≡ saved_plan_text p ++ rest → p.day ≡ w.0
      same_day_of w p rest e =
          (plan_words_once p.day w.0 (length p.plan) (length p.limits) w.1 w.2
          (sym (plan_is bytes l.text l.left seen l.is refl p rest e).0 ∙ w.3)).0

  run_next : (a b n : ℕ) (ps : List SavedPlan) (rs : List Record) → length rs < n →
      Decided (Goes (running a b ps n rs) bytes)
  unfolding seen
  run_next a b n ps rs more = elim (run_decided seen) [
    | inr none ↦ inr (λ g. only_runs (λ r rest h beyond e. none
        (r, h, run_seen bytes l.text l.left seen l.is refl r rest h e)) g.item g.rest g.fits g.text)
    | inl r ↦ elim (all_decided (λ q. key_cmp (key_of q) (key_of r.0) ≡ Less)
        (λ q. less_decided (key_cmp (key_of q) (key_of r.0))) rs) [
          | inr early ↦ inr (λ g. only_runs (λ q rest h beyond e. early
              (subst (IsBeyond rs) (run_words_once q r.0 h r.1 (sym
              (run_seen bytes l.text l.left seen l.is refl q rest h e) ∙ r.2)) beyond)) g.item g.rest g.fits g.text)
          | inl late ↦ inl (record {
            item = run r.0;
            fits = (more, r.1, late);
            rest = l.left;
            text = line_is bytes l.text l.left seen l.is refl (run_words r.0) (run_few r.0 r.1) r.2;
          })
        ]
  ]
    where
      only_runs : ((r : Record) (rest : Text) → IsRun r → IsBeyond rs r → bytes ≡ saved_run_text r ++ rest → ⊥) →
          (i : Item) (rest : Text) → Fits (running a b ps n rs) i → bytes ≡ item_text i ++ rest → ⊥
      only_runs none (run r) rest fits e = none r rest fits.1 fits.2 e
      only_runs none i rest fits e = fits

  next_decided : (f : FirstItems) → Decided (Goes f bytes)
  next_decided nothing = title_next
  next_decided titled = work_next
  next_decided (worked a b) = plan_count_next a b
  next_decided (planning a b n ps) = elim (cases_lt (length ps) n) [
    | inl more ↦ plan_next a b n ps more
    | inr enough ↦ elim (cases_lt n (length ps)) [
      | inl past ↦ inr (λ g. never g.item g.fits past)
      | inr all ↦ subst (λ m. Decided (Goes (planning a b m ps) bytes)) (even enough all) (run_count_next a b ps)
    ]
  ]
    where
      even : n ≤ length ps → length ps ≤ n → length ps ≡ n
      even le ge = omega (arith, le, ge)

      never : (i : Item) → Fits (planning a b n ps) i → n < length ps → ⊥
      never (plan p) fits past = omega (arith, fits.0, past)
      never (run_count m) fits past = omega (arith, fits.0, past)
      never i fits past = fits
  next_decided (running a b ps n rs) = elim (cases_lt (length rs) n) [
    | inl more ↦ run_next a b n ps rs more
    | inr full ↦ inr (λ g. never g.item g.fits full)
  ]
    where
      never : (i : Item) → Fits (running a b ps n rs) i → n ≤ length rs → ⊥
      never (run r) fits full = omega (arith, fits.0, full)
      never i fits full = fits

goes_decided : (f : FirstItems) (bytes : Text) → Decided (Goes f bytes)
goes_decided f bytes = elim (line_decided bytes) [
  | inl l ↦ next_decided bytes l f
  | inr none ↦ inr (λ g. no_item bytes none g.item g.rest g.text)
]

-- ---- the whole text

ends_decided : (f : FirstItems) (bytes : Text) → Decided (Ends f bytes)
ends_decided nothing bytes = inr (λ h. let e = h.all in cc)
ends_decided titled bytes = inr (λ h. let e = h.all in cc)
ends_decided (worked a b) bytes = inr (λ h. let e = h.all in cc)
ends_decided (planning a b n ps) bytes = inr (λ h. let e = h.all in cc)
ends_decided (running a b ps n rs) bytes = by_iff
    (λ h. record {
      saved = record { runs = a; steps = b; plans = ps; records = rs };
      all = ap (λ m. running a b ps m rs) h.0;
      last = h.1;
    })
    (λ h. (full h.saved h.all, h.last))
    (both (eq_decided n (length rs)) (text_decided bytes end_text))
  where
    full : (s : Saved) → running a b ps n rs ≡ all_of s → n ≡ length rs
    full s e =
        let count : n ≡ length s.records = cc in
        let same : rs ≡ s.records = cc in
        count ∙ ap length (sym same)

pub item_some : (i : Item) → 0 < length (item_text i)
item_some title = omega arith
item_some (work a b) = omega arith
item_some (plan_count n) = omega arith
item_some (plan p) = omega arith
item_some (run_count n) = omega arith
item_some (run r) = omega arith

text_go : (fuel : ℕ) (bytes : Text) (f : FirstItems) (rest : Text) → AreFirstItems f → bytes ≡ front_text f ++ rest →
    length rest < fuel → (r : Result Saved Stop) × TextSays bytes r
text_go zero bytes f rest sound text enough = absurd (omega (arith, enough))
text_go (suc fuel) bytes f rest sound text enough = elim (goes_decided f rest) [
  | inr none ↦ elim (ends_decided f rest) [
    | inl e ↦ (Ok e.saved, ends_text bytes f rest sound text e)
    | inr more ↦ (Err (record { item = items_in f + 1; at = length (front_text f); plans = plans_of_first f }), stops bytes f rest sound text none more)
  ]
  | inl g ↦ text_go fuel bytes (with_item f g.item) g.rest (sound_more f g.item sound g.fits)
      (text ∙ ap (λ t. front_text f ++ t) g.text ∙ sym (append_assoc (front_text f) (item_text g.item) g.rest)
      ∙ ap (λ t. t ++ g.rest) (sym (text_more f g.item g.fits)))
      (left_shorter g)
]
  where
    left_shorter : (g : Goes f rest) → length g.rest < fuel
    left_shorter g = (let l = ap length g.text in omega (
      arith,
      l,
      enough,
      item_some g.item,
      length-append
          (item_text g.item) g.rest,
    ))

pub text_some : (bytes : Text) → (r : Result Saved Stop) × TextSays bytes r
text_some bytes = text_go (length bytes + 1) bytes nothing bytes tt refl (omega arith)
