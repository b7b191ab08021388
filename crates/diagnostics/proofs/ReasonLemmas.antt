-- The reasons that each value and each input add, and the first of all.
use Rattle.std.proofs.Common.{◌≡◌, ℕ, zero, suc, ◌+◌, ◌<◌, List, [], ◌∷◌, ◌++◌, take, get_or, length, Bool, true, false, cond, Option, Some, None, refl, sym, ap, ap₂, ◌∙◌, add-one, append_assoc, arith}
use Rattle.std.specs.Prelude.{map, filter, option_map, option_and_then, slice_get, not, is_none, is_some}
use Rattle.std.specs.List.{cons_option, filter_map, find}
use Rattle.std.specs.Option.{option_or, option_map_or, option_to_list}
use Rattle.std.proofs.lemmas.List.{map-append}
use Rattle.std.proofs.lemmas.List.Elements.{filter-append, filter_map-append}
use Rattle.std.proofs.Math.Seq.{take-suc}
use Rattle.scaled_decimal.specs.Decimals.{Decimal}
use Rattle.limits_file.specs.declared.slots.Slot.{Slot}
use Rattle.payroll_records.specs.declared.values.NamedValue.{NamedValue}
use Rattle.payroll_records.specs.NamedValues.{name_of}
use Rattle.carry_bindings.specs.declared.carried.Earlier.{Earlier}
use Rattle.pap_plan.specs.Inputs.{AreSlots}
use Rattle.pay_run.specs.Accepted.{Accepted}
use Rattle.pay_run.specs.Runs.{filled, slots_of}
use Rattle.pay_run.proofs.Laws.{are_slots}
use Rattle.carry_bindings.specs.declared.filling.Blocked.{Blocked}
use Rattle.carry_bindings.specs.declared.filling.Blocked.TheVariants as blocked
use Rattle.carry_bindings.specs.Filling.{first_of, fits, has_carry, inputs, missing, outside, takes, unknown, value_of, waits}
use Rattle.plain_words.specs.declared.state.RunReason.{RunReason}
use Rattle.plain_words.specs.declared.state.RunReason.TheVariants as whys
use Rattle.plain_words.specs.States.{blocked_by}
use Rattle.diagnostics.specs.RunReasons.{FirstReasonIsNamed, has_slot, missing_reasons, named_reason, outside_reason, outside_reasons, reasons_by, run_reasons, unfit_reason, unknown_reasons, untaken_reason}

-- ---- what is made of the elements that pass a test

module _ {X Y : Type 0} (f : X → Y) (p : X → Bool) where
  abbrev picked : List X → List Y
  picked xs = map f (filter p xs)

  picked-cons : (x : X) (xs : List X) → picked (x ∷ xs) ≡ cond (p x) (f x ∷ []) [] ++ picked xs
  picked-cons x xs = elim (p x) as (λ b. map f (cond b (x ∷ filter p xs) (filter p xs)) ≡ cond b (f x ∷ []) [] ++ map f (filter p xs)) [ true ↦ refl | false ↦ refl ]

  picked-one : (x : X) → picked (x ∷ []) ≡ cond (p x) (f x ∷ []) []
  picked-one x = elim (p x) as (λ b. map f (cond b (x ∷ []) []) ≡ cond b (f x ∷ []) []) [ true ↦ refl | false ↦ refl ]

  -- one element more
  pub picked_more : (xs : List X) (i : ℕ) (x : X) → i < length xs → x ≡ get_or xs i x → picked (take (i + 1) xs) ≡ picked (take i xs) ++ cond (p x) (f x ∷ []) []
  picked_more xs i x l is =
      let more : take (i + 1) xs ≡ take i xs ++ (x ∷ []) = rw (add-one, take-suc xs i x l, ← is) refl in
      ap picked more ∙ ap (map f) (filter-append p (take i xs) (x ∷ [])) ∙ map-append f (filter p (take i xs)) (filter p (x ∷ []))
      ∙ ap (λ t. picked (take i xs) ++ t) (picked-one x)

  -- the first that passes
  first_picked : (xs : List X) → slice_get (picked xs) 0 ≡ option_map f (find p xs)
  first_picked [] = refl
  first_picked (x ∷ xs) = elim (p x) as (λ b. slice_get (map f (cond b (x ∷ filter p xs) (filter p xs))) 0 ≡ option_map f (cond b (Some x) (find p xs))) [ true ↦ refl | false ↦ first_picked xs ]

-- ---- one value, one input

pub unknown_more : (slots : List Slot) (values : List NamedValue) (i : ℕ) (name : List ℕ) → i < length values → name ≡ get_or (map name_of values) i name →
    unknown_reasons slots (take (suc i) values) ≡ unknown_reasons slots (take i values) ++ cond (not (takes slots name)) (untaken_reason slots name ∷ []) []
unknown_more slots [] i name l is = absurd (omega arith)
unknown_more slots (v ∷ vs) zero name l is = rw is (picked-one (λ (w : NamedValue). untaken_reason slots w.name) (λ w. not (takes slots w.name)) v)
unknown_more slots (v ∷ vs) (suc i) name l is =
    let own = cond (not (takes slots v.name)) (untaken_reason slots v.name ∷ []) [] in
    let new = cond (not (takes slots name)) (untaken_reason slots name ∷ []) [] in
    let cons = picked-cons (λ (w : NamedValue). untaken_reason slots w.name) (λ w. not (takes slots w.name)) v in
    cons (take (suc i) vs) ∙ ap (λ t. own ++ t) (unknown_more slots vs i name (omega arith) is)
    ∙ sym (append_assoc own (unknown_reasons slots (take i vs)) new) ∙ ap (λ t. t ++ new) (sym (cons (take i vs)))

-- an option of which it is told whether it has nothing
pub none_told : {A : Type 0} (o : Option A) (b : Bool) → is_some o ≡ not b → b ≡ is_none o
none_told o true e = sym (ap not e)
none_told o false e = sym (ap not e)

pub missing_more : (slots : List Slot) (values : List NamedValue) (i : ℕ) (s : Slot) (lacks : Bool) → i < length slots → s ≡ get_or slots i s →
    lacks ≡ is_none (value_of values [] s) → missing_reasons (take i slots) values ++ cond lacks (whys.Missing s.name ∷ []) [] ≡ missing_reasons (take (i + 1) slots) values
missing_more slots values i s lacks l is e =
    ap (λ b. missing_reasons (take i slots) values ++ cond b (whys.Missing s.name ∷ []) []) e
    ∙ sym (picked_more (λ (t : Slot). whys.Missing t.name) (λ t. is_none (value_of values [] t)) slots i s l is)

-- what is made of one element, in a list
one_made : {X Y : Type 0} (f : X → Option Y) (x : X) (own : Option Y) → f x ≡ own → filter_map f (x ∷ []) ≡ option_to_list own
one_made f x None e = ap (λ o. filter_map (λ _. o) (x ∷ [])) e
one_made f x (Some y) e = ap (λ o. filter_map (λ _. o) (x ∷ [])) e

pub outside_more : (slots : List Slot) (values : List NamedValue) (i : ℕ) (s : Slot) (own : Option RunReason) → i < length slots → s ≡ get_or slots i s →
    own ≡ outside_reason values s →
    outside_reasons (take i slots) values ++ option_to_list own ≡ outside_reasons (take (i + 1) slots) values
outside_more slots values i s own l is e =
    let more : take (i + 1) slots ≡ take i slots ++ (s ∷ []) = rw (add-one, take-suc slots i s l, ← is) refl in
    sym (ap (λ ss. outside_reasons ss values) more ∙ filter_map-append (outside_reason values) (take i slots) (s ∷ [])
    ∙ ap (λ t. outside_reasons (take i slots) values ++ t) (one_made (outside_reason values) s own (sym e)))

-- ---- the first of all

first_append : {X : Type 0} (xs ys : List X) → slice_get (xs ++ ys) 0 ≡ option_or (slice_get xs 0) (slice_get ys 0)
first_append [] ys = refl
first_append (x ∷ xs) ys = refl

map_or : {X Y : Type 0} (f : X → Y) (a b : Option X) → option_map f (option_or a b) ≡ option_or (option_map f a) (option_map f b)
map_or f None b = refl
map_or f (Some x) b = refl

-- the answer of a reason that names what it is of
answer_of_name : {X : Type 0} (name : X → List ℕ) (f : List ℕ → RunReason) (g : List ℕ → Blocked) → ((n : List ℕ) → blocked_by (f n) ≡ g n) → (o : Option X) →
    option_map blocked_by (option_map (λ x. f (name x)) o) ≡ option_map g (option_map name o)
answer_of_name name f g is None = refl
answer_of_name name f g is (Some x) = ap Some (is (name x))

-- a value that no input takes is answered in one way, whichever the reason
untaken_blocked : (slots : List Slot) (name : List ℕ) → blocked_by (untaken_reason slots name) ≡ blocked.Unknown name
untaken_blocked slots name =
    elim (has_slot slots name) as (λ b. blocked_by (cond b (whys.Carried name) (whys.Unknown name)) ≡ blocked.Unknown name)
    [ true ↦ refl | false ↦ refl ]

-- one input before the others: either its value doesn't fit, or the first is among the others
outside_before : (s : Slot) (later : List RunReason) (found : Option Slot) (value : Option Decimal) →
    option_map blocked_by (slice_get later 0) ≡ option_map blocked.Range (option_map (λ (t : Slot). t.name) found) →
    option_map blocked_by (slice_get (cons_option (option_and_then (unfit_reason s) value) later) 0)
    ≡ option_map blocked.Range (option_map (λ (t : Slot). t.name) (cond (not (option_map_or (fits s.limit) value true)) (Some s) found))
outside_before s later found None h = h
outside_before s later found (Some value) h =
    elim (fits s.limit value) as (λ b. option_map blocked_by (slice_get (cons_option (cond b None (Some (whys.Outside s.name value s.limit))) later) 0)
    ≡ option_map blocked.Range (option_map (λ (t : Slot). t.name) (cond (not b) (Some s) found)))
    [ true ↦ h | false ↦ refl ]

first_outside : (slots : List Slot) (values : List NamedValue) →
    option_map blocked_by (slice_get (outside_reasons slots values) 0) ≡ option_map blocked.Range (outside slots values [])
first_outside [] values = refl
first_outside (s ∷ slots) values =
    outside_before s (outside_reasons slots values) (find (λ t. not (option_map_or (fits t.limit) (value_of values [] t) true)) slots) (value_of values [] s)
    (first_outside slots values)

first_by : (u m o : Option (List ℕ)) (values : List Decimal) →
    option_or (option_map blocked.Unknown u) (option_or (option_map blocked.Missing m) (option_map blocked.Range o))
    ≡ named_reason (first_of None u m o values)
first_by (Some name) m o values = refl
first_by None (Some name) o values = refl
first_by None None (Some name) values = refl
first_by None None None values = refl

-- without earlier runs none is waited for
waits_none : (slots : List Slot) → waits slots [] ≡ None
waits_none slots = elim (has_carry slots) as (λ b. cond b (option_map (λ (e : Earlier). e.day) None) None ≡ None) [ true ↦ refl | false ↦ refl ]

first_of_slots : (slots : List Slot) (values : List NamedValue) → option_map blocked_by (slice_get (reasons_by slots values) 0) ≡ named_reason (first_of (waits slots []) (unknown slots values) (missing slots values []) (outside slots values []) (inputs slots values []))
first_of_slots slots values =
    let strange = unknown_reasons slots values in
    let lacking = missing_reasons slots values in
    let beyond = outside_reasons slots values in
    let first_unknown : option_map blocked_by (slice_get strange 0) ≡ option_map blocked.Unknown (unknown slots values) =
    ap (λ o. option_map blocked_by o) (first_picked (λ (v : NamedValue). untaken_reason slots v.name) (λ v. not (takes slots v.name)) values)
    ∙ answer_of_name name_of (untaken_reason slots) blocked.Unknown (untaken_blocked slots) _ in
    let first_missing : option_map blocked_by (slice_get lacking 0) ≡ option_map blocked.Missing (missing slots values []) =
    ap (λ o. option_map blocked_by o) (first_picked (λ (s : Slot). whys.Missing s.name) (λ s. is_none (value_of values [] s)) slots)
    ∙ answer_of_name (λ (s : Slot). s.name) whys.Missing blocked.Missing (λ n. refl) _ in
    ap (λ o. option_map blocked_by o) (first_append strange (lacking ++ beyond) ∙ ap (λ o. option_or (slice_get strange 0) o) (first_append lacking beyond))
    ∙ map_or blocked_by (slice_get strange 0) (option_or (slice_get lacking 0) (slice_get beyond 0))
    ∙ ap₂ option_or first_unknown (map_or blocked_by (slice_get lacking 0) (slice_get beyond 0) ∙ ap₂ option_or first_missing (first_outside slots values))
    ∙ first_by (unknown slots values) (missing slots values []) (outside slots values []) (inputs slots values [])
    ∙ ap (λ w. named_reason (first_of w (unknown slots values) (missing slots values []) (outside slots values []) (inputs slots values []))) (sym (waits_none slots))

pub first_named : FirstReasonIsNamed
unfolding filled run_reasons
first_named p values = first_of_slots (slots_of p) values

-- the slots of a plan are those that its definition names
pub slots_reasons : (p : Accepted) (slots : List Slot) (values : List NamedValue) (reasons : List RunReason) → AreSlots p.meaning.limits p.meaning.flowchart.inputs slots →
    reasons ≡ reasons_by slots values → reasons ≡ run_reasons p values
unfolding run_reasons
slots_reasons p slots values reasons are is =
    is ∙ ap (λ s. reasons_by s values) (sym (are_slots p.meaning.limits p.meaning.flowchart.inputs slots are))

-- the lists behind one another
pub three_reasons : (slots : List Slot) (values : List NamedValue) (start one two three : List RunReason) → start ≡ [] → one ≡ start ++ unknown_reasons slots values →
    two ≡ one ++ missing_reasons slots values → three ≡ two ++ outside_reasons slots values → three ≡ reasons_by slots values
three_reasons slots values start one two three none first second third =
    third ∙ ap (λ l. l ++ outside_reasons slots values) (second ∙ ap (λ l. l ++ missing_reasons slots values) (first ∙ ap (λ l. l ++ unknown_reasons slots values) none))
    ∙ append_assoc (unknown_reasons slots values) (missing_reasons slots values) (outside_reasons slots values)
