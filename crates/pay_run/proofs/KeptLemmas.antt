-- Inputs that are filled from kept values, after earlier runs whose outputs keep their bound, are kept.
use Rattle.std.proofs.Common.{◌≡◌, ℕ, ◌+◌, ◌-◌, ◌≤◌, List, [], ◌∷◌, length, Bool, true, false, not, refl, sym, ◌∙◌, subst, arith}
use Rattle.std.specs.Prelude.{Option, Some, None, option_map, All, if◌then◌else◌, fold}
use Rattle.std.specs.List.{AllByRecursion, cons_option}
use Rattle.std.specs.Option.{option_or, option_map_or}
use Rattle.std.specs.Ordering.{is_eq}
use Rattle.std.proofs.lemmas.Int.{ints}
use Rattle.std.proofs.lemmas.List.Elements.{All-nil, All-cons, All-head, All-tail}
use Rattle.scaled_decimal.specs.Decimals.{Decimal, scale_of, numerator_of, sum}
use Rattle.scaled_decimal.specs.Limits.{IsKept}
use Rattle.pap_tree.specs.declared.declaration.Kind.{Kind}
use Rattle.pap_tree.specs.declared.declaration.Kind.TheVariants as kinds
use Rattle.pap_tree.specs.Declarations.{Declaration}
use Rattle.limits_file.specs.declared.limits.InputLimit.{InputLimit}
use Rattle.limits_file.specs.declared.limits.Limits.{Limits}
use Rattle.limits_file.specs.declared.limits.Carry.{Carry}
use Rattle.limits_file.specs.declared.limits.Carry.TheVariants.{Sum, Last, Count}
use Rattle.limits_file.specs.declared.slots.Slot.{Slot}
use Rattle.limits_file.specs.Limits.{Fits, HasSoundBounds, IsWithinBound}
use Rattle.payroll_records.specs.declared.values.NamedValue.{NamedValue}
use Rattle.payroll_records.specs.NamedValues.{name_cmp, value_at}
use Rattle.carry_bindings.specs.Carrying.{amount_of, amounts, zero_amount, carried}
use Rattle.carry_bindings.specs.Conditions.{AreBounded}
use Rattle.carry_bindings.specs.Filling.{value_by, given_or_default, value_of, fits, outside, inputs, missing, unknown, waits}
use Rattle.carry_bindings.specs.declared.carried.Earlier.{Earlier}
use Rattle.carry_bindings.specs.declared.filling.Filled.TheVariants as filling
use Rattle.carry_bindings.proofs.Laws.{IsPartial, sum_partial, abs_grows, amount_by, told}
use Rattle.pap_types.specs.Scopes.{kept_as}
use Rattle.pap_types.specs.Meaning.{IsSafeFor}
use Rattle.interval_walk.specs.Admission.{SuitsLimit, HasLimit}
use Rattle.interval_walk.proofs.Laws.{factor_admitted}
use Rattle.pap_plan.specs.Acceptance.{IsAccepted}
use Rattle.pap_plan.specs.Inputs.{IsSlot, AreSlots}
use Rattle.pay_run.specs.Accepted.{Accepted}
use Rattle.pap_plan.proofs.Laws.{HasKeptValue, accepted_limits, accepted_defaults, accepted_safe, some_slots}
use Rattle.pay_run.specs.Runs.{IsKeptValue, filled}
use Rattle.pay_run.proofs.AdmissionLemmas.{not_false, slot_limit, none_at, first_inputs, filled_admitted}
use Rattle.pay_run.proofs.RunLemmas.{filled_slots}

-- ---- carried values

partial_to : (m n : ℕ) (d : Decimal) → IsPartial m d → m ≤ n → IsPartial n d
partial_to m n d h l = record { places = h.places; bounded = omega (arith, h.bounded, l) }

partial_kept : (d : Decimal) → IsPartial 366 d → IsKept d
partial_kept d h = record { numerator = omega (arith, abs_grows (numerator_of d) (12 - scale_of d), h.bounded); scale = omega (arith, h.places) }

within_partial : (d : Decimal) → IsWithinBound d → IsPartial 366 d
within_partial d h = record { places = h.places; bounded = omega (arith, h.small) }

none_partial : (count : ℕ) → IsPartial count zero_amount
none_partial count = record { places = omega arith; bounded = omega arith }

amount_within : (name : List ℕ) (e : Earlier) (d : Decimal) → AreBounded e.outputs → amount_of name e ≡ Some d → IsWithinBound d
amount_within name e d h is = amount_by name e.outputs d h is

sums : (name : List ℕ) (es : List Earlier) (acc : Decimal) (count : ℕ) → IsPartial count acc → AllByRecursion (λ (e : Earlier). AreBounded e.outputs) es → count + length es ≤ 366 → IsPartial 366 (fold sum acc (amounts name es))
sums name [] acc count h b few = partial_to count 366 acc h (omega arith)
sums name (e ∷ es) acc count h b few =
    by (amount_of name e) (λ d is. amount_within name e d b.0 is) (λ more k. sums name es more (count + 1) k b.1 (omega arith))
  where
    by : (o : Option Decimal) → ((d : Decimal) → o ≡ Some d → IsWithinBound d) → ((more : Decimal) → IsPartial (count + 1) more → IsPartial 366 (fold sum more (amounts name es))) → IsPartial 366 (fold sum acc (cons_option o (amounts name es)))
    by None within rest = rest acc (partial_to count (count + 1) acc h (omega arith))
    by (Some d) within rest = rest (sum acc d) (sum_partial count (omega arith) acc d h (within d refl))

lasts : (name : List ℕ) (es : List Earlier) (acc : Decimal) → IsPartial 366 acc → AllByRecursion (λ (e : Earlier). AreBounded e.outputs) es → IsPartial 366 (fold (λ earlier d. d) acc (amounts name es))
lasts name [] acc h b = h
lasts name (e ∷ es) acc h b = by (amount_of name e) (λ d is. amount_within name e d b.0 is) (λ more k. lasts name es more k b.1)
  where
    by : (o : Option Decimal) → ((d : Decimal) → o ≡ Some d → IsWithinBound d) → ((more : Decimal) → IsPartial 366 more → IsPartial 366 (fold (λ earlier d. d) more (amounts name es))) → IsPartial 366 (fold (λ earlier d. d) acc (cons_option o (amounts name es)))
    by None within rest = rest acc h
    by (Some d) within rest = rest d (within_partial d (within d refl))

-- ---- values

under_kept : (values : List NamedValue) → All IsKeptValue values → (name : List ℕ) (d : Decimal) → option_map (λ (v : NamedValue). v.value) (value_at values name) ≡ Some d → IsKept d
under_kept [] h name d e = absurd (cc e)
under_kept (v ∷ vs) h name d e = by (is_eq (name_cmp v.name name)) e (under_kept vs (All-tail IsKeptValue v vs h) name d)
  where
    by : (b : Bool) → option_map (λ (x : NamedValue). x.value) (if b then Some v else value_at vs name) ≡ Some d
        → (option_map (λ (x : NamedValue). x.value) (value_at vs name) ≡ Some d → IsKept d) → IsKept d
    by true is more = let same : v.value ≡ d = cc in subst IsKept same (All-head IsKeptValue v vs h)
    by false is more = more is

either_kept : (o p : Option Decimal) → ((d : Decimal) → o ≡ Some d → IsKept d) → ((d : Decimal) → p ≡ Some d → IsKept d) → (d : Decimal) → option_or o p ≡ Some d → IsKept d
either_kept (Some x) p h k d e = h d e
either_kept None p h k d e = k d e

-- ---- inputs

input_kept : (kind : Kind) (limit : InputLimit) (v : Decimal) → HasSoundBounds limit → SuitsLimit kind limit →
    Fits limit v → IsKept v → IsKept (kept_as kind v)
input_kept kinds.Factor limit v sound suits fit k = (factor_admitted limit v sound suits fit).kept
input_kept kinds.Int limit v sound suits fit k = k
input_kept kinds.Long limit v sound suits fit k = k
input_kept kinds.Big limit v sound suits fit k = k
input_kept kinds.Table limit v sound suits fit k = k

module _ (l : Limits) (values : List NamedValue) (kept : All IsKeptValue values) (earlier : List Earlier) (few : length earlier ≤ 366) (bounded : AllByRecursion (λ (e : Earlier). AreBounded e.outputs) earlier) where
  carried_kept : (c : Carry) → IsKept (carried c earlier)
  carried_kept (Sum name) = partial_kept _ (sums name earlier zero_amount 0 (none_partial 0) bounded (omega (arith, few)))
  carried_kept (Last name) = partial_kept _ (lasts name earlier zero_amount (none_partial 366) bounded)
  carried_kept Count = record { numerator = omega (arith, ints, few); scale = omega arith }

  by_kept : (c : Option Carry) (o : Option Decimal) → ((d : Decimal) → o ≡ Some d → IsKept d) → (d : Decimal) → value_by c o earlier ≡ Some d → IsKept d
  by_kept (Some c) o h d e = let same : carried c earlier ≡ d = cc in subst IsKept same (carried_kept c)
  by_kept None o h d e = h d e

  -- the value of an input: given_or_default, or its default, or carried over
  value_kept : (d : Declaration) (s : Slot) → IsSlot l d s → HasKeptValue d → (v : Decimal) → value_of values earlier s ≡ Some v → IsKept v
  value_kept d s is h =
      by_kept s.carry (given_or_default values s) (either_kept (option_map (λ (x : NamedValue). x.value) (value_at values s.name)) s.value (under_kept values kept s.name) (λ v e. h v (sym is.value ∙ e)))

  inputs_kept : (ds : List Declaration) (slots : List Slot) → All (HasLimit l) ds → All HasKeptValue ds → AreSlots l ds slots → outside slots values earlier ≡ None → All IsKept (inputs slots values earlier)
  inputs_kept [] [] hl hd h o = All-nil IsKept
  inputs_kept [] (s ∷ slots) hl hd h o = absurd h
  inputs_kept (d ∷ ds) [] hl hd h o = absurd h
  inputs_kept (d ∷ ds) (s ∷ slots) hl hd h o =
      let o' = none_at (not (option_map_or (fits s.limit) (value_of values earlier s) true)) s _ o in
      let limit = slot_limit l d s (All-head (HasLimit l) d ds hl) h.0 in
      let rest = inputs_kept ds slots (All-tail (HasLimit l) d ds hl) (All-tail HasKeptValue d ds hd) h.1 o'.1 in
      by limit.0 limit.1 rest (value_of values earlier s) (value_kept d s h.0 (All-head HasKeptValue d ds hd)) o'.0
    where
      by : HasSoundBounds s.limit → SuitsLimit s.kind s.limit → All IsKept (inputs slots values earlier) → (x : Option Decimal) → ((v : Decimal) → x ≡ Some v → IsKept v)
          → not (option_map_or (fits s.limit) x true) ≡ false
          → All IsKept (cons_option (option_map (kept_as s.kind) x) (inputs slots values earlier))
      by sound suits rest None k t = rest
      by sound suits rest (Some v) k t =
          let fit = (told s.limit v).0 (not_false (fits s.limit v) t) in
          let first = input_kept s.kind s.limit v sound suits fit (k v refl) in
          All-cons IsKept (kept_as s.kind v) (inputs slots values earlier) first rest

-- ---- so a run on them is safe

pub filled_safe : (p : Accepted) (values : List NamedValue) (earlier : List Earlier) (vs : List Decimal) → IsAccepted p.plan p.limits p.meaning → All IsKeptValue values → length earlier ≤ 366 →
    AllByRecursion (λ (e : Earlier). AreBounded e.outputs) earlier → filled p values earlier ≡ filling.Inputs vs → IsSafeFor p.meaning.flowchart vs
filled_safe p values earlier vs accepted kept few bounded e =
    let l = p.meaning.limits in
    let ds = p.meaning.flowchart.inputs in
    let slots = some_slots l ds accepted.bound.suited.suited in
    let by_slots = filled_slots p slots.0 values earlier slots.1 ∙ e in
    let parts = first_inputs (waits slots.0 earlier) (unknown slots.0 values) (missing slots.0 values earlier) (outside slots.0 values earlier) (inputs slots.0 values earlier) vs by_slots in
    let limits = accepted_limits p.plan p.limits p.meaning accepted in
    let defaults = accepted_defaults p.plan p.limits p.meaning accepted in
    let all = inputs_kept l values kept earlier few bounded ds slots.0 limits defaults slots.1 parts.1 in
    accepted_safe p.plan p.limits p.meaning accepted vs
    (filled_admitted l ds slots.0 values earlier vs limits slots.1 (subst (λ t. All IsKept t) parts.2 all) by_slots)
