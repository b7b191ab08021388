-- The inputs of a run that stands alone are those of the plan whose range file fills none from earlier runs.
use Rattle.std.proofs.Common.{◌≡◌, suc, List, [], ◌∷◌, map, refl, sym, ap, subst, ◌∙◌, arith}
use Rattle.std.specs.Prelude.{Option, Some, None, All, option_map, slice_get}
use Rattle.std.specs.List.{AllByRecursion}
use Rattle.scaled_decimal.specs.Decimals.{Decimal}
use Rattle.scaled_decimal.specs.Limits.{IsKept}
use Rattle.pap_tree.specs.declared.declaration.Kind.{Kind}
use Rattle.pap_tree.specs.Declarations.{Declaration}
use Rattle.limits_file.specs.declared.limits.InputLimit.{InputLimit}
use Rattle.limits_file.specs.declared.limits.Limits.{Limits}
use Rattle.limits_file.specs.declared.slots.Slot.{Slot}
use Rattle.payroll_records.specs.declared.values.NamedValue.{NamedValue}
use Rattle.carry_bindings.specs.Conditions.{KeepsFactorLimit}
use Rattle.carry_bindings.specs.Filling.{filled_by}
use Rattle.carry_bindings.specs.declared.filling.Blocked.{Blocked}
use Rattle.carry_bindings.specs.declared.filling.Filled.{Filled}
use Rattle.carry_bindings.specs.declared.filling.Filled.TheVariants as filling
use Rattle.interval_walk.specs.Admission.{SuitsLimit, HasLimit, HaveLimits, AllAdmitted}
use Rattle.pap_plan.specs.Acceptance.{IsAccepted}
use Rattle.pap_plan.specs.Inputs.{IsSlot, AreSlots}
use Rattle.pap_plan.proofs.Laws.{accepted_limits}
use Rattle.pay_run.specs.Accepted.{Accepted}
use Rattle.pay_run.specs.RunClauses.{Fills, AdmitsFilled}
use Rattle.pay_run.proofs.Laws.{filled_slots, filled_admitted}
use Rattle.plain_words.specs.declared.state.RunReason.{RunReason}
use Rattle.plain_words.specs.States.{blocked_by}
use Rattle.diagnostics.specs.RunReasons.{named_reason, reasons_by, run_reasons}
use Rattle.diagnostics.proofs.Laws.{first_named, slots_reasons}
use Rattle.author_cli.specs.Given.{unbound, unbound_plan, filled_given}
use Rattle.author_cli.specs.private.GivenViews.{unbound_slot}

some_same : {x y : InputLimit} → ◌≡◌ {A = Option InputLimit} (Some x) (Some y) → x ≡ y
some_same e = cc e

-- ---- the inputs without what they carry over

are_unbound : (l : Limits) (ds : List Declaration) (ss : List Slot) → AreSlots l ds ss
    → AreSlots (unbound l) ds (map unbound_slot ss)
are_unbound l [] [] h = h
are_unbound l [] (s ∷ ss) h = absurd h
are_unbound l (d ∷ ds) [] h = absurd h
are_unbound l (d ∷ ds) (s ∷ ss) h =
    let one : IsSlot (unbound l) d (unbound_slot s) = record {
      name = h.0.name;
      kind = h.0.kind;
      limit = h.0.limit;
      value = h.0.value;
      carry = refl;
    } in
    (one, are_unbound l ds ss h.1)

limit_unbound : (l : Limits) (d : Declaration) → HasLimit l d → HasLimit (unbound l) d
limit_unbound l d h = record { limit = h.limit; is = h.is; sound = h.sound; suits = h.suits }

limits_unbound : (l : Limits) (ds : List Declaration) → All (HasLimit l) ds → All (HasLimit (unbound l)) ds
limits_unbound l ds h = λ i d lt. limit_unbound l _ (h i d lt)

-- what the ranges admit, they admit with what is carried over
admitted_bound : (l : Limits) (ds : List Declaration) (vs : List Decimal) → AllAdmitted (unbound l) ds vs → AllAdmitted l ds vs
admitted_bound l [] [] h = h
admitted_bound l [] (v ∷ vs) h = absurd h
admitted_bound l (d ∷ ds) [] h = absurd h
admitted_bound l (d ∷ ds) (v ∷ vs) h =
    (record { limit = h.0.limit; is = h.0.is; admitted = h.0.admitted }, admitted_bound l ds vs h.1)

-- ---- limits of `double` inputs

keeps : (l : Limits) (d : Declaration) (s : Slot) → HasLimit l d → IsSlot l d s → KeepsFactorLimit s
keeps l d s h is =
    let same : h.limit ≡ s.limit = some_same (sym h.is ∙ is.limit) in
    let suits = subst (λ x. SuitsLimit d.kind x) same h.suits in
    λ e. subst (λ (k : Kind). SuitsLimit k s.limit) e (subst (λ k. SuitsLimit k s.limit) (sym is.kind) suits)

keep_all : (l : Limits) (ds : List Declaration) (ss : List Slot) → All (HasLimit l) ds → AreSlots l ds ss
    → AllByRecursion KeepsFactorLimit ss
keep_all l [] [] h k = tt
keep_all l [] (s ∷ ss) h k = absurd k
keep_all l (d ∷ ds) [] h k = absurd k
keep_all l (d ∷ ds) (s ∷ ss) h k =
    (keeps l d s (h 0 d (omega arith)) k.0, keep_all l ds ss (λ i x lt. h (suc i) x (omega arith)) k.1)

-- ---- what is filled

module _ (p : Accepted) (accepted : IsAccepted p.plan p.limits p.meaning) (slots : List Slot)
    (are : AreSlots p.meaning.limits p.meaning.flowchart.inputs slots) where
  limited : HaveLimits p.meaning.flowchart p.meaning.limits
  limited = accepted_limits p.plan p.limits p.meaning accepted

  alone : AreSlots (unbound p.meaning.limits) p.meaning.flowchart.inputs (map unbound_slot slots)
  alone = are_unbound p.meaning.limits p.meaning.flowchart.inputs slots are

  unbound_limited : All (HasLimit (unbound p.meaning.limits)) p.meaning.flowchart.inputs
  unbound_limited = limits_unbound p.meaning.limits p.meaning.flowchart.inputs limited

  pub unbound_doubles : AllByRecursion KeepsFactorLimit (map unbound_slot slots)
  unbound_doubles =
      keep_all (unbound p.meaning.limits) p.meaning.flowchart.inputs (map unbound_slot slots) unbound_limited alone

  given_is : (values : List NamedValue) (f : Filled) → f ≡ filled_by (map unbound_slot slots) values [] → f ≡ filled_given p values
  given_is values f is = is ∙ filled_slots (unbound_plan p) (map unbound_slot slots) values [] alone

  -- inputs that are given are admitted
  pub gives_inputs : (values : List NamedValue) (inputs : List Decimal)
      → filling.Inputs inputs ≡ filled_by (map unbound_slot slots) values [] → All IsKept inputs
      → Fills p (filled_given p values) (filling.Inputs inputs)
  gives_inputs values inputs is kept = record {
    are = given_is values (filling.Inputs inputs) is;
    admitted = admitted_bound p.meaning.limits p.meaning.flowchart.inputs inputs
        (filled_admitted (unbound p.meaning.limits) p.meaning.flowchart.inputs (map unbound_slot slots) values [] inputs
        unbound_limited alone kept (sym is));
  }

  pub gives_none : (values : List NamedValue) (f : Filled) → f ≡ filled_by (map unbound_slot slots) values [] → AdmitsFilled p f
      → Fills p (filled_given p values) f
  gives_none values f is admitted = record { are = given_is values f is; admitted = admitted }

-- ---- why a run that stands alone has no inputs

-- the reasons of the inputs without what they carry over are those of the plan without it
pub alone_reasons : (p : Accepted) (slots : List Slot) (values : List NamedValue) (reasons : List RunReason)
    → AreSlots p.meaning.limits p.meaning.flowchart.inputs slots → reasons ≡ reasons_by (map unbound_slot slots) values
    → reasons ≡ run_reasons (unbound_plan p) values
alone_reasons p slots values reasons are is =
    slots_reasons (unbound_plan p) (map unbound_slot slots) values reasons
    (are_unbound p.meaning.limits p.meaning.flowchart.inputs slots are) is

-- the first of the reasons that are given is that of the run
pub first_given : (p : Accepted) (values : List NamedValue) (reasons given : List RunReason) (reason : RunReason)
    → reasons ≡ run_reasons (unbound_plan p) values → given ≡ reasons → Some reason ≡ slice_get given 0
    → slice_get (run_reasons (unbound_plan p) values) 0 ≡ Some reason
first_given p values reasons given reason are same is = ap (λ rs. slice_get rs 0) (sym (same ∙ are)) ∙ sym is

-- a run that has no inputs has a reason
pub has_reason : (p : Accepted) (values : List NamedValue) (state : Blocked) (reasons given : List RunReason)
    → filled_given p values ≡ filling.State state → reasons ≡ run_reasons (unbound_plan p) values → given ≡ reasons
    → ◌≡◌ {A = Option RunReason} None (slice_get given 0) → ⊥
has_reason p values state reasons given blocked are same empty =
    let named = first_named (unbound_plan p) values ∙ ap named_reason blocked in
    let none = ap (λ o. option_map blocked_by o) empty ∙ ap (λ rs. option_map blocked_by (slice_get rs 0)) (same ∙ are) in
    let e : ◌≡◌ {A = Option Blocked} None (Some state) = none ∙ named in
    cc e

some_state : {x y : Blocked} → ◌≡◌ {A = Option Blocked} (Some x) (Some y) → x ≡ y
some_state e = cc e

-- the first reason tells more of the state of a run that has no inputs
pub answers_state : (p : Accepted) (values : List NamedValue) (state : Blocked) (reason : RunReason)
    → filled_given p values ≡ filling.State state → slice_get (run_reasons (unbound_plan p) values) 0 ≡ Some reason
    → blocked_by reason ≡ state
answers_state p values state reason none first =
    some_state (sym (ap (λ o. option_map blocked_by o) first) ∙ first_named (unbound_plan p) values ∙ ap named_reason none)
