-- The inputs that are filled, whatever the earlier runs, are admitted by the limits of an accepted plan.
use Rattle.std.proofs.Common.{◌≡◌, ℕ, suc, ◌<◌, List, [], ◌∷◌, length, Bool, true, false, not, cond, refl, sym, ap, ◌∙◌, subst, arith}
use Rattle.std.specs.Prelude.{Option, Some, None, option_map, All, is_none}
use Rattle.std.specs.List.{cons_option, AllByRecursion}
use Rattle.std.specs.Option.{option_map_or}
use Rattle.scaled_decimal.specs.Decimals.{Decimal}
use Rattle.scaled_decimal.specs.Limits.{IsKept}
use Rattle.pap_tree.specs.declared.declaration.Kind.{Kind}
use Rattle.pap_tree.specs.declared.declaration.Kind.TheVariants as kinds
use Rattle.pap_tree.specs.Declarations.{Declaration}
use Rattle.limits_file.specs.declared.limits.InputLimit.{InputLimit}
use Rattle.limits_file.specs.declared.limits.Limits.{Limits}
use Rattle.limits_file.specs.declared.slots.Slot.{Slot}
use Rattle.limits_file.specs.Limits.{Fits, HasSoundBounds}
use Rattle.payroll_records.specs.declared.day.Day.{Day}
use Rattle.payroll_records.specs.declared.values.NamedValue.{NamedValue}
use Rattle.carry_bindings.specs.Conditions.{KeepsFactorLimit}
use Rattle.carry_bindings.specs.Filling.{value_of, fits, missing, outside, inputs, waits, unknown, first_of, filled_by}
use Rattle.carry_bindings.specs.declared.carried.Earlier.{Earlier}
use Rattle.carry_bindings.specs.declared.filling.Filled.TheVariants as filled
use Rattle.carry_bindings.proofs.Laws.{told}
use Rattle.pap_types.specs.Scopes.{kept_as}
use Rattle.interval_walk.specs.Admission.{SuitsLimit, HasLimit, FitsAs, AllAdmitted}
use Rattle.interval_walk.proofs.Laws.{factor_admitted}
use Rattle.pap_plan.specs.Inputs.{IsSlot, AreSlots}

pub not_false : (b : Bool) → not b ≡ false → b ≡ true
not_false true e = cc
not_false false e = cc

-- ---- slots

-- the limit of a slot is that of the declaration
pub slot_limit : (l : Limits) (d : Declaration) (s : Slot) → HasLimit l d → IsSlot l d s →
    HasSoundBounds s.limit × SuitsLimit s.kind s.limit
slot_limit l d s h is =
    let same : h.limit ≡ s.limit = some_same (sym h.is ∙ is.limit) in
    let suits = subst (λ x. SuitsLimit d.kind x) same h.suits in
    (subst HasSoundBounds same h.sound, subst (λ k. SuitsLimit k s.limit) (sym is.kind) suits)
  where
    some_same : {x y : InputLimit} → ◌≡◌ {A = Option InputLimit} (Some x) (Some y) → x ≡ y
    some_same e = cc e

pub suits_kinds : (l : Limits) (ds : List Declaration) (slots : List Slot) → All (HasLimit l) ds → AreSlots l ds slots →
    AllByRecursion KeepsFactorLimit slots
suits_kinds l [] [] h k = tt
suits_kinds l [] (s ∷ slots) h k = absurd k
suits_kinds l (d ∷ ds) [] h k = absurd k
suits_kinds l (d ∷ ds) (s ∷ slots) h k = (
  λ e. subst (λ (x : Kind). SuitsLimit x s.limit) e (slot_limit l d s (h 0 d (omega arith)) k.0).1,
  suits_kinds l ds slots (λ i x lt. h (suc i) x (omega arith)) k.1,
)

-- ---- values

-- a value that fits, as a variable of the input's type keeps it
fits_as : (kind : Kind) (l : InputLimit) (v : Decimal) → HasSoundBounds l → SuitsLimit kind l → Fits l v →
    FitsAs kind l (kept_as kind v)
fits_as kinds.Factor l v sound suits fit = (factor_admitted l v sound suits fit).fits
fits_as kinds.Int l v sound suits fit = fit
fits_as kinds.Long l v sound suits fit = fit
fits_as kinds.Big l v sound suits fit = fit
fits_as kinds.Table l v sound suits fit = fit

-- ---- inputs

-- the answer that has the inputs
pub first_inputs : (a : Option Day) (b c d : Option (List ℕ)) (e vs : List Decimal) → first_of a b c d e ≡ filled.Inputs vs → (c ≡ None) × (d ≡ None) × (e ≡ vs)
first_inputs (Some x) b c d e vs h = cc
first_inputs None (Some x) c d e vs h = cc
first_inputs None None (Some x) d e vs h = cc
first_inputs None None None (Some x) e vs h = cc
first_inputs None None None None e vs h = (refl, refl, cc)

pub none_at : (b : Bool) (s : Slot) (rest : Option Slot) → option_map (λ (x : Slot). x.name) (cond b (Some s) rest) ≡ None → (b ≡ false) × (option_map (λ (x : Slot). x.name) rest ≡ None)
none_at true s rest h = cc
none_at false s rest h = (refl, h)

some_given : {A : Type 0} (o : Option A) → is_none o ≡ false → (v : A) × (o ≡ Some v)
some_given None h = cc
some_given (Some v) h = (v, refl)

module _ (l : Limits) (values : List NamedValue) (earlier : List Earlier) where
  admitted : (ds : List Declaration) (slots : List Slot) (vs : List Decimal) → All (HasLimit l) ds →
      AreSlots l ds slots → All IsKept vs → missing slots values earlier ≡ None → outside slots values earlier ≡ None →
      inputs slots values earlier ≡ vs → AllAdmitted l ds vs
  admitted [] [] [] h k kept m o e = tt
  admitted [] [] (v ∷ vs) h k kept m o e = cc
  admitted [] (s ∷ slots) vs h k kept m o e = absurd k
  admitted (d ∷ ds) [] vs h k kept m o e = absurd k
  admitted (d ∷ ds) (s ∷ slots) vs h k kept m o e =
      let m' = none_at (is_none (value_of values earlier s)) s _ m in
      let o' = none_at (not (option_map_or (fits s.limit) (value_of values earlier s) true)) s _ o in
      let v = some_given (value_of values earlier s) m'.0 in
      let inside = ap (λ x. not (option_map_or (fits s.limit) x true)) (sym v.1) ∙ o'.0 in
      let fit = (told s.limit v.0).0 (not_false (fits s.limit v.0) inside) in
      let first : kept_as s.kind v.0 ∷ inputs slots values earlier ≡ vs =
      sym (ap (λ x. cons_option (option_map (kept_as s.kind) x) (inputs slots values earlier)) v.1) ∙ e in
      let more = λ (i : ℕ) (y : Declaration) (lt : i < length ds). h (suc i) y (omega arith) in
      at v.0 fit (λ xs k' e'. admitted ds slots xs more k.1 k' m'.1 o'.1 e') vs kept first
    where
      at : (v : Decimal) → Fits s.limit v →
          ((xs : List Decimal) → All IsKept xs → inputs slots values earlier ≡ xs → AllAdmitted l ds xs) →
          (vs : List Decimal) → All IsKept vs → kept_as s.kind v ∷ inputs slots values earlier ≡ vs →
          AllAdmitted l (d ∷ ds) vs
      at v fit more [] kept e = cc
      at v fit more (x ∷ xs) kept e =
          let same : kept_as s.kind v ≡ x = cc in
          let rest : inputs slots values earlier ≡ xs = cc in
          let limit = slot_limit l d s (h 0 d (omega arith)) k.0 in
          let kept_fits = subst (λ y. FitsAs s.kind s.limit y) same (fits_as s.kind s.limit v limit.0 limit.1 fit) in (
            record {
              limit = s.limit;
              is = k.0.limit;
              admitted = record {
                kept = kept 0 x (omega arith);
                fits = subst (λ (y : Kind). FitsAs y s.limit x) k.0.kind kept_fits;
              };
            },
            more xs (λ i y lt. kept (suc i) y (omega arith)) rest,
          )

-- the inputs that are filled are admitted
pub filled_admitted : (l : Limits) (ds : List Declaration) (slots : List Slot) (values : List NamedValue)
    (earlier : List Earlier) (vs : List Decimal) → All (HasLimit l) ds → AreSlots l ds slots → All IsKept vs →
    filled_by slots values earlier ≡ filled.Inputs vs → AllAdmitted l ds vs
filled_admitted l ds slots values earlier vs h k kept e =
    let parts = first_inputs (waits slots earlier) (unknown slots values) (missing slots values earlier) (outside slots values earlier) (inputs slots values earlier) vs e in
    admitted l values earlier ds slots vs h k kept parts.0 parts.1 parts.2
