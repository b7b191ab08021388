-- Where no input carries, what is filled in doesn't depend on the earlier runs.
use Rattle.std.proofs.Common.{◌≡◌, ℕ, Bool, true, false, cond, List, [], ◌∷◌, Option, Some, None, refl, sym, ap, ap₂, ◌∙◌}
use Rattle.std.specs.Prelude.{is_none, is_some, not}
use Rattle.std.specs.Option.{option_map, option_map_or}
use Rattle.std.specs.List.{cons_option, find}
use Rattle.std.proofs.lemmas.Bool.{or_parts, true≢false}
use Rattle.scaled_decimal.specs.Decimals.{Decimal}
use Rattle.pap_types.specs.Scopes.{kept_as}
use Rattle.limits_file.specs.declared.limits.Carry.{Carry}
use Rattle.limits_file.specs.declared.slots.Slot.{Slot}
use Rattle.payroll_records.specs.declared.day.Day.{Day}
use Rattle.payroll_records.specs.declared.values.NamedValue.{NamedValue}
use Rattle.carry_bindings.specs.declared.carried.Earlier.{Earlier}
use Rattle.carry_bindings.specs.Filling.{ReadsNothing, first_of, fits, has_carry, inputs, missing, outside, unknown, value_by, value_of, waits}

module _ (values : List NamedValue) (earlier : List Earlier) where
  value_by_same : (carry : Option Carry) (given : Option Decimal) → is_some carry ≡ false → value_by carry given earlier ≡ value_by carry given []
  value_by_same None given h = refl
  value_by_same (Some carry) given h = absurd (true≢false h)

  value_same : (s : Slot) → is_some s.carry ≡ false → value_of values earlier s ≡ value_of values [] s
  value_same s h = value_by_same s.carry _ h

  find_same : (test : Slot → Option Decimal → Bool) (slots : List Slot) → has_carry slots ≡ false →
      find (λ s. test s (value_of values earlier s)) slots ≡ find (λ s. test s (value_of values [] s)) slots
  find_same test [] h = refl
  find_same test (s ∷ ss) h =
      let none = or_parts (is_some s.carry) (has_carry ss) h in
      ap₂ (λ v rest. cond (test s v) (Some s) rest) (value_same s none.0) (find_same test ss none.1)

  inputs_same : (slots : List Slot) → has_carry slots ≡ false → inputs slots values earlier ≡ inputs slots values []
  inputs_same [] h = refl
  inputs_same (s ∷ ss) h =
      let none = or_parts (is_some s.carry) (has_carry ss) h in
      ap₂ (λ v rest. cons_option (option_map (kept_as s.kind) v) rest) (value_same s none.0) (inputs_same ss none.1)

  waits_none : (slots : List Slot) → has_carry slots ≡ false → waits slots earlier ≡ None
  waits_none slots h = ap (λ b. cond b (option_map (λ e. e.day) (find (λ e. is_none e.outputs) earlier)) None) h

pub reads_nothing : (slots : List Slot) → has_carry slots ≡ false → ReadsNothing slots
reads_nothing slots h values earlier =
    let strange = unknown slots values in
    let lacking = ap (option_map (λ s. s.name)) (find_same values earlier (λ s v. is_none v) slots h) in
    let beyond = ap (option_map (λ s. s.name)) (find_same values earlier (λ s v. not (option_map_or (fits s.limit) v true)) slots h) in
    ap₂ (λ w m. first_of w strange m (outside slots values earlier) (inputs slots values earlier)) (waits_none values earlier slots h ∙ sym (waits_none values [] slots h)) lacking
    ∙ ap₂ (λ o is. first_of (waits slots []) strange (missing slots values []) o is) beyond (inputs_same values earlier slots h)
