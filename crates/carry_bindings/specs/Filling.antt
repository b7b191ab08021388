-- The inputs of a run, or what it waits for or lacks: the first answer that applies (docs/PROFILE.md, "The inputs of a run").
use Rattle.std.specs.Prelude.{◌≡◌, ◌↔◌, IsTrue, ℕ, List, [], Option, Some, None, Bool, true, not, ◌&&◌, nat_le, if◌then◌else◌, is_some, is_none, option_map}
use Rattle.std.specs.Option.{option_or, option_map_or}
use Rattle.std.specs.List.{find, filter_map, list_any}
use Rattle.std.specs.Ordering.{is_gt}
use Rattle.std.specs.Str.{bytes_eq}
use Rattle.scaled_decimal.specs.Decimals.{Decimal, scale_of, value_order}
use Rattle.pap_types.specs.Scopes.{kept_as}
use Rattle.limits_file.specs.declared.limits.InputLimit.{InputLimit}
use Rattle.limits_file.specs.declared.slots.Slot.{Slot}
use Rattle.limits_file.specs.declared.limits.Carry.{Carry}
use Rattle.limits_file.specs.Limits.{Fits}
use Rattle.payroll_records.specs.declared.day.Day.{Day}
use Rattle.payroll_records.specs.declared.values.NamedValue.{NamedValue}
use Rattle.payroll_records.specs.NamedValues.{value_at}
use Rattle.carry_bindings.specs.Carrying.{carried}
use Rattle.carry_bindings.specs.declared.carried.Earlier.{Earlier}
use Rattle.carry_bindings.specs.declared.filling.Blocked.TheVariants as blocked
use Rattle.carry_bindings.specs.declared.filling.Filled.{Filled}
use Rattle.carry_bindings.specs.declared.filling.Filled.TheVariants as filled

-- some input carries
abbrev pub has_carry : List Slot → Bool
has_carry slots = list_any (λ s. is_some s.carry) slots

-- 1. some input carries, and this is the day of the earliest earlier run that isn't ok
abbrev pub waits : List Slot → List Earlier → Option Day
waits slots earlier =
    if has_carry slots then option_map (λ e. e.day) (find (λ e. is_none e.outputs) earlier)
    else None

-- an input of this name that doesn't carry
abbrev pub takes : List Slot → List ℕ → Bool
takes slots name = list_any (λ s. bytes_eq s.name name && is_none s.carry) slots

-- 2. the first value of the record that names no input, or one that carries
abbrev pub unknown : List Slot → List NamedValue → Option (List ℕ)
unknown slots values = option_map (λ v. v.name) (find (λ v. not (takes slots v.name)) values)

-- the record's value of an input, or else its default
abbrev pub given_or_default : List NamedValue → Slot → Option Decimal
given_or_default values s = option_or (option_map (λ v. v.value) (value_at values s.name)) s.value

-- the value of an input: what it carries, or else what is given_or_default
abbrev pub value_by : Option Carry → Option Decimal → List Earlier → Option Decimal
value_by (Some carry) given_or_default earlier = Some (carried carry earlier)
value_by None given_or_default earlier = given_or_default

-- an input's value: what it carries over from earlier runs, or the record's value, or its default; none where it has
-- none of these
abbrev pub value_of : List NamedValue → List Earlier → Slot → Option Decimal
value_of values earlier s = value_by s.carry (given_or_default values s) earlier

-- 3. the first declared input without a value: it doesn't carry, and the record and the declaration give none
abbrev pub missing : List Slot → List NamedValue → List Earlier → Option (List ℕ)
missing slots values earlier =
    option_map (λ s. s.name) (find (λ s. is_none (value_of values earlier s)) slots)

-- whether a value fits a limit: `Fits` of limits_file, as a test (`FitsIsTold`)
abbrev pub fits : InputLimit → Decimal → Bool
fits limit value =
    nat_le (scale_of value) limit.places
    && not (is_gt (value_order limit.low value)) && not (is_gt (value_order value limit.high))

-- 4. the first declared input whose value doesn't fit its limit
abbrev pub outside : List Slot → List NamedValue → List Earlier → Option (List ℕ)
outside slots values earlier =
    option_map (λ s. s.name)
    (find (λ s. not (option_map_or (fits s.limit) (value_of values earlier s) true)) slots)

-- 5. the values in declared order, each as a variable of its input's type keeps it
abbrev pub inputs : List Slot → List NamedValue → List Earlier → List Decimal
inputs slots values earlier =
    filter_map (λ s. option_map (kept_as s.kind) (value_of values earlier s)) slots

-- the inputs, or the first of the four reasons that there is: a run waits, a value is unknown, one is missing, one is
-- outside its limit
abbrev pub first_of :
    Option Day → Option (List ℕ) → Option (List ℕ) → Option (List ℕ) → List Decimal → Filled
first_of (Some day) unknown missing outside values = filled.State (blocked.Waits day)
first_of None (Some name) missing outside values = filled.State (blocked.Unknown name)
first_of None None (Some name) outside values = filled.State (blocked.Missing name)
first_of None None None (Some name) values = filled.State (blocked.Range name)
first_of None None None None values = filled.Inputs values

-- the inputs of a run, or the first of the four reasons why it has none
abbrev pub filled_by : List Slot → List NamedValue → List Earlier → Filled
filled_by slots values earlier =
    first_of (waits slots earlier) (unknown slots values) (missing slots values earlier)
    (outside slots values earlier)
    (inputs slots values earlier)

-- what is filled in is the same whatever the earlier runs came to
abbrev pub ReadsNothing : List Slot → Type 0
ReadsNothing slots =
    (values : List NamedValue) (earlier : List Earlier)
    → filled_by slots values earlier ≡ filled_by slots values []

-- ---- a law: `fits` is true exactly where the value fits the limit

-- the test `fits` is true exactly where the value fits the limit
abbrev pub FitsIsTold : Type 0
FitsIsTold = (limit : InputLimit) (value : Decimal) → IsTrue (fits limit value) ↔ Fits limit value
