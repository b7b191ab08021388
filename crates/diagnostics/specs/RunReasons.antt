-- All reasons why a run without earlier ones has no inputs; the answer of the first is the one that `filled` names (docs/PROFILE.md,
-- "The inputs of a run").
use Rattle.std.specs.Prelude.{◌≡◌, ℕ, Bool, List, [], ◌++◌, Option, Some, None, if◌then◌else◌, not, is_none, map, filter, option_map, option_and_then, slice_get}
use Rattle.std.specs.List.{filter_map, list_any}
use Rattle.std.specs.Str.{bytes_eq}
use Rattle.scaled_decimal.specs.Decimals.{Decimal}
use Rattle.limits_file.specs.declared.slots.Slot.{Slot}
use Rattle.payroll_records.specs.declared.values.NamedValue.{NamedValue}
use Rattle.carry_bindings.specs.declared.filling.Blocked.{Blocked}
use Rattle.carry_bindings.specs.declared.filling.Filled.{Filled}
use Rattle.carry_bindings.specs.declared.filling.Filled.TheVariants as filling
use Rattle.carry_bindings.specs.Filling.{takes, value_of, fits}
use Rattle.pay_run.specs.Accepted.{Accepted}
use Rattle.pay_run.specs.Runs.{filled, slots_of}
use Rattle.plain_words.specs.declared.state.RunReason.{RunReason}
use Rattle.plain_words.specs.declared.state.RunReason.TheVariants as reasons
use Rattle.plain_words.specs.States.{blocked_by}

-- whether there is an input of this name
abbrev pub has_slot : List Slot → List ℕ → Bool
has_slot slots name = list_any (λ s. bytes_eq s.name name) slots

-- why no input takes a value of this name: the one of this name carries, or there is none
abbrev pub untaken_reason : List Slot → List ℕ → RunReason
untaken_reason slots name = if has_slot slots name then reasons.Carried name else reasons.Unknown name

-- 1. each value that names no input, or one that carries
abbrev pub unknown_reasons : List Slot → List NamedValue → List RunReason
unknown_reasons slots values = map (λ v. untaken_reason slots v.name) (filter (λ v. not (takes slots v.name)) values)

-- 2. each declared input without a value
abbrev pub missing_reasons : List Slot → List NamedValue → List RunReason
missing_reasons slots values =
    map (λ s. reasons.Missing s.name) (filter (λ s. is_none (value_of values [] s)) slots)

-- a value of an input that doesn't fit its limit, with the limit; none where it fits
abbrev pub unfit_reason : Slot → Decimal → Option RunReason
unfit_reason s value = if fits s.limit value then None else Some (reasons.Outside s.name value s.limit)

-- an input whose value doesn't fit its limit, with both; none where it fits, or where it has no value
abbrev pub outside_reason : List NamedValue → Slot → Option RunReason
outside_reason values s = option_and_then (unfit_reason s) (value_of values [] s)

-- 3. each declared input whose value doesn't fit its limit, with both
abbrev pub outside_reasons : List Slot → List NamedValue → List RunReason
outside_reasons slots values = filter_map (outside_reason values) slots

-- all of them, in the order in which the first is looked for
abbrev pub reasons_by : List Slot → List NamedValue → List RunReason
reasons_by slots values =
    unknown_reasons slots values ++ (missing_reasons slots values ++ outside_reasons slots values)

-- all reasons why a plan's run on these values has no inputs
unfoldable pub run_reasons : Accepted → List NamedValue → List RunReason
run_reasons p values = reasons_by (slots_of p) values

-- ---- a law: the first of them is the one that is named

-- the reason that is named, where there are no inputs
abbrev pub named_reason : Filled → Option Blocked
named_reason (filling.Inputs inputs) = None
named_reason (filling.State why) = Some why

-- the first of all reasons tells more of the one that `filled` names, and there is none where it gives inputs
abbrev pub FirstReasonIsNamed : Type 0
FirstReasonIsNamed =
    (p : Accepted) (values : List NamedValue)
    → option_map blocked_by (slice_get (run_reasons p values) 0) ≡ named_reason (filled p values [])
