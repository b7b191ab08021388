-- The ranges of declared names as the table of declarations shows them.
use Rattle.std.specs.Prelude.{ℕ, ◌==◌, Bool, if◌then◌else◌, unwrap_or, List, [], ◌++◌, codes, filter, slice_get}
use Rattle.std.specs.Fmt.{decimal}
use Rattle.std.specs.List.{flat_map}
use Rattle.std.specs.Option.{option_map_or}
use Rattle.std.specs.Str.{bytes_eq}
use Rattle.scaled_decimal.specs.Decimals as decimals
use Rattle.scaled_decimal.specs.PlainTexts.{plain_text}
use Rattle.interval_num.specs.Intervals.{Interval}
use Rattle.limits_file.specs.declared.limits.Binding.{Binding}
use Rattle.limits_file.specs.declared.limits.Carry.{Carry}
use Rattle.limits_file.specs.declared.limits.Carry.TheVariants.{Sum, Last, Count}
use Rattle.limits_file.specs.declared.limits.InputLimit.{InputLimit}
use Rattle.limits_file.specs.declared.limits.Limits.{Limits}
use Rattle.limits_file.specs.Limits.{limit_named}
use Rattle.interval_analysis.specs.declared.fault.RangeFault.TheVariants as walks
use Rattle.pap_plan.specs.declared.refusal.PlanRefusal.{PlanRefusal}
use Rattle.pap_plan.specs.declared.refusal.PlanRefusal.TheVariants as refusals
use Rattle.flowchart_page.specs.Findings.{Finding, accepted, refused}

-- how many digits the values of an input have behind the point at most, where they may have some
abbrev pub places_text : ℕ → List ℕ
places_text places =
    if places == 0 then [] else
    (if places == 1 then codes ", 1 place" else codes ", " ++ (decimal places ++ codes " places"))

-- the limit of an input: LOW to HIGH, as plain decimals, and the places
abbrev pub limit_text : InputLimit → List ℕ
limit_text limit =
    plain_text limit.low ++ (codes " to " ++ (plain_text limit.high ++ places_text limit.places))

-- what an input carries over
abbrev pub carry_text : Carry → List ℕ
carry_text (Sum output) = codes "; sum of " ++ (output ++ codes " so far")
carry_text (Last output) = codes "; last " ++ output
carry_text Count = codes "; number of runs so far"

-- what an input of a name carries over by some bindings
abbrev pub carries_text : List Binding → List ℕ → List ℕ
carries_text bindings name =
    flat_map (λ binding. carry_text binding.carry) (filter (λ binding. bytes_eq binding.input name) bindings)

-- what the range file says of an input of a name: its limit, and what it carries over
abbrev pub input_text : Limits → List ℕ → List ℕ
input_text limits name =
    option_map_or limit_text (limit_named limits name) [] ++ carries_text limits.bindings name

-- LOW to HIGH: both ends of a range, as plain decimals at its greatest scale
abbrev pub range_text : Interval → List ℕ
range_text range =
    plain_text (decimals.decimal range.lo range.s_hi) ++ (codes " to " ++ plain_text (decimals.decimal range.hi range.s_hi))

-- that the values of an output may be too long or too great, where they may
abbrev pub wide_text : Bool → List ℕ
wide_text is_wide = if is_wide then codes "may have more than 12 places, or exceed 10^20" else []

-- what a refusal says of the values of an output of a name, where the plan is refused for them
abbrev pub refused_output_text : PlanRefusal → List ℕ → List ℕ
refused_output_text (refusals.Range (walks.Output output)) name = wide_text (bytes_eq output name)
refused_output_text _ name = []

-- the range of the output of a number and a name that was found: that of an accepted plan
abbrev pub output_text : Finding → ℕ → List ℕ → List ℕ
output_text (accepted m) number name = option_map_or (λ output. range_text output.range) (slice_get m.outputs number) []
output_text (refused r) number name = refused_output_text r name
output_text _ number name = []

-- the range of the internal of a number over the whole run, where one is known
abbrev pub internal_text : List (List ℕ) → ℕ → List ℕ
internal_text internals number = unwrap_or (slice_get internals number) []
