-- The walk of a whole plan from the limits of its inputs, and what it answers. Source: abstract interpretation by
-- intervals, with tests that refine them (docs/PROFILE.md, "Ranges of values").
use Rattle.std.specs.Prelude.{◌&&◌, not, nat_le, Bool, ◌++◌, map, length, take, drop, unsigned_abs, ℤ, Result, Ok, Err}
use Rattle.std.specs.List.{find}
use Rattle.std.specs.Option.{option_map_or}
use Rattle.scaled_decimal.specs.Decimals.{numerator_at}
use Rattle.pap_tree.specs.declared.declaration.Kind.{Kind}
use Rattle.pap_tree.specs.declared.declaration.Kind.TheVariants as declares
use Rattle.pap_tree.specs.Declarations.{Declaration}
use Rattle.pap_tree.specs.Flowchart.{Flowchart}
use Rattle.limits_file.specs.declared.limits.InputLimit.{InputLimit}
use Rattle.limits_file.specs.declared.limits.Limits.{Limits}
use Rattle.limits_file.specs.Limits.{output_places, output_limit, limit_named}
use Rattle.interval_num.specs.Intervals.{Interval, interval}
use Rattle.interval_num.specs.Alignment.{at_scale}
use Rattle.pap_types.specs.Scopes.{scope_of, first_value, factor_places}
use Rattle.pap_tree.specs.Names.{main_name}
use Rattle.pap_types.specs.Limits.{longest_chain}
use Rattle.interval_walk.specs.Ranges.{NamedRange, Ranges, single}
use Rattle.interval_walk.specs.Failures.{WalkFault, output_fails, and_then}
use Rattle.interval_walk.specs.Walked.{RangeCalls, walked, range_calls_of}

-- ---- the start

-- from a limit's low to its high bound, with no to all of its places; a `double` has three places
abbrev pub limit_range : Kind → InputLimit → Interval
limit_range declares.Factor l =
    interval (numerator_at factor_places l.low) (numerator_at factor_places l.high)
    factor_places factor_places
limit_range _ l = interval (numerator_at l.places l.low) (numerator_at l.places l.high) 0 l.places

-- an input at its limit
abbrev pub input_range : Limits → Declaration → NamedRange
input_range limits d = record {
  name = d.name;
  range = option_map_or (limit_range d.kind) (limit_named limits d.name) (single (first_value d));
}

-- another variable at what it begins with
abbrev pub first_range : Declaration → NamedRange
first_range d = record { name = d.name; range = single (first_value d) }

-- the ranges of the variables before the first statement
abbrev pub start_ranges : Flowchart → Limits → Ranges
start_ranges f limits =
    map (input_range limits) f.inputs ++ map first_range (f.outputs ++ f.internals)

-- ---- the end

-- the numerator of an output at the most places is within its limit
abbrev pub is_small : ℤ → Bool
is_small n = nat_le (unsigned_abs n) output_limit

-- whether each value of an output's range is within the bound of outputs
abbrev pub is_bounded : Interval → Bool
is_bounded a =
    nat_le a.s_hi output_places
    && (is_small (at_scale output_places a).lo && is_small (at_scale output_places a).hi)

-- the outputs stand after the inputs
abbrev pub output_ranges : Flowchart → Ranges → Ranges
output_ranges f env = take (length f.outputs) (drop (length f.inputs) env)

-- the ranges of the outputs, or the first of them that may be beyond its bound
abbrev pub unless_unbounded : Ranges → Result Ranges WalkFault
unless_unbounded outputs =
    option_map_or (λ o. Err (output_fails o.name o.range))
    (find (λ o. not (is_bounded o.range)) outputs) (Ok outputs)

-- ---- the whole

-- what the methods of a plan make of ranges
abbrev pub range_calls_in : Flowchart → RangeCalls
range_calls_in f = range_calls_of (scope_of f) f.methods longest_chain

-- the ranges of the outputs in declared order; or the first node that may fail with its cause; or, where there is none, the
-- first output that may be beyond its bound
abbrev pub analysed : Flowchart → Limits → Result Ranges WalkFault
analysed f limits =
    and_then
    (walked (scope_of f) (range_calls_in f) main_name 0 f.main (start_ranges f limits))
    (λ ends. unless_unbounded (output_ranges f ends))
