-- All faults of a range file's entries beside its plan: each limit and each binding that isn't one of the plan.
use Rattle.std.specs.Prelude.{◌≡◌, ◌↔◌, ℕ, Bool, true, false, not, ◌&&◌, ◌==◌, nat_le, if◌then◌else◌, IsTrue, IfSome, List, [], ◌++◌, map, filter, slice_get}
use Rattle.std.specs.Option.{option_map_or}
use Rattle.scaled_decimal.specs.Decimals.{numerator_of}
use Rattle.scaled_decimal.specs.WholeNumbers.{int_bits, long_bits, is_of_bits}
use Rattle.pap_tree.specs.declared.declaration.Kind.{Kind}
use Rattle.pap_tree.specs.declared.declaration.Kind.TheVariants as declares
use Rattle.pap_tree.specs.Declarations.{Declaration}
use Rattle.pap_tree.specs.Flowchart.{Flowchart}
use Rattle.limits_file.specs.declared.limits.InputLimit.{InputLimit}
use Rattle.limits_file.specs.declared.limits.Limits.{Limits}
use Rattle.limits_file.specs.declared.limits.Binding.{Binding}
use Rattle.limits_file.specs.Limits.{limit_named}
use Rattle.pap_types.specs.Scopes.{factor_places}
use Rattle.pap_types.specs.Kinds.{has_few_places}
use Rattle.interval_walk.specs.Admission.{SuitsLimit}
use Rattle.pap_plan.specs.declared.refusal.PlanRefusal.{PlanRefusal}
use Rattle.pap_plan.specs.declared.refusal.PlanRefusal.TheVariants as refusals
use Rattle.pap_plan.specs.Bindings.{has_limit, is_input, carries_output, AreMatched, IsUnmatched}

-- ---- limits that suit their inputs' types

-- `IsWholeLimit` as a test
abbrev pub is_whole_limit : ℕ → InputLimit → Bool
is_whole_limit bits limit =
    (limit.places == 0) && (is_of_bits bits (numerator_of limit.low) && is_of_bits bits (numerator_of limit.high))

-- `IsFactorLimit` as a test
abbrev pub is_factor_limit : InputLimit → Bool
is_factor_limit limit = nat_le limit.places factor_places && (has_few_places limit.low && has_few_places limit.high)

-- `SuitsLimit` as a test
abbrev pub suits_limit : Kind → InputLimit → Bool
suits_limit declares.Int limit = is_whole_limit int_bits limit
suits_limit declares.Long limit = is_whole_limit long_bits limit
suits_limit declares.Factor limit = is_factor_limit limit
suits_limit declares.Big limit = true
suits_limit declares.Table limit = true

-- ---- what is at fault

-- the input has a limit, which doesn't suit its type
abbrev pub is_unsuited : Limits → Declaration → Bool
is_unsuited l d = option_map_or (λ limit. not (suits_limit d.kind limit)) (limit_named l d.name) false

-- the output of the binding isn't declared; where the name of its input has no limit, that name isn't an input's, for an input without a
-- limit is a fault of its own
abbrev pub is_stray : Flowchart → Limits → Binding → Bool
is_stray f l b = if has_limit l b.input then not (carries_output f b.carry) else not (is_input f b.input)

-- each of these inputs that has no limit
abbrev pub unlimited_faults : Limits → List Declaration → List PlanRefusal
unlimited_faults l inputs = map (λ d. refusals.LimitName d.name) (filter (λ d. not (has_limit l d.name)) inputs)

-- each of these limits whose name isn't an input's
abbrev pub nameless_faults : Flowchart → List InputLimit → List PlanRefusal
nameless_faults f limits = map (λ i. refusals.LimitName i.name) (filter (λ i. not (is_input f i.name)) limits)

-- each of these inputs whose limit doesn't suit its type
abbrev pub unsuited_faults : Limits → List Declaration → List PlanRefusal
unsuited_faults l inputs = map (λ d. refusals.LimitKind d.name) (filter (is_unsuited l) inputs)

-- each of these bindings that is one of no input or to no output
abbrev pub stray_faults : Flowchart → Limits → List Binding → List PlanRefusal
stray_faults f l bindings = map (λ b. refusals.Bind b.input) (filter (is_stray f l) bindings)

-- the inputs without a limit, the limits of no input, the inputs whose limit doesn't suit, and the bindings at fault, each in order
abbrev pub limit_faults : Flowchart → Limits → List PlanRefusal
limit_faults f l =
    unlimited_faults l f.inputs ++ (nameless_faults f l.inputs ++ (unsuited_faults l f.inputs ++ stray_faults f l l.bindings))

-- ---- laws

-- the test of a limit says whether it suits
abbrev pub TellsSuitedLimits : Type 0
TellsSuitedLimits = (kind : Kind) (limit : InputLimit) → IsTrue (suits_limit kind limit) ↔ SuitsLimit kind limit

-- the limits and bindings are those of the plan exactly where they have no fault
abbrev pub FaultlessIsMatched : Flowchart → Limits → Type 0
FaultlessIsMatched f l = AreMatched f l ↔ (limit_faults f l ≡ [])

-- the first fault, where there is one, is the one for which acceptance refuses the limits and bindings
abbrev pub FirstIsUnmatched : Flowchart → Limits → Type 0
FirstIsUnmatched f l = IfSome (slice_get (limit_faults f l) 0) (IsUnmatched f l)
