-- When the two texts of a plan are accepted, with what they mean, and why they are refused (docs/PROFILE.md, "Acceptance").
use Rattle.std.specs.Prelude.{◌≡◌, ℕ, List, All, Some, None, Result, Ok, Err, ⊤}
use Rattle.pap_tree.specs.Flowchart.{Flowchart}
use Rattle.limits_file.specs.declared.limits.Limits.{Limits}
use Rattle.limits_file.specs.declared.fault.LimitsFault.{LimitsFault}
use Rattle.limits_file.specs.declared.fault.LimitsFault.TheVariants as ranges
use Rattle.limits_file.specs.Faults.{too_long, no_toml, bad_key, bad_bound}
use Rattle.limits_file.specs.RangeFiles.{FileSays}
use Rattle.pap_types.specs.Checks.{IsWellTyped, type_fault}
use Rattle.call_order.specs.OrderLaws.{HasOrder}
use Rattle.call_order.specs.Faults.{HasOrderFault}
use Rattle.interval_walk.specs.Ranges.{Ranges}
use Rattle.interval_walk.specs.Analysis.{analysed}
use Rattle.interval_analysis.specs.Answers.{IsWalkFault}
use Rattle.plan_text.specs.declared.fault.PlanFault.TheVariants as texts
use Rattle.plan_text.specs.Plans.{IsPlan, IsPlanFault}
use Rattle.pap_plan.specs.declared.refusal.PlanRefusal.{PlanRefusal}
use Rattle.pap_plan.specs.declared.refusal.PlanRefusal.TheVariants as refusals
use Rattle.pap_plan.specs.Bindings.{unmatched_name, HasSuitedLimit, IsFirstUnsuited, unbound_input}

-- what accepted texts mean: the flowchart, the limits and bindings of its inputs, and the ranges of its outputs
pub record Meaning : Type 0 where
  pub flowchart : Flowchart
  pub limits : Limits
  pub outputs : Ranges

-- ---- the stages, in their order

-- the text is a plan's, and names and kinds are right
pub record IsTypedPlan (plan : List ℕ) (f : Flowchart) : Type 0 where
  pub text : IsPlan plan f
  pub typed : IsWellTyped f

-- the methods can be ordered, and MAIN isn't too long
pub record IsOrderedPlan (plan : List ℕ) (f : Flowchart) : Type 0 where
  pub typed : IsTypedPlan plan f
  pub ordered : HasOrder f

-- the range file has these limits and bindings
pub record HasRangeFile (plan limits : List ℕ) (f : Flowchart) (l : Limits) : Type 0 where
  pub ordered : IsOrderedPlan plan f
  pub file : FileSays limits (Ok l)

-- each input has a limit, and each limit is an input's
pub record HasMatchingNames (plan limits : List ℕ) (f : Flowchart) (l : Limits) : Type 0 where
  pub file : HasRangeFile plan limits f l
  pub matching : unmatched_name f l ≡ None

-- each limit suits its input's type
pub record HasSuitedLimits (plan limits : List ℕ) (f : Flowchart) (l : Limits) : Type 0 where
  pub named : HasMatchingNames plan limits f l
  pub suited : All (HasSuitedLimit l) f.inputs

-- each binding is of an input, and of an output where it names one
pub record HasBindings (plan limits : List ℕ) (f : Flowchart) (l : Limits) : Type 0 where
  pub suited : HasSuitedLimits plan limits f l
  pub bound : unbound_input f l ≡ None

-- the texts are accepted, and this is what they mean
pub record IsAccepted (plan limits : List ℕ) (m : Meaning) : Type 0 where
  pub bound : HasBindings plan limits m.flowchart m.limits
  pub walked : analysed m.flowchart m.limits ≡ Ok m.outputs

-- ---- refusals: all stages before one were passed, and that one was not

-- what is wrong with a range file
abbrev pub IsLimitsFault : List ℕ → LimitsFault → Type 0
IsLimitsFault bytes ranges.Toml = FileSays bytes (Err no_toml)
IsLimitsFault bytes (ranges.Key label) = FileSays bytes (Err (bad_key label))
IsLimitsFault bytes (ranges.Bound label) = FileSays bytes (Err (bad_bound label))
IsLimitsFault bytes ranges.LimitsLong = FileSays bytes (Err too_long)
IsLimitsFault bytes (ranges.Memory e) = ⊥

-- why two texts are refused: the first stage that they don't pass, and for which cause; texts never say that memory ran
-- out
abbrev pub IsRefused : List ℕ → List ℕ → PlanRefusal → Type 0
IsRefused plan limits (refusals.Read fault) = IsPlanFault plan (texts.Read fault)
IsRefused plan limits (refusals.Expr spot fault) = IsPlanFault plan (texts.Expr spot fault)
IsRefused plan limits (refusals.Types fault) = (f : Flowchart) × IsPlan plan f × (type_fault f ≡ Some fault)
IsRefused plan limits (refusals.Order fault) = (f : Flowchart) × IsTypedPlan plan f × HasOrderFault f fault
IsRefused plan limits (refusals.Limits fault) = (f : Flowchart) × IsOrderedPlan plan f × IsLimitsFault limits fault
IsRefused plan limits (refusals.LimitName name) =
    (f : Flowchart) × ((l : Limits) × HasRangeFile plan limits f l × (unmatched_name f l ≡ Some name))
IsRefused plan limits (refusals.LimitKind name) =
    (f : Flowchart) × ((l : Limits) × HasMatchingNames plan limits f l × IsFirstUnsuited f l name)
IsRefused plan limits (refusals.Bind name) =
    (f : Flowchart) × ((l : Limits) × HasSuitedLimits plan limits f l × (unbound_input f l ≡ Some name))
IsRefused plan limits (refusals.Range fault) =
    (f : Flowchart) × ((l : Limits) × HasBindings plan limits f l × IsWalkFault f l fault)
IsRefused plan limits refusals.Memory = ⊥

-- the answer on two texts: what they mean, or why they are refused
abbrev pub AcceptanceSays : List ℕ → List ℕ → Result Meaning PlanRefusal → Type 0
AcceptanceSays plan limits (Ok m) = IsAccepted plan limits m
AcceptanceSays plan limits (Err r) = IsRefused plan limits r

-- why a call refuses two texts: they are refused so, or memory ran out, which may be at any texts
abbrev pub IsRefusedOrMemory : List ℕ → List ℕ → PlanRefusal → Type 0
IsRefusedOrMemory plan limits refusals.Memory = ⊤
IsRefusedOrMemory plan limits r = IsRefused plan limits r
