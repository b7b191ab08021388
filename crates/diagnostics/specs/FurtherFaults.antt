-- What is told of a refused plan behind the refusal itself: the other faults that the same stage of acceptance has, and the ranges of
-- the operands at a node that may fail.
use Rattle.std.specs.Prelude.{◌≡◌, ℕ, Bool, true, false, MatchBool, List, [], ◌∷◌, ◌++◌, Ok, map}
use Rattle.pap_tree.specs.Flowchart.{Flowchart}
use Rattle.limits_file.specs.declared.limits.Limits.{Limits}
use Rattle.limits_file.specs.declared.fault.LimitsFault.TheVariants as limits
use Rattle.limits_file.specs.RangeFiles.{FileSays}
use Rattle.range_faults.specs.declared.fault.EntryFault.{EntryFault}
use Rattle.range_faults.specs.FileFaults.{AreFileFaults}
use Rattle.pap_types.specs.AllFaults.{type_faults}
use Rattle.pap_plan.specs.LimitFaults.{limit_faults}
use Rattle.pap_plan.specs.StageRefusals.{text_refusal}
use Rattle.pap_plan.specs.declared.refusal.PlanRefusal.{PlanRefusal}
use Rattle.pap_plan.specs.declared.refusal.PlanRefusal.TheVariants as refusals
use Rattle.plain_words.specs.Places.{PlanFiles}
use Rattle.plan_text.specs.Plans.{IsPlan}
use Rattle.plan_text.specs.declared.fault.PlanFault.{PlanFault}
use Rattle.diagnostics.specs.ExpressionFaults.{AreExpressionFaults}
use Rattle.diagnostics.specs.FaultLines.{IsEntryLine, IsPlanLine, TellsEach}
use Rattle.diagnostics.specs.Operands.{TellsOperands}

-- these are the faults of all expressions of a plan, as refusals
pub record AreTextRefusals (plan : List ℕ) (all : List PlanRefusal) : Type 0 where
  pub faults : List PlanFault
  pub found : AreExpressionFaults plan faults
  pub are : all ≡ map text_refusal faults

-- these are all faults of the names and kinds of a plan, as refusals
pub record AreTypeRefusals (plan : List ℕ) (all : List PlanRefusal) : Type 0 where
  pub flowchart : Flowchart
  pub read : IsPlan plan flowchart
  pub are : all ≡ map refusals.Types (type_faults flowchart)

-- these are all faults of a range file's entries beside its plan
pub record AreLimitRefusals (plan limits : List ℕ) (all : List PlanRefusal) : Type 0 where
  pub flowchart : Flowchart
  pub ranges : Limits
  pub read : IsPlan plan flowchart
  pub says : FileSays limits (Ok ranges)
  pub are : all ≡ limit_faults flowchart ranges

-- all faults of a stage, of which the first is the refusal: of expressions, of names and kinds, or of a range file's entries. At the
-- other stages it is the only one
abbrev pub AreAllFaults : List ℕ → List ℕ → PlanRefusal → List PlanRefusal → Type 0
AreAllFaults plan limits (refusals.Expr spot fault) all = AreTextRefusals plan all
AreAllFaults plan limits (refusals.Types fault) all = AreTypeRefusals plan all
AreAllFaults plan limits (refusals.LimitName name) all = AreLimitRefusals plan limits all
AreAllFaults plan limits (refusals.LimitKind name) all = AreLimitRefusals plan limits all
AreAllFaults plan limits (refusals.Bind name) all = AreLimitRefusals plan limits all
AreAllFaults plan limits refusal all = all ≡ refusal ∷ []

-- the text tells the refusal of these files' plan, and then the further faults of its stage
pub record TellsStageFaults (files : PlanFiles) (refusal : PlanRefusal) (text : List ℕ) : Type 0 where
  pub further : List PlanRefusal
  pub are : AreAllFaults files.plan.bytes files.ranges.bytes refusal (refusal ∷ further)
  pub tells : TellsEach (IsPlanLine files) (refusal ∷ further) text

-- the text tells all faults of the range file's entries, of which the first is that for which the file is refused
pub record TellsEntryFaults (files : PlanFiles) (text : List ℕ) : Type 0 where
  pub faults : List EntryFault
  pub are : AreFileFaults files.ranges.bytes faults
  pub tells : TellsEach (IsEntryLine files) faults text

-- a refusal for a key of the range file, or for the bounds of an input
abbrev pub is_of_entries : PlanRefusal → Bool
is_of_entries (refusals.Limits (limits.Key name)) = true
is_of_entries (refusals.Limits (limits.Bound name)) = true
is_of_entries _ = false

-- the text tells all faults of the stage of this refusal: those of the range file's entries by themselves, or of another stage
abbrev pub TellsStage : PlanFiles → PlanRefusal → List ℕ → Type 0
TellsStage files refusal text =
    MatchBool (is_of_entries refusal) (TellsEntryFaults files text) (TellsStageFaults files refusal text)

-- the text tells the faults of the stage at which these files' plan is refused, and then the ranges of a failing node's operands
pub record TellsFaults (files : PlanFiles) (refusal : PlanRefusal) (text : List ℕ) : Type 0 where
  pub lines : List ℕ
  pub tells : TellsStage files refusal lines
  pub operands : List ℕ
  pub known : TellsOperands files.plan.bytes files.ranges.bytes refusal operands
  pub is : text ≡ lines ++ operands
