-- What the walk over a flowchart's ranges knows of its statements, as drawings show it.
use Rattle.std.specs.Prelude.{◌≡◌, ℕ, ◌+◌, ◌-◌, ◌==◌, ◌&&◌, Bool, true, false, if◌then◌else◌, Option, Some, None, option_map, List, [], ◌∷◌, ◌++◌, codes, slice_get, ⊤}
use Rattle.std.specs.BTreeMap.{BTreeMap, get}
use Rattle.std.specs.BTreeSet.{BTreeSet, contains}
use Rattle.std.specs.Option.{option_map_or}
use Rattle.std.specs.Str.{bytes_eq}
use Rattle.pap_tree.specs.Names.{main_name}
use Rattle.pap_tree.specs.Flowchart.{Flowchart}
use Rattle.interval_num.specs.declared.cause.RangeCause.{RangeCause}
use Rattle.interval_num.specs.Causes.{cause_text}
use Rattle.limits_file.specs.declared.limits.Limits.{Limits}
use Rattle.interval_analysis.specs.declared.value_range.ValueRange.{ValueRange}
use Rattle.interval_analysis.specs.declared.fault.RangeFault.{RangeFault}
use Rattle.interval_analysis.specs.declared.fault.RangeFault.TheVariants as faults
use Rattle.interval_analysis.specs.declared.verdict.Survey.{Survey}
use Rattle.interval_analysis.specs.declared.verdict.RefusedSurvey.{RefusedSurvey}
use Rattle.interval_analysis.specs.Answers.{AreFailingOperands}
use Rattle.interval_analysis.specs.Surveys.{StatementPlace, place_cmp, ExitPlace, exit_cmp, AreReached, AreLeastRanges, AreOpen}
use Rattle.statement_list.specs.declared.statement.Form.{Form}
use Rattle.statement_list.specs.declared.statement.Form.TheVariants.{Set, Test, Enter}
use Rattle.statement_list.specs.Statements.{Listed, listed_methods}
use Rattle.flowchart_methods.specs.declared.kind.MarkKind.TheVariants as kinds
use Rattle.flowchart_methods.specs.declared.kind.ExitKind.{ExitKind}
use Rattle.flowchart_methods.specs.declared.kind.ExitKind.TheVariants as ways
use Rattle.flowchart_methods.specs.Marks.{Marked, unmarked}
use Rattle.range_marks.specs.declared.findings.FailingNode.{FailingNode}
use Rattle.range_marks.specs.declared.findings.Findings.{Findings}
use Rattle.range_marks.specs.RangeTexts.{ends_text}

-- a node at which a walk stops: its statement, why it may fail, and the ranges that its operands have there, from the left
pub record FailingAt : Type 0 where
  pub place : StatementPlace
  pub cause : RangeCause
  pub operands : List ValueRange

-- what a walk found: the statements to which it came, the least range of what each EVAL among them puts, the exits that were open, and
-- the node at which it stopped, where it did
pub record WalkFindings : Type 0 where
  pub reached : BTreeSet StatementPlace
  pub values : BTreeMap StatementPlace ValueRange
  pub exits : BTreeSet ExitPlace
  pub failing : Option FailingAt

-- the same of a walk that passes, as the code has it
abbrev pub findings_in : Survey → WalkFindings
findings_in s = record { reached = s.reached; values = s.values; exits = s.exits; failing = None }

-- the node for which a walk is refused, where it is for one
abbrev pub failing_in : RangeFault → List ValueRange → Option FailingAt
failing_in (faults.At p cause) operands = Some (record { place = (p.method, p.stmt); cause = cause; operands = operands })
failing_in fault operands = None

-- the findings of a walk that is refused, as the code has them
abbrev pub refused_findings : RefusedSurvey → WalkFindings
refused_findings r = record {
  reached = r.reached;
  values = r.values;
  exits = r.exits;
  failing = failing_in r.fault r.operands.items;
}

-- a failing node, as the code hands it over
abbrev pub failing_of : FailingNode → FailingAt
failing_of n = record { place = n.place; cause = n.cause; operands = n.operands.now }

-- the findings of either, as the code hands them over
abbrev pub walk_findings : Findings → WalkFindings
walk_findings w = record {
  reached = w.reached.now;
  values = w.values.now;
  exits = w.exits.now;
  failing = option_map failing_of w.failing;
}

-- these are the findings of the walk over a flowchart within these limits, which passes
pub record AreFindings (f : Flowchart) (limits : Limits) (w : WalkFindings) : Type 0 where
  pub reached : AreReached f limits w.reached
  pub values : AreLeastRanges f limits w.values
  pub exits : AreOpen f limits w.exits
  pub passes : w.failing ≡ None

-- where a walk stops that is refused for this: at the failing node, whose operands have these ranges there; nowhere where only an output
-- may be beyond its bound
abbrev pub IsFailingAt : Flowchart → Limits → RangeFault → Option FailingAt → Type 0
IsFailingAt f limits (faults.At p cause) (Some at) =
    (at.place ≡ (p.method, p.stmt)) × (at.cause ≡ cause) × AreFailingOperands f limits (faults.At p cause) at.operands
IsFailingAt f limits (faults.Output name) None = ⊤
IsFailingAt f limits fault failing = ⊥

-- these are the findings of the walk over a flowchart within these limits, which is refused for this: what it found up to where it stops
pub record AreRefusedFindings (f : Flowchart) (limits : Limits) (fault : RangeFault) (w : WalkFindings) : Type 0 where
  pub reached : AreReached f limits w.reached
  pub values : AreLeastRanges f limits w.values
  pub exits : AreOpen f limits w.exits
  pub stops : IsFailingAt f limits fault w.failing

-- ---- marks

-- the mark of a statement that no run within the ranges executes
abbrev pub dead_mark : Marked
dead_mark = record {
  kind = kinds.Dead;
  lines = codes "never executed within the ranges" ∷ [];
  yes = ways.Open;
  no = ways.Open;
}

-- the lines that tell the ranges of the operands of a failing node
abbrev pub operand_lines : List ValueRange → List (List ℕ)
operand_lines [] = []
operand_lines (r ∷ []) = (codes "operand " ++ ends_text r) ∷ []
operand_lines (r ∷ s ∷ more) = (codes "first operand " ++ ends_text r) ∷ (codes "second operand " ++ ends_text s) ∷ []

-- what is told of the statement of a failing node: why that may fail, and the ranges of its operands
abbrev pub failing_lines : FailingAt → List (List ℕ)
failing_lines at = cause_text at.cause ∷ operand_lines at.operands

-- the mark of that statement
abbrev pub failing_mark : FailingAt → Marked
failing_mark at = record {
  kind = kinds.Failing;
  lines = failing_lines at;
  yes = ways.Unwalked;
  no = ways.Unwalked;
}

-- the mark of a statement to which runs may come, with these lines and these exits
abbrev pub open_mark : List (List ℕ) → ExitKind → ExitKind → Marked
open_mark lines holds fails = record { kind = kinds.Told; lines = lines; yes = holds; no = fails }

-- the range of what an EVAL puts, as the one line below it; none where no range is known
abbrev pub put_lines : Option ValueRange → List (List ℕ)
put_lines (Some r) = ends_text r ∷ []
put_lines None = []

-- an exit of a test that wasn't open: no run within the ranges takes it, unless the walk stopped before it came there
abbrev pub unfound_exit : Option FailingAt → ExitKind
unfound_exit None = ways.Dead
unfound_exit (Some at) = ways.Unwalked

-- an exit of a test
abbrev pub exit_of : WalkFindings → StatementPlace → Bool → ExitKind
exit_of w p holds = if contains exit_cmp w.exits (p.0, p.1, holds) then ways.Open else unfound_exit w.failing

-- the mark of a statement of this form to which runs may come: of an EVAL the range of what it puts, of a test its exits
abbrev pub reached_mark : WalkFindings → StatementPlace → Form → Marked
reached_mark w p (Set x) = open_mark (put_lines (get place_cmp w.values p)) ways.Open ways.Open
reached_mark w p Test = open_mark [] (exit_of w p true) (exit_of w p false)
reached_mark w p (Enter m) = open_mark [] ways.Open ways.Open

-- the mark of a statement to which the walk didn't come: no run within the ranges does, unless the walk stopped before it came there
abbrev pub unreached_mark : Option FailingAt → Marked
unreached_mark None = dead_mark
unreached_mark (Some at) = unmarked

-- the mark of a statement of this form at a place, by whether the walk came there
abbrev pub walked_mark : WalkFindings → StatementPlace → Form → Marked
walked_mark w p form = if contains place_cmp w.reached p then reached_mark w p form else unreached_mark w.failing

-- two places are of one statement
abbrev pub is_same_place : StatementPlace → StatementPlace → Bool
is_same_place p q = bytes_eq p.0 q.0 && (p.1 == q.1)

-- this mark of the statement at a place, or that of the failing node's statement
abbrev pub marked_beside : Option FailingAt → StatementPlace → Marked → Marked
marked_beside None p mark = mark
marked_beside (Some at) p mark = if is_same_place at.place p then failing_mark at else mark

-- the mark of a statement of this form at a place
abbrev pub range_mark : WalkFindings → StatementPlace → Form → Marked
range_mark w p form = marked_beside w.failing p (walked_mark w p form)

-- ---- all of a flowchart

-- the marks of a method's statements, the first of which has a number
abbrev pub statement_marks : WalkFindings → List ℕ → ℕ → List Listed → List Marked
statement_marks w m n [] = []
statement_marks w m n (s ∷ ss) = range_mark w (m, n) s.form ∷ statement_marks w m (n + 1) ss

-- the name of the method of a number: MAIN is method 0, the others are counted from 1
abbrev pub method_name_at : Flowchart → ℕ → List ℕ
method_name_at f k = if k == 0 then main_name else option_map_or (λ m. m.name) (slice_get f.methods (k - 1)) main_name

-- the marks of methods, the first of which has a number
abbrev pub method_marks : WalkFindings → Flowchart → ℕ → List (List Listed) → List (List Marked)
method_marks w f k [] = []
method_marks w f k (ss ∷ sss) = statement_marks w (method_name_at f k) 0 ss ∷ method_marks w f (k + 1) sss

-- the marks of all statements of a flowchart, by their methods and numbers: MAIN first
abbrev pub range_marks : Flowchart → WalkFindings → List (List Marked)
range_marks f w = method_marks w f 0 (listed_methods f)
