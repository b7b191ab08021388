-- What is written on the bytes of a plan's file and of a range file.
use Rattle.std.specs.Prelude.{◌≡◌, ◌≤◌, ◌⊎◌, ℕ, List, [], length, Option, Some, None, option_map}
use Rattle.outside.specs.Told.{FileMap}
use Rattle.payroll_records.specs.declared.values.NamedValue.{NamedValue}
use Rattle.pap_reader.specs.declared.fault.ReadFault.{ReadFault}
use Rattle.pap_reader.specs.Trees.{ElementTree}
use Rattle.pap_reader.specs.Elements.{IsElements, IsFault}
use Rattle.limits_file.specs.Limits.{longest_limits}
use Rattle.plan_notes.specs.declared.notes.Notes.{Notes}
use Rattle.plan_notes.specs.Notes.{HasNotes}
use Rattle.plain_words.specs.Places.{NamedText}
use Rattle.plain_words.specs.Refusals.{TellsPlan}
use Rattle.plan_answers.specs.Lines.{refusal_line}
use Rattle.plan_answers.specs.Refusals.{read_detail}
use Rattle.range_draft.specs.Draft.{IsDraft}
use Rattle.pap_tree.specs.Flowchart.{Flowchart}
use Rattle.limits_file.specs.declared.limits.Limits.{Limits}
use Rattle.interval_analysis.specs.declared.fault.RangeFault.{RangeFault}
use Rattle.pap_plan.specs.declared.refusal.PlanRefusal.{PlanRefusal}
use Rattle.pap_plan.specs.declared.refusal.PlanRefusal.TheVariants as refusals
use Rattle.pap_plan.specs.Acceptance.{Meaning, HasBindings, IsAccepted, IsRefused}
use Rattle.flowchart_methods.specs.Marks.{Marked}
use Rattle.range_marks.specs.RangeMarks.{FailingAt, WalkFindings, AreFindings, AreRefusedFindings, range_marks}
use Rattle.range_marks.specs.InternalRanges.{AreInternalRanges}
use Rattle.flowchart_page.specs.Pages.{IsPage, IsRunPage}
use Rattle.flowchart_page.specs.Runs.{RunParts, all_runs, stopped_runs}
use Rattle.flowchart_page.specs.Verdicts.{files_with, IsJudged}
use Rattle.author_cli.specs.Words.{Medium, NamedPlans, two_plans, with_limits, Form, chart, chart_within, ranges, compared, traced, drawn, example, linted, covered}
use Rattle.author_cli.specs.Compared.{IsCompared, IsComparedPairs}
use Rattle.author_cli.specs.Traced.{IsTraced}
use Rattle.author_cli.specs.Drawn.{IsDrawn}
use Rattle.author_cli.specs.Examples.{IsExample}
use Rattle.author_cli.specs.Linted.{IsLinted}
use Rattle.author_cli.specs.Covered.{IsCoverAnswer}

-- what is written, and in words why a plan is refused, that two differ, that a run fails, or how many findings there are, where that is so
pub record Answer : Type 0 where
  pub text : List ℕ
  pub reason : Option (List ℕ)

-- ---- chart

-- the page of a plan, with a range file or without one: it has the words that say why the plan is refused, where it is
pub record IsChart (plan : NamedText) (limits : Option NamedText) (answer : Answer) : Type 0 where
  pub page : IsPage plan.bytes (option_map (λ file. file.bytes) limits) answer.reason answer.text
  pub judged : IsJudged plan limits answer.reason

-- the page of an accepted plan of this flowchart and these limits: its drawings have the marks of what the walk over its ranges finds,
-- and its table the ranges that the internals then have over the whole run
pub record ShowsRanges (plan limits : NamedText) (f : Flowchart) (l : Limits) (answer : Answer) : Type 0 where
  pub findings : WalkFindings
  pub are_findings : AreFindings f l findings
  pub internals : List (List ℕ)
  pub are_internals : AreInternalRanges f findings internals
  pub page :
      IsRunPage (Some (all_runs (range_marks f findings) internals)) plan.bytes (Some limits.bytes) answer.reason answer.text
  pub judged : IsJudged plan (Some limits) answer.reason

-- the plan is accepted, and its page shows what the walk over its ranges finds
pub record ChartsAccepted (plan limits : NamedText) (answer : Answer) : Type 0 where
  pub meaning : Meaning
  pub accepted : IsAccepted plan.bytes limits.bytes meaning
  pub shows : ShowsRanges plan limits meaning.flowchart meaning.limits answer

-- what the page of a plan whose walk is refused shows of all runs: these marks, and at which statement the walk stops, where it does at
-- one
abbrev pub refused_runs : Option FailingAt → List (List Marked) → RunParts
refused_runs (Some at) marks = stopped_runs at.place marks
refused_runs None marks = all_runs marks []

-- the walk over the ranges of a plan of this flowchart and these limits is refused for this, and the drawings of its page have the marks
-- of what the walk found up to where it stops
pub record ShowsRefused (plan limits : NamedText) (f : Flowchart) (l : Limits) (fault : RangeFault) (answer : Answer)
    : Type 0 where
  pub findings : WalkFindings
  pub are_findings : AreRefusedFindings f l fault findings
  pub page :
      IsRunPage (Some (refused_runs findings.failing (range_marks f findings))) plan.bytes (Some limits.bytes) answer.reason
      answer.text
  pub judged : IsJudged plan (Some limits) answer.reason

-- a plan's walk is refused for this, and its page shows what that found
pub record ChartsWalk (fault : RangeFault) (plan limits : NamedText) (answer : Answer) : Type 0 where
  pub flowchart : Flowchart
  pub ranges : Limits
  pub bound : HasBindings plan.bytes limits.bytes flowchart ranges
  pub shows : ShowsRefused plan limits flowchart ranges fault answer

-- the page of a plan that is refused for this: with what the walk over its ranges found, where it is that walk's refusal
abbrev pub ShowsRefusal : PlanRefusal → NamedText → NamedText → Answer → Type 0
ShowsRefusal (refusals.Range fault) plan limits answer = ChartsWalk fault plan limits answer
ShowsRefusal r plan limits answer = IsChart plan (Some limits) answer

-- the plan is refused for this, and its page shows that
pub record ChartsRefused (r : PlanRefusal) (plan limits : NamedText) (answer : Answer) : Type 0 where
  pub refused : IsRefused plan.bytes limits.bytes r
  pub shows : ShowsRefusal r plan limits answer

-- the page of a plan with a range file
abbrev pub IsChartWithin : (plan limits : NamedText) → Answer → Type 0
IsChartWithin plan limits answer =
    ChartsAccepted plan limits answer ⊎ ((r : PlanRefusal) × ChartsRefused r plan limits answer)

-- ---- ranges

-- the range file that begins with the plan's inputs and the comments on them, no longer than a range file may be; the plan
-- isn't judged
pub record IsBegun (plan : NamedText) (answer : Answer) : Type 0 where
  pub tree : ElementTree
  pub elements : IsElements plan.bytes tree
  pub notes : Notes
  pub noted : HasNotes plan.bytes notes
  pub draft : IsDraft tree.inputs notes answer.text
  pub short : length answer.text ≤ longest_limits
  pub read : answer.reason ≡ None

-- the line of a file that isn't read as a plan, as `check` writes it, and the words that say why
pub record IsUnread (plan : NamedText) (answer : Answer) : Type 0 where
  pub fault : ReadFault
  pub has : IsFault plan.bytes fault
  pub text : answer.text ≡ refusal_line (read_detail fault)
  pub words : List ℕ
  pub reason : answer.reason ≡ Some words
  pub tells : TellsPlan (files_with plan None) words

-- this is the answer of `ranges` on the bytes of a plan's file: the range file to begin with, or the refusal of a file
-- that isn't read as a plan
abbrev pub IsRanges : NamedText → Answer → Type 0
IsRanges plan answer = IsBegun plan answer ⊎ IsUnread plan answer

-- ---- the files that the words name

-- the file of this name with these bytes
abbrev pub file_of : List ℕ → List ℕ → NamedText
file_of name bytes = record { name = name; bytes = bytes }

-- the file of this name is there, and this is the answer on it
pub record AnswersFile (IsAnswer : NamedText → Answer → Type 0) (plan : List ℕ) (files : FileMap) (answer : Answer)
    : Type 0 where
  pub plan_bytes : List ℕ
  pub plan_there : files plan ≡ Some plan_bytes
  pub is : IsAnswer (file_of plan plan_bytes) answer

-- both files are there, and this is the page on them
pub record ChartsFiles (plan limits : List ℕ) (files : FileMap) (answer : Answer) : Type 0 where
  pub plan_bytes : List ℕ
  pub limits_bytes : List ℕ
  pub plan_there : files plan ≡ Some plan_bytes
  pub limits_there : files limits ≡ Some limits_bytes
  pub is : IsChartWithin (file_of plan plan_bytes) (file_of limits limits_bytes) answer

-- both files are there, and this is the answer on their comparison
pub record ComparesFiles (medium : Medium) (old new : List ℕ) (files : FileMap) (answer : Answer) : Type 0 where
  pub old_bytes : List ℕ
  pub new_bytes : List ℕ
  pub old_there : files old ≡ Some old_bytes
  pub new_there : files new ≡ Some new_bytes
  pub is : IsCompared medium (file_of old old_bytes) (file_of new new_bytes) answer.text answer.reason

-- the four files are there, and this is the answer on the comparison of the plans and of their range files
pub record ComparesPairs (medium : Medium) (old old_limits new new_limits : List ℕ) (files : FileMap) (answer : Answer) : Type 0 where
  pub old_bytes : List ℕ
  pub old_limits_bytes : List ℕ
  pub new_bytes : List ℕ
  pub new_limits_bytes : List ℕ
  pub old_there : files old ≡ Some old_bytes
  pub old_limits_there : files old_limits ≡ Some old_limits_bytes
  pub new_there : files new ≡ Some new_bytes
  pub new_limits_there : files new_limits ≡ Some new_limits_bytes
  pub is : IsComparedPairs medium (record { plan = file_of old old_bytes; ranges = file_of old_limits old_limits_bytes })
      (record { plan = file_of new new_bytes; ranges = file_of new_limits new_limits_bytes }) answer.text answer.reason

-- the answer on the comparison of these files
abbrev pub ComparesPlans : Medium → NamedPlans → FileMap → Answer → Type 0
ComparesPlans medium (two_plans old new) files answer = ComparesFiles medium old new files answer
ComparesPlans medium (with_limits old old_limits new new_limits) files answer =
    ComparesPairs medium old old_limits new new_limits files answer

-- both files are there, and this is the answer on the run of the one within the ranges of the other
pub record TracesFiles (values : List NamedValue) (plan limits : List ℕ) (files : FileMap) (answer : Answer) : Type 0 where
  pub plan_bytes : List ℕ
  pub limits_bytes : List ℕ
  pub plan_there : files plan ≡ Some plan_bytes
  pub limits_there : files limits ≡ Some limits_bytes
  pub is : IsTraced values (file_of plan plan_bytes) (file_of limits limits_bytes) answer.text answer.reason

-- both files are there, and this is the page on the run of the one within the ranges of the other
pub record DrawsFiles (values : List NamedValue) (plan limits : List ℕ) (files : FileMap) (answer : Answer) : Type 0 where
  pub plan_bytes : List ℕ
  pub limits_bytes : List ℕ
  pub plan_there : files plan ≡ Some plan_bytes
  pub limits_there : files limits ≡ Some limits_bytes
  pub is : IsDrawn values (file_of plan plan_bytes) (file_of limits limits_bytes) answer.text answer.reason

-- both files are there, and this is the answer on the search for inputs on which a run fails
pub record SearchesFiles (plan limits : List ℕ) (files : FileMap) (answer : Answer) : Type 0 where
  pub plan_bytes : List ℕ
  pub limits_bytes : List ℕ
  pub plan_there : files plan ≡ Some plan_bytes
  pub limits_there : files limits ≡ Some limits_bytes
  pub is : IsExample (file_of plan plan_bytes) (file_of limits limits_bytes) answer.text answer.reason

-- both files are there, and this is the answer on what the one has in vain within the ranges of the other
pub record LintsFiles (plan limits : List ℕ) (files : FileMap) (answer : Answer) : Type 0 where
  pub plan_bytes : List ℕ
  pub limits_bytes : List ℕ
  pub plan_there : files plan ≡ Some plan_bytes
  pub limits_there : files limits ≡ Some limits_bytes
  pub is : IsLinted (file_of plan plan_bytes) (file_of limits limits_bytes) answer.text answer.reason

-- the three files are there, and this is the answer on the runs of the last through the plan of the others
pub record CoversFiles (medium : Medium) (least : Option ℕ) (plan limits table : List ℕ) (files : FileMap) (answer : Answer) : Type 0 where
  pub plan_bytes : List ℕ
  pub limits_bytes : List ℕ
  pub table_bytes : List ℕ
  pub plan_there : files plan ≡ Some plan_bytes
  pub limits_there : files limits ≡ Some limits_bytes
  pub table_there : files table ≡ Some table_bytes
  pub is : IsCoverAnswer medium least (file_of plan plan_bytes) (file_of limits limits_bytes) table_bytes answer.text answer.reason

-- the answer to words of this form
abbrev pub Answers : Form → FileMap → Answer → Type 0
Answers (chart plan) files answer = AnswersFile (λ file page. IsChart file None page) plan files answer
Answers (chart_within plan limits) files answer = ChartsFiles plan limits files answer
Answers (ranges plan) files answer = AnswersFile IsRanges plan files answer
Answers (compared medium plans) files answer = ComparesPlans medium plans files answer
Answers (traced plan limits values) files answer = TracesFiles values plan limits files answer
Answers (drawn plan limits values) files answer = DrawsFiles values plan limits files answer
Answers (example plan limits) files answer = SearchesFiles plan limits files answer
Answers (linted plan limits) files answer = LintsFiles plan limits files answer
Answers (covered medium plan limits table least) files answer = CoversFiles medium least plan limits table files answer
