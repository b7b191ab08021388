-- What is written of two plans that are compared.
use Rattle.std.specs.Prelude.{◌≡◌, ◌⊎◌, ℕ, List, [], ◌++◌, Bool, true, false, codes, Option, Some, None}
use Rattle.pap_tree.specs.Flowchart.{Flowchart}
use Rattle.plan_text.specs.Plans.{IsPlan}
use Rattle.pap_plan.specs.declared.refusal.PlanRefusal.{PlanRefusal}
use Rattle.pap_plan.specs.Acceptance.{HasBindings}
use Rattle.pap_plan.specs.AcceptanceClauses.{IsUnreadPlan}
use Rattle.limits_file.specs.declared.limits.Limits.{Limits}
use Rattle.range_comparison.specs.declared.change.RangeChange.{RangeChange}
use Rattle.range_comparison.specs.Changes.{range_changes}
use Rattle.plan_answers.specs.Lines.{refusal_line}
use Rattle.plan_answers.specs.Refusals.{HasDetail}
use Rattle.plain_words.specs.Places.{NamedText, PlanFiles}
use Rattle.plain_words.specs.Refusals.{TellsPlan}
use Rattle.flowchart_page.specs.Verdicts.{files_with}
use Rattle.flowchart_comparison.specs.Outlines.{TextOutline, outline_of}
use Rattle.flowchart_comparison.specs.Comparisons.{TextComparison, IsComparison, differs}
use Rattle.comparison_page.specs.Texts.{comparison_text}
use Rattle.comment_comparison.specs.CommentChanges.{ComparedComments, IsCommentComparison}
use Rattle.comparison_page.specs.RangeTexts.{range_changes_text}
use Rattle.comparison_page.specs.CommentTexts.{comment_changes_text}
use Rattle.comparison_page.specs.Pages.{commented_page, ranges_differ}
use Rattle.author_cli.specs.Traced.{IsRefusedAs}
use Rattle.author_cli.specs.Words.{Medium, as_text, as_page}

-- what is said on standard error where two flowcharts differ, or their range files
abbrev pub difference_words : Bool → Bool → Option (List ℕ)
difference_words false false = None
difference_words true false = Some (codes "the flowcharts differ")
difference_words false true = Some (codes "the range files differ")
difference_words true true = Some (codes "the flowcharts and the range files differ")

-- the changes of range files below the text of a comparison, where they are compared
abbrev pub ranges_text : Option (List RangeChange) → List ℕ
ranges_text None = []
ranges_text (Some changes) = range_changes_text changes

-- a comparison as it is written, with the comments that stand in one file alone behind all else; only a page has the names of the files
abbrev pub comparison_in : Medium → (old_name new_name : List ℕ) → (old new : TextOutline) → TextComparison
    → Option (List RangeChange) → ComparedComments → List ℕ
comparison_in as_text old_name new_name old new c ranges comments =
    comparison_text old new c ++ (ranges_text ranges ++ comment_changes_text comments)
comparison_in as_page old_name new_name old new c ranges comments =
    commented_page old_name new_name old new c ranges (Some comments)

-- the text is that of a comparison of these files, whose flowcharts these are, with the changes of range files where they are compared,
-- and the words say whether something differs: comments don't count
pub record TellsComparison (medium : Medium) (old_file new_file : NamedText) (old new : Flowchart) (ranges : Option (List RangeChange))
    (text : List ℕ) (reason : Option (List ℕ)) : Type 0 where
  pub comparison : TextComparison
  pub is : IsComparison (outline_of old) (outline_of new) comparison
  pub comments : ComparedComments
  pub commented : IsCommentComparison old_file.bytes new_file.bytes comments
  pub written : text
      ≡ comparison_in medium old_file.name new_file.name (outline_of old) (outline_of new) comparison ranges comments
  pub said : reason ≡ difference_words (differs (outline_of old) (outline_of new) comparison) (ranges_differ ranges)

-- both files are read as plans, and this is told of them
pub record IsComparedText (medium : Medium) (old new : NamedText) (text : List ℕ) (reason : Option (List ℕ)) : Type 0 where
  pub old_plan : Flowchart
  pub new_plan : Flowchart
  pub old_read : IsPlan old.bytes old_plan
  pub new_read : IsPlan new.bytes new_plan
  pub tells : TellsComparison medium old new old_plan new_plan None text reason

-- the line of a file that isn't read as a plan, as `check` writes it, and the words that say why
pub record IsUnreadable (plan : NamedText) (text : List ℕ) (reason : Option (List ℕ)) : Type 0 where
  pub refusal : PlanRefusal
  pub unread : IsUnreadPlan plan.bytes refusal
  pub detail : List ℕ
  pub has : HasDetail plan.bytes refusal detail
  pub written : text ≡ refusal_line detail
  pub words : List ℕ
  pub said : reason ≡ Some words
  pub tells : TellsPlan (files_with plan None) words

-- this is the answer on two plans: the comparison, or the refusal of the one that isn't read
abbrev pub IsCompared : Medium → (old new : NamedText) → List ℕ → Option (List ℕ) → Type 0
IsCompared medium old new text reason =
    IsComparedText medium old new text reason ⊎ (IsUnreadable old text reason ⊎ IsUnreadable new text reason)

-- ---- with range files

-- both plans suit their range files, and this is told of them
pub record IsComparedWithin (medium : Medium) (old new : PlanFiles) (text : List ℕ) (reason : Option (List ℕ)) : Type 0 where
  pub old_plan : Flowchart
  pub new_plan : Flowchart
  pub old_ranges : Limits
  pub new_ranges : Limits
  pub old_bound : HasBindings old.plan.bytes old.ranges.bytes old_plan old_ranges
  pub new_bound : HasBindings new.plan.bytes new.ranges.bytes new_plan new_ranges
  pub tells : TellsComparison medium old.plan new.plan old_plan new_plan (Some (range_changes old_ranges new_ranges)) text reason

-- the files of a pair are refused, and it is told how
abbrev pub IsRefusedPair : PlanFiles → List ℕ → Option (List ℕ) → Type 0
IsRefusedPair pair text reason = (r : PlanRefusal) × IsRefusedAs r pair.plan pair.ranges text reason

-- this is the answer on two plans with their range files: the comparison, or the refusal of the first that is refused before the
-- ranges of its values are judged
abbrev pub IsComparedPairs : Medium → (old new : PlanFiles) → List ℕ → Option (List ℕ) → Type 0
IsComparedPairs medium old new text reason =
    IsComparedWithin medium old new text reason ⊎ (IsRefusedPair old text reason ⊎ IsRefusedPair new text reason)
