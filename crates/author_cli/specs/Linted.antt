-- What is written of what a plan has in vain.
use Rattle.std.specs.Prelude.{◌≡◌, ◌⊎◌, ℕ, List, [], ◌∷◌, ◌++◌, codes, length, Option, Some, None}
use Rattle.std.specs.BTreeSet.{BTreeSet}
use Rattle.std.specs.Fmt.{decimal as number}
use Rattle.pap_tree.specs.Flowchart.{Flowchart}
use Rattle.limits_file.specs.declared.limits.Limits.{Limits}
use Rattle.interval_walk.specs.Ranges.{Ranges}
use Rattle.interval_analysis.specs.Surveys.{StatementPlace, ExitPlace, AreReached, AreOpen}
use Rattle.pap_plan.specs.declared.refusal.PlanRefusal.{PlanRefusal}
use Rattle.pap_plan.specs.Acceptance.{Meaning, IsAccepted}
use Rattle.plan_notes.specs.declared.notes.Notes.{Notes}
use Rattle.plan_notes.specs.Notes.{HasNotes}
use Rattle.plain_words.specs.Places.{NamedText}
use Rattle.flowchart_findings.specs.declared.finding.Finding.{Finding}
use Rattle.flowchart_findings.specs.Carries.{carry_findings}
use Rattle.flowchart_findings.specs.Findings.{findings_of}
use Rattle.flowchart_findings.specs.Texts.{finding_lines}
use Rattle.author_cli.specs.Traced.{IsRefusedAs}

-- what is said on standard error of findings: how many there are; nothing where there is none
abbrev pub findings_words : List Finding → Option (List ℕ)
findings_words [] = None
findings_words (d ∷ ds) = Some (codes "findings: " ++ number (length (d ∷ ds)))

-- what there is to tell of a flowchart within these limits, whose outputs have these ranges, given the statements that a run may execute
-- and the exits of IFs that one may take: what it has in vain, and what inputs carry over that is too long for them
abbrev pub lint_findings : Flowchart → Limits → Ranges → BTreeSet StatementPlace → BTreeSet ExitPlace → List Finding
lint_findings f limits outputs reached exits = findings_of f reached exits ++ carry_findings limits 0 outputs

-- the text has a line for each finding in this flowchart of the plan's file, within these limits and with these ranges of its outputs, and
-- these words are said of it
pub record IsFindingsText (plan : NamedText) (f : Flowchart) (limits : Limits) (outputs : Ranges) (text : List ℕ)
    (reason : Option (List ℕ)) : Type 0 where
  pub reached : BTreeSet StatementPlace
  pub are_reached : AreReached f limits reached
  pub exits : BTreeSet ExitPlace
  pub are_open : AreOpen f limits exits
  pub notes : Notes
  pub noted : HasNotes plan.bytes notes
  pub written : text ≡ finding_lines plan notes.marks.items (lint_findings f limits outputs reached exits)
  pub said : reason ≡ findings_words (lint_findings f limits outputs reached exits)

-- the plan is accepted, and the text has a line for each finding in it
pub record TellsFindings (plan : NamedText) (limits text : List ℕ) (reason : Option (List ℕ)) : Type 0 where
  pub meaning : Meaning
  pub accepted : IsAccepted plan.bytes limits meaning
  pub tells : IsFindingsText plan meaning.flowchart meaning.limits meaning.outputs text reason

-- this is the answer of `lint` on two files: what there is to tell of the plan, or why it is refused
abbrev pub IsLinted : (plan limits : NamedText) → List ℕ → Option (List ℕ) → Type 0
IsLinted plan limits text reason =
    TellsFindings plan limits.bytes text reason ⊎ ((r : PlanRefusal) × IsRefusedAs r plan limits text reason)
