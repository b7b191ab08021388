-- The answer on findings from what the calls below promise.
use Rattle.std.proofs.Common.{◌≡◌, ◌∙◌, ap, ℕ, List}
use Rattle.std.specs.BTreeSet.{BTreeSet}
use Rattle.std.specs.Prelude.{Option, Ok}
use Rattle.pap_tree.specs.Flowchart.{Flowchart}
use Rattle.limits_file.specs.declared.limits.Limits.{Limits}
use Rattle.interval_walk.specs.Ranges.{Ranges}
use Rattle.interval_walk.specs.Analysis.{analysed}
use Rattle.interval_analysis.specs.Surveys.{StatementPlace, ExitPlace, AreReached, AreOpen}
use Rattle.pap_plan.specs.Acceptance.{HasBindings}
use Rattle.plan_notes.specs.declared.notes.Notes.{Notes}
use Rattle.plan_notes.specs.declared.tag.Mark.{Mark}
use Rattle.plan_notes.specs.Notes.{HasNotes}
use Rattle.flowchart_findings.specs.declared.finding.Finding.{Finding}
use Rattle.flowchart_findings.specs.Texts.{finding_lines}
use Rattle.plain_words.specs.Places.{NamedText}
use Rattle.author_cli.specs.Linted.{findings_words, lint_findings, IsFindingsText, TellsFindings}

-- the lines of the findings, and how many there are
pub findings_told : (plan : NamedText) (f : Flowchart) (l : Limits) (outputs : Ranges) (reached : BTreeSet StatementPlace) (exits : BTreeSet ExitPlace)
    (notes : Notes) (marks : List Mark) (found : List Finding) (text : List ℕ) (reason : Option (List ℕ)) → AreReached f l reached
    → AreOpen f l exits
    → HasNotes plan.bytes notes → marks ≡ notes.marks.items → found ≡ lint_findings f l outputs reached exits
    → text ≡ finding_lines plan marks found → reason ≡ findings_words found → IsFindingsText plan f l outputs text reason
findings_told plan f l outputs reached exits notes marks found text reason are open_are noted m e w s = record {
  reached = reached;
  are_reached = are;
  exits = exits;
  are_open = open_are;
  notes = notes;
  noted = noted;
  written = w ∙ ap (λ ms. finding_lines plan ms found) m ∙ ap (λ ds. finding_lines plan notes.marks.items ds) e;
  said = s ∙ ap (λ ds. findings_words ds) e;
}

-- a plan whose walk passes is accepted, and its findings are told
pub findings_accepted : (plan : NamedText) (limits : List ℕ) (f : Flowchart) (l : Limits) (outputs : Ranges) (text : List ℕ)
    (reason : Option (List ℕ)) → HasBindings plan.bytes limits f l → analysed f l ≡ Ok outputs
    → IsFindingsText plan f l outputs text reason → TellsFindings plan limits text reason
findings_accepted plan limits f l outputs text reason bound walked tells = record {
  meaning = record { flowchart = f; limits = l; outputs = outputs };
  accepted = record { bound = bound; walked = walked };
  tells = tells;
}
