-- A plan that is judged, as the code has it.
use Rattle.std.specs.Prelude.{ℕ, List, [], Option, Some, None, unwrap_or, string_bytes, ⊤}
use Rattle.pap_plan.specs.AcceptanceClauses.{IsAcceptedAs}
use Rattle.pap_plan.specs.Plans.{meaning}
use Rattle.flowchart_page.specs.Findings.{Finding, accepted, in_order, refused}
use Rattle.flowchart_page.specs.Pages.{IsRefusalLine}
use Rattle.flowchart_page.specs.declared.verdict.Verdict.{Verdict}
use Rattle.flowchart_page.specs.declared.verdict.Verdict.TheVariants.{Accepted, InOrder, Refused}

-- what it finds
abbrev pub finding_of : Verdict → Finding
finding_of (Accepted p) = accepted (meaning p)
finding_of InOrder = in_order
finding_of (Refused reason) = refused reason.refusal

-- the words of its reason
abbrev pub words_of : Verdict → Option (List ℕ)
words_of (Refused reason) = Some (string_bytes reason.words)
words_of _ = None

-- its line is that of `check`, where it is a refusal
abbrev pub HasLine : List ℕ → Verdict → Type 0
HasLine plan (Refused reason) = IsRefusalLine plan reason.refusal reason.line.items
HasLine plan _ = ⊤

-- its plan is accepted from these bytes, with those of a range file or with none
abbrev pub HasPlan : List ℕ → Option (List ℕ) → Verdict → Type 0
HasPlan plan limits (Accepted p) = IsAcceptedAs plan (unwrap_or limits []) p
HasPlan plan limits _ = ⊤
