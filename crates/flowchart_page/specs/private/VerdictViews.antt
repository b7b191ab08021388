-- The verdict as the code has it.
use Rattle.std.specs.Prelude.{ℕ, Bool, List, ◌&&◌, string_bytes}
use Rattle.pap_types.specs.Meaning.{bound_of}
use Rattle.pap_plan.specs.declared.refusal.PlanRefusal.{PlanRefusal}
use Rattle.pap_plan.specs.Plans.{meaning}
use Rattle.plain_words.specs.Lines.{IsOneLine}
use Rattle.plain_words.specs.Places.{PlanFiles}
use Rattle.plain_words.specs.Refusals.{BeginsAtRefusal}
use Rattle.flowchart_page.specs.Verdicts.{lacks_limit}
use Rattle.flowchart_methods.specs.declared.site.Site.{Site}
use Rattle.flowchart_page.specs.Pages.{accepted_text, in_order_text, refused_text}
use Rattle.flowchart_page.specs.declared.verdict.Verdict.{Verdict}
use Rattle.flowchart_page.specs.declared.verdict.Verdict.TheVariants.{Accepted, InOrder, Refused}

-- what a page says of it, with a link to this
abbrev pub verdict_text : Verdict → Site → List ℕ
verdict_text (Accepted p) site = accepted_text (bound_of (meaning p).flowchart)
verdict_text InOrder site = in_order_text
verdict_text (Refused reason) site = refused_text (string_bytes reason.words) reason.line.items site

-- these words say where a refusal stands
pub record SaysRefusal (files : PlanFiles) (r : PlanRefusal) (words : List ℕ) : Type 0 where
  pub line : IsOneLine words
  pub begins : BeginsAtRefusal files r words

-- an input without a limit is no refusal where there is no range file
abbrev pub is_excused : Bool → PlanRefusal → Bool
is_excused is_alone r = is_alone && lacks_limit r
