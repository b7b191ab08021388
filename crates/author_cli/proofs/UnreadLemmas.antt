-- The answers on a plan from what the calls below promise.
use Rattle.std.proofs.Common.{◌≡◌, ◌≤◌, ℕ, length, arith, List, [], Option, Some, None, inl, sym, ap, ◌∙◌, subst}
use Rattle.std.specs.Prelude.{option_map}
use Rattle.std.proofs.lemmas.List.{length-map}
use Rattle.pap_tree.specs.Limits.{most_inputs}
use Rattle.pap_reader.specs.declared.fault.ReadFault.{ReadFault}
use Rattle.pap_reader.specs.declared.elements.Elements.{Elements}
use Rattle.pap_reader.specs.Trees.{tree_of, raw_declaration_of}
use Rattle.pap_reader.specs.Elements.{IsElements, IsFault}
use Rattle.pap_reader.proofs.Laws.{small_tree}
use Rattle.pap_plan.specs.declared.refusal.PlanRefusal.{PlanRefusal}
use Rattle.pap_plan.specs.declared.refusal.PlanRefusal.TheVariants as refusals
use Rattle.pap_plan.specs.Acceptance.{IsRefused}
use Rattle.pap_plan.specs.AcceptanceClauses as clauses
use Rattle.plan_answers.specs.Refusals.{HasDetail}
use Rattle.plan_answers.specs.Answers.{Answer as Written, IsRefusal}
use Rattle.plan_answers.specs.Lines.{refusal_line}
use Rattle.limits_file.specs.Limits.{longest_limits}
use Rattle.plan_notes.specs.declared.notes.Notes.{Notes}
use Rattle.plan_notes.specs.Notes.{HasNotes}
use Rattle.range_draft.specs.Draft.{IsDraft}
use Rattle.plain_words.specs.declared.place.TextFile.{TextFile}
use Rattle.plain_words.specs.Lines.{IsOneLine}
use Rattle.plain_words.specs.Places.{named_text, files_of}
use Rattle.plain_words.specs.Refusals.{BeginsAtRefusal}
use Rattle.flowchart_page.specs.Pages.{IsPage}
use Rattle.flowchart_page.specs.Verdicts.{file_or_none, IsJudged}
use Rattle.author_cli.specs.Answers.{Answer, IsChart, IsUnread, IsRanges}
use Rattle.author_cli.specs.Compared.{IsUnreadable}

pub charted : (plan : TextFile) (limits : Option TextFile) (answer : Answer)
    → IsPage plan.bytes.now (option_map (λ f. f.bytes.now) limits) answer.reason answer.text
    → IsJudged (named_text plan) (option_map (λ f. named_text f) limits) answer.reason
    → IsChart (named_text plan) (option_map (λ f. named_text f) limits) answer
charted plan (Some l) answer page judged = record { page = page; judged = judged }
charted plan None answer page judged = record { page = page; judged = judged }

-- the line of a refusal and its words
pub unread : (plan file : TextFile) (fault : ReadFault) (written : Written) (answer : Answer) (words : List ℕ)
    → named_text file ≡ file_or_none None → IsFault plan.bytes.now fault
    → IsRefusal plan.bytes.now (refusals.Read fault) written → answer.text ≡ written.text → answer.reason ≡ Some words
    → IsOneLine words → BeginsAtRefusal (files_of plan file) (refusals.Read fault) words
    → IsUnread (named_text plan) answer
unread plan file fault written answer words none has refused same reason line begins = record {
  fault = fault;
  has = has;
  text = same ∙ ap (λ (a : Written). a.text) refused.is ∙ ap (λ d. refusal_line d) refused.has;
  words = words;
  reason = reason;
  tells = record {
    refusal = refusals.Read fault;
    refused = has;
    line = line;
    begins = subst (λ f. BeginsAtRefusal (record { plan = named_text plan; ranges = f }) (refusals.Read fault) words)
        none begins;
  };
}

-- a refusal of a text that isn't a plan's, whatever its range file
refused_unread : (plan : List ℕ) (r : PlanRefusal) (detail : List ℕ) → clauses.IsUnreadPlan plan r → HasDetail plan r detail
    → IsRefused plan [] r
refused_unread plan (refusals.Read fault) detail u h = u
refused_unread plan (refusals.Expr spot fault) detail u h = u
refused_unread plan refusals.Memory detail u h = absurd h
refused_unread plan (refusals.Types fault) detail u h = absurd u
refused_unread plan (refusals.Order fault) detail u h = absurd u
refused_unread plan (refusals.Limits fault) detail u h = absurd u
refused_unread plan (refusals.LimitName name) detail u h = absurd u
refused_unread plan (refusals.LimitKind name) detail u h = absurd u
refused_unread plan (refusals.Bind name) detail u h = absurd u
refused_unread plan (refusals.Range fault) detail u h = absurd u

-- the line of that refusal and its words
pub unreadable : (plan file : TextFile) (r : PlanRefusal) (written : Written) (text : List ℕ) (reason : Option (List ℕ))
    (words : List ℕ) → named_text file ≡ file_or_none None → clauses.IsUnreadPlan plan.bytes.now r
    → IsRefusal plan.bytes.now r written → text ≡ written.text → reason ≡ Some words
    → IsOneLine words → BeginsAtRefusal (files_of plan file) r words → IsUnreadable (named_text plan) text reason
unreadable plan file r written text reason words none has refused same said line begins = record {
  refusal = r;
  unread = has;
  detail = refused.detail;
  has = refused.has;
  written = same ∙ ap (λ (a : Written). a.text) refused.is;
  words = words;
  said = said;
  tells = record {
    refusal = r;
    refused = refused_unread plan.bytes.now r refused.detail has refused.has;
    line = line;
    begins = subst (λ f. BeginsAtRefusal (record { plan = named_text plan; ranges = f }) r words) none begins;
  };
}

-- a plan that is read has no more inputs than one may have
pub few_inputs : (plan : List ℕ) (elements : Elements) → IsElements plan (tree_of elements)
    → length elements.inputs.items ≤ most_inputs
few_inputs plan elements read =
    let size = length-map elements.inputs.items raw_declaration_of in
    let few = (small_tree plan (tree_of elements) read).inputs in
    omega (arith, size, few)

-- the range file that is begun
pub begun : (plan : TextFile) (elements : Elements) (notes : Notes) (text : List ℕ) (answer : Answer)
    → IsElements plan.bytes.now (tree_of elements) → HasNotes plan.bytes.now notes
    → IsDraft (tree_of elements).inputs notes text → length text ≤ longest_limits → answer.text ≡ text
    → answer.reason ≡ None → IsRanges (named_text plan) answer
begun plan elements notes text answer read noted draft short same reason = inl (record {
  tree = tree_of elements;
  elements = read;
  notes = notes;
  noted = noted;
  draft = subst (λ t. IsDraft (tree_of elements).inputs notes t) (sym same) draft;
  short = subst (λ t. length t ≤ longest_limits) (sym same) short;
  read = reason;
})
