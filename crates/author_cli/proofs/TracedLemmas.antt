-- The answers on a run from what the calls below promise.
use Rattle.std.proofs.Common.{◌≡◌, ◌≢◌, ℕ, List, [], true, false, refl, inl, inr, sym, ap, subst, ◌∙◌}
use Rattle.std.specs.Prelude.{Option, Some, None, option_map, if◌then◌else◌}
use Rattle.scaled_decimal.specs.Decimals.{Decimal}
use Rattle.limits_file.specs.declared.slots.Slot.{Slot}
use Rattle.pap_tree.specs.Flowchart.{Flowchart}
use Rattle.payroll_records.specs.declared.day.Day.{Day}
use Rattle.payroll_records.specs.declared.values.NamedValue.{NamedValue}
use Rattle.carry_bindings.specs.declared.carried.Earlier.{Earlier}
use Rattle.carry_bindings.specs.declared.filling.Filled.{Filled}
use Rattle.carry_bindings.specs.declared.filling.Filled.TheVariants.{Inputs, State}
use Rattle.carry_bindings.specs.declared.filling.Blocked.{Blocked}
use Rattle.carry_bindings.specs.declared.filling.Blocked.TheVariants as blocked
use Rattle.carry_bindings.specs.Filling.{first_of, has_carry, waits, unknown, missing, outside, inputs}
use Rattle.pap_plan.specs.declared.refusal.PlanRefusal.{PlanRefusal}
use Rattle.pap_plan.specs.Acceptance.{IsRefusedOrMemory}
use Rattle.pap_plan.specs.AcceptanceClauses.{IsAcceptedAs}
use Rattle.pap_plan.specs.Plans.{Seen, flowchart, meaning}
use Rattle.pay_run.specs.Accepted.{Accepted, accepted}
use Rattle.pay_run.specs.Runs.{slots_of, filled}
use Rattle.plan_answers.specs.Answers.{Answer as Written, IsRefusal}
use Rattle.plan_answers.proofs.Laws.{refused_is}
use Rattle.plain_words.specs.declared.place.TextFile.{TextFile}
use Rattle.plain_words.specs.Lines.{IsOneLine}
use Rattle.plain_words.specs.Places.{NamedText, PlanFiles, named_text, files_of}
use Rattle.flowchart_page.specs.Verdicts.{files_with}
use Rattle.plain_words.specs.Refusals.{BeginsAtRefusal}
use Rattle.plan_notes.specs.declared.notes.Notes.{Notes}
use Rattle.plan_notes.specs.declared.tag.Mark.{Mark}
use Rattle.plan_notes.specs.Notes.{HasNotes}
use Rattle.source_lines.specs.Lines.{FileLines, lines_of_file}
use Rattle.run_trace.specs.RunTexts.{TellsRun}
use Rattle.author_cli.specs.Given.{unbound_plan, filled_given, SaysGiven}
use Rattle.author_cli.specs.Traced.{accepted_texts, filled_alone, IsRefusedAs, IsTraced}
use Rattle.author_cli.specs.private.TracedViews.{IsRunOf, SaysBlocked}

-- ---- a run without earlier ones waits for none

waits_none : (slots : List Slot) → waits slots [] ≡ None
waits_none slots =
    elim (has_carry slots) as (λ b. (if b then option_map (λ (e : Earlier). e.day) None else None) ≡ None)
    [ true ↦ refl | false ↦ refl ]

not_waiting : (a : Option Day) (b c d : Option (List ℕ)) (e : List Decimal) (day : Day) → a ≡ None
    → first_of a b c d e ≢ State (blocked.Waits day)
not_waiting (Some x) b c d e day n h = cc n
not_waiting None (Some x) c d e day n h = cc h
not_waiting None None (Some x) d e day n h = cc h
not_waiting None None None (Some x) e day n h = cc h
not_waiting None None None None e day n h = cc h

never_waits : (p : Accepted) (values : List NamedValue) (day : Day) → filled p values [] ≢ State (blocked.Waits day)
unfolding filled
never_waits p values day =
    let slots = slots_of p in
    not_waiting (waits slots []) (unknown slots values) (missing slots values []) (outside slots values [])
    (inputs slots values []) day (waits_none slots)

pub waits_for_none : (p : Accepted) (values : List NamedValue) (state : Blocked) (found : Filled) (day : Day)
    → found ≡ State state → found ≡ filled_given p values → state ≢ blocked.Waits day
waits_for_none p values state found day is are e = never_waits (unbound_plan p) values day (sym are ∙ is ∙ ap State e)

-- ---- a run

-- what the values fill is filled of both files
pub filled_of : (values given : List NamedValue) (plan limits : List ℕ) (p : Seen) (found result : Filled)
    → IsAcceptedAs plan limits p → given ≡ values → found ≡ result → found ≡ filled_given (accepted p) given
    → filled_alone values plan limits (meaning p) ≡ result
filled_of values given plan limits p found result h same is are =
    let alone : filled_alone values p.plan p.limits (meaning p) ≡ result =
    ap (λ v. filled_given (accepted p) v) (sym same) ∙ sym are ∙ is in
    subst (λ l. filled_alone values plan l (meaning p) ≡ result) h.limits_bytes
    (subst (λ b. filled_alone values b p.limits (meaning p) ≡ result) h.plan_bytes alone)

pub told_run : (values given : List NamedValue) (plan limits : NamedText) (p : Seen) (inputs : List Decimal) (found : Filled)
    (text : List ℕ) (reason : Option (List ℕ)) → IsAcceptedAs plan.bytes limits.bytes p → given ≡ values
    → found ≡ Inputs inputs → found ≡ filled_given (accepted p) given
    → IsRunOf plan.bytes (flowchart p) given inputs text reason → IsTraced values plan limits text reason
told_run values given plan limits p inputs found text reason h same is are r = inl (record {
  meaning = meaning p;
  accepted = h.accepted;
  inputs = inputs;
  given = filled_of values given plan.bytes limits.bytes p found (Inputs inputs) h same is are;
  notes = r.notes;
  noted = r.noted;
  told = subst (λ v. TellsRun (flowchart p) (lines_of_file plan.bytes r.notes.marks.items) v inputs text) same r.told;
  silent = r.silent;
})

-- the words on a plan as it was accepted are those on its two texts
pub says_alone : (values given : List NamedValue) (files : PlanFiles) (plan limits : List ℕ) (p : Seen) (state : Blocked)
    → IsAcceptedAs plan limits p → given ≡ values → (words : List ℕ) → SaysGiven (accepted p) given files state words
    → SaysGiven (accepted_texts plan limits (meaning p)) values files state words
says_alone values given files plan limits p state h same words says =
    subst (λ v. SaysGiven (accepted_texts plan limits (meaning p)) v files state words) same
    (subst (λ l. SaysGiven (accepted_texts plan l (meaning p)) given files state words) h.limits_bytes
    (subst (λ b. SaysGiven (accepted_texts b p.limits (meaning p)) given files state words) h.plan_bytes says))

pub blocked_run : (values given : List NamedValue) (plan limits : NamedText) (p : Seen) (state : Blocked) (found : Filled)
    (text : List ℕ) (reason : Option (List ℕ)) → IsAcceptedAs plan.bytes limits.bytes p → given ≡ values
    → found ≡ State state → found ≡ filled_given (accepted p) given
    → SaysBlocked (accepted p) given (files_with plan (Some limits)) state text reason → IsTraced values plan limits text reason
blocked_run values given plan limits p state found text reason h same is are r = inr (inl (record {
  meaning = meaning p;
  accepted = h.accepted;
  state = state;
  blocked = filled_of values given plan.bytes limits.bytes p found (State state) h same is are;
  written = r.written;
  words = r.words;
  said = r.said;
  line = r.line;
  says = says_alone values given (files_with plan (Some limits)) plan.bytes limits.bytes p state h same r.words r.says;
}))

pub refused_run : (plan limits : TextFile) (r : PlanRefusal) (written : Written) (text : List ℕ) (reason : Option (List ℕ))
    (words : List ℕ) → IsRefusedOrMemory plan.bytes.now limits.bytes.now r → IsRefusal plan.bytes.now r written
    → text ≡ written.text → reason ≡ Some words → IsOneLine words → BeginsAtRefusal (files_of plan limits) r words
    → IsRefusedAs r (named_text plan) (named_text limits) text reason
refused_run plan limits r written text reason words refused has same said line begins = record {
  refused = refused_is plan.bytes.now limits.bytes.now r written refused has;
  detail = has.detail;
  has = has.has;
  written = same ∙ ap (λ (a : Written). a.text) has.is;
  words = words;
  said = said;
  tells = record {
    refusal = r;
    refused = refused_is plan.bytes.now limits.bytes.now r written refused has;
    line = line;
    begins = begins;
  };
}

-- the text of a run with the lines of its file
pub run_of : (file : List ℕ) (f : Flowchart) (given : List NamedValue) (inputs : List Decimal) (notes : Notes)
    (marks : List Mark) (lines : FileLines) (text : List ℕ) (reason : Option (List ℕ)) → HasNotes file notes
    → marks ≡ notes.marks.items → lines ≡ lines_of_file file marks → TellsRun f lines given inputs text → reason ≡ None
    → IsRunOf file f given inputs text reason
run_of file f given inputs notes marks lines text reason noted same are told silent = record {
  notes = notes;
  noted = noted;
  told = subst (λ m. TellsRun f (lines_of_file file m) given inputs text) same
      (subst (λ l. TellsRun f l given inputs text) are told);
  silent = silent;
}
