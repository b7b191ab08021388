-- The page of a run from what the calls below promise.
use Rattle.std.proofs.Common.{◌≡◌, ℕ, List, refl, inl, inr, sym, ap, subst, ◌∙◌, string_bytes}
use Rattle.std.specs.Prelude.{Option, Some, None}
use Rattle.scaled_decimal.specs.Decimals.{Decimal}
use Rattle.payroll_records.specs.declared.values.NamedValue.{NamedValue}
use Rattle.carry_bindings.specs.declared.filling.Filled.{Filled}
use Rattle.carry_bindings.specs.declared.filling.Filled.TheVariants.{Inputs, State}
use Rattle.carry_bindings.specs.declared.filling.Blocked.{Blocked}
use Rattle.pap_tree.specs.Flowchart.{Flowchart}
use Rattle.pap_plan.specs.Plans.{flowchart, meaning}
use Rattle.pay_run.specs.Accepted.{accepted}
use Rattle.plan_notes.specs.declared.notes.Notes.{Notes}
use Rattle.plan_notes.specs.declared.tag.Mark.{Mark}
use Rattle.plan_notes.specs.Notes.{HasNotes}
use Rattle.plain_words.specs.Lines.{IsOneLine}
use Rattle.plain_words.specs.Places.{files_of, named_text}
use Rattle.flowchart_methods.specs.Marks.{Marked}
use Rattle.flowchart_page.specs.Findings.{IsFound}
use Rattle.flowchart_page.specs.Judged.{finding_of, words_of, HasLine, HasPlan}
use Rattle.flowchart_page.specs.Pages.{IsRunPage}
use Rattle.flowchart_page.specs.Verdicts.{files_with, IsJudged}
use Rattle.flowchart_page.specs.declared.verdict.Verdict.{Verdict}
use Rattle.flowchart_page.specs.declared.verdict.Verdict.TheVariants.{Accepted, InOrder, Refused}
use Rattle.flowchart_page.specs.declared.verdict.Reason.{Reason}
use Rattle.plain_words.specs.declared.place.TextFile.{TextFile}
use Rattle.source_lines.specs.Lines.{FileLines, lines_of_file}
use Rattle.run_trace.specs.RunPages.{blocked_part}
use Rattle.run_trace.specs.ShownRuns.{ShowsRun, run_pieces}
use Rattle.author_cli.specs.declared.drawn.Judged.{Judged}
use Rattle.author_cli.specs.Given.{filled_given, SaysGiven}
use Rattle.author_cli.specs.Drawn.{shown_run, shown_part, blocked_line, IsDrawnRefused, IsDrawn}
use Rattle.author_cli.specs.private.DrawnViews.{IsOfFiles, DrawsRun, DrawsBlocked}
use Rattle.author_cli.proofs.TracedLemmas.{filled_of, says_alone}

-- an accepted plan with the verdict on it
pub of_files : (j : Judged) → j.verdict.now ≡ Accepted j.accepted.now
    → IsFound j.plan.bytes.now (Some j.limits.bytes.now) (finding_of j.verdict.now) → HasLine j.plan.bytes.now j.verdict.now
    → HasPlan j.plan.bytes.now (Some j.limits.bytes.now) j.verdict.now → IsOfFiles j
of_files j is found line plan = record {
  accepted = subst (HasPlan j.plan.bytes.now (Some j.limits.bytes.now)) is plan;
  found = found;
  line = line;
  silent = subst (λ v. words_of v ≡ None) (sym is) refl;
}

-- the page with the run
pub drawn_run : (values given : List NamedValue) (j : Judged) (inputs : List Decimal) (found : Filled) (text : List ℕ)
    (reason : Option (List ℕ)) → IsOfFiles j → given ≡ values → found ≡ Inputs inputs
    → found ≡ filled_given (accepted j.accepted.now) given → DrawsRun j (flowchart j.accepted.now) given inputs text reason
    → IsDrawn values (named_text j.plan) (named_text j.limits) text reason
drawn_run values given j inputs found text reason h same is are r =
    let plan = j.plan.bytes.now in
    let limits = j.limits.bytes.now in
    inl (record {
      meaning = meaning j.accepted.now;
      accepted = h.accepted.accepted;
      inputs = inputs;
      given = filled_of values given plan limits j.accepted.now found (Inputs inputs) h.accepted same is are;
      notes = r.notes;
      noted = r.noted;
      run = r.run;
      shows = subst (λ v. ShowsRun (flowchart j.accepted.now) (lines_of_file plan r.notes.marks.items) v inputs r.run) same
          r.shows;
      page = r.page;
      silent = r.silent;
    })

-- the page that says why there is none
pub drawn_blocked : (values given : List NamedValue) (j : Judged) (state : Blocked) (found : Filled) (text : List ℕ)
    (reason : Option (List ℕ)) → IsOfFiles j → given ≡ values → found ≡ State state
    → found ≡ filled_given (accepted j.accepted.now) given → DrawsBlocked j given state text reason
    → IsDrawn values (named_text j.plan) (named_text j.limits) text reason
drawn_blocked values given j state found text reason h same is are r =
    let plan = j.plan.bytes.now in
    let limits = j.limits.bytes.now in
    inr (inl (record {
      meaning = meaning j.accepted.now;
      accepted = h.accepted.accepted;
      state = state;
      blocked = filled_of values given plan limits j.accepted.now found (State state) h.accepted same is are;
      words = r.words;
      said = r.said;
      line = r.line;
      says = says_alone values given (files_of j.plan j.limits) plan limits j.accepted.now state h.accepted same r.words r.says;
      page = r.page;
    }))

-- a run with the lines of its file, and with its marks
pub draws_run : (j : Judged) (f : Flowchart) (given : List NamedValue) (inputs : List Decimal) (notes : Notes)
    (tags : List Mark) (lines : FileLines) (part : List ℕ) (marks shown : List (List Marked)) (text : List ℕ)
    (words reason : Option (List ℕ))
    → HasNotes j.plan.bytes.now notes → tags ≡ notes.marks.items → lines ≡ lines_of_file j.plan.bytes.now tags
    → ShowsRun f lines given inputs (run_pieces part marks) → shown ≡ marks
    → IsRunPage (Some (shown_run (run_pieces part shown))) j.plan.bytes.now (Some j.limits.bytes.now) words text → words ≡ None
    → reason ≡ None → DrawsRun j f given inputs text reason
draws_run j f given inputs notes tags lines part marks shown text words reason noted same are shows all page none silent = record {
  notes = notes;
  noted = noted;
  run = run_pieces part marks;
  shows = subst (λ m. ShowsRun f (lines_of_file j.plan.bytes.now m) given inputs (run_pieces part marks)) same
      (subst (λ l. ShowsRun f l given inputs (run_pieces part marks)) are shows);
  page = subst (λ ms. IsRunPage (Some (shown_run (run_pieces part ms))) j.plan.bytes.now (Some j.limits.bytes.now) None text) all
      (subst (λ w. IsRunPage (Some (shown_run (run_pieces part shown))) j.plan.bytes.now (Some j.limits.bytes.now) w text) none
      page);
  silent = silent;
}

-- why a run has no inputs, in words and as a line
pub draws_blocked : (j : Judged) (values : List NamedValue) (state : Blocked) (words line first second part text : List ℕ)
    (silent reason : Option (List ℕ)) → IsOneLine words
    → SaysGiven (accepted j.accepted.now) values (files_of j.plan j.limits) state words
    → line ≡ blocked_line state → first ≡ words → second ≡ line → part ≡ blocked_part first second
    → IsRunPage (Some (shown_part part)) j.plan.bytes.now (Some j.limits.bytes.now) silent text → silent ≡ None
    → reason ≡ Some words → DrawsBlocked j values state text reason
draws_blocked j values state words line first second part text silent reason one says is same same' shown page none said =
    let whole : part ≡ blocked_part words (blocked_line state) =
    shown ∙ ap (λ w. blocked_part w second) same ∙ ap (λ l. blocked_part words l) (same' ∙ is) in
    record {
      words = words;
      said = said;
      line = one;
      says = says;
      page = subst (λ p. IsRunPage (Some (shown_part p)) j.plan.bytes.now (Some j.limits.bytes.now) None text) whole
          (subst (λ w. IsRunPage (Some (shown_part part)) j.plan.bytes.now (Some j.limits.bytes.now) w text) none page);
    }

-- a plan that has a range file isn't merely in order
pub no_in_order : (plan limits : List ℕ) (v : Verdict) → v ≡ InOrder → IsFound plan (Some limits) (finding_of v) → ⊥
no_in_order plan limits v is found = subst (λ x. IsFound plan (Some limits) (finding_of x)) is found

-- the page of a refused plan
pub drawn_refused : (plan limits : TextFile) (v : Verdict) (reason : Reason) (text words : List ℕ) (said : Option (List ℕ))
    → v ≡ Refused reason → IsJudged (named_text plan) (Some (named_text limits)) (words_of v)
    → IsRunPage None plan.bytes.now (Some limits.bytes.now) (words_of v) text → words ≡ string_bytes reason.words
    → said ≡ Some words → IsDrawnRefused (named_text plan) (named_text limits) text said
drawn_refused plan limits v reason text words said is judged page same says = record {
  words = string_bytes reason.words;
  said = says ∙ ap Some same;
  tells = subst (λ x. IsJudged (named_text plan) (Some (named_text limits)) (words_of x)) is judged;
  page = subst (λ x. IsRunPage None plan.bytes.now (Some limits.bytes.now) (words_of x) text) is page;
}
