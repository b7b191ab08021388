-- The answer on what is read of the files is that on their bytes.
use Rattle.std.proofs.Common.{◌≡◌, ℕ, ◌<◌, List, [], take, inl, inr, refl, sym, ap, ◌∙◌, subst, arith}
use Rattle.std.specs.Prelude.{Option, Some, None, Result, Ok, Err}
use Rattle.std.proofs.lemmas.List.{take_all}
use Rattle.outside.specs.Told.{FileMap, IsFileFront, IsToldFront}
use Rattle.pap_reader.specs.declared.fault.ReadFault.{ReadFault}
use Rattle.pap_reader.specs.Trees.{ElementTree}
use Rattle.pap_reader.specs.Elements.{IsElements, IsFault}
use Rattle.limits_file.specs.declared.limits.Limits.{Limits}
use Rattle.limits_file.specs.Faults.{Fault, too_long, no_toml, bad_key, bad_bound}
use Rattle.limits_file.specs.RangeFiles.{FileSays, IsNoToml}
use Rattle.pap_plan.specs.declared.refusal.PlanRefusal.{PlanRefusal}
use Rattle.pap_plan.specs.declared.refusal.PlanRefusal.TheVariants as refusals
use Rattle.pap_plan.specs.Acceptance.{Meaning, HasBindings, IsAccepted, IsRefused}
use Rattle.plan_answers.specs.Fronts.{AreFronts}
use Rattle.plan_answers.proofs.Laws.{whole, longer, front_there, answers_front, accepted_whole, refusal_answer}
use Rattle.plan_notes.specs.Notes.{HasNotes}
use Rattle.plain_words.specs.Places.{NamedText}
use Rattle.plain_words.specs.Refusals.{TellsPlan}
use Rattle.flowchart_page.specs.Verdicts.{file_or_none, files_with, IsJudged}
use Rattle.flowchart_methods.specs.declared.site.Site.{Site}
use Rattle.flowchart_page.specs.Findings.{Finding, accepted, in_order, refused, IsFound}
use Rattle.flowchart_page.specs.Runs.{RunParts}
use Rattle.flowchart_page.specs.Pages.{AreLimits, IsPlanTable, AreTreeTexts, ArePlanTexts, Says, Shows, IsRunPage, IsPage}
use Rattle.author_cli.specs.Words.{Medium, two_plans, chart, chart_within, ranges, compared, traced, drawn, example, linted}
use Rattle.author_cli.specs.Compared.{TellsComparison, IsUnreadable, IsCompared}
use Rattle.author_cli.specs.Drawn.{IsDrawnRun, IsDrawnBlocked, IsDrawnRefused, IsDrawn}
use Rattle.author_cli.specs.Examples.{TellsSearch, IsUnsearched, IsExample}
use Rattle.author_cli.specs.Linted.{TellsFindings, IsLinted}
use Rattle.author_cli.specs.Traced.{IsToldRun, IsBlockedRun, IsRefusedAs, IsTraced}
use Rattle.payroll_records.specs.declared.values.NamedValue.{NamedValue}
use Rattle.author_cli.specs.private.TwoFronts.{AreTwoFronts}
use Rattle.pap_tree.specs.Flowchart.{Flowchart}
use Rattle.plan_text.specs.Plans.{IsPlan}
use Rattle.pap_plan.specs.AcceptanceClauses.{IsUnreadPlan}
use Rattle.plan_answers.specs.Refusals.{HasDetail}
use Rattle.plan_answers.specs.Answers.{Answer as Written, refusal}
use Rattle.interval_analysis.specs.declared.fault.RangeFault.{RangeFault}
use Rattle.author_cli.specs.Answers.{Answer, IsChart, ChartsAccepted, ChartsWalk, ShowsRefusal, ChartsRefused, IsChartWithin, IsRanges, file_of, Answers}
use Rattle.author_cli.proofs.TellsLemmas.{front, begins_ranges, begins_plan}

module _ (n m : ℕ) (more_plan : 1048576 < n) (more_limits : 262144 < m) where
  -- ---- the judgement

  accepted_front : (plan limits : List ℕ) (x : Meaning) → IsAccepted (take n plan) (take m limits) x
      → IsAccepted plan limits x
  accepted_front plan limits x h = answers_front n m more_plan more_limits plan limits (Ok x) h

  refused_front : (plan limits : List ℕ) (r : PlanRefusal) → IsRefused (take n plan) (take m limits) r
      → IsRefused plan limits r
  refused_front plan limits r h = answers_front n m more_plan more_limits plan limits (Err r) h

  -- of an empty range file an empty front is read
  empty_front : (P : List ℕ → Type 0) → P [] → P (take m [])
  empty_front P h = subst P (sym (take_all m [] (omega arith))) h

  accepted_alone : (plan : List ℕ) (x : Meaning) → IsAccepted (take n plan) [] x → IsAccepted plan [] x
  accepted_alone plan x h = accepted_front plan [] x (empty_front (λ l. IsAccepted (take n plan) l x) h)

  refused_alone : (plan : List ℕ) (r : PlanRefusal) → IsRefused (take n plan) [] r → IsRefused plan [] r
  refused_alone plan r h = refused_front plan [] r (empty_front (λ l. IsRefused (take n plan) l r) h)

  -- ---- the words

  tells_front : (plan limits : NamedText) (words : List ℕ)
      → TellsPlan (files_with (front n plan) (Some (front m limits))) words → TellsPlan (files_with plan (Some limits)) words
  tells_front plan limits words h = record {
    refusal = h.refusal;
    refused = refused_front plan.bytes limits.bytes h.refusal h.refused;
    line = h.line;
    begins = begins_ranges m plan limits h.refusal words
        (begins_plan n more_plan plan (front m limits) (take m limits.bytes) h.refusal words h.refused h.begins);
  }

  tells_alone : (plan : NamedText) (words : List ℕ) → TellsPlan (files_with (front n plan) None) words
      → TellsPlan (files_with plan None) words
  tells_alone plan words h = record {
    refusal = h.refusal;
    refused = refused_alone plan.bytes h.refusal h.refused;
    line = h.line;
    begins = begins_plan n more_plan plan (file_or_none None) [] h.refusal words h.refused h.begins;
  }

  judged_front : (plan limits : NamedText) (words : Option (List ℕ))
      → IsJudged (front n plan) (Some (front m limits)) words → IsJudged plan (Some limits) words
  judged_front plan limits (Some words) h = tells_front plan limits words h
  judged_front plan limits None h = (h.0, accepted_front plan.bytes limits.bytes h.0 h.1)

  judged_alone : (plan : NamedText) (words : Option (List ℕ)) → IsJudged (front n plan) None words
      → IsJudged plan None words
  unfolding tells_alone
  judged_alone plan (Some words) h = record { tells = tells_alone plan words h.tells; other = h.other }
  judged_alone plan None (inl h) = inl (h.0, accepted_alone plan.bytes h.0 h.1)
  judged_alone plan None (inr h) = inr (h.0, refused_alone plan.bytes (refusals.LimitName h.0) h.1)

  -- ---- the page

  found_front : (plan limits : List ℕ) (finding : Finding) → IsFound (take n plan) (Some (take m limits)) finding
      → IsFound plan (Some limits) finding
  found_front plan limits (accepted x) h = accepted_front plan limits x h
  found_front plan limits in_order h = absurd h
  found_front plan limits (refused r) h = refused_front plan limits r h

  found_alone : (plan : List ℕ) (finding : Finding) → IsFound (take n plan) None finding → IsFound plan None finding
  found_alone plan (accepted x) h = accepted_alone plan x h
  found_alone plan in_order h = (h.0, refused_alone plan (refusals.LimitName h.0) h.1)
  found_alone plan (refused r) h = (h.0, refused_alone plan r h.1)

  elements_front : (plan : List ℕ) (tree : ElementTree) → IsElements (take n plan) tree → IsElements plan tree
  elements_front plan tree h = subst (λ b. IsElements b tree) (whole 1048576 n plan more_plan h.short) h

  fault_front : (plan : List ℕ) (fault : ReadFault) → IsFault (take n plan) fault → IsFault plan fault
  fault_front plan fault h = refused_alone plan (refusals.Read fault) h

  file_front : (limits : List ℕ) (x : Result Limits Fault) → FileSays (take m limits) x → FileSays limits x
  file_front limits (Ok l) h = subst (λ b. FileSays b (Ok l)) (whole 262144 m limits more_limits h.1.short) h
  file_front limits (Err too_long) h = longer 262144 m limits h
  file_front limits (Err no_toml) h = subst (λ b. IsNoToml b) (whole 262144 m limits more_limits h.short) h
  file_front limits (Err (bad_key label)) h =
      subst (λ b. FileSays b (Err (bad_key label))) (whole 262144 m limits more_limits h.1.short) h
  file_front limits (Err (bad_bound label)) h =
      subst (λ b. FileSays b (Err (bad_bound label))) (whole 262144 m limits more_limits h.1.short) h

  limits_front : (limits : List ℕ) (l : Option Limits) → AreLimits (Some (take m limits)) l → AreLimits (Some limits) l
  limits_front limits (Some l) h = file_front limits (Ok l) h
  limits_front limits None h = (h.0, file_front limits (Err h.0) h.1)

  says_front : (plan : List ℕ) (finding : Finding) (words : Option (List ℕ)) (site : Site) (said : List ℕ)
      → Says (take n plan) finding words site said → Says plan finding words site said
  says_front plan (accepted x) None site said h = h
  says_front plan (accepted x) (Some w) site said h = h
  says_front plan in_order None site said h = h
  says_front plan in_order (Some w) site said h = h
  says_front plan (refused r) None site said h = h
  says_front plan (refused r) (Some w) site said h = record {
    line = h.line;
    is_line = record {
      answer = h.is_line.answer;
      refused = refusal_answer n m more_plan more_limits plan r h.is_line.answer h.is_line.refused;
      is = h.is_line.is;
    };
    is = h.is;
  }

  -- what is read of the range file says what its part says
  module _ (plan : List ℕ) (part file : Option (List ℕ)) (says : (l : Option Limits) → AreLimits part l → AreLimits file l)
      (finding : Finding) (site : Site) where
    table_front : (run : Option RunParts) (tree : ElementTree) (texts : List (List ℕ)) → IsElements (take n plan) tree
        → IsPlanTable run (take n plan) part finding site tree texts → IsPlanTable run plan file finding site tree texts
    table_front run tree texts e h = record {
      notes = h.notes;
      noted = subst (λ b. HasNotes b h.notes) (whole 1048576 n plan more_plan e.short) h.noted;
      limits = h.limits;
      read = says h.limits h.read;
      table = h.table;
    }

    tree_front : (run : Option RunParts) (tree : ElementTree) (texts : List (List ℕ)) → IsElements (take n plan) tree
        → AreTreeTexts run (take n plan) part finding site tree texts → AreTreeTexts run plan file finding site tree texts
    tree_front run tree texts e h = record {
      names = h.names;
      table = h.table;
      is_table = table_front run tree h.table e h.is_table;
      captions = h.captions;
      are_captions = h.are_captions;
      is = h.is;
    }

    texts_front : (run : Option RunParts) (texts : List (List ℕ)) → ArePlanTexts run (take n plan) part finding site texts
        → ArePlanTexts run plan file finding site texts
    texts_front run texts (inl h) = inl (h.0, elements_front plan h.0 h.1, tree_front run h.0 texts h.1 h.2)
    texts_front run texts (inr h) = inr (h.0, fault_front plan h.0 h.1, h.2, h.3)

    shown_front : (run : Option RunParts) (said page : List ℕ) → Shows run (take n plan) part finding site said page
        → Shows run plan file finding site said page
    shown_front run said page h = record { texts = h.texts; are_texts = texts_front run h.texts h.are_texts; whole = h.whole }

  page_front : (run : Option RunParts) (plan limits : List ℕ) (words : Option (List ℕ)) (page : List ℕ)
      → IsRunPage run (take n plan) (Some (take m limits)) words page → IsRunPage run plan (Some limits) words page
  page_front run plan limits words page h = record {
    finding = h.finding;
    found = found_front plan limits h.finding h.found;
    site = h.site;
    verdict = h.verdict;
    says = says_front plan h.finding words h.site h.verdict h.says;
    shown = shown_front plan (Some (take m limits)) (Some limits) (limits_front limits) h.finding h.site run h.verdict page h.shown;
  }

  page_alone : (plan : List ℕ) (words : Option (List ℕ)) (page : List ℕ) → IsPage (take n plan) None words page
      → IsPage plan None words page
  page_alone plan words page h = record {
    finding = h.finding;
    found = found_alone plan h.finding h.found;
    site = h.site;
    verdict = h.verdict;
    says = says_front plan h.finding words h.site h.verdict h.says;
    shown = shown_front plan None None (λ l said. said) h.finding h.site None h.verdict page h.shown;
  }

  chart_front : (plan limits : NamedText) (a : Answer) → IsChart (front n plan) (Some (front m limits)) a
      → IsChart plan (Some limits) a
  chart_front plan limits a h = record {
    page = page_front None plan.bytes limits.bytes a.reason a.text h.page;
    judged = judged_front plan limits a.reason h.judged;
  }

  chart_alone : (plan : NamedText) (a : Answer) → IsChart (front n plan) None a → IsChart plan None a
  chart_alone plan a h = record {
    page = page_alone plan.bytes a.reason a.text h.page;
    judged = judged_alone plan a.reason h.judged;
  }

  -- ---- the range file

  ranges_front : (plan : NamedText) (a : Answer) → IsRanges (front n plan) a → IsRanges plan a
  ranges_front plan a (inl h) = inl (record {
    tree = h.tree;
    elements = elements_front plan.bytes h.tree h.elements;
    notes = h.notes;
    noted = subst (λ b. HasNotes b h.notes) (whole 1048576 n plan.bytes more_plan h.elements.short) h.noted;
    draft = h.draft;
    short = h.short;
    read = h.read;
  })
  ranges_front plan a (inr h) = inr (record {
    fault = h.fault;
    has = fault_front plan.bytes h.fault h.has;
    text = h.text;
    words = h.words;
    reason = h.reason;
    tells = tells_alone plan h.words h.tells;
  })

  -- ---- two plans

  unread_front : (plan : List ℕ) (r : PlanRefusal) → IsUnreadPlan (take n plan) r → IsUnreadPlan plan r
  unread_front plan (refusals.Read fault) h = refused_alone plan (refusals.Read fault) h
  unread_front plan (refusals.Expr spot fault) h = refused_alone plan (refusals.Expr spot fault) h
  unread_front plan refusals.Memory h = tt
  unread_front plan (refusals.Types fault) h = absurd h
  unread_front plan (refusals.Order fault) h = absurd h
  unread_front plan (refusals.Limits fault) h = absurd h
  unread_front plan (refusals.LimitName name) h = absurd h
  unread_front plan (refusals.LimitKind name) h = absurd h
  unread_front plan (refusals.Bind name) h = absurd h
  unread_front plan (refusals.Range fault) h = absurd h

  detail_front : (plan : List ℕ) (r : PlanRefusal) (detail : List ℕ) → IsUnreadPlan (take n plan) r
      → HasDetail (take n plan) r detail → HasDetail plan r detail
  detail_front plan (refusals.Read fault) detail u h = h
  detail_front plan (refusals.Expr spot fault) detail u h = h
  detail_front plan refusals.Memory detail u h = absurd h
  detail_front plan (refusals.Types fault) detail u h = absurd u
  detail_front plan (refusals.Order fault) detail u h = absurd u
  detail_front plan (refusals.Limits fault) detail u h = absurd u
  detail_front plan (refusals.LimitName name) detail u h = absurd u
  detail_front plan (refusals.LimitKind name) detail u h = absurd u
  detail_front plan (refusals.Bind name) detail u h = absurd u
  detail_front plan (refusals.Range fault) detail u h = absurd u

  plan_front : (bytes : List ℕ) (f : Flowchart) → IsPlan (take n bytes) f → IsPlan bytes f
  plan_front bytes f h = subst (λ b. IsPlan b f) (whole 1048576 n bytes more_plan h.read.short) h

  unreadable_front : (plan : NamedText) (text : List ℕ) (reason : Option (List ℕ))
      → IsUnreadable (front n plan) text reason → IsUnreadable plan text reason
  unreadable_front plan text reason h = record {
    refusal = h.refusal;
    unread = unread_front plan.bytes h.refusal h.unread;
    detail = h.detail;
    has = detail_front plan.bytes h.refusal h.detail h.unread h.has;
    written = h.written;
    words = h.words;
    said = h.said;
    tells = tells_alone plan h.words h.tells;
  }

  compared_front : (medium : Medium) (old new : NamedText) (text : List ℕ) (reason : Option (List ℕ))
      → IsCompared medium (front n old) (front n new) text reason → IsCompared medium old new text reason
  compared_front medium old new text reason (inl h) = inl (record {
    old_plan = h.old_plan;
    new_plan = h.new_plan;
    old_read = plan_front old.bytes h.old_plan h.old_read;
    new_read = plan_front new.bytes h.new_plan h.new_read;
    tells = subst (λ b. TellsComparison medium old (record { name = new.name; bytes = b }) h.old_plan h.new_plan None text reason)
        (whole 1048576 n new.bytes more_plan h.new_read.read.short)
        (subst (λ b. TellsComparison medium (record { name = old.name; bytes = b }) (front n new) h.old_plan h.new_plan None text reason)
        (whole 1048576 n old.bytes more_plan h.old_read.read.short) h.tells);
  })
  compared_front medium old new text reason (inr (inl h)) = inr (inl (unreadable_front old text reason h))
  compared_front medium old new text reason (inr (inr h)) = inr (inr (unreadable_front new text reason h))

  -- ---- a run

  told_front : (values : List NamedValue) (plan limits text : List ℕ) (reason : Option (List ℕ))
      → IsToldRun values (take n plan) (take m limits) text reason → IsToldRun values plan limits text reason
  told_front values plan limits text reason h =
      let w = accepted_whole n m more_plan more_limits plan limits h.meaning h.accepted in
      subst (λ l. IsToldRun values plan l text reason) w.1
      (subst (λ p. IsToldRun values p (take m limits) text reason) w.0 h)

  blocked_front : (values : List NamedValue) (plan limits : NamedText) (text : List ℕ) (reason : Option (List ℕ))
      → IsBlockedRun values (front n plan) (front m limits) text reason → IsBlockedRun values plan limits text reason
  blocked_front values plan limits text reason h =
      let w = accepted_whole n m more_plan more_limits plan.bytes limits.bytes h.meaning h.accepted in
      subst (λ l. IsBlockedRun values plan (record { name = limits.name; bytes = l }) text reason) w.1
      (subst (λ p. IsBlockedRun values (record { name = plan.name; bytes = p }) (front m limits) text reason) w.0 h)

  pub refusal_front : (r : PlanRefusal) (plan limits : NamedText) (text : List ℕ) (reason : Option (List ℕ))
      → IsRefusedAs r (front n plan) (front m limits) text reason → IsRefusedAs r plan limits text reason
  refusal_front r plan limits text reason h =
      let a = refusal_answer n m more_plan more_limits plan.bytes r (refusal h.detail)
      (record { detail = h.detail; has = h.has; is = refl }) in
      record {
        refused = refused_front plan.bytes limits.bytes r h.refused;
        detail = a.detail;
        has = a.has;
        written = h.written ∙ ap (λ (x : Written). x.text) a.is;
        words = h.words;
        said = h.said;
        tells = tells_front plan limits h.words h.tells;
      }

  -- ---- the page with ranges

  charted_front : (plan limits : NamedText) (a : Answer) → ChartsAccepted (front n plan) (front m limits) a
      → ChartsAccepted plan limits a
  charted_front plan limits a h =
      let w = accepted_whole n m more_plan more_limits plan.bytes limits.bytes h.meaning h.accepted in
      subst (λ l. ChartsAccepted plan (record { name = limits.name; bytes = l }) a) w.1
      (subst (λ p. ChartsAccepted (record { name = plan.name; bytes = p }) (front m limits) a) w.0 h)

  walk_front : (fault : RangeFault) (plan limits : NamedText) (a : Answer) → ChartsWalk fault (front n plan) (front m limits) a
      → ChartsWalk fault plan limits a
  walk_front fault plan limits a h =
      let file = h.bound.suited.named.file in
      let plan_whole = whole 1048576 n plan.bytes more_plan file.ordered.typed.text.read.short in
      let limits_whole = whole 262144 m limits.bytes more_limits file.file.1.short in
      subst (λ l. ChartsWalk fault plan (record { name = limits.name; bytes = l }) a) limits_whole
      (subst (λ p. ChartsWalk fault (record { name = plan.name; bytes = p }) (front m limits) a) plan_whole h)

  shows_front : (r : PlanRefusal) (plan limits : NamedText) (a : Answer) → ShowsRefusal r (front n plan) (front m limits) a
      → ShowsRefusal r plan limits a
  shows_front (refusals.Range fault) plan limits a h = walk_front fault plan limits a h
  shows_front (refusals.Read fault) plan limits a h = chart_front plan limits a h
  shows_front (refusals.Expr spot fault) plan limits a h = chart_front plan limits a h
  shows_front (refusals.Types fault) plan limits a h = chart_front plan limits a h
  shows_front (refusals.Order fault) plan limits a h = chart_front plan limits a h
  shows_front (refusals.Limits fault) plan limits a h = chart_front plan limits a h
  shows_front (refusals.LimitName name) plan limits a h = chart_front plan limits a h
  shows_front (refusals.LimitKind name) plan limits a h = chart_front plan limits a h
  shows_front (refusals.Bind name) plan limits a h = chart_front plan limits a h
  shows_front refusals.Memory plan limits a h = chart_front plan limits a h

  within_front : (plan limits : NamedText) (a : Answer) → IsChartWithin (front n plan) (front m limits) a
      → IsChartWithin plan limits a
  within_front plan limits a (inl h) = inl (charted_front plan limits a h)
  within_front plan limits a (inr h) = inr (
    h.0,
    record {
      refused = refused_front plan.bytes limits.bytes h.0 h.1.refused;
      shows = shows_front h.0 plan limits a h.1.shows;
    },
  )

  traced_front : (values : List NamedValue) (plan limits : NamedText) (text : List ℕ) (reason : Option (List ℕ))
      → IsTraced values (front n plan) (front m limits) text reason → IsTraced values plan limits text reason
  traced_front values plan limits text reason (inl h) = inl (told_front values plan.bytes limits.bytes text reason h)
  traced_front values plan limits text reason (inr (inl h)) = inr (inl (blocked_front values plan limits text reason h))
  traced_front values plan limits text reason (inr (inr h)) =
      inr (inr (h.0, refusal_front h.0 plan limits text reason h.1))

  -- ---- a search

  pub bound_front : (plan limits : List ℕ) (f : Flowchart) (l : Limits) → HasBindings (take n plan) (take m limits) f l
      → HasBindings plan limits f l
  bound_front plan limits f l h =
      subst (λ b. HasBindings plan b f l) (whole 262144 m limits more_limits h.suited.named.file.file.1.short)
      (subst (λ b. HasBindings b (take m limits) f l)
      (whole 1048576 n plan more_plan h.suited.named.file.ordered.typed.text.read.short) h)

  search_front : (plan limits text : List ℕ) (reason : Option (List ℕ))
      → TellsSearch (take n plan) (take m limits) text reason → TellsSearch plan limits text reason
  search_front plan limits text reason h = record {
    flowchart = h.flowchart;
    ranges = h.ranges;
    bound = bound_front plan limits h.flowchart h.ranges h.bound;
    tells = h.tells;
  }

  unsearched_front : (plan limits : NamedText) (text : List ℕ) (reason : Option (List ℕ))
      → IsUnsearched (front n plan) (front m limits) text reason → IsUnsearched plan limits text reason
  unsearched_front plan limits text reason h = record {
    refusal = h.refusal;
    early = h.early;
    tells = refusal_front h.refusal plan limits text reason h.tells;
  }

  example_front : (plan limits : NamedText) (text : List ℕ) (reason : Option (List ℕ))
      → IsExample (front n plan) (front m limits) text reason → IsExample plan limits text reason
  example_front plan limits text reason (inl h) = inl (search_front plan.bytes limits.bytes text reason h)
  example_front plan limits text reason (inr h) = inr (unsearched_front plan limits text reason h)

  -- ---- findings

  findings_front : (plan : NamedText) (limits text : List ℕ) (reason : Option (List ℕ))
      → TellsFindings (front n plan) (take m limits) text reason → TellsFindings plan limits text reason
  findings_front plan limits text reason h =
      let named = h.accepted.bound.suited.named in
      subst (λ b. TellsFindings plan b text reason) (whole 262144 m limits more_limits named.file.file.1.short)
      (subst (λ b. TellsFindings (record { name = plan.name; bytes = b }) (take m limits) text reason)
      (whole 1048576 n plan.bytes more_plan named.file.ordered.typed.text.read.short) h)

  linted_front : (plan limits : NamedText) (text : List ℕ) (reason : Option (List ℕ))
      → IsLinted (front n plan) (front m limits) text reason → IsLinted plan limits text reason
  linted_front plan limits text reason (inl h) = inl (findings_front plan limits.bytes text reason h)
  linted_front plan limits text reason (inr h) = inr (h.0, refusal_front h.0 plan limits text reason h.1)

  -- ---- the page of a run

  drawn_run_front : (values : List NamedValue) (plan limits text : List ℕ) (reason : Option (List ℕ))
      → IsDrawnRun values (take n plan) (take m limits) text reason → IsDrawnRun values plan limits text reason
  drawn_run_front values plan limits text reason h =
      let w = accepted_whole n m more_plan more_limits plan limits h.meaning h.accepted in
      subst (λ l. IsDrawnRun values plan l text reason) w.1
      (subst (λ p. IsDrawnRun values p (take m limits) text reason) w.0 h)

  drawn_blocked_front : (values : List NamedValue) (plan limits : NamedText) (text : List ℕ) (reason : Option (List ℕ))
      → IsDrawnBlocked values (front n plan) (front m limits) text reason → IsDrawnBlocked values plan limits text reason
  drawn_blocked_front values plan limits text reason h =
      let w = accepted_whole n m more_plan more_limits plan.bytes limits.bytes h.meaning h.accepted in
      subst (λ l. IsDrawnBlocked values plan (record { name = limits.name; bytes = l }) text reason) w.1
      (subst (λ p. IsDrawnBlocked values (record { name = plan.name; bytes = p }) (front m limits) text reason) w.0 h)

  drawn_refused_front : (plan limits : NamedText) (text : List ℕ) (reason : Option (List ℕ))
      → IsDrawnRefused (front n plan) (front m limits) text reason → IsDrawnRefused plan limits text reason
  drawn_refused_front plan limits text reason h = record {
    words = h.words;
    said = h.said;
    tells = tells_front plan limits h.words h.tells;
    page = page_front None plan.bytes limits.bytes (Some h.words) text h.page;
  }

  drawn_front : (values : List NamedValue) (plan limits : NamedText) (text : List ℕ) (reason : Option (List ℕ))
      → IsDrawn values (front n plan) (front m limits) text reason → IsDrawn values plan limits text reason
  drawn_front values plan limits text reason (inl h) = inl (drawn_run_front values plan.bytes limits.bytes text reason h)
  drawn_front values plan limits text reason (inr (inl h)) = inr (inl (drawn_blocked_front values plan limits text reason h))
  drawn_front values plan limits text reason (inr (inr h)) = inr (inr (drawn_refused_front plan limits text reason h))

-- ---- of files that are there

-- what two calls read of files that tell this; what the files tell behind each call says what they told before it
pub two_fronts : {first first' second second' : Option FileMap} (files : FileMap) (old new bytes bytes' : List ℕ)
    → first' ≡ first → IsToldFront first old 1048577 bytes → first ≡ Some files
    → second' ≡ second → IsToldFront second new 1048577 bytes' → second ≡ Some files
    → AreTwoFronts files old new bytes bytes'
two_fronts files old new bytes bytes' same read told same' read' told' =
    let p = front_there (files old) 1048577 bytes (subst (λ t. IsToldFront t old 1048577 bytes) told read) in
    let q = front_there (files new) 1048577 bytes' (subst (λ t. IsToldFront t new 1048577 bytes') told' read') in
    record {
      old_bytes = p.0;
      new_bytes = q.0;
      old_there = p.1;
      new_there = q.1;
      old_read = p.2;
      new_read = q.2;
    }

pub compared_of : (files : FileMap) (medium : Medium) (old new bytes bytes' : List ℕ) (a : Answer)
    → AreTwoFronts files old new bytes bytes'
    → IsCompared medium (file_of old bytes) (file_of new bytes') a.text a.reason
    → Answers (compared medium (two_plans old new)) files a
compared_of files medium old new bytes bytes' a read h = record {
  old_bytes = read.old_bytes;
  new_bytes = read.new_bytes;
  old_there = read.old_there;
  new_there = read.new_there;
  is = compared_front 1048577 262145 (omega arith) (omega arith) medium
      (file_of old read.old_bytes) (file_of new read.new_bytes) a.text a.reason
      (subst (λ b. IsCompared medium (file_of old b) (file_of new (take 1048577 read.new_bytes)) a.text a.reason)
      read.old_read (subst (λ b. IsCompared medium (file_of old bytes) (file_of new b) a.text a.reason) read.new_read h));
}

pub chart_of : (files : FileMap) (plan bytes : List ℕ) (a : Answer) → IsFileFront files plan 1048577 bytes
    → IsChart (file_of plan bytes) None a → Answers (chart plan) files a
chart_of files plan bytes a read h =
    let p = front_there (files plan) 1048577 bytes read in
    record {
      plan_bytes = p.0;
      plan_there = p.1;
      is = chart_alone 1048577 262145 (omega arith) (omega arith) (file_of plan p.0) a
          (subst (λ b. IsChart (file_of plan b) None a) p.2 h);
    }

pub ranges_of : (files : FileMap) (plan bytes : List ℕ) (a : Answer) → IsFileFront files plan 1048577 bytes
    → IsRanges (file_of plan bytes) a → Answers (ranges plan) files a
ranges_of files plan bytes a read h =
    let p = front_there (files plan) 1048577 bytes read in
    record {
      plan_bytes = p.0;
      plan_there = p.1;
      is = ranges_front 1048577 262145 (omega arith) (omega arith) (file_of plan p.0) a
          (subst (λ b. IsRanges (file_of plan b) a) p.2 h);
    }

pub chart_within_of : (files : FileMap) (plan limits bytes bytes' : List ℕ) (a : Answer)
    → AreFronts files plan limits bytes bytes'
    → IsChartWithin (file_of plan bytes) (file_of limits bytes') a → Answers (chart_within plan limits) files a
chart_within_of files plan limits bytes bytes' a read h =
    record {
      plan_bytes = read.plan_bytes;
      limits_bytes = read.limits_bytes;
      plan_there = read.plan_there;
      limits_there = read.limits_there;
      is = within_front 1048577 262145 (omega arith) (omega arith)
          (file_of plan read.plan_bytes) (file_of limits read.limits_bytes) a
          (subst (λ b. IsChartWithin (file_of plan b) (file_of limits (take 262145 read.limits_bytes)) a)
          read.plan_read (subst (λ b. IsChartWithin (file_of plan bytes) (file_of limits b) a) read.limits_read h));
    }

pub traced_of : (files : FileMap) (values : List NamedValue) (plan limits bytes bytes' : List ℕ) (a : Answer)
    → AreFronts files plan limits bytes bytes'
    → IsTraced values (file_of plan bytes) (file_of limits bytes') a.text a.reason
    → Answers (traced plan limits values) files a
traced_of files values plan limits bytes bytes' a read h =
    record {
      plan_bytes = read.plan_bytes;
      limits_bytes = read.limits_bytes;
      plan_there = read.plan_there;
      limits_there = read.limits_there;
      is = traced_front 1048577 262145 (omega arith) (omega arith) values
          (file_of plan read.plan_bytes) (file_of limits read.limits_bytes) a.text a.reason
          (subst (λ b. IsTraced values (file_of plan b) (file_of limits (take 262145 read.limits_bytes)) a.text a.reason)
          read.plan_read
          (subst (λ b. IsTraced values (file_of plan bytes) (file_of limits b) a.text a.reason) read.limits_read h));
    }

pub drawn_of : (files : FileMap) (values : List NamedValue) (plan limits bytes bytes' : List ℕ) (a : Answer)
    → AreFronts files plan limits bytes bytes'
    → IsDrawn values (file_of plan bytes) (file_of limits bytes') a.text a.reason
    → Answers (drawn plan limits values) files a
drawn_of files values plan limits bytes bytes' a read h =
    record {
      plan_bytes = read.plan_bytes;
      limits_bytes = read.limits_bytes;
      plan_there = read.plan_there;
      limits_there = read.limits_there;
      is = drawn_front 1048577 262145 (omega arith) (omega arith) values
          (file_of plan read.plan_bytes) (file_of limits read.limits_bytes) a.text a.reason
          (subst (λ b. IsDrawn values (file_of plan b) (file_of limits (take 262145 read.limits_bytes)) a.text a.reason)
          read.plan_read
          (subst (λ b. IsDrawn values (file_of plan bytes) (file_of limits b) a.text a.reason) read.limits_read h));
    }

pub example_of : (files : FileMap) (plan limits bytes bytes' : List ℕ) (a : Answer)
    → AreFronts files plan limits bytes bytes' → IsExample (file_of plan bytes) (file_of limits bytes') a.text a.reason
    → Answers (example plan limits) files a
example_of files plan limits bytes bytes' a read h =
    record {
      plan_bytes = read.plan_bytes;
      limits_bytes = read.limits_bytes;
      plan_there = read.plan_there;
      limits_there = read.limits_there;
      is = example_front 1048577 262145 (omega arith) (omega arith)
          (file_of plan read.plan_bytes) (file_of limits read.limits_bytes) a.text a.reason
          (subst (λ b. IsExample (file_of plan b) (file_of limits (take 262145 read.limits_bytes)) a.text a.reason)
          read.plan_read
          (subst (λ b. IsExample (file_of plan bytes) (file_of limits b) a.text a.reason) read.limits_read h));
    }

pub linted_of : (files : FileMap) (plan limits bytes bytes' : List ℕ) (a : Answer)
    → AreFronts files plan limits bytes bytes' → IsLinted (file_of plan bytes) (file_of limits bytes') a.text a.reason
    → Answers (linted plan limits) files a
linted_of files plan limits bytes bytes' a read h =
    record {
      plan_bytes = read.plan_bytes;
      limits_bytes = read.limits_bytes;
      plan_there = read.plan_there;
      limits_there = read.limits_there;
      is = linted_front 1048577 262145 (omega arith) (omega arith)
          (file_of plan read.plan_bytes) (file_of limits read.limits_bytes) a.text a.reason
          (subst (λ b. IsLinted (file_of plan b) (file_of limits (take 262145 read.limits_bytes)) a.text a.reason)
          read.plan_read
          (subst (λ b. IsLinted (file_of plan bytes) (file_of limits b) a.text a.reason) read.limits_read h));
    }
