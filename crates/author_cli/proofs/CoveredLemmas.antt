-- The answers on what runs cover, from what the calls below promise.
use Rattle.std.proofs.Common.{◌≡◌, ℕ, List, [], inl, inr, refl, ap, ◌∙◌, subst}
use Rattle.std.specs.Prelude.{Option, Some, None, Result, Ok, Err}
use Rattle.payroll_records.specs.declared.table.TableFault.{TableFault}
use Rattle.plain_words.specs.Lines.{IsOneLine}
use Rattle.plain_words.specs.Places.{NamedText}
use Rattle.plan_answers.specs.Answers.{Answer as Written, refusal}
use Rattle.script_steps.specs.LineTexts.{table_detail}
use Rattle.pap_plan.specs.declared.refusal.PlanRefusal.{PlanRefusal}
use Rattle.pap_plan.specs.declared.refusal.PlanRefusal.TheVariants as refusals
use Rattle.pap_plan.specs.Acceptance.{Meaning, IsAccepted, IsRefused, IsRefusedOrMemory}
use Rattle.pap_plan.proofs.Laws.{one}
use Rattle.table_coverage.specs.TableCoverages.{CoverFiles, RunsFound, found_share, found_part, found_marks, IsCovered, IsTableRefused, HasManyRuns}
use Rattle.flowchart_methods.specs.Marks.{Marked}
use Rattle.flowchart_page.specs.declared.verdict.Verdict.{Verdict}
use Rattle.flowchart_page.specs.declared.verdict.Verdict.TheVariants as verdicts
use Rattle.flowchart_page.specs.Findings.{IsFound}
use Rattle.flowchart_page.specs.Judged.{finding_of, words_of as verdict_words}
use Rattle.flowchart_page.specs.Pages.{IsRunPage}
use Rattle.flowchart_page.specs.Runs.{RunParts}
use Rattle.flowchart_page.specs.declared.subject.Subject.TheVariants.{Coverage as OfCoverage}
use Rattle.author_cli.specs.Words.{Medium}
use Rattle.author_cli.specs.Traced.{IsRefusedAs}
use Rattle.author_cli.specs.Covered.{share_words, cover_files, IsCoverTold, IsUnreadTable, IsLongTable, IsUncovered, shown_coverage, WritesFound, IsCoverAnswer}
use Rattle.author_cli.specs.private.CoveredViews.{IsSomeMeaning}

-- a refusal is one, and memory hasn't run out
pub or_memory : (plan limits : List ℕ) (r : PlanRefusal) → IsRefused plan limits r → IsRefusedOrMemory plan limits r
or_memory plan limits (refusals.Read fault) h = h
or_memory plan limits (refusals.Expr spot fault) h = h
or_memory plan limits (refusals.Types fault) h = h
or_memory plan limits (refusals.Order fault) h = h
or_memory plan limits (refusals.Limits fault) h = h
or_memory plan limits (refusals.LimitName name) h = h
or_memory plan limits (refusals.LimitKind name) h = h
or_memory plan limits (refusals.Bind name) h = h
or_memory plan limits (refusals.Range fault) h = h
or_memory plan limits refusals.Memory h = tt

module _ (plan limits : NamedText) (table text : List ℕ) (reason : Option (List ℕ)) where
  pub told : (medium : Medium) (least : Option ℕ) (found : RunsFound) (share : ℕ) → IsCovered (cover_files plan limits table) found
      → WritesFound medium plan.bytes limits.bytes found text → share ≡ found_share found → reason ≡ share_words share least
      → IsCoverAnswer medium least plan limits table text reason
  told medium least found share h written counted said =
      inl (record { found = found; covered = h; written = written; said = said ∙ ap (λ n. share_words n least) counted })

  pub plan_told : (r : PlanRefusal) → IsRefusedAs r plan limits text reason → IsUncovered plan limits table text reason
  plan_told r h = inl (r, h)

  pub table_told : (fault : TableFault) → IsTableRefused (cover_files plan limits table) fault → IsUnreadTable fault text reason
      → IsUncovered plan limits table text reason
  table_told fault h tells = inr (inl (record { fault = fault; refused = h; tells = tells }))

  pub many_told : HasManyRuns (cover_files plan limits table) → IsLongTable text reason
      → IsUncovered plan limits table text reason
  many_told h tells = inr (inr (record { many = h; tells = tells }))

pub unread_table : (fault : TableFault) (detail bytes : List ℕ) (written : Written) (text : List ℕ) (reason : Option (List ℕ))
    (words : List ℕ) → detail ≡ table_detail fault → bytes ≡ detail → written ≡ refusal bytes → text ≡ written.text
    → reason ≡ Some words → IsOneLine words → IsUnreadTable fault text reason
unread_table fault detail bytes written text reason words h same is text_is said line = record {
  written = text_is ∙ ap (λ (a : Written). a.text) (is ∙ ap (λ d. refusal d) (same ∙ h));
  words = words;
  said = said;
  line = line;
}

-- what is accepted isn't refused
pub not_refused : (plan limits : List ℕ) (m : Meaning) (r : PlanRefusal) → IsAccepted plan limits m → IsRefused plan limits r → ⊥
not_refused plan limits m r a h =
    let same : ◌≡◌ {A = Result Meaning PlanRefusal} (Ok m) (Err r) = one plan limits (Ok m) (Err r) a h in cc

-- the verdict on what is accepted has no words
silent : (plan limits : List ℕ) (m : Meaning) (v : Verdict) → IsAccepted plan limits m → IsFound plan (Some limits) (finding_of v)
    → verdict_words v ≡ None
silent plan limits m (verdicts.Accepted p) a h = refl
silent plan limits m verdicts.InOrder a h = absurd h
silent plan limits m (verdicts.Refused reason) a h = absurd (not_refused plan limits m reason.refusal a h)

-- a part of a page, and the marks of statements
abbrev parts_of : List ℕ → List (List Marked) → RunParts
parts_of part marks = record { subject = OfCoverage; part = part; marks = marks; internals = [] }

pub draws_found : (plan limits : List ℕ) (found : RunsFound) (v : Verdict) (part : List ℕ) (marks shown : List (List Marked))
    (words : Option (List ℕ)) (page : List ℕ) → IsSomeMeaning plan limits → IsFound plan (Some limits) (finding_of v)
    → part ≡ found_part found → marks ≡ found_marks found → shown ≡ marks → words ≡ verdict_words v
    → IsRunPage (Some (parts_of part shown)) plan (Some limits) words page
    → IsRunPage (Some (shown_coverage found)) plan (Some limits) None page
draws_found plan limits found v part marks shown words page accepted h is are all said drawn =
    subst (λ w. IsRunPage (Some (shown_coverage found)) plan (Some limits) w page) (said ∙ silent plan limits accepted.0 v accepted.1 h)
    (subst (λ ms. IsRunPage (Some (parts_of (found_part found) ms)) plan (Some limits) words page) (all ∙ are)
    (subst (λ p. IsRunPage (Some (parts_of p shown)) plan (Some limits) words page) is drawn))
