-- What is found of a plan, and the words on it, by the range file or an empty one.
use Rattle.std.proofs.Common.{◌≡◌, ◌≢◌, inl, inr, true, false, Option, Some, None, List, [], ℕ, refl, sym, ap, ◌∙◌, subst}
use Rattle.std.specs.Prelude.{option_map, is_none, unwrap_or}
use Rattle.pap_plan.specs.declared.refusal.PlanRefusal.{PlanRefusal}
use Rattle.pap_plan.specs.declared.refusal.PlanRefusal.TheVariants as refusals
use Rattle.pap_plan.specs.Acceptance.{IsAccepted, IsRefused, IsRefusedOrMemory}
use Rattle.pap_plan.specs.AcceptanceClauses.{IsAcceptedAs}
use Rattle.pap_plan.specs.Plans.{Seen, meaning}
use Rattle.plain_words.specs.declared.place.TextFile.{TextFile}
use Rattle.plain_words.specs.Places.{NamedText, named_text, files_of}
use Rattle.plain_words.specs.Refusals.{TellsPlan}
use Rattle.flowchart_page.specs.Verdicts.{lacks_limit, file_or_none, IsJudged}
use Rattle.flowchart_page.specs.Findings.{IsFound, accepted, in_order, refused}
use Rattle.flowchart_page.specs.Pages.{IsRefusalLine}
use Rattle.flowchart_page.specs.private.VerdictViews.{SaysRefusal, is_excused}

pub file_kept : (limits : Option TextFile) (file other : TextFile) → file ≡ unwrap_or limits other
    → named_text other ≡ file_or_none None → named_text file ≡ file_or_none (option_map (λ f. named_text f) limits)
file_kept (Some l) file other e none = ap (λ f. named_text f) e
file_kept None file other e none = ap (λ f. named_text f) e ∙ none

refused_by : (plan limits : List ℕ) (r : PlanRefusal) → r ≢ refusals.Memory → IsRefusedOrMemory plan limits r
    → IsRefused plan limits r
refused_by plan limits (refusals.Read fault) n h = h
refused_by plan limits (refusals.Expr spot fault) n h = h
refused_by plan limits (refusals.Types fault) n h = h
refused_by plan limits (refusals.Order fault) n h = h
refused_by plan limits (refusals.Limits fault) n h = h
refused_by plan limits (refusals.LimitName name) n h = h
refused_by plan limits (refusals.LimitKind name) n h = h
refused_by plan limits (refusals.Bind name) n h = h
refused_by plan limits (refusals.Range fault) n h = h
refused_by plan limits refusals.Memory n h = absurd (n refl)

-- ---- an accepted plan

pub found_accepted : (plan file : TextFile) (limits : Option TextFile) (p : Seen)
    → named_text file ≡ file_or_none (option_map (λ f. named_text f) limits)
    → IsAcceptedAs plan.bytes.now file.bytes.now p
    → IsFound plan.bytes.now (option_map (λ f. f.bytes.now) limits) (accepted (meaning p))
found_accepted plan file (Some l) p is h = subst (λ f. IsAccepted plan.bytes.now f.bytes (meaning p)) is h.accepted
found_accepted plan file None p is h = subst (λ f. IsAccepted plan.bytes.now f.bytes (meaning p)) is h.accepted

pub judged_accepted : (plan file : TextFile) (limits : Option TextFile) (p : Seen)
    → named_text file ≡ file_or_none (option_map (λ f. named_text f) limits)
    → IsAcceptedAs plan.bytes.now file.bytes.now p
    → IsJudged (named_text plan) (option_map (λ f. named_text f) limits) None
judged_accepted plan file (Some l) p is h = (
  meaning p,
  subst (λ f. IsAccepted plan.bytes.now f.bytes (meaning p)) is
      h.accepted,
)
judged_accepted plan file None p is h = inl (
  meaning p,
  subst (λ f. IsAccepted plan.bytes.now f.bytes (meaning p)) is
      h.accepted,
)

pub plan_accepted : (plan file : TextFile) (limits : Option TextFile) (p : Seen)
    → named_text file ≡ file_or_none (option_map (λ f. named_text f) limits)
    → IsAcceptedAs plan.bytes.now file.bytes.now p
    → IsAcceptedAs plan.bytes.now (unwrap_or (option_map (λ f. f.bytes.now) limits) []) p
plan_accepted plan file (Some l) p is h = subst (λ f. IsAcceptedAs plan.bytes.now f.bytes p) is h
plan_accepted plan file None p is h = subst (λ f. IsAcceptedAs plan.bytes.now f.bytes p) is h

-- ---- a plan alone, with an input that has no limit

lacks_name : (plan : List ℕ) (r : PlanRefusal) → lacks_limit r ≡ true → IsRefused plan [] r
    → (name : List ℕ) × IsRefused plan [] (refusals.LimitName name)
lacks_name plan (refusals.LimitName name) e h = (name, h)
lacks_name plan (refusals.Read fault) e h = absurd cc
lacks_name plan (refusals.Expr spot fault) e h = absurd cc
lacks_name plan (refusals.Types fault) e h = absurd cc
lacks_name plan (refusals.Order fault) e h = absurd cc
lacks_name plan (refusals.Limits fault) e h = absurd cc
lacks_name plan (refusals.LimitKind name) e h = absurd cc
lacks_name plan (refusals.Bind name) e h = absurd cc
lacks_name plan (refusals.Range fault) e h = absurd cc
lacks_name plan refusals.Memory e h = absurd cc

pub found_in_order : (plan file : TextFile) (limits : Option TextFile) (r : PlanRefusal)
    → named_text file ≡ file_or_none (option_map (λ f. named_text f) limits) → is_excused (is_none limits) r ≡ true
    → r ≢ refusals.Memory → IsRefusedOrMemory plan.bytes.now file.bytes.now r
    → IsFound plan.bytes.now (option_map (λ f. f.bytes.now) limits) in_order
found_in_order plan file (Some l) r is excused known h = absurd cc
found_in_order plan file None r is excused known h =
    lacks_name plan.bytes.now r excused
    (subst (λ f. IsRefused plan.bytes.now f.bytes r) is (refused_by plan.bytes.now file.bytes.now r known h))

pub judged_in_order : (plan file : TextFile) (limits : Option TextFile) (r : PlanRefusal)
    → named_text file ≡ file_or_none (option_map (λ f. named_text f) limits) → is_excused (is_none limits) r ≡ true
    → r ≢ refusals.Memory → IsRefusedOrMemory plan.bytes.now file.bytes.now r
    → IsJudged (named_text plan) (option_map (λ f. named_text f) limits) None
judged_in_order plan file (Some l) r is excused known h = absurd cc
judged_in_order plan file None r is excused known h = inr (found_in_order plan file None r is excused known h)

-- ---- a refused plan

pub found_refused : (plan file : TextFile) (limits : Option TextFile) (r s : PlanRefusal)
    → named_text file ≡ file_or_none (option_map (λ f. named_text f) limits) → is_excused (is_none limits) r ≡ false
    → r ≢ refusals.Memory → IsRefusedOrMemory plan.bytes.now file.bytes.now r → s ≡ r
    → IsFound plan.bytes.now (option_map (λ f. f.bytes.now) limits) (refused s)
found_refused plan file (Some l) r s is other known h same =
    subst (λ x. IsRefused plan.bytes.now l.bytes.now x) (sym same)
    (subst (λ f. IsRefused plan.bytes.now f.bytes r) is (refused_by plan.bytes.now file.bytes.now r known h))
found_refused plan file None r s is other known h same =
    subst (λ x. (lacks_limit x ≡ false) × IsRefused plan.bytes.now [] x) (sym same)
    (other, subst (λ f. IsRefused plan.bytes.now f.bytes r) is (refused_by plan.bytes.now file.bytes.now r known h))

tells : (plan ranges : NamedText) (r : PlanRefusal) (words : List ℕ) → IsRefused plan.bytes ranges.bytes r
    → SaysRefusal (record { plan = plan; ranges = ranges }) r words
    → TellsPlan (record { plan = plan; ranges = ranges }) words
tells plan ranges r words h says = record { refusal = r; refused = h; line = says.line; begins = says.begins }

pub judged_refused : (plan file : TextFile) (limits : Option TextFile) (r : PlanRefusal) (words : List ℕ)
    → named_text file ≡ file_or_none (option_map (λ f. named_text f) limits) → is_excused (is_none limits) r ≡ false
    → r ≢ refusals.Memory → IsRefusedOrMemory plan.bytes.now file.bytes.now r → SaysRefusal (files_of plan file) r words
    → IsJudged (named_text plan) (option_map (λ f. named_text f) limits) (Some words)
unfolding tells
judged_refused plan file (Some l) r words is other known h says =
    subst (λ f. TellsPlan (record { plan = named_text plan; ranges = f }) words) is
    (tells (named_text plan) (named_text file) r words (refused_by plan.bytes.now file.bytes.now r known h) says)
judged_refused plan file None r words is other known h says =
    let refusal = refused_by plan.bytes.now file.bytes.now r known h in
    record {
      tells = tells (named_text plan) (file_or_none None) r words (subst (λ f. IsRefused plan.bytes.now f.bytes r) is
          refusal)
          (subst (λ f. SaysRefusal (record { plan = named_text plan; ranges = f }) r words) is says);
      other = other;
    }

-- its line
pub line_kept : (plan : List ℕ) (r s : PlanRefusal) (line : List ℕ) → s ≡ r → IsRefusalLine plan r line
    → IsRefusalLine plan s line
line_kept plan r s line same is = subst (λ x. IsRefusalLine plan x line) (sym same) is
