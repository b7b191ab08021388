-- The answer on what is read of two files is that on their bytes: a file within its limit is read whole, and of a longer one
-- more than its limit is read.
use Rattle.std.proofs.Common.{◌≡◌, ℕ, ◌<◌, ◌≤◌, List, length, take, refl, ◌∙◌, subst, arith, length-take}
use Rattle.std.specs.Prelude.{MatchOption, Option, Some, None, Result, Ok, Err}
use Rattle.std.proofs.lemmas.List.{take_all}
use Rattle.pap_tree.specs.Flowchart.{Flowchart}
use Rattle.pap_reader.specs.declared.fault.Which.TheVariants as which
use Rattle.pap_reader.specs.declared.fault.ReadFault.{ReadFault}
use Rattle.pap_reader.specs.declared.fault.ReadFault.TheVariants as reads
use Rattle.pap_reader.specs.Elements.{IsFault, IsRefusedText}
use Rattle.limits_file.specs.declared.limits.Limits.{Limits}
use Rattle.limits_file.specs.declared.fault.LimitsFault.{LimitsFault}
use Rattle.limits_file.specs.declared.fault.LimitsFault.TheVariants as ranges
use Rattle.limits_file.specs.Faults.{bad_key, bad_bound}
use Rattle.limits_file.specs.RangeFiles.{FileSays, IsNoToml}
use Rattle.interval_analysis.specs.declared.fault.RangeFault.TheVariants as walks
use Rattle.plan_text.specs.declared.fault.PlanFault.TheVariants as texts
use Rattle.plan_text.specs.Plans.{IsPlan, IsPlanFault}
use Rattle.pap_plan.specs.declared.refusal.PlanRefusal.{PlanRefusal}
use Rattle.pap_plan.specs.declared.refusal.PlanRefusal.TheVariants as refusals
use Rattle.pap_plan.specs.Acceptance.{Meaning, AcceptanceSays, IsAccepted, IsLimitsFault, IsRefused as IsRefusedPlan}
use Rattle.plan_answers.specs.Refusals.{HasDetail}
use Rattle.plan_answers.specs.Answers.{Answer, IsRefusal, IsChecked, CheckAnswers}
use Rattle.outside.specs.Told.{FileMap, IsToldFront}
use Rattle.plan_answers.specs.Fronts.{AreFronts}

-- a front of more bytes than a limit that keeps the limit is the whole
pub whole : (most n : ℕ) (bytes : List ℕ) → most < n → length (take n bytes) ≤ most → take n bytes ≡ bytes
whole most n bytes lt short = take_all n bytes (omega (arith, length-take n bytes))

pub longer : (most n : ℕ) (bytes : List ℕ) → most < length (take n bytes) → most < length bytes
longer most n bytes h = omega (arith, length-take n bytes)

module _ (n m : ℕ) (more_plan : 1048576 < n) (more_limits : 262144 < m) where
  -- ---- the plan's text

  plan_whole : (bytes : List ℕ) (f : Flowchart) → IsPlan (take n bytes) f → take n bytes ≡ bytes
  plan_whole bytes f h = whole 1048576 n bytes more_plan h.read.short

  plan_front : (bytes : List ℕ) (f : Flowchart) → IsPlan (take n bytes) f → IsPlan bytes f
  plan_front bytes f h = subst (λ b. IsPlan b f) (plan_whole bytes f h) h

  refused_front : (bytes : List ℕ) (fault : ReadFault) → (length (take n bytes) ≤ 1048576) × IsRefusedText (take n bytes) fault → (length bytes ≤ 1048576) × IsRefusedText bytes fault
  refused_front bytes fault h = subst (λ b. (length b ≤ 1048576) × IsRefusedText b fault) (whole 1048576 n bytes more_plan h.0) h

  fault_front : (bytes : List ℕ) (fault : ReadFault) → IsFault (take n bytes) fault → IsFault bytes fault
  fault_front bytes (reads.Text at) h = refused_front bytes _ h
  fault_front bytes (reads.Element at) h = refused_front bytes _ h
  fault_front bytes (reads.Attribute at) h = refused_front bytes _ h
  fault_front bytes (reads.Many which.Bytes) h = longer 1048576 n bytes h
  fault_front bytes (reads.Many which.Inputs) h = refused_front bytes _ h
  fault_front bytes (reads.Many which.Outputs) h = refused_front bytes _ h
  fault_front bytes (reads.Many which.Internals) h = refused_front bytes _ h
  fault_front bytes (reads.Many which.Constants) h = refused_front bytes _ h
  fault_front bytes (reads.Many which.Methods) h = refused_front bytes _ h
  fault_front bytes (reads.Many which.Statements) h = refused_front bytes _ h
  fault_front bytes (reads.Many which.Depth) h = refused_front bytes _ h
  fault_front bytes reads.Memory h = absurd h

  -- ---- the range file

  says_whole : (bytes : List ℕ) (l : Limits) → FileSays (take m bytes) (Ok l) → take m bytes ≡ bytes
  says_whole bytes l h = whole 262144 m bytes more_limits h.1.short

  limits_front : (bytes : List ℕ) (fault : LimitsFault) → IsLimitsFault (take m bytes) fault → IsLimitsFault bytes fault
  limits_front bytes ranges.Toml h = subst (λ b. IsNoToml b) (whole 262144 m bytes more_limits h.short) h
  limits_front bytes (ranges.Key label) h = subst (λ b. FileSays b (Err (bad_key label))) (whole 262144 m bytes more_limits h.1.short) h
  limits_front bytes (ranges.Bound label) h = subst (λ b. FileSays b (Err (bad_bound label))) (whole 262144 m bytes more_limits h.1.short) h
  limits_front bytes ranges.LimitsLong h = longer 262144 m bytes h
  limits_front bytes (ranges.Memory e) h = absurd h

  -- ---- both

  moved : (P : List ℕ → List ℕ → Type 0) (plan limits : List ℕ) → take n plan ≡ plan → take m limits ≡ limits → P (take n plan) (take m limits) → P plan limits
  moved P plan limits a b h = subst (λ x. P x limits) a (subst (λ y. P (take n plan) y) b h)

  refusal_front : (plan limits : List ℕ) (r : PlanRefusal) → IsRefusedPlan (take n plan) (take m limits) r → IsRefusedPlan plan limits r
  refusal_front plan limits (refusals.Read fault) h = fault_front plan fault h
  refusal_front plan limits (refusals.Expr spot fault) h =
      subst (λ b. IsPlanFault b (texts.Expr spot fault)) (whole 1048576 n plan more_plan h.1.short) h
  refusal_front plan limits (refusals.Types fault) h = (h.0, plan_front plan h.0 h.1, h.2)
  refusal_front plan limits (refusals.Order fault) h =
      subst (λ b. IsRefusedPlan b limits (refusals.Order fault)) (plan_whole plan h.0 h.1.text) h
  refusal_front plan limits (refusals.Limits fault) h =
      let fixed : IsRefusedPlan (take n plan) limits (refusals.Limits fault) = (h.0, h.1, limits_front limits fault h.2) in
      subst (λ b. IsRefusedPlan b limits (refusals.Limits fault)) (plan_whole plan h.0 h.1.typed.text) fixed
  refusal_front plan limits (refusals.LimitName name) h =
      moved (λ p l. IsRefusedPlan p l (refusals.LimitName name)) plan limits (plan_whole plan h.0 h.1.1.ordered.typed.text) (says_whole limits h.1.0 h.1.1.file) h
  refusal_front plan limits (refusals.LimitKind name) h =
      moved (λ p l. IsRefusedPlan p l (refusals.LimitKind name)) plan limits (plan_whole plan h.0 h.1.1.file.ordered.typed.text) (says_whole limits h.1.0 h.1.1.file.file) h
  refusal_front plan limits (refusals.Bind name) h =
      moved (λ p l. IsRefusedPlan p l (refusals.Bind name)) plan limits (plan_whole plan h.0 h.1.1.named.file.ordered.typed.text) (says_whole limits h.1.0 h.1.1.named.file.file) h
  refusal_front plan limits (refusals.Range fault) h =
      moved (λ p l. IsRefusedPlan p l (refusals.Range fault)) plan limits (plan_whole plan h.0 h.1.1.suited.named.file.ordered.typed.text) (says_whole limits h.1.0 h.1.1.suited.named.file.file) h
  refusal_front plan limits refusals.Memory h = absurd h

  -- accepted fronts are the whole texts
  pub accepted_whole : (plan limits : List ℕ) (x : Meaning) → IsAccepted (take n plan) (take m limits) x → (take n plan ≡ plan) × (take m limits ≡ limits)
  accepted_whole plan limits x h =
      (plan_whole plan x.flowchart h.bound.suited.named.file.ordered.typed.text, says_whole limits x.limits h.bound.suited.named.file.file)

  pub answers_front : (plan limits : List ℕ) (a : Result Meaning PlanRefusal) → AcceptanceSays (take n plan) (take m limits) a → AcceptanceSays plan limits a
  answers_front plan limits (Ok x) h =
      let whole = accepted_whole plan limits x h in
      moved (λ p l. IsAccepted p l x) plan limits whole.0 whole.1 h
  answers_front plan limits (Err r) h = refusal_front plan limits r h

  -- ---- what is written

  detail_front : (plan : List ℕ) (r : PlanRefusal) (detail : List ℕ) → HasDetail (take n plan) r detail → HasDetail plan r detail
  detail_front plan (refusals.Read fault) detail h = h
  detail_front plan (refusals.Expr spot fault) detail h = h
  detail_front plan (refusals.Types fault) detail h = h
  detail_front plan (refusals.Order fault) detail h = h
  detail_front plan (refusals.Limits fault) detail h = h
  detail_front plan (refusals.LimitName name) detail h = h
  detail_front plan (refusals.LimitKind name) detail h = h
  detail_front plan (refusals.Bind name) detail h = h
  detail_front plan (refusals.Range (walks.At place cause)) detail h = (h.0, plan_front plan h.0 h.1, h.2)
  detail_front plan (refusals.Range (walks.Output name)) detail h = h
  detail_front plan (refusals.Range (walks.Memory e)) detail h = h
  detail_front plan refusals.Memory detail h = h

  pub refusal_answer : (plan : List ℕ) (r : PlanRefusal) (a : Answer) → IsRefusal (take n plan) r a → IsRefusal plan r a
  refusal_answer plan r a h = record { detail = h.detail; has = detail_front plan r h.detail h.has; is = h.is }

  checked_front : (plan : List ℕ) (v : Result Meaning PlanRefusal) (a : Answer) → IsChecked (take n plan) v a → IsChecked plan v a
  checked_front plan (Ok x) a h = h
  checked_front plan (Err r) a h = refusal_answer plan r a h

  pub check_front : (plan limits : List ℕ) (a : Answer) → CheckAnswers (take n plan) (take m limits) a → CheckAnswers plan limits a
  check_front plan limits a h = record {
    verdict = h.verdict;
    accepted = answers_front plan limits h.verdict h.accepted;
    is = checked_front plan h.verdict a h.is;
  }

pub front_there : (o : Option (List ℕ)) (n : ℕ) (bytes : List ℕ) → MatchOption o ⊥ (λ content. bytes ≡ take n content) → (content : List ℕ) × (o ≡ Some content) × (bytes ≡ take n content)
front_there None n bytes h = absurd h
front_there (Some content) n bytes h = (content, refl, h)

-- what two calls read of files that tell this; what the files tell behind each call says what they told before it
pub fronts : {first first' second second' : Option FileMap} (files : FileMap) (plan limits front front' : List ℕ) → first' ≡ first → IsToldFront first plan 1048577 front → first ≡ Some files → second' ≡ second → IsToldFront second limits 262145 front' → second ≡ Some files → AreFronts files plan limits front front'
fronts files plan limits front front' same read told same' read' told' =
    let p = front_there (files plan) 1048577 front (subst (λ t. IsToldFront t plan 1048577 front) told read) in
    let l = front_there (files limits) 262145 front' (subst (λ t. IsToldFront t limits 262145 front') told' read') in
    record { plan_bytes = p.0; limits_bytes = l.0; plan_there = p.1; limits_there = l.1; plan_read = p.2; limits_read = l.2 }
