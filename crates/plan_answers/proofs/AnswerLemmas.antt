-- Every two texts have one answer of `check`.
use Rattle.std.proofs.Common.{◌≡◌, ℕ, List, ◌++◌, refl, sym, ap, ◌∙◌, subst}
use Rattle.std.specs.Prelude.{Result, Ok, Err, codes}
use Rattle.pap_tree.specs.Flowchart.{Flowchart}
use Rattle.interval_analysis.specs.declared.fault.RangeFault.TheVariants as walks
use Rattle.plan_text.specs.declared.fault.PlanFault.TheVariants as texts
use Rattle.plan_text.specs.Plans.{IsPlan}
use Rattle.plan_text.proofs.Laws.{one_plan, never_both}
use Rattle.pap_plan.specs.declared.refusal.PlanRefusal.{PlanRefusal}
use Rattle.pap_plan.specs.declared.refusal.PlanRefusal.TheVariants as refusals
use Rattle.pap_plan.specs.Acceptance.{Meaning, AcceptanceSays, IsRefused, IsRefusedOrMemory}
use Rattle.pap_plan.specs.AcceptanceClauses.{IsUnreadPlan}
use Rattle.pap_plan.proofs.Laws as plans
use Rattle.plan_answers.specs.Refusals.{read_detail, expr_detail, type_detail, order_detail, limits_detail, node_detail, HasDetail}
use Rattle.plan_answers.specs.Refusals.{HasItsPlan}
use Rattle.plan_answers.specs.Answers.{Answer, refusal, IsRefusal, acceptance, IsChecked, CheckAnswers}
use Rattle.plan_answers.specs.Laws.{HasOneAnswer}

-- ---- refusals

pub one_detail : (plan : List ℕ) (r : PlanRefusal) (a b : List ℕ) → HasDetail plan r a → HasDetail plan r b → a ≡ b
one_detail plan (refusals.Read fault) a b h k = h ∙ sym k
one_detail plan (refusals.Expr spot fault) a b h k = h ∙ sym k
one_detail plan (refusals.Types fault) a b h k = h ∙ sym k
one_detail plan (refusals.Order fault) a b h k = h ∙ sym k
one_detail plan (refusals.Limits fault) a b h k = h ∙ sym k
one_detail plan (refusals.LimitName name) a b h k = h ∙ sym k
one_detail plan (refusals.LimitKind name) a b h k = h ∙ sym k
one_detail plan (refusals.Bind name) a b h k = h ∙ sym k
one_detail plan (refusals.Range (walks.At place cause)) a b (f, read, h) (g, again, k) =
    h ∙ ap (λ (x : Flowchart). node_detail x place cause) (one_plan plan f g read again) ∙ sym k
one_detail plan (refusals.Range (walks.Output name)) a b h k = h ∙ sym k
one_detail plan (refusals.Range (walks.Memory e)) a b h k = absurd h
one_detail plan refusals.Memory a b h k = absurd h

pub some_detail : (plan limits : List ℕ) (r : PlanRefusal) → IsRefused plan limits r → (detail : List ℕ) × HasDetail plan r detail
some_detail plan limits (refusals.Read fault) h = (read_detail fault, refl)
some_detail plan limits (refusals.Expr spot fault) h = (expr_detail spot fault, refl)
some_detail plan limits (refusals.Types fault) h = (type_detail fault, refl)
some_detail plan limits (refusals.Order fault) h = (order_detail fault, refl)
some_detail plan limits (refusals.Limits fault) h = (limits_detail fault, refl)
some_detail plan limits (refusals.LimitName name) h = (codes "plan LimitName " ++ name, refl)
some_detail plan limits (refusals.LimitKind name) h = (codes "plan LimitKind " ++ name, refl)
some_detail plan limits (refusals.Bind name) h = (codes "plan Bind " ++ name, refl)
some_detail plan limits (refusals.Range (walks.At place cause)) (f, (l, bound, walked)) =
    (node_detail f place cause, (f, bound.suited.named.file.ordered.typed.text, refl))
some_detail plan limits (refusals.Range (walks.Output name)) h = (codes "plan Output " ++ name, refl)
some_detail plan limits (refusals.Range (walks.Memory e)) (f, (l, bound, walked)) = absurd walked
some_detail plan limits refusals.Memory h = absurd h

-- the refusal of two texts is one of their plan
pub its_plan : (plan limits : List ℕ) (r : PlanRefusal) → IsRefusedOrMemory plan limits r → HasItsPlan plan r
its_plan plan limits (refusals.Range (walks.At place cause)) (f, (l, bound, walked)) =
    (f, bound.suited.named.file.ordered.typed.text)
its_plan plan limits _ h = tt

-- a plan is read again, but for want of memory
pub read_again : (plan : List ℕ) (f : Flowchart) (r : PlanRefusal) → IsPlan plan f → IsUnreadPlan plan r
    → r ≡ refusals.Memory
read_again plan f (refusals.Read fault) is h = absurd (never_both plan f (texts.Read fault) is h)
read_again plan f (refusals.Expr spot fault) is h = absurd (never_both plan f (texts.Expr spot fault) is h)
read_again plan f refusals.Memory is h = refl
read_again plan f _ is h = absurd h

pub one_refusal : (plan : List ℕ) (r : PlanRefusal) (a b : Answer) → IsRefusal plan r a → IsRefusal plan r b → a ≡ b
one_refusal plan r a b h k = h.is ∙ ap refusal (one_detail plan r h.detail k.detail h.has k.has) ∙ sym k.is

pub some_refusal : (plan limits : List ℕ) (r : PlanRefusal) → IsRefused plan limits r → (a : Answer) × IsRefusal plan r a
some_refusal plan limits r h = let d = some_detail plan limits r h in (refusal d.0, record { detail = d.0; has = d.1; is = refl })

-- ---- check

one_checked : (plan : List ℕ) (v : Result Meaning PlanRefusal) (a b : Answer) → IsChecked plan v a → IsChecked plan v b → a ≡ b
one_checked plan (Ok m) a b h k = h ∙ sym k
one_checked plan (Err r) a b h k = one_refusal plan r a b h k

one_check : (plan limits : List ℕ) (a b : Answer) → CheckAnswers plan limits a → CheckAnswers plan limits b → a ≡ b
one_check plan limits a b h k =
    let same = plans.one plan limits h.verdict k.verdict h.accepted k.accepted in
    one_checked plan k.verdict a b (subst (λ v. IsChecked plan v a) same h.is) k.is

some_check : (plan limits : List ℕ) → (a : Answer) × CheckAnswers plan limits a
some_check plan limits = let v = plans.some plan limits in by v.0 v.1
  where
    by : (v : Result Meaning PlanRefusal) → AcceptanceSays plan limits v → (a : Answer) × CheckAnswers plan limits a
    by (Ok m) h = (acceptance m, record { verdict = Ok m; accepted = h; is = refl })
    by (Err r) h = let w = some_refusal plan limits r h in (w.0, record { verdict = Err r; accepted = h; is = w.1 })

pub check_answers : (plan limits : List ℕ) → HasOneAnswer (CheckAnswers plan limits)
check_answers plan limits = record { some = some_check plan limits; one = one_check plan limits }
