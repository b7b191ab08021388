-- What a reply answers.
use Rattle.std.proofs.Common.{◌≡◌, ℕ, List, ap}
use Rattle.std.specs.Prelude.{Result, Ok, Err, IfOk, OnErr}
use Rattle.pap_plan.specs.declared.refusal.PlanRefusal.{PlanRefusal}
use Rattle.pap_plan.specs.declared.refusal.PlanRefusal.TheVariants as refusals
use Rattle.pap_plan.specs.Acceptance.{IsRefused, IsRefusedOrMemory}
use Rattle.pap_plan.specs.AcceptanceClauses.{IsAcceptedAs}
use Rattle.pap_plan.specs.Plans.{Seen, meaning}
use Rattle.plan_answers.specs.Answers.{Answer, IsRefusal, acceptance, CheckAnswers}

pub if_ok_map : {A E : Type 0} (r : Result A E) (P Q : A → Type 0) → ((a : A) → P a → Q a) → IfOk r P → IfOk r Q
if_ok_map (Ok a) P Q f h = f a h
if_ok_map (Err e) P Q f h = tt

pub on_err_any : {A E : Type 0} (r : Result A E) (P : Type 0) → P → OnErr r P
on_err_any (Ok a) P p = tt
on_err_any (Err e) P p = p

pub on_err_map : {A E : Type 0} (r : Result A E) (P Q : Type 0) → (P → Q) → OnErr r P → OnErr r Q
on_err_map (Ok a) P Q f h = tt
on_err_map (Err e) P Q f h = f h

-- a refusal that is written isn't want of memory
pub refused_is : (plan limits : List ℕ) (r : PlanRefusal) (a : Answer) → IsRefusedOrMemory plan limits r → IsRefusal plan r a → IsRefused plan limits r
refused_is plan limits (refusals.Read fault) a h k = h
refused_is plan limits (refusals.Expr spot fault) a h k = h
refused_is plan limits (refusals.Types fault) a h k = h
refused_is plan limits (refusals.Order fault) a h k = h
refused_is plan limits (refusals.Limits fault) a h k = h
refused_is plan limits (refusals.LimitName name) a h k = h
refused_is plan limits (refusals.LimitKind name) a h k = h
refused_is plan limits (refusals.Bind name) a h k = h
refused_is plan limits (refusals.Range fault) a h k = h
refused_is plan limits refusals.Memory a h k = absurd k.has

pub refusal_steps : (plan : List ℕ) (r : PlanRefusal) (a : Answer) → IsRefusal plan r a → a.steps ≡ 0
refusal_steps plan r a k = ap (λ (x : Answer). x.steps) k.is

pub check_accepted : (plan limits : List ℕ) (p : Seen) (a : Answer) → IsAcceptedAs plan limits p → a ≡ acceptance (meaning p) → CheckAnswers plan limits a
check_accepted plan limits p a h e = record { verdict = Ok (meaning p); accepted = h.accepted; is = e }

pub check_refused : (plan limits : List ℕ) (r : PlanRefusal) (a : Answer) → IsRefusedOrMemory plan limits r → IsRefusal plan r a → CheckAnswers plan limits a
check_refused plan limits r a h k = record { verdict = Err r; accepted = refused_is plan limits r a h k; is = k }
