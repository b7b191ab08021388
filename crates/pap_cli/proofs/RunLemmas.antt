-- The run of `once` on filled inputs, and what was counted where memory ran out.
use Rattle.std.proofs.Common.{◌≡◌, ◌≢◌, ℕ, ◌+◌, Bool, true, false, List, [], ◌++◌, refl, sym, ap, subst, ◌∙◌, inl, inr}
use Rattle.std.specs.Prelude.{Option, Some, None, Ok, Err, option_map, if◌then◌else◌}
use Rattle.scaled_decimal.specs.Decimals.{Decimal}
use Rattle.limits_file.specs.declared.slots.Slot.{Slot}
use Rattle.payroll_records.specs.declared.day.Day.{Day}
use Rattle.payroll_records.specs.declared.values.NamedValue.{NamedValue}
use Rattle.carry_bindings.specs.declared.carried.Earlier.{Earlier}
use Rattle.carry_bindings.specs.declared.filling.Filled.{Filled}
use Rattle.carry_bindings.specs.declared.filling.Filled.TheVariants.{Inputs, State}
use Rattle.carry_bindings.specs.declared.filling.Blocked.{Blocked}
use Rattle.carry_bindings.specs.declared.filling.Blocked.TheVariants as blocked
use Rattle.carry_bindings.specs.Filling.{first_of, has_carry, waits, unknown, missing, outside, inputs}
use Rattle.pap_plan.specs.declared.refusal.PlanRefusal.{PlanRefusal}
use Rattle.pap_plan.specs.Acceptance.{IsRefusedOrMemory, Meaning}
use Rattle.pap_plan.specs.AcceptanceClauses.{IsAcceptedAs}
use Rattle.pap_plan.specs.Plans.{Seen, flowchart, meaning}
use Rattle.pap_tree.specs.Flowchart.{Flowchart}
use Rattle.pap_types.specs.Meaning.{cost_of}
use Rattle.pay_run.specs.Accepted.{Accepted, accepted}
use Rattle.pay_run.specs.Runs.{slots_of, filled}
use Rattle.pay_run.specs.RunClauses.{HasRun}
use Rattle.pay_run.specs.declared.outputs.Finished.{Finished}
use Rattle.pay_run.proofs.Laws.{outputs_are, cost_is}
use Rattle.plan_answers.specs.Answers.{Answer, CheckAnswers, IsRefusal, acceptance}
use Rattle.plan_answers.proofs.Laws.{refused_is}
use Rattle.pap_cli.specs.declared.words.Command.{Command}
use Rattle.pap_cli.specs.declared.words.Command.TheVariants.{Check, Once}
use Rattle.pap_cli.specs.private.AnswerViews.{answers_of, IsRunWith}
use Rattle.pap_cli.specs.RunLines.{value_lines, steps_line}
use Rattle.pap_cli.specs.private.RunViews.{named_lines}
use Rattle.pap_cli.specs.RunAnswers.{IsRunOn, IsOnce, OnceAnswers, finished}
use Rattle.pap_cli.specs.FileClauses.{IsCounted}
use Rattle.pap_cli.proofs.LineLemmas.{lines_named}

-- ---- answers that say more

pub counted_map : (P Q : Answer → Type 0) (began steps : ℕ) → ((a : Answer) → P a → Q a) → IsCounted P began steps → IsCounted Q began steps
counted_map P Q began steps f (inl e) = inl e
counted_map P Q began steps f (inr u) = inr (record { answer = u.answer; is = f u.answer u.is; cost = u.cost })

-- ---- a run

-- without earlier runs none is waited for
waits_none : (slots : List Slot) → waits slots [] ≡ None
waits_none slots = elim (has_carry slots) as (λ b. (if b then option_map (λ (e : Earlier). e.day) None else None) ≡ None) [ true ↦ refl | false ↦ refl ]

not_waiting : (a : Option Day) (b c d : Option (List ℕ)) (e : List Decimal) (day : Day) → a ≡ None → first_of a b c d e ≢ State (blocked.Waits day)
not_waiting (Some x) b c d e day n h = cc n
not_waiting None (Some x) c d e day n h = cc h
not_waiting None None (Some x) d e day n h = cc h
not_waiting None None None (Some x) e day n h = cc h
not_waiting None None None None e day n h = cc h

-- a run without earlier ones waits for none
pub never_waits : (p : Accepted) (values : List NamedValue) (day : Day) → filled p values [] ≢ State (blocked.Waits day)
unfolding filled
never_waits p values day =
    let slots = slots_of p in
    not_waiting (waits slots []) (unknown slots values) (missing slots values []) (outside slots values []) (inputs slots values []) day (waits_none slots)

-- what a record of these values is filled with
pub filled_from : (values : List NamedValue) (p : Accepted) (given : List NamedValue) (f other : Filled) → given ≡ values → other ≡ f → other ≡ filled p given [] → filled p values [] ≡ f
filled_from values p given f other same found are = ap (λ v. filled p v []) (sym same) ∙ sym are ∙ found

-- ---- the answer of `once`

-- the run was counted
pub counted_run : (p : Seen) (inputs : List Decimal) (f : Finished) (began steps : ℕ) → HasRun (accepted p) inputs f → steps ≡ began + f.cost → IsCounted (IsRunOn (flowchart p) (Inputs inputs)) began steps
counted_run p inputs f began steps has h = inr (record {
  answer = finished (flowchart p) has.defined.values (cost_of (flowchart p) inputs);
  is = (has.defined.values, has.defined.are, refl);
  cost = h ∙ ap (λ n. began + n) (has.cost ∙ sym (cost_is (accepted p) inputs));
})

answer_of : List ℕ → Bool → ℕ → Answer
answer_of text refused steps = record { text = text; refused = refused; steps = steps }

-- the answer of a run, from its parts
pub finished_reply : (p : Seen) (inputs : List Decimal) (f : Finished) (text start lines : List ℕ) → HasRun (accepted p) inputs f
    → start ≡ [] → lines ≡ start ++ named_lines f.outputs → text ≡ lines ++ steps_line f.cost →
    IsRunOn (flowchart p) (Inputs inputs) (record { text = text; refused = false; steps = f.cost })
unfolding answer_of
finished_reply p inputs f text start lines has none wrote whole =
    (has.defined.values, has.defined.are, all)
  where
    cost : f.cost ≡ cost_of (flowchart p) inputs
    cost = has.cost ∙ sym (cost_is (accepted p) inputs)

    values : named_lines f.outputs ≡ value_lines (flowchart p).outputs has.defined.values
    values = ap (λ l. named_lines l) (has.outputs ∙ sym (outputs_are (accepted p) inputs has.defined.values has.defined.are)) ∙ lines_named (flowchart p).outputs has.defined.values

    parts : text ≡ value_lines (flowchart p).outputs has.defined.values ++ steps_line f.cost
    parts = whole ∙ ap (λ l. l ++ steps_line f.cost) (wrote ∙ ap (λ s. s ++ named_lines f.outputs) none ∙ values)

    all : answer_of text false f.cost ≡ finished (flowchart p) has.defined.values (cost_of (flowchart p) inputs)
    all = ap (λ t. answer_of t false f.cost) parts ∙ ap (λ n. answer_of (value_lines (flowchart p).outputs has.defined.values ++ steps_line n) false n) cost

-- a run that has no inputs has no steps
pub state_steps : (f : Flowchart) (b : Blocked) (a : Answer) → IsRunOn f (State b) a → a.steps ≡ 0
state_steps f (blocked.Waits day) a h = absurd h
state_steps f (blocked.Unknown name) a h = ap (λ (x : Answer). x.steps) h
state_steps f (blocked.Missing name) a h = ap (λ (x : Answer). x.steps) h
state_steps f (blocked.Range name) a h = ap (λ (x : Answer). x.steps) h

pub once_refused : (values : List NamedValue) (plan limits : List ℕ) (r : PlanRefusal) (a : Answer) → IsRefusedOrMemory plan limits r → IsRefusal plan r a → OnceAnswers values plan limits a
once_refused values plan limits r a h k = record { verdict = Err r; accepted = refused_is plan limits r a h k; is = k }

pub once_accepted : (values : List NamedValue) (plan limits : List ℕ) (p : Seen) (a : Answer) → IsAcceptedAs plan limits p → IsRunWith values p a → OnceAnswers values plan limits a
once_accepted values plan limits p a h k = record {
  verdict = Ok (meaning p);
  accepted = h.accepted;
  is = subst (λ l. IsOnce values plan l (Ok (meaning p)) a) h.limits_bytes (subst (λ t. IsOnce values t p.limits (Ok (meaning p)) a) h.plan_bytes k);
}

-- ---- the answers of both commands

pub check_accepted : (plan limits : List ℕ) (p : Seen) (a : Answer) → IsAcceptedAs plan limits p → a ≡ acceptance (meaning p) → CheckAnswers plan limits a
check_accepted plan limits p a h e = record { verdict = Ok (meaning p); accepted = h.accepted; is = e }

-- nothing is run
pub no_steps : (m : Meaning) (a : Answer) → a ≡ acceptance m → a.steps ≡ 0
no_steps m a e = ap (λ (x : Answer). x.steps) e

pub answer_refused : (c : Command) (plan limits : List ℕ) (r : PlanRefusal) (a : Answer) → IsRefusedOrMemory plan limits r → IsRefusal plan r a → answers_of c plan limits a
answer_refused Check plan limits r a h k = record { verdict = Err r; accepted = refused_is plan limits r a h k; is = k }
answer_refused (Once values) plan limits r a h k = once_refused values plan limits r a h k
