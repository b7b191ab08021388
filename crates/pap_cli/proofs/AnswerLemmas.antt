-- Every two texts have one answer of `once`, with values as those of words are; what `check` prints of a plan holds.
use Rattle.std.proofs.Common.{◌≡◌, ℕ, List, [], ◌∷◌, ◌++◌, refl, sym, ap, ◌∙◌, subst, arith}
use Rattle.std.specs.Prelude.{Some, option_map, All, Result, Ok, Err, codes}
use Rattle.std.specs.List.{AllZip}
use Rattle.std.proofs.lemmas.List.Elements.{All-nil, All-cons}
use Rattle.std.proofs.lemmas.List.Sorted.{All-permutation}
use Rattle.scaled_decimal.specs.Decimals.{Decimal}
use Rattle.pap_tree.specs.Flowchart.{Flowchart}
use Rattle.payroll_records.specs.declared.values.NamedValue.{NamedValue}
use Rattle.carry_bindings.specs.declared.filling.Filled.{Filled}
use Rattle.carry_bindings.specs.declared.filling.Filled.TheVariants.{Inputs, State}
use Rattle.carry_bindings.specs.declared.filling.Blocked.TheVariants as blocked
use Rattle.pap_types.specs.Meaning.{outputs_in, cost_of}
use Rattle.pap_plan.specs.declared.refusal.PlanRefusal.{PlanRefusal}
use Rattle.pap_plan.specs.Acceptance.{Meaning, AcceptanceSays, IsAccepted}
use Rattle.pap_plan.proofs.Laws as plans
use Rattle.payroll_records.specs.ValueWords.{AreValueWords, IsValueWord}
use Rattle.pay_run.specs.Accepted.{Accepted}
use Rattle.pay_run.specs.Runs.{IsKeptValue, filled}
use Rattle.pay_run.proofs.Laws.{filled_safe}
use Rattle.plan_answers.specs.Answers.{Answer, IsChecked, refusal}
use Rattle.plan_answers.specs.Laws.{HasOneAnswer}
use Rattle.plan_answers.specs.Lines.{range_lines}
use Rattle.plan_answers.proofs.Laws.{one_refusal, some_refusal}
use Rattle.script_steps.specs.Promises.{NeverFailsWithin}
use Rattle.script_steps.proofs.Laws.{never_fails, refused_otherwise}
use Rattle.pap_cli.specs.Laws.{PrintedAcceptanceHolds}
use Rattle.pap_cli.specs.RunAnswers.{finished, IsRunOn, IsOnce, OnceAnswers}
use Rattle.pap_cli.proofs.RunLemmas.{never_waits}

-- ---- once

some_same : (x y : List Decimal) → Some x ≡ Some y → x ≡ y
some_same x y e = cc

one_run : (f : Flowchart) (x : Filled) (a b : Answer) → IsRunOn f x a → IsRunOn f x b → a ≡ b
one_run f (Inputs inputs) a b (outs, e, h) (others, d, k) = h ∙ ap (λ o. finished f o (cost_of f inputs)) (some_same outs others (sym e ∙ d)) ∙ sym k
one_run f (State (blocked.Unknown name)) a b h k = h ∙ sym k
one_run f (State (blocked.Missing name)) a b h k = h ∙ sym k
one_run f (State (blocked.Range name)) a b h k = h ∙ sym k
one_run f (State (blocked.Waits day)) a b h k = absurd h

one_once : (values : List NamedValue) (plan limits : List ℕ) (a b : Answer) → OnceAnswers values plan limits a → OnceAnswers values plan limits b → a ≡ b
one_once values plan limits a b h k =
    let same = plans.one plan limits h.verdict k.verdict h.accepted k.accepted in
    by k.verdict (subst (λ v. IsOnce values plan limits v a) same h.is) k.is
  where
    by : (v : Result Meaning PlanRefusal) → IsOnce values plan limits v a → IsOnce values plan limits v b → a ≡ b
    by (Err r) p q = one_refusal plan r a b p q
    by (Ok m) h k =
        let p : Accepted = record { plan = plan; limits = limits; meaning = m } in
        one_run m.flowchart (filled p values []) a b h k

-- a run on what is filled: it is safe on inputs, and without earlier runs it waits for none
some_run : (values : List NamedValue) (p : Accepted) → All IsKeptValue values → IsAccepted p.plan p.limits p.meaning → (a : Answer) × IsRunOn p.meaning.flowchart (filled p values []) a
some_run values p kept h = by (filled p values []) refl
  where
    by : (x : Filled) → filled p values [] ≡ x → (a : Answer) × IsRunOn p.meaning.flowchart x a
    by (Inputs vs) e =
        let safe = filled_safe p values [] vs h kept (omega arith) tt e in
        let outs = outputs_in p.meaning.flowchart safe.ends in
        (finished p.meaning.flowchart outs (cost_of p.meaning.flowchart vs), (outs, ap (option_map (outputs_in p.meaning.flowchart)) safe.defined, refl))
    by (State (blocked.Unknown name)) e = (refusal (codes "state unknown " ++ name), refl)
    by (State (blocked.Missing name)) e = (refusal (codes "state missing " ++ name), refl)
    by (State (blocked.Range name)) e = (refusal (codes "state range " ++ name), refl)
    by (State (blocked.Waits day)) e = absurd (never_waits p values day e)

some_once : (values : List NamedValue) → All IsKeptValue values → (plan limits : List ℕ) → (a : Answer) × OnceAnswers values plan limits a
some_once values kept plan limits = let v = plans.some plan limits in by v.0 v.1
  where
    by : (v : Result Meaning PlanRefusal) → AcceptanceSays plan limits v → (a : Answer) × OnceAnswers values plan limits a
    by (Err r) h = let w = some_refusal plan limits r h in (w.0, record { verdict = Err r; accepted = h; is = w.1 })
    by (Ok m) h =
        let ran = some_run values (record { plan = plan; limits = limits; meaning = m }) kept h in
        (ran.0, record { verdict = Ok m; accepted = h; is = ran.1 })

pub once_answers : (values : List NamedValue) → All IsKeptValue values → (plan limits : List ℕ) → HasOneAnswer (OnceAnswers values plan limits)
once_answers values kept plan limits = record { some = some_once values kept plan limits; one = one_once values plan limits }

-- ---- what `check` prints of an accepted plan

pub printed_holds : PrintedAcceptanceHolds
printed_holds plan limits more steps answer h read = by h.verdict h.accepted h.is
  where
    by : (v : Result Meaning PlanRefusal) → AcceptanceSays plan limits v → IsChecked plan v answer
        → NeverFailsWithin plan limits steps
    by (Ok m) accepted is =
        let printed = ap (λ (a : Answer). a.text) is in
        never_fails plan limits answer.text (range_lines m.outputs) more m steps accepted printed read
    by (Err why) accepted is = absurd (refused_otherwise is.detail more steps answer is.is read)

-- ---- the values of words are kept

given_kept : (words : List (List ℕ)) (given : List NamedValue) → AllZip IsValueWord words given → All IsKeptValue given
given_kept [] [] h = All-nil IsKeptValue
given_kept [] (v ∷ vs) h = absurd h
given_kept (w ∷ words) [] h = absurd h
given_kept (w ∷ words) (v ∷ vs) h = All-cons IsKeptValue v vs h.0.kept (given_kept words vs h.1)

pub words_kept : (words : List (List ℕ)) (values : List NamedValue) → AreValueWords words values → All IsKeptValue values
words_kept words values h = All-permutation IsKeptValue h.given values h.same (given_kept words h.given h.give)
