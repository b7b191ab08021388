-- The assignments of a trace, one after the other, lead where the run leads.
use Rattle.std.proofs.Common.{◌≡◌, ℕ, zero, suc, ◌+◌, List, [], ◌∷◌, ◌++◌, Bool, true, false, Option, Some, None, refl, sym, ap, ◌∙◌, subst}
use Rattle.std.specs.Prelude.{not, if◌then◌else◌}
use Rattle.std.specs.Option.{option_and_then}
use Rattle.std.proofs.lemmas.Option.{option_and_then_some, none-some}
use Rattle.scaled_decimal.specs.Decimals.{Decimal}
use Rattle.pap_tree.specs.Flowchart.{Body, done, eval, branch, execute, Routine, Flowchart}
use Rattle.pap_tree.specs.Statements.{written}
use Rattle.pap_types.specs.Limits.{longest_chain}
use Rattle.pap_types.specs.Meaning.{calls_in, start, ends_of}
use Rattle.pap_types.specs.Operations.{is_zero}
use Rattle.pap_types.specs.Routines.{body_named}
use Rattle.pap_tree.specs.Names.{main_name}
use Rattle.pap_types.specs.Runs.{Calls, after, assigned, calls_of}
use Rattle.pap_types.specs.Scopes.{Scope, scope_of}
use Rattle.pap_types.specs.Values.{Env, put_value, value}
use Rattle.month_trace.specs.declared.step.TraceStep.{TraceStep}
use Rattle.month_trace.specs.declared.step.TraceStep.TheVariants.{Set, Test, Enter}
use Rattle.run_values.specs.NumberedValues.{value_put}
use Rattle.month_trace.specs.Traces.{Trace, first_then, both_in_order, traced, traces_of, trace_of}

-- the variables behind the assignments of steps
abbrev pub replayed : List TraceStep → Env → Env
replayed [] env = env
replayed (Set m n x v ∷ steps) env = replayed steps (put_value env x v)
replayed (Test m n holds ∷ steps) env = replayed steps env
replayed (Enter m n callee ∷ steps) env = replayed steps env

replayed-append : (xs ys : List TraceStep) (env : Env) → replayed (xs ++ ys) env ≡ replayed ys (replayed xs env)
replayed-append [] ys env = refl
replayed-append (Set m n x v ∷ xs) ys env = replayed-append xs ys (put_value env x v)
replayed-append (Test m n holds ∷ xs) ys env = replayed-append xs ys env
replayed-append (Enter m n callee ∷ xs) ys env = replayed-append xs ys env

-- ---- the parts of a trace

-- the steps behind the first
rest_of : (s : TraceStep) (t : Trace) (steps : List TraceStep) → first_then s t ≡ Some steps
    → (more : List TraceStep) × (t ≡ Some more) × (s ∷ more ≡ steps)
rest_of s (Some more) steps e = (more, refl, same e)
  where
    same : Some (s ∷ more) ≡ Some steps → s ∷ more ≡ steps
    same e = cc
rest_of s None steps e = absurd (none-some steps e)

record AreBoth (one rest : Trace) (steps : List TraceStep) : Type 0 where
  front : List TraceStep
  back : List TraceStep
  one_is : one ≡ Some front
  rest_is : rest ≡ Some back
  whole : front ++ back ≡ steps

both_of : (one rest : Trace) (steps : List TraceStep) → both_in_order one rest ≡ Some steps → AreBoth one rest steps
both_of (Some xs) (Some ys) steps e = record { front = xs; back = ys; one_is = refl; rest_is = refl; whole = same e }
  where
    same : Some (xs ++ ys) ≡ Some steps → xs ++ ys ≡ steps
    same e = cc
both_of (Some xs) None steps e = absurd (none-some steps e)
both_of None rest steps e = absurd (none-some steps e)

at_value : {A B : Type 0} (f : A → Option B) (o : Option A) (a : A) (b : B) → o ≡ Some a
    → option_and_then f o ≡ Some b → f a ≡ Some b
at_value f o a b is e = subst (λ o. option_and_then f o ≡ Some b) is e

-- ---- where steps lead

-- what is inside methods leads where these lead
abbrev pub LeadThere : (List ℕ → Env → Option Env) → (List ℕ → Env → Trace) → Type 0
LeadThere lead inside =
    (m : List ℕ) (env ends : Env) (steps : List TraceStep) → lead m env ≡ Some ends → inside m env ≡ Some steps →
    replayed steps env ≡ ends

module _ (scope : Scope) (calls : Calls) (inside : List ℕ → Env → Trace) (name : List ℕ)
    (there : LeadThere calls.after inside) where
  -- what is inside a statement, and what follows where that leads
  inner_leads : (inner : Trace) (go : Env → Trace) (o : Option Env) (env middle ends : Env) (more : List TraceStep)
      → o ≡ Some middle → both_in_order inner (option_and_then go o) ≡ Some more
      → ((steps : List TraceStep) → inner ≡ Some steps → replayed steps env ≡ middle) →
      ((steps : List TraceStep) → go middle ≡ Some steps → replayed steps middle ≡ ends) → replayed more env ≡ ends
  inner_leads inner go o env middle ends more reached e p q =
      let both = both_of inner (option_and_then go o) more e in
      let back : go middle ≡ Some both.back = subst (λ o. option_and_then go o ≡ Some both.back) reached both.rest_is in
      ap (λ steps. replayed steps env) (sym both.whole)
      ∙ replayed-append both.front both.back env
      ∙ ap (replayed both.back) (p both.front both.one_is)
      ∙ q both.back back

  either_leads : (a b : Body) (i j : ℕ) (env middle : Env)
      → ((ends : Env) (steps : List TraceStep) → after scope calls a env ≡ Some ends → traced scope calls inside name
      i a env ≡ Some steps → replayed steps env ≡ ends)
      →
      ((ends : Env) (steps : List TraceStep) → after scope calls b env ≡ Some ends → traced scope calls inside name j
      b env ≡ Some steps → replayed steps env ≡ ends)
      → (zero : Bool) → (if zero then after scope calls b env else after scope calls a env) ≡ Some middle →
      (steps : List TraceStep) →
      (if zero then traced scope calls inside name j b env else traced scope calls inside name i a env) ≡ Some steps →
      replayed steps env ≡ middle
  either_leads a b i j env middle p q true e steps h = q middle steps e h
  either_leads a b i j env middle p q false e steps h = p middle steps e h

  pub leads : (b : Body) (at : ℕ) (env ends : Env) (steps : List TraceStep) → after scope calls b env ≡ Some ends
      → traced scope calls inside name at b env ≡ Some steps → replayed steps env ≡ ends
  leads done at env ends steps e h = ap (λ steps. replayed steps env) nothing ∙ same
    where
      nothing : steps ≡ []
      nothing = cc

      same : env ≡ ends
      same = cc
  leads (eval x t rest) at env ends steps e h =
      option_and_then_some (λ v. after scope calls rest (assigned scope x v env)) (value scope t env) ends e
      (λ v is goes.
      (let own = at_value (λ v. first_then (Set name at x (value_put scope x v))
      (traced scope calls inside name (at + 1) rest (assigned scope x v env))) (value scope t env) v steps is h in
      let parts =
      rest_of (Set name at x (value_put scope x v))
      (traced scope calls inside name (at + 1) rest (assigned scope x v env)) steps own in
      ap (λ steps. replayed steps env) (sym parts.2) ∙ leads rest (at + 1) (assigned scope x v env) ends parts.0 goes
      parts.1))
  leads (branch t a b rest) at env ends steps e h =
      option_and_then_some
      (λ v. option_and_then (after scope calls rest) (if is_zero v then after scope calls b env else after scope
      calls a env))
      (value scope t env) ends e (λ v is goes.
      option_and_then_some (after scope calls rest)
      (if is_zero v then after scope calls b env else after scope calls a env) ends goes (λ middle reached more.
      (let inner = λ (v : Decimal). if is_zero v then traced scope calls inside name (at + 1 + written a) b env
      else traced scope calls inside name (at + 1) a env in
      let go = traced scope calls inside name (at + 1 + written a + written b) rest in
      let lists = λ (v : Decimal). if is_zero v then after scope calls b env else after scope calls a env in
      let own =
      at_value
      (λ v. first_then (Test name at (not (is_zero v))) (both_in_order (inner v) (option_and_then go (lists v))))
      (value scope t env) v steps is h in
      let parts =
      rest_of (Test name at (not (is_zero v))) (both_in_order (inner v) (option_and_then go (lists v))) steps own in
      ap (λ steps. replayed steps env) (sym parts.2)
      ∙ inner_leads (inner v) go (lists v) env middle ends parts.0 reached parts.1
      (either_leads a b (at + 1) (at + 1 + written a) env middle (leads a (at + 1) env)
      (leads b (at + 1 + written a) env) (is_zero v) reached)
      (λ steps h. leads rest (at + 1 + written a + written b) middle ends steps more h))))
  leads (execute m rest) at env ends steps e h =
      option_and_then_some (after scope calls rest) (calls.after m env) ends e (λ middle reached more.
      (let go = traced scope calls inside name (at + 1) rest in
      let parts =
      rest_of (Enter name at m) (both_in_order (inside m env) (option_and_then go (calls.after m env))) steps h in
      ap (λ steps. replayed steps env) (sym parts.2)
      ∙ inner_leads (inside m env) go (calls.after m env) env middle ends parts.0 reached parts.1
      (λ steps h. there m env middle steps reached h)
      (λ steps h. leads rest (at + 1) middle ends steps more h)))

pub methods_lead : (scope : Scope) (ms : List Routine) (n : ℕ)
    → LeadThere (calls_of scope ms n).after (traces_of scope ms n)
unfolding calls_of traces_of
methods_lead scope ms zero m env ends steps e h = absurd (none-some ends e)
methods_lead scope ms (suc n) m env ends steps e h =
    option_and_then_some (λ b. after scope (calls_of scope ms n) b env) (body_named ms m) ends e (λ b is goes.
    leads scope (calls_of scope ms n) (traces_of scope ms n) m (methods_lead scope ms n) b 0 env ends steps goes
    (at_value (λ b. traced scope (calls_of scope ms n) (traces_of scope ms n) m 0 b env) (body_named ms m) b steps is
    h))

-- the assignments of a run's trace lead from its start to its end
pub replays : (f : Flowchart) (inputs : List Decimal) (ends : Env) (steps : List TraceStep)
    → ends_of f inputs ≡ Some ends → trace_of f inputs ≡ Some steps → replayed steps (start f inputs) ≡ ends
replays f inputs ends steps e h =
    leads (scope_of f) (calls_in f) (traces_of (scope_of f) f.methods longest_chain) main_name
    (methods_lead (scope_of f) f.methods longest_chain) f.main 0 (start f inputs) ends steps e h
