-- Where a run leads somewhere it has a trace.
use Rattle.std.proofs.Common.{◌≡◌, ℕ, zero, suc, ◌+◌, List, ◌∷◌, Bool, true, false, Option, Some, None, refl, sym, ◌∙◌, subst}
use Rattle.std.specs.Prelude.{IsSome, not, if◌then◌else◌}
use Rattle.std.specs.Option.{option_and_then, option_map}
use Rattle.std.proofs.lemmas.Option.{option_and_then_some, none-some}
use Rattle.scaled_decimal.specs.Decimals.{Decimal}
use Rattle.pap_tree.specs.Flowchart.{Body, done, eval, branch, execute, Routine, Flowchart}
use Rattle.pap_tree.specs.Statements.{written}
use Rattle.pap_types.specs.Limits.{longest_chain}
use Rattle.pap_types.specs.Meaning.{calls_in, start, IsSafeFor}
use Rattle.pap_types.specs.Operations.{is_zero}
use Rattle.pap_types.specs.Routines.{body_named}
use Rattle.pap_tree.specs.Names.{main_name}
use Rattle.pap_types.specs.Runs.{Calls, after, assigned, calls_of}
use Rattle.pap_types.specs.Scopes.{Scope, scope_of}
use Rattle.pap_types.specs.Values.{Env, value}
use Rattle.month_trace.specs.declared.step.TraceStep.{TraceStep}
use Rattle.month_trace.specs.declared.step.TraceStep.TheVariants.{Set, Test, Enter}
use Rattle.run_values.specs.NumberedValues.{value_put}
use Rattle.month_trace.specs.Traces.{Trace, first_then, both_in_order, traced, traces_of, trace_of}
use Rattle.month_trace.specs.TraceLaws.{HasOneTrace}
use Rattle.month_trace.proofs.OperationLemmas.{the_value}

map_there : {A B : Type 0} (f : A → B) (o : Option A) → IsSome o → IsSome (option_map f o)
map_there f (Some a) h = refl
map_there f None h = h

both_there : (one rest : Trace) → IsSome one → IsSome rest → IsSome (both_in_order one rest)
both_there (Some xs) (Some ys) h k = refl
both_there (Some xs) None h k = k
both_there None rest h k = h

-- where methods lead somewhere, what is inside them has a trace
abbrev pub AreThere : (List ℕ → Env → Option Env) → (List ℕ → Env → Trace) → Type 0
AreThere lead inside = (m : List ℕ) (env ends : Env) → lead m env ≡ Some ends → IsSome (inside m env)

module _ (scope : Scope) (calls : Calls) (inside : List ℕ → Env → Trace) (name : List ℕ)
    (there : AreThere calls.after inside) where
  -- a statement with what is inside it, and what follows where that leads
  inner_there : (s : TraceStep) (inner : Trace) (go : Env → Trace) (o : Option Env) (middle : Env) → o ≡ Some middle
      → IsSome inner → IsSome (go middle) → IsSome (first_then s (both_in_order inner (option_and_then go o)))
  inner_there s inner go o middle is h k =
      map_there (λ more. s ∷ more) (both_in_order inner (option_and_then go o))
      (both_there inner (option_and_then go o) h (subst (λ o. IsSome (option_and_then go o)) (sym is) k))

  either_there : (a b : Body) (i j : ℕ) (env middle : Env)
      → ((ends : Env) → after scope calls a env ≡ Some ends → IsSome (traced scope calls inside name i a env))
      → ((ends : Env) → after scope calls b env ≡ Some ends → IsSome (traced scope calls inside name j b env))
      → (zero : Bool) → (if zero then after scope calls b env else after scope calls a env) ≡ Some middle → IsSome
      (if zero then traced scope calls inside name j b env else traced scope calls inside name i a env)
  either_there a b i j env middle p q true e = q middle e
  either_there a b i j env middle p q false e = p middle e

  pub trace_there : (b : Body) (at : ℕ) (env ends : Env) → after scope calls b env ≡ Some ends
      → IsSome (traced scope calls inside name at b env)
  trace_there done at env ends e = refl
  trace_there (eval x t rest) at env ends e =
      option_and_then_some (λ v. after scope calls rest (assigned scope x v env)) (value scope t env) ends e
      (λ v is leads.
      subst
      (λ o. IsSome (option_and_then (λ v. first_then (Set name at x (value_put scope x v))
      (traced scope calls inside name (at + 1) rest (assigned scope x v env))) o))
      (sym is)
      (map_there (λ more. Set name at x (value_put scope x v) ∷ more)
      (traced scope calls inside name (at + 1) rest (assigned scope x v env))
      (trace_there rest (at + 1) (assigned scope x v env) ends leads)))
  trace_there (branch t a b rest) at env ends e =
      option_and_then_some
      (λ v. option_and_then (after scope calls rest) (if is_zero v then after scope calls b env else after scope
      calls a env))
      (value scope t env) ends e (λ v is leads.
      option_and_then_some (after scope calls rest)
      (if is_zero v then after scope calls b env else after scope calls a env) ends leads (λ middle reached more.
      subst
      (λ o. IsSome (option_and_then (λ v. first_then (Test name at (not (is_zero v)))
      (both_in_order (if is_zero v then traced scope calls inside name (at + 1 + written a) b env else traced scope
      calls inside name (at + 1) a env) (option_and_then
      (traced scope calls inside name (at + 1 + written a + written b) rest)
      (if is_zero v then after scope calls b env else after scope calls a env)))) o))
      (sym is)
      (inner_there (Test name at (not (is_zero v)))
      (if is_zero v then traced scope calls inside name (at + 1 + written a) b env else traced scope calls inside
      name (at + 1) a env)
      (traced scope calls inside name (at + 1 + written a + written b) rest)
      (if is_zero v then after scope calls b env else after scope calls a env)
      middle reached
      (either_there a b (at + 1) (at + 1 + written a) env middle (trace_there a (at + 1) env)
      (trace_there b (at + 1 + written a) env) (is_zero v) reached)
      (trace_there rest (at + 1 + written a + written b) middle ends more))))
  trace_there (execute m rest) at env ends e =
      option_and_then_some (after scope calls rest) (calls.after m env) ends e (λ middle reached more.
      inner_there (Enter name at m) (inside m env) (traced scope calls inside name (at + 1) rest) (calls.after m env)
      middle reached (there m env middle reached) (trace_there rest (at + 1) middle ends more))

pub methods_there : (scope : Scope) (ms : List Routine) (n : ℕ)
    → AreThere (calls_of scope ms n).after (traces_of scope ms n)
unfolding calls_of traces_of
methods_there scope ms zero m env ends e = absurd (none-some ends e)
methods_there scope ms (suc n) m env ends e =
    option_and_then_some (λ b. after scope (calls_of scope ms n) b env) (body_named ms m) ends e (λ b is leads.
    subst (λ o. IsSome (option_and_then (λ b. traced scope (calls_of scope ms n) (traces_of scope ms n) m 0 b env) o))
    (sym is)
    (trace_there scope (calls_of scope ms n) (traces_of scope ms n) m (methods_there scope ms n) b 0 env ends leads))

some_same : (a b : List TraceStep) → Some a ≡ Some b → a ≡ b
some_same a b e = cc

pub one_trace : (f : Flowchart) (inputs : List Decimal) → IsSafeFor f inputs → HasOneTrace f inputs
one_trace f inputs h =
    let scope = scope_of f in
    let there =
    trace_there scope (calls_in f) (traces_of scope f.methods longest_chain) main_name
    (methods_there scope f.methods longest_chain) f.main 0 (start f inputs) h.ends h.defined in
    let steps = the_value (trace_of f inputs) there in
    record { steps = steps.0; are = steps.1; only = λ others e. some_same others steps.0 (sym e ∙ steps.1) }

pub has_trace : (f : Flowchart) (inputs : List Decimal) → IsSafeFor f inputs → IsSome (trace_of f inputs)
has_trace f inputs h = subst IsSome (sym (one_trace f inputs h).are) refl
