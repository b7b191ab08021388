-- The trace of a run: the statements that it executes, in their order, each with what it did.
use Rattle.std.specs.Prelude.{ℕ, zero, suc, ◌+◌, not, if◌then◌else◌, List, [], ◌∷◌, ◌++◌, Option, Some, None}
use Rattle.std.specs.Option.{option_map, option_and_then}
use Rattle.scaled_decimal.specs.Decimals.{Decimal}
use Rattle.pap_tree.specs.Flowchart.{Body, done, eval, branch, execute, Routine, Flowchart}
use Rattle.pap_tree.specs.Statements.{written}
use Rattle.pap_types.specs.Scopes.{Scope, scope_of}
use Rattle.pap_types.specs.Operations.{is_zero}
use Rattle.pap_types.specs.Values.{Env, value}
use Rattle.pap_types.specs.Routines.{body_named}
use Rattle.pap_tree.specs.Names.{main_name}
use Rattle.pap_types.specs.Runs.{Calls, after, assigned, calls_of}
use Rattle.pap_types.specs.Limits.{longest_chain}
use Rattle.pap_types.specs.Meaning.{calls_in, start}
use Rattle.run_values.specs.NumberedValues.{value_put}
use Rattle.month_trace.specs.declared.step.TraceStep.{TraceStep}
use Rattle.month_trace.specs.declared.step.TraceStep.TheVariants.{Set, Test, Enter}

-- a trace, or none where the run is undefined
abbrev pub Trace : Type 0
Trace = Option (List TraceStep)

-- a step, and then those of a trace
abbrev pub first_then : TraceStep → Trace → Trace
first_then s rest = option_map (λ more. s ∷ more) rest

-- one trace, and then another
abbrev pub both_in_order : Trace → Trace → Trace
both_in_order one rest = option_and_then (λ xs. option_map (λ ys. xs ++ ys) rest) one

module _ (scope : Scope) where
  -- Given what methods do and what their executions add to a trace: the trace of a list of statements of a method, the
  -- first of which has this number.
  module _ (calls : Calls) (inside : List ℕ → Env → Trace) (name : List ℕ) where
    -- the trace of a list of statements, the first of which has this number
    abbrev pub traced : ℕ → Body → Env → Trace
    traced at done env = Some []
    traced at (eval x e rest) env =
        option_and_then
        (λ v. first_then (Set name at x (value_put scope x v)) (traced (at + 1) rest (assigned scope x v env)))
        (value scope e env)
    traced at (branch t a b rest) env =
        option_and_then
        (λ v.
        first_then (Test name at (not (is_zero v)))
        (both_in_order
        (if is_zero v then traced (at + 1 + written a) b env else traced (at + 1) a env)
        (option_and_then
        (traced (at + 1 + written a + written b) rest)
        (if is_zero v then after scope calls b env else after scope calls a env))))
        (value scope t env)
    traced at (execute m rest) env =
        first_then (Enter name at m)
        (both_in_order (inside m env) (option_and_then (traced (at + 1) rest) (calls.after m env)))

  -- the trace of a method's body, where a chain of methods has at most so many
  unfoldable pub traces_of : List Routine → ℕ → List ℕ → Env → Trace
  traces_of ms zero m env = None
  traces_of ms (suc n) m env =
      option_and_then (λ b. traced (calls_of scope ms n) (traces_of ms n) m 0 b env) (body_named ms m)

-- the trace of a run of a plan: that of MAIN
abbrev pub trace_of : Flowchart → List Decimal → Trace
trace_of f inputs =
    traced (scope_of f) (calls_in f) (traces_of (scope_of f) f.methods longest_chain)
    main_name 0 f.main (start f inputs)
