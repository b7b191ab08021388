-- A run keeps the variables; a safe one has one list of outputs.
use Rattle.std.proofs.Common.{◌≡◌, ℕ, zero, suc, ◌≤◌, List, [], ◌∷◌, ◌++◌, length, map, drop, Some, Option, Bool, true, false, refl, sym, ap, ◌∙◌, arith, length-append, length-drop}
use Rattle.std.specs.Prelude.{if◌then◌else◌}
use Rattle.std.specs.Option.{option_map, option_and_then}
use Rattle.std.specs.Str.{bytes_eq}
use Rattle.std.proofs.lemmas.List.{map-append, length-map, length-take-le}
use Rattle.std.proofs.lemmas.Option.{option_and_then_some, none-some}
use Rattle.scaled_decimal.specs.Decimals.{Decimal}
use Rattle.pap_tree.specs.Declarations.{Declaration}
use Rattle.pap_tree.specs.Flowchart.{Body, done, eval, branch, execute, Routine, Flowchart}
use Rattle.pap_types.specs.Scopes.{Scope, scope_of, names_of, variables_of}
use Rattle.pap_types.specs.Operations.{is_zero}
use Rattle.pap_types.specs.Values.{Env, Variable, value, put_value}
use Rattle.pap_types.specs.Routines.{body_named}
use Rattle.pap_types.specs.Runs.{Calls, after, assigned, calls_of}
use Rattle.pap_types.specs.Limits.{longest_chain}
use Rattle.pap_types.specs.Meaning.{calls_in, given, start, first_entry, ends_of, outputs_in, AreInputs, IsSafeFor}
use Rattle.pap_types.specs.MeaningLaws.{HasOneOutputs}

-- the names of an environment
abbrev pub entry_names : Env → List (List ℕ)
entry_names env = map (λ v. v.name) env

-- ---- what a run keeps

put_or_not : (v : Variable) (vs : Env) (x : List ℕ) (d : Decimal) → entry_names (put_value vs x d) ≡ entry_names vs → (b : Bool) → entry_names (if b then record v { value = d } ∷ vs else v ∷ put_value vs x d) ≡ v.name ∷ entry_names vs
put_or_not v vs x d h true = refl
put_or_not v vs x d h false = ap (λ ns. v.name ∷ ns) h

pub names-put : (env : Env) (x : List ℕ) (d : Decimal) → entry_names (put_value env x d) ≡ entry_names env
names-put [] x d = refl
names-put (v ∷ vs) x d = put_or_not v vs x d (names-put vs x d) (bytes_eq v.name x)

-- where the methods lead, the names are those that were
abbrev pub KeepsNames : (List ℕ → Env → Option Env) → Type 0
KeepsNames lead = (m : List ℕ) (env ends : Env) → lead m env ≡ Some ends → entry_names ends ≡ entry_names env

module _ (scope : Scope) (calls : Calls) (kept : KeepsNames calls.after) where
  branch_keeps : (a b : Body) (env middle : Env) → ((ends : Env) → after scope calls a env ≡ Some ends → entry_names ends ≡ entry_names env) → ((ends : Env) → after scope calls b env ≡ Some ends → entry_names ends ≡ entry_names env) → (zero : Bool) → (if zero then after scope calls b env else after scope calls a env) ≡ Some middle → entry_names middle ≡ entry_names env
  branch_keeps a b env middle p q true e = q middle e
  branch_keeps a b env middle p q false e = p middle e

  pub names-after : (b : Body) (env ends : Env) → after scope calls b env ≡ Some ends → entry_names ends ≡ entry_names env
  names-after done env ends e = ap entry_names (cc)
  names-after (eval x t rest) env ends e =
      option_and_then_some (λ v. after scope calls rest (assigned scope x v env)) (value scope t env) ends e (λ v is leads.
      names-after rest (assigned scope x v env) ends leads ∙ names-put env x _)
  names-after (branch t a b rest) env ends e =
      option_and_then_some (λ v. option_and_then (after scope calls rest) (if is_zero v then after scope calls b env else after scope calls a env)) (value scope t env) ends e (λ v is leads.
      option_and_then_some (after scope calls rest) (if is_zero v then after scope calls b env else after scope calls a env) ends leads (λ middle reached more.
      names-after rest middle ends more ∙ branch_keeps a b env middle (names-after a env) (names-after b env) (is_zero v) reached))
  names-after (execute m rest) env ends e =
      option_and_then_some (after scope calls rest) (calls.after m env) ends e (λ middle reached more. names-after rest middle ends more ∙ kept m env middle reached)

pub names-calls : (scope : Scope) (ms : List Routine) (n : ℕ) → KeepsNames (calls_of scope ms n).after
unfolding calls_of
names-calls scope ms zero m env ends e = absurd (none-some ends e)
names-calls scope ms (suc n) m env ends e =
    option_and_then_some (λ b. after scope (calls_of scope ms n) b env) (body_named ms m) ends e (λ b is leads. names-after scope (calls_of scope ms n) (names-calls scope ms n) b env ends leads)

-- ---- the start

names-given : (ds : List Declaration) (vs : List Decimal) → AreInputs ds vs → entry_names (given ds vs) ≡ names_of ds
names-given [] [] h = refl
names-given [] (v ∷ vs) h = absurd h
names-given (d ∷ ds) [] h = absurd h
names-given (d ∷ ds) (v ∷ vs) h = ap (λ ns. d.name ∷ ns) (names-given ds vs h.1)

names-first : (ds : List Declaration) → entry_names (map first_entry ds) ≡ names_of ds
names-first [] = refl
names-first (d ∷ ds) = ap (λ ns. d.name ∷ ns) (names-first ds)

-- a run starts with the variables in the order of their numbers
pub names-start : (f : Flowchart) (inputs : List Decimal) → AreInputs f.inputs inputs → entry_names (start f inputs) ≡ names_of (variables_of f)
names-start f inputs h =
    map-append (λ (v : Variable). v.name) (given f.inputs inputs) (map first_entry (f.outputs ++ f.internals))
    ∙ ap (λ ns. ns ++ entry_names (map first_entry (f.outputs ++ f.internals))) (names-given f.inputs inputs h)
    ∙ ap (λ ns. names_of f.inputs ++ ns) (names-first (f.outputs ++ f.internals))
    ∙ sym (map-append (λ (d : Declaration). d.name) f.inputs (f.outputs ++ f.internals))

-- and ends with them
pub names-ends : (f : Flowchart) (inputs : List Decimal) (ends : Env) → AreInputs f.inputs inputs → ends_of f inputs ≡ Some ends → entry_names ends ≡ names_of (variables_of f)
names-ends f inputs ends h e =
    names-after (scope_of f) (calls_in f) (names-calls (scope_of f) f.methods longest_chain) f.main (start f inputs) ends e ∙ names-start f inputs h

-- ---- the outputs

outputs_length : (f : Flowchart) (ends : Env) → entry_names ends ≡ names_of (variables_of f) → length (outputs_in f ends) ≡ length f.outputs
outputs_length f ends e =
    let all : length ends ≡ length (variables_of f) = sym (length-map ends (λ (v : Variable). v.name)) ∙ ap length e ∙ length-map (variables_of f) (λ (d : Declaration). d.name) in
    let values : length (map (λ (v : Variable). v.value) ends) ≡ length ends = length-map ends (λ (v : Variable). v.value) in
    let sum = length-append f.inputs (f.outputs ++ f.internals) in
    let more = length-append f.outputs f.internals in
    let left = length-drop (length f.inputs) (map (λ (v : Variable). v.value) ends) in
    let within : length f.outputs ≤ length (drop (length f.inputs) (map (λ (v : Variable). v.value) ends)) = omega (arith, left, values, all, sum, more) in
    length-take-le (length f.outputs) (drop (length f.inputs) (map (λ (v : Variable). v.value) ends)) within

pub one_outputs : (f : Flowchart) (inputs : List Decimal) → IsSafeFor f inputs → HasOneOutputs f inputs
one_outputs f inputs h = record {
  outputs = outputs_in f h.ends;
  are = ap (option_map (outputs_in f)) h.defined;
  only = λ others e. (let is : Some (outputs_in f h.ends) ≡ Some others = sym (ap (option_map (outputs_in f)) h.defined) ∙ e in cc);
  each = outputs_length f h.ends (names-ends f inputs h.ends h.given h.defined);
}
