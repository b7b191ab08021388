-- Where a run fails its inputs aren't safe: what fails has not_held value, or isn't safe.
use Rattle.std.proofs.Common.{◌≡◌, ℕ, zero, suc, ◌+◌, List, Bool, true, false, Option, Some, None, refl, sym, ◌∙◌, subst, true≢false, inl, inr}
use Rattle.std.specs.Prelude.{if◌then◌else◌}
use Rattle.std.specs.Option.{option_map, option_and_then}
use Rattle.std.proofs.lemmas.Option.{option_and_then_some, none-some}
use Rattle.scaled_decimal.specs.Decimals.{Decimal, numerator_of}
use Rattle.scaled_decimal.specs.WholeNumbers.{item_at}
use Rattle.pap_tree.specs.declared.expression.Call.TheVariants as calls
use Rattle.pap_tree.specs.Term.{Term, leaf, item, one, two, choice, One, Two, operator, method, divide}
use Rattle.pap_tree.specs.Numbering.{nodes}
use Rattle.pap_tree.specs.Statements.{written}
use Rattle.pap_tree.specs.Flowchart.{Body, done, eval, branch, execute, Routine, Flowchart}
use Rattle.pap_tree.specs.Names.{main_name}
use Rattle.pap_types.specs.declared.kinds.NodeKind.{NodeKind}
use Rattle.pap_types.specs.Kinds.{kind_of}
use Rattle.pap_types.specs.Limits.{longest_chain}
use Rattle.pap_types.specs.Meaning.{calls_in, start, IsSafeFor}
use Rattle.pap_types.specs.Operations.{is_zero, of_one, of_two}
use Rattle.pap_types.specs.Runs.{Calls, after, assigned, calls_of}
use Rattle.pap_types.specs.Safety.{OneFits, TwoFits}
use Rattle.pap_types.specs.Scopes.{Scope, scope_of, table_in}
use Rattle.pap_types.specs.Values.{Env, value, goes_right}
use Rattle.checked_run.specs.declared.cause.FailureCause.{FailureCause}
use Rattle.checked_run.specs.declared.cause.FailureCause.TheVariants.{Wide, Scale, Divisor, Index}
use Rattle.checked_run.specs.declared.failure.RunFailure.{RunFailure}
use Rattle.checked_run.specs.OperationFailures.{GivesFewPlaces, OneFails, TwoFails}
use Rattle.checked_run.specs.RunFailures.{EvaluatesTo, FailsAt, ExpressionFails, RunsTo, ExecutesTo, BodyFails, CallsFail, RunFails}

none_some : {A : Type 0} (o : Option A) (a : A) → o ≡ None → o ≡ Some a → ⊥
none_some o a n s = none-some a (sym n ∙ s)

-- ---- operations

one_unfit : (op : One) (k : NodeKind) (a : Decimal) (c : FailureCause) → OneFails op k a c → OneFits op k a → ⊥
one_unfit op k a Wide f h = f h
one_unfit op k a Scale f h = f
one_unfit op k a Divisor f h = f
one_unfit op k a Index f h = f

-- where the working numbers fit the result has few places
few_places : (op : Two) (k : NodeKind) (a b : Decimal) → TwoFits op k a b → GivesFewPlaces op a b
few_places (operator o) k a b h = tt
few_places (divide s mode) k a b h = tt
few_places (method calls.Multiply) k a b h = h.scale
few_places (method calls.DivideExact) k a b h = h.scale
few_places (method calls.Add) k a b h = tt
few_places (method calls.Subtract) k a b h = tt
few_places (method calls.CompareTo) k a b h = tt
few_places (method calls.Min) k a b h = tt
few_places (method calls.Max) k a b h = tt

two_unfit : (op : Two) (k : NodeKind) (a b v : Decimal) (c : FailureCause) → TwoFails op k a b c → TwoFits op k a b
    → of_two op a b ≡ Some v → ⊥
two_unfit op k a b v Divisor f h is = none_some (of_two op a b) v f is
two_unfit op k a b v Scale f h is = f.1 (few_places op k a b h)
two_unfit op k a b v Wide f h is = f.2 h
two_unfit op k a b v Index f h is = f

-- ---- expressions

map_some : (f : Decimal → Decimal) (o : Option Decimal) (v : Decimal) → option_map f o ≡ Some v
    → (a : Decimal) × (o ≡ Some a)
map_some f (Some a) v e = (a, refl)
map_some f None v e = absurd (none-some v e)

module _ (scope : Scope) (env : Env) where
  -- what follows the first operand
  behind : Two → Term → Decimal → Option Decimal
  behind op f a = if goes_right op a then option_and_then (λ b. of_two op a b) (value scope f env) else Some a

  goes_on : (t : Bool) (x y : Option Decimal) (v : Decimal) → t ≡ true → (if t then x else y) ≡ Some v → x ≡ Some v
  goes_on true x y v g e = e
  goes_on false x y v g e = absurd (true≢false (sym g))

  goes_else : (t : Bool) (x y : Option Decimal) (v : Decimal) → t ≡ false → (if t then x else y) ≡ Some v → y ≡ Some v
  goes_else true x y v g e = absurd (true≢false g)
  goes_else false x y v g e = e

  -- from a value that an expression has, what follows the part that has this value
  at_value : (go : Decimal → Option Decimal) (o : Option Decimal) (a v : Decimal) → o ≡ Some a
      → option_and_then go o ≡ Some v → go a ≡ Some v
  at_value go o a v is e = subst (λ o. option_and_then go o ≡ Some v) is e

  pub term_fails : (t : Term) (at n : ℕ) (c : FailureCause) (v : Decimal) → FailsAt scope env t at n c
      → EvaluatesTo scope t env v → ⊥
  unfolding behind
  term_fails (leaf l) at n c v f h = f
  term_fails (item x e) at n c v f h =
      let go = λ (i : Decimal). item_at (table_in scope x) (numerator_of i) in
      option_and_then_some go (value scope e env) v h.is (λ i is found.
      elim f [
        | inl first ↦ term_fails e at n c i first (record { safe = h.safe; is = is })
        | inr own ↦ none_some (go own.0) v own.2 (at_value go (value scope e env) own.0 v own.1.is h.is)
      ])
  term_fails (one op e) at n c v f h =
      let some = map_some (λ a. of_one op e a) (value scope e env) v h.is in
      elim f [
        | inl first ↦ term_fails e at n c some.0 first (record { safe = h.safe.0; is = some.1 })
        | inr own ↦ one_unfit op (kind_of scope (one op e)) own.0 c own.2 (h.safe.1 own.0 own.1.is)
      ]
  term_fails (two op e f) at n c v fails h =
      option_and_then_some (behind op f) (value scope e env) v h.is (λ first is more.
      elim fails [
        | inl left ↦ term_fails e at n c first left (record { safe = h.safe.0; is = is })
        | inr later ↦ (let a = later.0 in
            let goes = later.2 in
            let right : option_and_then (λ b. of_two op a b) (value scope f env) ≡ Some v =
            goes_on (goes_right op a) _ (Some a) v goes
            (at_value (behind op f) (value scope e env) a v later.1.is h.is) in
            option_and_then_some (λ b. of_two op a b) (value scope f env) v right (λ second be result.
            elim later.3 [
              | inl inside ↦ term_fails f (at + nodes e) n c second inside
                  (record { safe = (h.safe.1 a later.1.is goes).0; is = be })
              | inr own ↦ two_unfit op (kind_of scope (two op e f)) a own.0 v c own.2
                  ((h.safe.1 a later.1.is goes).1 own.0 own.1.is)
                  (at_value (λ b. of_two op a b) (value scope f env) own.0 v own.1.is right)
            ]))
      ])
  term_fails (choice t e f) at n c v fails h =
      let go = λ (t : Decimal). if is_zero t then value scope f env else value scope e env in
      option_and_then_some go (value scope t env) v h.is (λ first is more.
      elim fails [
        | inl left ↦ term_fails t at n c first left (record { safe = h.safe.0; is = is })
        | inr later ↦ (let w = later.0 in
            let chosen : go w ≡ Some v = at_value go (value scope t env) w v later.1.is h.is in
            elim later.2 [
              | inl held ↦ term_fails e (at + nodes t) n c v held.1 (record {
                safe = (h.safe.1 w later.1.is).1 held.0;
                is = goes_else (is_zero w) (value scope f env) (value scope e env) v held.0 chosen;
              })
              | inr not_held ↦ term_fails f (at + nodes t + nodes e) n c v not_held.1 (record {
                safe = (h.safe.1 w later.1.is).0 not_held.0;
                is = goes_on (is_zero w) (value scope f env) (value scope e env) v not_held.0 chosen;
              })
            ])
      ])

-- ---- statements

pub expression_fails : (scope : Scope) (name : List ℕ) (at : ℕ) (t : Term) (env : Env) (x : RunFailure) (v : Decimal)
    → ExpressionFails scope name at t env x → value scope t env ≡ Some v → EvaluatesTo scope t env v → ⊥
expression_fails scope name at t env x v f is h = term_fails scope env t 0 f.node f.cause v f.fails h

at_ends : (go : Env → Option Env) (o : Option Env) (a ends : Env) → o ≡ Some a → option_and_then go o ≡ Some ends
    → go a ≡ Some ends
at_ends go o a ends is e = subst (λ o. option_and_then go o ≡ Some ends) is e

at_found : (go : Decimal → Option Env) (o : Option Decimal) (a : Decimal) (ends : Env) → o ≡ Some a
    → option_and_then go o ≡ Some ends → go a ≡ Some ends
at_found go o a ends is e = subst (λ o. option_and_then go o ≡ Some ends) is e

env_on : (t : Bool) (x y : Option Env) (e : Env) → t ≡ true → (if t then x else y) ≡ Some e → x ≡ Some e
env_on true x y e g h = h
env_on false x y e g h = absurd (true≢false (sym g))

env_else : (t : Bool) (x y : Option Env) (e : Env) → t ≡ false → (if t then x else y) ≡ Some e → y ≡ Some e
env_else true x y e g h = absurd (true≢false g)
env_else false x y e g h = h

if_on : (t : Bool) (x y : Option Env) (e : Env) → t ≡ true → x ≡ Some e → (if t then x else y) ≡ Some e
if_on true x y e g h = h
if_on false x y e g h = absurd (true≢false (sym g))

if_else : (t : Bool) (x y : Option Env) (e : Env) → t ≡ false → y ≡ Some e → (if t then x else y) ≡ Some e
if_else true x y e g h = absurd (true≢false g)
if_else false x y e g h = h

module _ (scope : Scope) (calls : Calls) (CallFails : List ℕ → Env → RunFailure → Type 0) (x : RunFailure)
    (never : (m : List ℕ) (env ends : Env) → CallFails m env x → ExecutesTo calls m env ends → ⊥) where
  pub body_fails : (name : List ℕ) (b : Body) (at : ℕ) (env ends : Env)
      → BodyFails scope calls CallFails name x at b env → RunsTo scope calls b env ends → ⊥
  body_fails name done at env ends f h = f
  body_fails name (eval y e rest) at env ends f h =
      let go = λ (v : Decimal). after scope calls rest (assigned scope y v env) in
      option_and_then_some go (value scope e env) ends h.is (λ v is more.
      elim f [
        | inl first ↦ expression_fails scope name at e env x v first is (record { safe = h.safe.0; is = is })
        | inr later ↦ body_fails name rest (at + 1) (assigned scope y later.0 env) ends later.2 (record {
          safe = h.safe.1 later.0 later.1.is;
          is = at_found go (value scope e env) later.0 ends later.1.is h.is;
        })
      ])
  body_fails name (branch t a b rest) at env ends f h =
      let lists = λ (v : Decimal). if is_zero v then after scope calls b env else after scope calls a env in
      let go = λ (v : Decimal). option_and_then (after scope calls rest) (lists v) in
      option_and_then_some go (value scope t env) ends h.is (λ v is more.
      elim f [
        | inl first ↦ expression_fails scope name at t env x v first is (record { safe = h.safe.0; is = is })
        | inr later ↦ (let w = later.0 in
            let safe = h.safe.1 w later.1.is in
            let onward : option_and_then (after scope calls rest) (lists w) ≡ Some ends =
            at_found go (value scope t env) w ends later.1.is h.is in
            option_and_then_some (after scope calls rest) (lists w) ends onward (λ middle reached goes.
            elim later.2 [
              | inl held ↦ elim held.1 [
                | inl inside ↦ body_fails name a (at + 1) env middle inside (record {
                  safe = safe.1 held.0;
                  is = env_else (is_zero w) (after scope calls b env) (after scope calls a env) middle held.0 reached;
                })
                | inr behind ↦ (let there : lists w ≡ Some behind.0 =
                    if_else (is_zero w) (after scope calls b env) (after scope calls a env) behind.0 held.0 behind.1.is in
                    body_fails name rest (at + 1 + written a + written b) behind.0 ends behind.2 (record {
                      safe = safe.2 behind.0 there;
                      is = at_ends (after scope calls rest) (lists w) behind.0 ends there onward;
                    }))
              ]
              | inr not_held ↦ elim not_held.1 [
                | inl inside ↦ body_fails name b (at + 1 + written a) env middle inside (record {
                  safe = safe.0 not_held.0;
                  is = env_on (is_zero w) (after scope calls b env) (after scope calls a env) middle not_held.0 reached;
                })
                | inr behind ↦ (let there : lists w ≡ Some behind.0 =
                    if_on (is_zero w) (after scope calls b env) (after scope calls a env) behind.0 not_held.0 behind.1.is in
                    body_fails name rest (at + 1 + written a + written b) behind.0 ends behind.2 (record {
                      safe = safe.2 behind.0 there;
                      is = at_ends (after scope calls rest) (lists w) behind.0 ends there onward;
                    }))
              ]
            ]))
      ])
  body_fails name (execute m rest) at env ends f h =
      option_and_then_some (after scope calls rest) (calls.after m env) ends h.is (λ middle is more.
      elim f [
        | inl first ↦ never m env middle first (record { safe = h.safe.0; is = is })
        | inr later ↦ body_fails name rest (at + 1) later.0 ends later.2 (record {
          safe = h.safe.1 later.0 later.1.is;
          is = at_ends (after scope calls rest) (calls.after m env) later.0 ends later.1.is h.is;
        })
      ])

pub calls_fail : (scope : Scope) (ms : List Routine) (x : RunFailure) (n : ℕ) (m : List ℕ) (env ends : Env)
    → CallsFail scope ms n m env x → ExecutesTo (calls_of scope ms n) m env ends → ⊥
unfolding calls_of CallsFail
calls_fail scope ms x zero m env ends f h = absurd h.safe
calls_fail scope ms x (suc n) m env ends f h =
    body_fails scope (calls_of scope ms n) (CallsFail scope ms n) x (calls_fail scope ms x n) m f.0 0 env ends f.2 (record {
      safe = h.safe f.0 f.1;
      is = subst (λ o. option_and_then (λ b. after scope (calls_of scope ms n) b env) o ≡ Some ends) f.1 h.is;
    })

pub run_unsafe : (f : Flowchart) (inputs : List Decimal) (x : RunFailure) → RunFails f inputs x → IsSafeFor f inputs → ⊥
run_unsafe f inputs x fails h =
    body_fails (scope_of f) (calls_in f) (CallsFail (scope_of f) f.methods longest_chain) x
    (calls_fail (scope_of f) f.methods x longest_chain) main_name f.main 0 (start f inputs) h.ends fails
    (record { safe = h.safe; is = h.defined })
