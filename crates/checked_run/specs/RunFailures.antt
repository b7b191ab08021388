-- Where a run fails: the first node to which it comes, in the order of evaluation, that has no value or works with a number beyond its
-- limit. What comes before it is safe and has its values by the meaning of the plan.
use Rattle.std.specs.Prelude.{◌≡◌, ℕ, zero, suc, ◌+◌, ◌⊎◌, IsTrue, true, false, List, Some, None}
use Rattle.scaled_decimal.specs.Decimals.{Decimal, numerator_of}
use Rattle.scaled_decimal.specs.WholeNumbers.{item_at}
use Rattle.pap_tree.specs.Term.{Term, leaf, item, one, two, choice}
use Rattle.pap_tree.specs.Numbering.{nodes}
use Rattle.pap_tree.specs.Names.{main_name}
use Rattle.pap_tree.specs.Statements.{written}
use Rattle.pap_tree.specs.Flowchart.{Body, done, eval, branch, execute, Routine, Flowchart}
use Rattle.pap_types.specs.Checks.{place}
use Rattle.pap_types.specs.Kinds.{kind_of}
use Rattle.pap_types.specs.Limits.{longest_chain}
use Rattle.pap_types.specs.Meaning.{calls_in, start}
use Rattle.pap_types.specs.Operations.{is_zero}
use Rattle.pap_types.specs.Routines.{body_named}
use Rattle.pap_types.specs.Runs.{Calls, after, assigned, IsSafeBody, calls_of}
use Rattle.pap_types.specs.Safety.{IsSafe}
use Rattle.pap_types.specs.Scopes.{Scope, scope_of, table_in}
use Rattle.pap_types.specs.Values.{Env, value, goes_right}
use Rattle.checked_run.specs.declared.cause.FailureCause.{FailureCause}
use Rattle.checked_run.specs.declared.cause.FailureCause.TheVariants.{Index}
use Rattle.checked_run.specs.declared.failure.RunFailure.{RunFailure}
use Rattle.checked_run.specs.declared.failure.RunFailure.TheVariants.{At, Chain}
use Rattle.checked_run.specs.OperationFailures.{OneFails, TwoFails}

-- ---- expressions

-- the evaluation of an expression is safe, and gives a value
pub record EvaluatesTo (scope : Scope) (t : Term) (env : Env) (v : Decimal) : Type 0 where
  pub safe : IsSafe scope t env
  pub is : value scope t env ≡ Some v

module _ (scope : Scope) (env : Env) where
  -- The evaluation of an expression whose nodes are numbered from `at` comes to the node of this number, where it fails for this
  -- cause.
  abbrev pub FailsAt : Term → ℕ → ℕ → FailureCause → Type 0
  FailsAt (leaf l) at n c = ⊥
  FailsAt (item x e) at n c =
      FailsAt e at n c
      ⊎ ((i : Decimal) × EvaluatesTo scope e env i
      × (item_at (table_in scope x) (numerator_of i) ≡ None) × (n ≡ at + nodes e) × (c ≡ Index))
  FailsAt (one op e) at n c =
      FailsAt e at n c
      ⊎ ((a : Decimal) × EvaluatesTo scope e env a
      × OneFails op (kind_of scope (one op e)) a c × (n ≡ at + nodes e))
  FailsAt (two op e f) at n c =
      FailsAt e at n c
      ⊎ ((a : Decimal) × EvaluatesTo scope e env a × IsTrue (goes_right op a)
      × (FailsAt f (at + nodes e) n c
      ⊎ ((b : Decimal) × EvaluatesTo scope f env b
      × TwoFails op (kind_of scope (two op e f)) a b c × (n ≡ at + nodes e + nodes f))))
  FailsAt (choice t e f) at n c =
      FailsAt t at n c
      ⊎ ((v : Decimal) × EvaluatesTo scope t env v
      × (((is_zero v ≡ false) × FailsAt e (at + nodes t) n c)
      ⊎ ((is_zero v ≡ true) × FailsAt f (at + nodes t + nodes e) n c)))

-- ---- statements

-- an expression of the statement of a number fails there
pub record ExpressionFails
    (scope : Scope) (name : List ℕ) (at : ℕ) (t : Term) (env : Env) (x : RunFailure) : Type 0 where
  pub node : ℕ
  pub cause : FailureCause
  pub fails : FailsAt scope env t 0 node cause
  pub is : x ≡ At (place name at node) cause

-- the run of a list of statements is safe, and ends with these variables
pub record RunsTo (scope : Scope) (calls : Calls) (b : Body) (env ends : Env) : Type 0 where
  pub safe : IsSafeBody scope calls b env
  pub is : after scope calls b env ≡ Some ends

-- so is the execution of a method
pub record ExecutesTo (calls : Calls) (m : List ℕ) (env ends : Env) : Type 0 where
  pub safe : calls.IsSafeCall m env
  pub is : calls.after m env ≡ Some ends

-- Given what methods do, where they fail, the name of a method, and a failure.
module _ (scope : Scope) (calls : Calls) (CallFails : List ℕ → Env → RunFailure → Type 0)
    (name : List ℕ) (x : RunFailure) where
  -- a list of statements fails, or what comes behind it
  abbrev pub FailsInOrBehind : (Inside Behind : Env → Type 0) → Body → Env → Type 0
  FailsInOrBehind Inside Behind b env =
      Inside env ⊎ ((ends : Env) × RunsTo scope calls b env ends × Behind ends)

  -- the run of a list of statements, which are numbered from this number, fails there
  abbrev pub BodyFails : ℕ → Body → Env → Type 0
  BodyFails at done env = ⊥
  BodyFails at (eval y e rest) env =
      ExpressionFails scope name at e env x
      ⊎ ((v : Decimal) × EvaluatesTo scope e env v × BodyFails (at + 1) rest (assigned scope y v env))
  BodyFails at (branch t a b rest) env =
      ExpressionFails scope name at t env x
      ⊎ ((v : Decimal) × EvaluatesTo scope t env v
      × (((is_zero v ≡ false)
      × FailsInOrBehind (BodyFails (at + 1) a) (BodyFails (at + 1 + written a + written b) rest) a env)
      ⊎ ((is_zero v ≡ true)
      × FailsInOrBehind (BodyFails (at + 1 + written a) b)
      (BodyFails (at + 1 + written a + written b) rest) b env)))
  BodyFails at (execute m rest) env =
      CallFails m env x
      ⊎ ((ends : Env) × ExecutesTo calls m env ends × BodyFails (at + 1) rest ends)

-- where the execution of a method fails, if a chain of methods has at most so many
unfoldable pub CallsFail : Scope → List Routine → ℕ → List ℕ → Env → RunFailure → Type 0
CallsFail scope ms zero m env x = x ≡ Chain m
CallsFail scope ms (suc n) m env x =
    (b : Body) × (body_named ms m ≡ Some b)
    × BodyFails scope (calls_of scope ms n) (CallsFail scope ms n) m x 0 b env

-- ---- the plan

-- the run of a plan fails there
abbrev pub RunFails : Flowchart → List Decimal → RunFailure → Type 0
RunFails f inputs x =
    BodyFails (scope_of f) (calls_in f) (CallsFail (scope_of f) f.methods longest_chain) main_name x 0 f.main
    (start f inputs)
