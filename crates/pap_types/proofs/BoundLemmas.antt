-- A run costs at most the bound.
use Rattle.std.proofs.Common.{ℕ, zero, suc, ◌+◌, ◌*◌, ◌≤◌, max, List, Some, None, Option, Bool, true, false, arith}
use Rattle.std.specs.Prelude.{if◌then◌else◌}
use Rattle.std.specs.Option.{option_map_or}
use Rattle.scaled_decimal.specs.Decimals.{Decimal}
use Rattle.pap_tree.specs.Term.{Term, leaf, item, one, two, choice}
use Rattle.pap_tree.specs.Numbering.{nodes}
use Rattle.pap_tree.specs.Flowchart.{Body, done, eval, branch, execute, Routine, Flowchart}
use Rattle.pap_types.specs.Scopes.{Scope, scope_of}
use Rattle.pap_types.specs.Operations.{is_zero}
use Rattle.pap_types.specs.Values.{Env, value, cost, goes_right}
use Rattle.pap_types.specs.Bounds.{term_bound, body_bound, method_bound}
use Rattle.pap_types.specs.Routines.{body_named}
use Rattle.pap_types.specs.Runs.{Calls, after, spent, assigned, calls_of}
use Rattle.pap_types.specs.Limits.{longest_chain}
use Rattle.pap_types.specs.Meaning.{calls_in, start, cost_of, bound_of}

-- what is asked of a value is at most what it is for each value
at_most : {A : Type 0} (g : A → ℕ) (n : ℕ) → ((a : A) → g a ≤ n) → (o : Option A) → option_map_or g o 0 ≤ n
at_most g n h (Some a) = h a
at_most g n h None = omega arith

either : (b : Bool) (x y n : ℕ) → x ≤ n → y ≤ n → (if b then x else y) ≤ n
either true x y n p q = p
either false x y n p q = q

-- ---- expressions

module _ (scope : Scope) (env : Env) where
  pub cost_bounded : (t : Term) → cost scope t env ≤ term_bound t
  cost_bounded (leaf l) = omega arith
  cost_bounded (item x e) = let h = cost_bounded e in omega arith
  cost_bounded (one op e) = let h = cost_bounded e in omega arith
  cost_bounded (two op e f) =
      let left = cost_bounded e in
      let right = cost_bounded f in
      let rest = at_most (λ a. if goes_right op a then cost scope f env else 0) (term_bound f) (λ a. either (goes_right op a) (cost scope f env) 0 (term_bound f) right (omega arith)) (value scope e env) in
      omega arith
  cost_bounded (choice c e f) =
      let test = cost_bounded c in
      let first = cost_bounded e in
      let second = cost_bounded f in
      let most = max (term_bound e + 1) (term_bound f) in
      let rest = at_most (λ t. if is_zero t then cost scope f env else cost scope e env + 1) most (λ t. either (is_zero t) (cost scope f env) (cost scope e env + 1) most (omega arith) (omega arith)) (value scope c env) in
      omega arith

pub bounded_by_nodes : (t : Term) → term_bound t ≤ 2 * nodes t
bounded_by_nodes (leaf l) = omega arith
bounded_by_nodes (item x e) = let h = bounded_by_nodes e in omega arith
bounded_by_nodes (one op e) = let h = bounded_by_nodes e in omega arith
bounded_by_nodes (two op e f) = let a = bounded_by_nodes e in let b = bounded_by_nodes f in omega arith
bounded_by_nodes (choice c e f) =
    let a = bounded_by_nodes c in
    let b = bounded_by_nodes e in
    let d = bounded_by_nodes f in
    omega arith

-- ---- statements

module _ (scope : Scope) (calls : Calls) (call : List ℕ → ℕ) (bounds : (m : List ℕ) (env : Env) → calls.spent m env ≤ call m) where
  -- what follows a statement, where that leads somewhere
  then_bounded : (rest : Body) → ((env : Env) → spent scope calls rest env ≤ body_bound call rest) → (o : Option Env) → option_map_or (spent scope calls rest) o 0 ≤ body_bound call rest
  then_bounded rest h o = at_most (spent scope calls rest) (body_bound call rest) h o

  -- a branch, one step more for a THEN
  branch_bounded : (a b rest : Body) (env : Env) → spent scope calls a env ≤ body_bound call a → spent scope calls b env ≤ body_bound call b → ((env : Env) → spent scope calls rest env ≤ body_bound call rest) → (v : Decimal) → (if is_zero v then spent scope calls b env else spent scope calls a env + 1) + option_map_or (spent scope calls rest) (if is_zero v then after scope calls b env else after scope calls a env) 0 ≤ max (body_bound call a + 1) (body_bound call b) + body_bound call rest
  branch_bounded a b rest env p q r v =
      let most = max (body_bound call a + 1) (body_bound call b) in
      let taken = either (is_zero v) (spent scope calls b env) (spent scope calls a env + 1) most (omega arith) (omega arith) in
      let more = then_bounded rest r (if is_zero v then after scope calls b env else after scope calls a env) in
      omega arith

  pub spent_bounded : (b : Body) (env : Env) → spent scope calls b env ≤ body_bound call b
  spent_bounded done env = omega arith
  spent_bounded (eval x e rest) env =
      let own = cost_bounded scope env e in
      let more = at_most (λ v. spent scope calls rest (assigned scope x v env)) (body_bound call rest) (λ v. spent_bounded rest (assigned scope x v env)) (value scope e env) in
      omega arith
  spent_bounded (branch t a b rest) env =
      let own = cost_bounded scope env t in
      let more = at_most _ (max (body_bound call a + 1) (body_bound call b) + body_bound call rest) (branch_bounded a b rest env (spent_bounded a env) (spent_bounded b env) (λ env. spent_bounded rest env)) (value scope t env) in
      omega arith
  spent_bounded (execute m rest) env =
      let own = bounds m env in
      let more = then_bounded rest (λ env. spent_bounded rest env) (calls.after m env) in
      omega arith

-- ---- methods, and the run

same_method : (scope : Scope) (calls : Calls) (call : List ℕ → ℕ) (env : Env) → ((b : Body) → spent scope calls b env ≤ body_bound call b) → (found : Option Body) → option_map_or (λ b. spent scope calls b env) found 0 ≤ option_map_or (body_bound call) found 0
same_method scope calls call env h (Some b) = h b
same_method scope calls call env h None = omega arith

pub method_bounded : (scope : Scope) (ms : List Routine) (n : ℕ) (m : List ℕ) (env : Env) → (calls_of scope ms n).spent m env ≤ method_bound ms n m
unfolding calls_of method_bound
method_bounded scope ms zero m env = omega arith
method_bounded scope ms (suc n) m env =
    same_method scope (calls_of scope ms n) (method_bound ms n) env (λ b. spent_bounded scope (calls_of scope ms n) (method_bound ms n) (method_bounded scope ms n) b env) (body_named ms m)

pub cost_at_most : (f : Flowchart) (inputs : List Decimal) → cost_of f inputs ≤ bound_of f
cost_at_most f inputs =
    let h = spent_bounded (scope_of f) (calls_in f) (method_bound f.methods longest_chain) (method_bounded (scope_of f) f.methods longest_chain) f.main (start f inputs) in
    omega arith
