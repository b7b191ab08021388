-- A statement and those that follow it: where they lead, and where they fail.
use Rattle.std.proofs.Common.{◌≡◌, ℕ, zero, suc, ◌+◌, ◌-◌, ◌<◌, List, Bool, true, false, Option, Some, None, refl, sym, ap, ◌∙◌, subst, arith, true≢false, inl, inr}
use Rattle.std.specs.Prelude.{if◌then◌else◌}
use Rattle.std.specs.Option.{option_and_then}
use Rattle.std.proofs.lemmas.Bool.{cases_Bool}
use Rattle.std.proofs.lemmas.Option.{option_and_then_some}
use Rattle.scaled_decimal.specs.Decimals.{Decimal}
use Rattle.pap_tree.specs.declared.plan.Stmt.{Stmt, Eval, If', Execute}
use Rattle.pap_tree.specs.declared.plan.PlanText.{PlanText}
use Rattle.pap_tree.specs.Term.{Term, term_of}
use Rattle.pap_tree.specs.Flowchart.{Body, done, eval, branch, execute, body_of_row, stmt_then, Routine}
use Rattle.pap_tree.specs.Statements.{written}
use Rattle.pap_tree.specs.private.TreeViews.{methods_in}
use Rattle.pap_types.specs.Counts.{AreSmallTerms}
use Rattle.pap_types.specs.Operations.{is_zero}
use Rattle.pap_types.specs.Routines.{body_named}
use Rattle.pap_types.specs.Runs.{Calls, after, assigned, IsSafeBody, calls_of}
use Rattle.pap_types.specs.Scopes.{Scope}
use Rattle.pap_types.specs.Values.{Env, value}
use Rattle.pap_types.specs.private.ScopeViews.{scope_in}
use Rattle.checked_run.specs.declared.failure.RunFailure.{RunFailure}
use Rattle.checked_run.specs.declared.failure.RunFailure.TheVariants.{Chain}
use Rattle.checked_run.specs.declared.statements.Spot.{Spot}
use Rattle.checked_run.specs.RunFailures.{EvaluatesTo, RunsTo, ExecutesTo, BodyFails, CallsFail}
use Rattle.run_values.specs.private.ValueViews.{values_in, IsSized}
use Rattle.checked_run.specs.private.WalkViews.{calls_by, RunsFromTo, FailsFrom, CanRun}
use Rattle.pap_tree.proofs.Laws.{written-then}
use Rattle.run_values.proofs.Laws.{typed_here, typed_rest}
use Rattle.checked_run.proofs.ExpressionLemmas.{same_value}

-- ---- bools and options

pub chosen_if : {A : Type 0} (s : Bool) (x y : A) → s ≡ true → (if s then x else y) ≡ x
chosen_if true x y g = refl
chosen_if false x y g = absurd (true≢false (sym g))

pub chosen_else : {A : Type 0} (s : Bool) (x y : A) → s ≡ false → (if s then x else y) ≡ y
chosen_else true x y g = absurd (true≢false g)
chosen_else false x y g = refl

both_ways : (t : Bool) → t ≡ false → t ≡ true → ⊥
both_ways t f h = true≢false (sym h ∙ f)

same_env : (a b : Env) → Some a ≡ Some b → a ≡ b
same_env a b e = cc

-- ---- single statements

module _ (scope : Scope) (calls : Calls) where
  pub same_ends : (b : Body) (env x y : Env) → after scope calls b env ≡ Some x → after scope calls b env ≡ Some y → x ≡ y
  same_ends b env x y e f = same_env x y (sym e ∙ f)

  pub eval_then : (y : List ℕ) (e : Term) (rest : Body) (env ends : Env) (v : Decimal) → EvaluatesTo scope e env v
      → RunsTo scope calls rest (assigned scope y v env) ends → RunsTo scope calls (eval y e rest) env ends
  eval_then y e rest env ends v h r = record {
    safe = (
      h.safe,
      λ w we. subst (λ w. IsSafeBody scope calls rest (assigned scope y w env))
          (same_value scope e env v w h we) r.safe,
    );
    is = ap (option_and_then (λ v. after scope calls rest (assigned scope y v env))) h.is ∙ r.is;
  }

  pub execute_then : (m : List ℕ) (rest : Body) (env middle ends : Env) → ExecutesTo calls m env middle
      → RunsTo scope calls rest middle ends → RunsTo scope calls (execute m rest) env ends
  execute_then m rest env middle ends h r = record {
    safe =
        (h.safe, λ other is. subst (IsSafeBody scope calls rest) (same_env middle other (sym h.is ∙ is)) r.safe);
    is = ap (option_and_then (after scope calls rest)) h.is ∙ r.is;
  }

  module _ (t : Term) (a b rest : Body) (env middle ends : Env) (v : Decimal) (h : EvaluatesTo scope t env v)
      (r : RunsTo scope calls rest middle ends) where
    -- where the lists lead
    lists : Decimal → Option Env
    lists v = if is_zero v then after scope calls b env else after scope calls a env

    rest_safe : lists v ≡ Some middle → (w : Decimal) → value scope t env ≡ Some w → (other : Env)
        → lists w ≡ Some other → IsSafeBody scope calls rest other
    rest_safe is w we other e =
        let same : lists v ≡ Some other = ap lists (same_value scope t env v w h we) ∙ e in
        subst (IsSafeBody scope calls rest) (same_env middle other (sym is ∙ same)) r.safe

    leads : lists v ≡ Some middle
        → option_and_then (λ v. option_and_then (after scope calls rest) (lists v)) (value scope t env) ≡ Some ends
    leads is =
        ap (option_and_then (λ v. option_and_then (after scope calls rest) (lists v))) h.is
        ∙ ap (option_and_then (after scope calls rest)) is
        ∙ r.is

    pub yes_then : is_zero v ≡ false → RunsTo scope calls a env middle → RunsTo scope calls (branch t a b rest) env ends
    unfolding lists
    yes_then z g =
        let is : lists v ≡ Some middle =
        chosen_else (is_zero v) (after scope calls b env) (after scope calls a env) z ∙ g.is in
        record {
          safe = (
            h.safe,
            λ w we. (
              (λ was. absurd (both_ways (is_zero w) (ap is_zero (sym (same_value scope t env v w h we)) ∙ z) was)),
              (λ other. g.safe),
              rest_safe is w we,
            ),
          );
          is = leads is;
        }

    pub no_then : is_zero v ≡ true → RunsTo scope calls b env middle → RunsTo scope calls (branch t a b rest) env ends
    unfolding lists
    no_then z g =
        let is : lists v ≡ Some middle =
        chosen_if (is_zero v) (after scope calls b env) (after scope calls a env) z ∙ g.is in
        record {
          safe = (
            h.safe,
            λ w we. (
              (λ was. g.safe),
              (λ other. absurd (both_ways (is_zero w) other (ap is_zero (sym (same_value scope t env v w h we)) ∙ z))),
              rest_safe is w we,
            ),
          );
          is = leads is;
        }

  pub nothing_runs : (env : Env) → RunsTo scope calls done env env
  nothing_runs env = record { safe = tt; is = refl }

-- ---- a statement, and those that follow it

-- a step that changes nothing
stays : {A : Type 0} (o : Option A) → option_and_then (λ a. Some a) o ≡ o
stays (Some a) = refl
stays None = refl

module _ (scope : Scope) (calls : Calls) where
  branch_runs : (t : Term) (a b rest : Body) (env middle ends : Env) → RunsTo scope calls (branch t a b done) env middle
      → RunsTo scope calls rest middle ends → RunsTo scope calls (branch t a b rest) env ends
  branch_runs t a b rest env middle ends h r =
      let lists = λ (v : Decimal). if is_zero v then after scope calls b env else after scope calls a env in
      option_and_then_some (λ v. option_and_then (λ env. Some env) (lists v)) (value scope t env) middle h.is
      (λ v is more.
      (let g : EvaluatesTo scope t env v = record { safe = h.safe.0; is = is } in
      let inner : lists v ≡ Some middle = sym (stays (lists v)) ∙ more in
      elim (cases_Bool (is_zero v)) [
        | inl z ↦ no_then scope calls t a b rest env middle ends v g r z (record {
          safe = (h.safe.1 v is).0 z;
          is = sym (chosen_if (is_zero v) (after scope calls b env) (after scope calls a env) z) ∙ inner;
        })
        | inr z ↦ yes_then scope calls t a b rest env middle ends v g r z (record {
          safe = (h.safe.1 v is).1 z;
          is = sym (chosen_else (is_zero v) (after scope calls b env) (after scope calls a env) z) ∙ inner;
        })
      ]))

  pub run_then : (s : Stmt) (rest : Body) (env middle ends : Env) → RunsTo scope calls (stmt_then s done) env middle
      → RunsTo scope calls rest middle ends → RunsTo scope calls (stmt_then s rest) env ends
  run_then (Eval y e) rest env middle ends h r =
      option_and_then_some (λ v. Some (assigned scope y v env)) (value scope (term_of e) env) middle h.is (λ v is same.
      eval_then scope calls y (term_of e) rest env ends v (record { safe = h.safe.0; is = is })
      (subst (λ m. RunsTo scope calls rest m ends) (sym (same_env (assigned scope y v env) middle same)) r))
  run_then (If' t m ys n zs) rest env middle ends h r =
      branch_runs (term_of t) (body_of_row ys) (body_of_row zs) rest env middle ends h r
  run_then (Execute x) rest env middle ends h r =
      execute_then scope calls x rest env middle ends
      (record { safe = h.safe.0; is = sym (stays (calls.after x env)) ∙ h.is }) r

  module _ (CallFails : List ℕ → Env → RunFailure → Type 0) (name : List ℕ) (x : RunFailure) where
    -- where a statement fails, those fail that begin with it
    pub fails_here : (s : Stmt) (rest : Body) (at : ℕ) (env : Env)
        → BodyFails scope calls CallFails name x at (stmt_then s done) env
        → BodyFails scope calls CallFails name x at (stmt_then s rest) env
    fails_here (Eval y e) rest at env h = elim h [
      | inl first ↦ inl first
      | inr more ↦ absurd more.2
    ]
    fails_here (If' t m ys n zs) rest at env h = elim h [
      | inl first ↦ inl first
      | inr more ↦ inr (
        more.0,
        more.1,
        (elim more.2 [
          | inl held ↦ inl (held.0, (elim held.1 [ inl inside ↦ inl inside | inr behind ↦ absurd behind.2 ]))
          | inr not_held ↦ inr (not_held.0, (elim not_held.1 [ inl inside ↦ inl inside | inr behind ↦ absurd behind.2 ]))
        ]),
      )
    ]
    fails_here (Execute m) rest at env h = elim h [
      | inl first ↦ inl first
      | inr more ↦ absurd more.2
    ]

    -- the rest of the statements, wherever they are numbered from
    Behind : Body → Env → ℕ → Type 0
    Behind rest env at = BodyFails scope calls CallFails name x at rest env

    branch_fails : (t : Term) (a b rest : Body) (at : ℕ) (env middle : Env)
        → RunsTo scope calls (branch t a b done) env middle
        → BodyFails scope calls CallFails name x (at + 1 + written a + written b) rest middle
        → BodyFails scope calls CallFails name x at (branch t a b rest) env
    branch_fails t a b rest at env middle h f =
        let lists = λ (v : Decimal). if is_zero v then after scope calls b env else after scope calls a env in
        option_and_then_some (λ v. option_and_then (λ env. Some env) (lists v)) (value scope t env) middle h.is
        (λ v is more.
        (let g : EvaluatesTo scope t env v = record { safe = h.safe.0; is = is } in
        let inner : lists v ≡ Some middle = sym (stays (lists v)) ∙ more in
        elim (cases_Bool (is_zero v)) [
          | inl z ↦ (let ran : RunsTo scope calls b env middle = record {
            safe = (h.safe.1 v is).0 z;
            is = sym (chosen_if (is_zero v) (after scope calls b env) (after scope calls a env) z) ∙ inner;
          } in inr (v, g, inr (z, inr (middle, ran, f))))
          | inr z ↦ (let ran : RunsTo scope calls a env middle = record {
            safe = (h.safe.1 v is).1 z;
            is = sym (chosen_else (is_zero v) (after scope calls b env) (after scope calls a env) z) ∙ inner;
          } in inr (v, g, inl (z, inr (middle, ran, f))))
        ]))

    -- so do those behind which others fail
    pub fails_behind : (s : Stmt) (rest : Body) (at : ℕ) (env middle : Env)
        → RunsTo scope calls (stmt_then s done) env middle
        → BodyFails scope calls CallFails name x (at + written (stmt_then s done)) rest middle
        → BodyFails scope calls CallFails name x at (stmt_then s rest) env
    unfolding Behind
    fails_behind (Eval y e) rest at env middle h f =
        let one : at + (1 + 0) ≡ at + 1 = omega arith in
        option_and_then_some (λ v. Some (assigned scope y v env)) (value scope (term_of e) env) middle h.is
        (λ v is same.
        inr (
          v,
          (record { safe = h.safe.0; is = is }),
          subst (λ m. Behind rest m (at + 1)) (sym (same_env (assigned scope y v env) middle same))
              (subst (Behind rest middle) one f),
        ))
    fails_behind (If' t m ys n zs) rest at env middle h f =
        let a = body_of_row ys in
        let b = body_of_row zs in
        let count : at + (1 + written a + written b + 0) ≡ at + 1 + written a + written b = omega arith in
        branch_fails (term_of t) a b rest at env middle h (subst (Behind rest middle) count f)
    fails_behind (Execute m) rest at env middle h f =
        let one : at + (1 + 0) ≡ at + 1 = omega arith in
        inr (
          middle,
          (record { safe = h.safe.0; is = sym (stays (calls.after m env)) ∙ h.is }),
          subst (Behind rest middle) one f,
        )

-- ---- methods

module _ (scope : Scope) (ms : List Routine) (m : List ℕ) (env : Env) (b : Body) (is : body_named ms m ≡ Some b) where
  same_body : (c : Body) → body_named ms m ≡ Some c → b ≡ c
  same_body c e = let same : Some b ≡ Some c = sym is ∙ e in cc

  pub executes : (n : ℕ) (ends : Env) → 0 < n → RunsTo scope (calls_of scope ms (n - 1)) b env ends
      → ExecutesTo (calls_of scope ms n) m env ends
  unfolding calls_of
  executes zero ends l h = absurd (omega arith)
  executes (suc n) ends l h =
      let less : suc n - 1 ≡ n = omega arith in
      let run : RunsTo scope (calls_of scope ms n) b env ends =
      subst (λ k. RunsTo scope (calls_of scope ms k) b env ends) less h in
      record {
        safe = λ c e. subst (λ c. IsSafeBody scope (calls_of scope ms n) c env) (same_body c e) run.safe;
        is = ap (option_and_then (λ b. after scope (calls_of scope ms n) b env)) is ∙ run.is;
      }

  pub call_fails : (n : ℕ) (x : RunFailure) → 0 < n
      → BodyFails scope (calls_of scope ms (n - 1)) (CallsFail scope ms (n - 1)) m x 0 b env
      → CallsFail scope ms n m env x
  unfolding CallsFail
  call_fails zero x l h = absurd (omega arith)
  call_fails (suc n) x l h =
      let less : suc n - 1 ≡ n = omega arith in
      (b, is, subst (λ k. BodyFails scope (calls_of scope ms k) (CallsFail scope ms k) m x 0 b env) less h)

pub chain_fails : (scope : Scope) (ms : List Routine) (m : List ℕ) (env : Env) (n : ℕ) → n ≡ 0
    → CallsFail scope ms n m env (Chain m)
unfolding CallsFail
chain_fails scope ms m env zero e = refl
chain_fails scope ms m env (suc n) e = absurd (omega arith)

-- ---- what may be run

small_here : (s : Stmt) (rest : Body) → AreSmallTerms (stmt_then s rest) → AreSmallTerms (stmt_then s done)
small_here (Eval x e) rest h = (h.0, tt)
small_here (If' t m ys n zs) rest h = (h.0, h.1, h.2, tt)
small_here (Execute x) rest h = tt

small_rest : (s : Stmt) (rest : Body) → AreSmallTerms (stmt_then s rest) → AreSmallTerms rest
small_rest (Eval x e) rest h = h.1
small_rest (If' t m ys n zs) rest h = h.3
small_rest (Execute x) rest h = h

-- What comes of the rest of some statements comes of all of them: where they lead, and where they fail.
pub record ComesOf
    (p : PlanText) (spot : Spot) (whole : Body) (old : List Decimal) (at : ℕ) (rest : Body) (now : List Decimal) : Type 0 where
  pub runs : (ends : Env) → RunsTo (scope_in p) (calls_by p spot.chain) rest (values_in p now) ends
      → RunsTo (scope_in p) (calls_by p spot.chain) whole (values_in p old) ends
  pub fails : (x : RunFailure) → FailsFrom p (record spot { at = at }) rest now x → FailsFrom p spot whole old x

pub comes_all : (p : PlanText) (spot : Spot) (b : Body) (old : List Decimal) → ComesOf p spot b old spot.at b old
comes_all p spot b old = record { runs = λ ends h. h; fails = λ x h. h }

module _ (p : PlanText) (spot : Spot) (s : Stmt) (rest : Body) where
  -- a statement, and those behind it
  pub can_here : (vs : List Decimal) → CanRun p spot (stmt_then s rest) vs → CanRun p spot (stmt_then s done) vs
  can_here vs h =
      let count = written-then s rest in
      record {
        values = h.values;
        typed = typed_here (scope_in p) (methods_in p) s rest h.typed;
        small = small_here s rest h.small;
        room = omega (arith, count, h.room);
      }

  pub can_rest : (old new : List Decimal) (next : ℕ) → CanRun p spot (stmt_then s rest) old → IsSized p new
      → next ≡ spot.at + written (stmt_then s done) → CanRun p (record spot { at = next }) rest new
  can_rest old new next h sized number =
      let count = written-then s rest in
      record {
        values = record { well_typed = h.values.well_typed; sized = sized };
        typed = typed_rest (scope_in p) (methods_in p) s rest h.typed;
        small = small_rest s rest h.small;
        room = omega (arith, count, number, h.room);
      }

  pub comes_on : (first : ℕ) (whole : Body) (old now new : List Decimal) (next : ℕ)
      → ComesOf p (record spot { at = first }) whole old spot.at (stmt_then s rest) now
      → RunsFromTo p spot.chain (stmt_then s done) now new → next ≡ spot.at + written (stmt_then s done)
      → ComesOf p (record spot { at = first }) whole old next rest new
  comes_on first whole old now new next c h number =
      let scope = scope_in p in
      let calls = calls_by p spot.chain in
      let CallFails = CallsFail scope (methods_in p) spot.chain in
      let env = values_in p now in
      record {
        runs = λ ends r. c.runs ends (run_then scope calls s rest env (values_in p new) ends h r);
        fails = λ x f. c.fails x (fails_behind scope calls CallFails spot.method x s rest spot.at env (values_in p new) h
            (subst (λ k. BodyFails scope calls CallFails spot.method x k rest (values_in p new)) number f));
      }

  pub fails_on : (first : ℕ) (whole : Body) (old now : List Decimal) (x : RunFailure)
      → ComesOf p (record spot { at = first }) whole old spot.at (stmt_then s rest) now
      → FailsFrom p spot (stmt_then s done) now x → FailsFrom p (record spot { at = first }) whole old x
  fails_on first whole old now x c f =
      c.fails x (fails_here (scope_in p) (calls_by p spot.chain) (CallsFail (scope_in p) (methods_in p) spot.chain)
      spot.method x s rest spot.at (values_in p now) f)
