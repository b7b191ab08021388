-- A statement and those that follow it: where they lead, what they do, and when they may be run.
use Rattle.std.proofs.Common.{◌≡◌, ℕ, zero, suc, ◌+◌, ◌-◌, ◌<◌, List, [], ◌∷◌, ◌++◌, Option, Some, None, refl, sym, ap, ◌∙◌, subst, arith, append_assoc, append-nil, true≢false}
use Rattle.std.specs.Prelude.{IsSome, not, if◌then◌else◌}
use Rattle.std.specs.Option.{option_and_then, option_map}
use Rattle.std.proofs.lemmas.Option.{option_and_then_some, none-some}
use Rattle.scaled_decimal.specs.Decimals.{Decimal}
use Rattle.pap_tree.specs.declared.plan.Stmt.{Stmt, Eval, If', Execute}
use Rattle.pap_tree.specs.declared.plan.PlanText.{PlanText}
use Rattle.pap_tree.specs.Term.{term_of}
use Rattle.pap_tree.specs.Flowchart.{Body, done, branch, body_of_row, stmt_then, Routine}
use Rattle.pap_tree.specs.Statements.{written}
use Rattle.pap_types.specs.Operations.{is_zero}
use Rattle.pap_types.specs.Routines.{body_named}
use Rattle.pap_types.specs.Runs.{Calls, after, assigned, IsSafeBody, calls_of}
use Rattle.pap_types.specs.Scopes.{Scope}
use Rattle.pap_types.specs.Values.{Env, value}
use Rattle.month_trace.specs.declared.step.TraceStep.{TraceStep}
use Rattle.month_trace.specs.declared.step.TraceStep.TheVariants.{Set, Test, Enter}
use Rattle.month_trace.specs.declared.statements.Spot.{Spot}
use Rattle.run_values.specs.NumberedValues.{value_put}
use Rattle.month_trace.specs.Traces.{Trace, first_then, both_in_order, traced, traces_of}
use Rattle.pap_types.specs.private.ScopeViews.{scope_in}
use Rattle.run_values.specs.private.ValueViews.{values_in, IsSized}
use Rattle.pap_tree.specs.private.TreeViews.{methods_in}
use Rattle.month_trace.specs.private.WalkViews.{calls_by, traces_by, after_in, traced_in, followed, CanRun, Progress, Goes}
use Rattle.pap_tree.proofs.Laws.{written-then}
use Rattle.run_values.proofs.Laws.{typed_here, typed_rest}
use Rattle.month_trace.proofs.OperationLemmas.{some_first, some_step}

-- ---- options

assoc : {A B C : Type 0} (o : Option A) (f : A → Option B) (g : B → Option C)
    → option_and_then (λ a. option_and_then g (f a)) o ≡ option_and_then g (option_and_then f o)
assoc (Some a) f g = refl
assoc None f g = refl

-- a step that changes nothing
stays : {A : Type 0} (o : Option A) → option_and_then (λ a. Some a) o ≡ o
stays (Some a) = refl
stays None = refl

-- ---- traces

-- a statement with the trace of what is inside it, and what follows
inner_then : (s : TraceStep) (inner : Trace) (ends : Option Env) (go : Env → Trace)
    → first_then s (both_in_order inner (option_and_then go ends)) ≡ both_in_order
    (first_then s (both_in_order inner (option_and_then (λ env. Some []) ends)))
    (option_and_then go (option_and_then (λ env. Some env) ends))
inner_then s None ends go = refl
inner_then s (Some xs) None go = refl
inner_then s (Some xs) (Some env) go = by_rest (go env)
  where
    by_rest : (rest : Trace)
        → first_then s (option_map (λ ys. xs ++ ys) rest) ≡ option_map (λ ys. (s ∷ (xs ++ [])) ++ ys) rest
    by_rest None = refl
    by_rest (Some ys) = ap (λ zs. Some (s ∷ (zs ++ ys))) (sym (append-nil xs))

-- steps that were appended, and what follows
pub followed_then : (old now : List TraceStep) (one rest : Trace) → followed old one ≡ Some now
    → followed old (both_in_order one rest) ≡ followed now rest
followed_then old now None rest e = absurd (none-some now e)
followed_then old now (Some xs) None e = refl
followed_then old now (Some xs) (Some ys) e =
    let same : old ++ xs ≡ now = cc in
    ap (λ zs. Some zs) (sym (append_assoc old xs ys) ∙ ap (λ zs. zs ++ ys) same)

-- ---- a statement, and those that follow it

module _ (scope : Scope) (calls : Calls) where
  pub after_then : (s : Stmt) (rest : Body) (env : Env)
      → after scope calls (stmt_then s rest) env ≡ option_and_then (after scope calls rest)
      (after scope calls (stmt_then s done) env)
  after_then (Eval x e) rest env =
      assoc (value scope (term_of e) env) (λ v. Some (assigned scope x v env)) (after scope calls rest)
  after_then (If' t m ys n zs) rest env =
      let lists =
      λ (v : Decimal). if is_zero v then after scope calls (body_of_row zs) env else after scope calls
      (body_of_row ys) env in
      assoc (value scope (term_of t) env) lists (after scope calls rest)
      ∙ ap (option_and_then (after scope calls rest))
      (sym (stays (option_and_then lists (value scope (term_of t) env))) ∙ sym
      (assoc (value scope (term_of t) env) lists (λ env. Some env)))
  after_then (Execute x) rest env = ap (option_and_then (after scope calls rest)) (sym (stays (calls.after x env)))

  pub safe_here : (s : Stmt) (rest : Body) (env : Env) → IsSafeBody scope calls (stmt_then s rest) env
      → IsSafeBody scope calls (stmt_then s done) env
  safe_here (Eval x e) rest env h = (h.0, λ v is. tt)
  safe_here (If' t m ys n zs) rest env h = (h.0, λ v is. ((h.1 v is).0, (h.1 v is).1, λ ends e. tt))
  safe_here (Execute x) rest env h = (h.0, λ ends e. tt)

  unchanged : (o : Option Env) (ends : Env) → option_and_then (λ env. Some env) o ≡ Some ends → o ≡ Some ends
  unchanged o ends e = sym (stays o) ∙ e

  pub safe_rest : (s : Stmt) (rest : Body) (env ends : Env) → IsSafeBody scope calls (stmt_then s rest) env
      → after scope calls (stmt_then s done) env ≡ Some ends → IsSafeBody scope calls rest ends
  safe_rest (Eval x e) rest env ends h leads =
      option_and_then_some (λ v. Some (assigned scope x v env)) (value scope (term_of e) env) ends leads (λ v is same.
      subst (IsSafeBody scope calls rest) (same_env (assigned scope x v env) same) (h.1 v is))
    where
      same_env : (env : Env) → Some env ≡ Some ends → env ≡ ends
      same_env env e = cc
  safe_rest (If' t m ys n zs) rest env ends h leads =
      let lists =
      λ (v : Decimal). if is_zero v then after scope calls (body_of_row zs) env else after scope calls
      (body_of_row ys) env in
      option_and_then_some (λ v. option_and_then (λ env. Some env) (lists v)) (value scope (term_of t) env) ends leads
      (λ v is more.
      (h.1 v is).2 ends (unchanged (lists v) ends more))
  safe_rest (Execute x) rest env ends h leads = h.1 ends (unchanged (calls.after x env) ends leads)

  module _ (inside : List ℕ → Env → Trace) (name : List ℕ) where
    pub traced_then : (s : Stmt) (rest : Body) (at : ℕ) (env : Env)
        → traced scope calls inside name at (stmt_then s rest) env
        ≡ both_in_order (traced scope calls inside name at (stmt_then s done) env)
        (option_and_then (traced scope calls inside name (at + written (stmt_then s done)) rest)
        (after scope calls (stmt_then s done) env))
    traced_then (Eval x e) rest at env = by_value (value scope (term_of e) env)
      where
        by_value : (o : Option Decimal)
            → option_and_then (λ v. first_then (Set name at x (value_put scope x v))
            (traced scope calls inside name (at + 1) rest (assigned scope x v env))) o
            ≡ both_in_order (option_and_then (λ v. first_then (Set name at x (value_put scope x v)) (Some [])) o)
            (option_and_then (traced scope calls inside name (at + 1) rest)
            (option_and_then (λ v. Some (assigned scope x v env)) o))
        by_value None = refl
        by_value (Some v) = refl
    traced_then (If' t m ys n zs) rest at env =
        let a = body_of_row ys in
        let b = body_of_row zs in
        let count : at + 1 + written a + written b ≡ at + (1 + written a + written b + 0) = omega arith in
        by_value a b (value scope (term_of t) env)
        ∙ ap
        (λ k. both_in_order (traced scope calls inside name at (branch (term_of t) a b done) env)
        (option_and_then (traced scope calls inside name k rest) (after scope calls (branch (term_of t) a b done) env)))
        count
      where
        by_value : (a b : Body) (o : Option Decimal)
            → option_and_then (λ v. first_then (Test name at (not (is_zero v)))
            (both_in_order (if is_zero v then traced scope calls inside name (at + 1 + written a) b env else traced
            scope calls inside name (at + 1) a env) (option_and_then
            (traced scope calls inside name (at + 1 + written a + written b) rest)
            (if is_zero v then after scope calls b env else after scope calls a env)))) o
            ≡ both_in_order
            (option_and_then (λ v. first_then (Test name at (not (is_zero v)))
            (both_in_order (if is_zero v then traced scope calls inside name (at + 1 + written a) b env else traced
            scope calls inside name (at + 1) a env) (option_and_then (λ env. Some [])
            (if is_zero v then after scope calls b env else after scope calls a env)))) o)
            (option_and_then (traced scope calls inside name (at + 1 + written a + written b) rest)
            (option_and_then (λ v. option_and_then (λ env. Some env)
            (if is_zero v then after scope calls b env else after scope calls a env)) o))
        by_value a b None = refl
        by_value a b (Some v) =
            inner_then (Test name at (not (is_zero v)))
            (if is_zero v then traced scope calls inside name (at + 1 + written a) b env else traced scope calls
            inside name (at + 1) a env)
            (if is_zero v then after scope calls b env else after scope calls a env)
            (traced scope calls inside name (at + 1 + written a + written b) rest)
    traced_then (Execute x) rest at env =
        inner_then (Enter name at x) (inside x env) (calls.after x env) (traced scope calls inside name (at + 1) rest)

-- ---- methods

module _ (scope : Scope) (ms : List Routine) (m : List ℕ) (env : Env) where
  -- a chain of none has no end
  pub chain_some : (n : ℕ) → IsSome ((calls_of scope ms n).after m env) → 0 < n
  unfolding calls_of
  chain_some zero h = absurd (true≢false (sym h))
  chain_some (suc n) h = omega arith

  -- the method that is executed is there
  pub method_there : (n : ℕ) → IsSome ((calls_of scope ms n).after m env) → IsSome (body_named ms m)
  unfolding calls_of
  method_there zero h = absurd (true≢false (sym h))
  method_there (suc n) h = some_first (λ b. after scope (calls_of scope ms n) b env) (body_named ms m) h

  module _ (b : Body) (is : body_named ms m ≡ Some b) where
    pub after_body : (n : ℕ) → 0 < n → (calls_of scope ms n).after m env ≡ after scope (calls_of scope ms (n - 1)) b env
    unfolding calls_of
    after_body zero l = absurd (omega arith)
    after_body (suc n) l =
        let less : n ≡ suc n - 1 = omega arith in
        ap (option_and_then (λ b. after scope (calls_of scope ms n) b env)) is ∙ ap
        (λ k. after scope (calls_of scope ms k) b env) less

    pub traced_body : (n : ℕ) → 0 < n
        → traces_of scope ms n m env ≡ traced scope (calls_of scope ms (n - 1)) (traces_of scope ms (n - 1)) m 0 b env
    unfolding traces_of
    traced_body zero l = absurd (omega arith)
    traced_body (suc n) l =
        let less : n ≡ suc n - 1 = omega arith in
        ap (option_and_then (λ b. traced scope (calls_of scope ms n) (traces_of scope ms n) m 0 b env)) is
        ∙ ap (λ k. traced scope (calls_of scope ms k) (traces_of scope ms k) m 0 b env) less

    pub safe_body : (n : ℕ) → 0 < n → (calls_of scope ms n).IsSafeCall m env
        → IsSafeBody scope (calls_of scope ms (n - 1)) b env
    unfolding calls_of
    safe_body zero l h = absurd (omega arith)
    safe_body (suc n) l h =
        let less : n ≡ suc n - 1 = omega arith in
        subst (λ k. IsSafeBody scope (calls_of scope ms k) b env) less (h b is)

-- ---- what may be run

module _ (p : PlanText) (spot : Spot) (s : Stmt) (rest : Body) where
  -- a statement, and those behind it
  pub can_here : (vs : List Decimal) → CanRun p spot (stmt_then s rest) vs → CanRun p spot (stmt_then s done) vs
  can_here vs h =
      let env = values_in p vs in
      let calls = calls_by p spot.chain in
      let count = written-then s rest in
      record {
        values = h.values;
        typed = typed_here (scope_in p) (methods_in p) s rest h.typed;
        safe = safe_here (scope_in p) calls s rest env h.safe;
        defined =
            some_first (after (scope_in p) calls rest) (after (scope_in p) calls (stmt_then s done) env)
            (subst (λ o. IsSome o) (after_then (scope_in p) calls s rest env) h.defined);
        room = omega (arith, count, h.room);
      }

  pub can_rest : (old new : List Decimal) (next : ℕ) → CanRun p spot (stmt_then s rest) old → IsSized p new
      → after_in p spot.chain (stmt_then s done) (values_in p old) ≡ Some (values_in p new)
      → next ≡ spot.at + written (stmt_then s done) → CanRun p (record spot { at = next }) rest new
  can_rest old new next h sized ends number =
      let env = values_in p old in
      let calls = calls_by p spot.chain in
      let count = written-then s rest in
      record {
        values = record { well_typed = h.values.well_typed; sized = sized };
        typed = typed_rest (scope_in p) (methods_in p) s rest h.typed;
        safe = safe_rest (scope_in p) calls s rest env (values_in p new) h.safe ends;
        defined =
            some_step (after (scope_in p) calls rest) (after (scope_in p) calls (stmt_then s done) env)
            (values_in p new) ends (subst (λ o. IsSome o) (after_then (scope_in p) calls s rest env) h.defined);
        room = omega (arith, count, number, h.room);
      }

  module _ (old new : Progress)
      (g : Goes p (after_in p spot.chain (stmt_then s done) (values_in p old.values))
      (traced_in p spot (stmt_then s done) (values_in p old.values)) old new) where
    pub ends_on : after_in p spot.chain rest (values_in p new.values)
        ≡ after_in p spot.chain (stmt_then s rest) (values_in p old.values)
    ends_on =
        ap (option_and_then (after (scope_in p) (calls_by p spot.chain) rest)) (sym g.values)
        ∙ sym (after_then (scope_in p) (calls_by p spot.chain) s rest (values_in p old.values))

    pub steps_on : (next : ℕ) → next ≡ spot.at + written (stmt_then s done)
        → followed new.steps (traced_in p (record spot { at = next }) rest (values_in p new.values))
        ≡ followed old.steps (traced_in p spot (stmt_then s rest) (values_in p old.values))
    steps_on next number =
        let env = values_in p old.values in
        let calls = calls_by p spot.chain in
        let go =
        traced (scope_in p) calls (traces_by p spot.chain) spot.method (spot.at + written (stmt_then s done)) rest in
        let here = traced_in p spot (stmt_then s done) env in
        let ends = after (scope_in p) calls (stmt_then s done) env in
        ap (λ k. followed new.steps (traced_in p (record spot { at = k }) rest (values_in p new.values))) number
        ∙ ap (λ o. followed new.steps (option_and_then go o)) (sym g.values)
        ∙ sym (followed_then old.steps new.steps here (option_and_then go ends) g.steps)
        ∙ ap (followed old.steps)
        (sym (traced_then (scope_in p) calls (traces_by p spot.chain) spot.method s rest spot.at env))
