-- The code of a list of statements does what it means, in exactly its cost.
use Rattle.std.proofs.Common.{◌≡◌, ℕ, ◌+◌, ◌≤◌, List, [], ◌∷◌, ◌++◌, length, Bool, true, false, Some, if◌then◌else◌, refl, sym, ap, ◌∙◌, subst, arith, inl, inr}
use Rattle.std.specs.Prelude.{slice_get, slice_set}
use Rattle.std.specs.List.{All}
use Rattle.std.specs.Option.{option_and_then}
use Rattle.scaled_decimal.specs.Decimals.{Decimal, decimal, scale_of}
use Rattle.scaled_decimal.specs.WholeNumbers.{truth}
use Rattle.pap_tree.specs.declared.declaration.Kind.{Kind as DeclaredKind}
use Rattle.pap_tree.specs.declared.declaration.Kind.TheVariants as declares
use Rattle.pap_tree.specs.Term.{whole, long, point, text, known, named, Term, leaf, item, one, two, choice}
use Rattle.pap_tree.specs.Flowchart.{Body, done, eval, branch, execute, Routine}
use Rattle.pap_tree.specs.Declarations.{Declaration}
use Rattle.pap_types.specs.Scopes.{Scope, kept_as, at_factor_scale, names_of}
use Rattle.pap_types.specs.Kinds.{kind_of, name_kind, is_whole, is_truth, declared_kind, suits, is_factor_literal}
use Rattle.pap_types.specs.Operations.{is_zero}
use Rattle.pap_types.specs.Values.{Env, put_value, value, cost}
use Rattle.pap_types.specs.Safety.{IsSafe}
use Rattle.pap_types.specs.Runs.{Calls, assigned, after, spent, IsSafeBody}
use Rattle.pap_machine.specs.declared.code.Instr.{Instr}
use Rattle.pap_machine.specs.declared.code.Instr.TheVariants as i
use Rattle.pap_machine.specs.Code.{Program}
use Rattle.pap_machine.specs.Machine.{MachineState, machine_state, gone, Leads}
use Rattle.pap_machine.proofs.Laws.{leads_none, leads_one, leads_on, puts, stores, branches, calls_on}
use Rattle.pap_compiler.specs.Heights.{term_height, body_height}
use Rattle.pap_compiler.specs.Depths.{body_depth}
use Rattle.pap_compiler.specs.CodeDecisions.{term_length, body_length, term_code, assigned_code, body_code, slot}
use Rattle.pap_compiler.proofs.CodeLemmas.{HasAt, has_front, has_back, length_term, length_assigned, length_body}
use Rattle.pap_types.specs.Typing.{IsTypedTerm, TargetSuits, IsTypedBody, HasItsType, AreDistinct}
use Rattle.pap_compiler.proofs.NameLemmas.{AreHeld, looked, values_of, number_is}
use Rattle.pap_compiler.proofs.KindLemmas.{and_then_some, some_is, int_whole, truth_of, whole_of}
use Rattle.pap_compiler.proofs.TermRuns.{tables_of, IsReady, term_runs}

-- ---- what statements cost

module _ (scope : Scope) (calls : Calls) (env ends : Env) (rest : Body) where
  spent_eval : (x : List ℕ) (e : Term) (v : Decimal) → value scope e env ≡ Some v → cost scope e env + 1 + spent scope calls rest (assigned scope x v env) ≡ spent scope calls (eval x e rest) env
  spent_eval x e v is = rw is refl

  spent_execute : (m : List ℕ) → calls.after m env ≡ Some ends → 1 + (calls.spent m env + 1) + spent scope calls rest ends ≡ spent scope calls (execute m rest) env
  spent_execute m is = rw is (omega arith)

  spent_yes : (t : Term) (a b : Body) → value scope t env ≡ Some (truth true) → after scope calls a env ≡ Some ends → cost scope t env + 1 + spent scope calls a env + 1 + spent scope calls rest ends ≡ spent scope calls (branch t a b rest) env
  spent_yes t a b v is = rw (v, is) (omega arith)

  spent_no : (t : Term) (a b : Body) → value scope t env ≡ Some (truth false) → after scope calls b env ≡ Some ends → cost scope t env + 1 + spent scope calls b env + spent scope calls rest ends ≡ spent scope calls (branch t a b rest) env
  spent_no t a b v is = rw (v, is) (omega arith)

-- what holds of the code and the plan in every environment
pub record IsSet (scope : Scope) (p : Program) : Type 0 where
  pub tables : p.tables ≡ tables_of scope
  pub types : All HasItsType scope.constants
  pub distinct : AreDistinct (names_of (scope.variables ++ scope.constants))

module _ (scope : Scope) (p : Program) (ready : IsSet scope p) where
  abbrev pub ready_in : (env : Env) → AreHeld scope.variables env → IsReady scope p env
  ready_in env held = record { tables = ready.tables; held = held; types = ready.types; distinct = ready.distinct }

  -- between two statements
  abbrev pub between : ℕ → Env → List ℕ → MachineState
  between at env cs = machine_state at [] (values_of env) cs

  as_cost : (m n : ℕ) (s t : MachineState) → m ≡ n → Leads p m s t → Leads p n s t
  as_cost m n s t e f = subst (λ k. Leads p k s t) e f

  as_place : (n : ℕ) (s : MachineState) (at to : ℕ) (stack slots : List Decimal) (cs : List ℕ) → at ≡ to → Leads p n s (machine_state at stack slots cs) → Leads p n s (machine_state to stack slots cs)
  as_place n s at to stack slots cs e f = subst (λ k. Leads p n s (machine_state k stack slots cs)) e f

  -- ---- assignments

  -- the code of the expression leaves what the target keeps
  abbrev Leaves : DeclaredKind → Term → ℕ → Env → List ℕ → Type 0
  Leaves k e at env cs =
      (v : Decimal) → term_height e ≤ p.height → IsSafe scope e env → value scope e env ≡ Some v → HasAt p.instrs at (assigned_code (declared_kind k) e (term_code scope at e)) →
      Leads p (cost scope e env) (between at env cs) (machine_state (at + term_length e) (kept_as k v ∷ []) (values_of env) cs)

  literal : (at : ℕ) (env : Env) (cs : List ℕ) (v d : Decimal) → v ≡ d → 1 ≤ p.height → slice_get p.instrs at ≡ Some (i.Lit v) → Leads p 1 (between at env cs) (machine_state (at + 1) (d ∷ []) (values_of env) cs)
  literal at env cs v d same room has =
      leads_one p (between at env cs) (machine_state (at + 1) (d ∷ []) (values_of env) cs) (i.Lit v) has
      (puts at (values_of env) cs p.height (λ e. e ≡ v) d [] (omega (arith, room)) (sym same))

  general : (e : Term) (at : ℕ) (env : Env) (cs : List ℕ) → AreHeld scope.variables env → IsTypedTerm scope e → (v : Decimal) → term_height e ≤ p.height → IsSafe scope e env → value scope e env ≡ Some v → HasAt p.instrs at (term_code scope at e) → Leads p (cost scope e env) (between at env cs) (machine_state (at + term_length e) (v ∷ []) (values_of env) cs)
  general e at env cs held typed v room safe is has = term_runs scope p env cs (ready_in env held) e at typed has [] v (omega (arith, room)) safe is

  factor_leaves : (e : Term) (at : ℕ) (env : Env) (cs : List ℕ) → is_factor_literal e ≡ true → Leaves declares.Factor e at env cs
  factor_leaves (leaf (whole n)) at env cs few v room safe is has =
      literal at env cs (at_factor_scale (decimal n 0)) (at_factor_scale v) (ap at_factor_scale (some_is (decimal n 0) v is)) room has.0
  factor_leaves (leaf (point d)) at env cs few v room safe is has =
      let has' : HasAt p.instrs at (i.Lit (at_factor_scale d) ∷ []) = subst (λ t. HasAt p.instrs at (if t then i.Lit (at_factor_scale d) ∷ [] else term_code scope at (leaf (point d)))) few has in
      literal at env cs (at_factor_scale d) (at_factor_scale v) (ap at_factor_scale (some_is d v is)) room has'.0
  factor_leaves (leaf (long n)) at env cs few v room safe is has = absurd (cc)
  factor_leaves (leaf (text n)) at env cs few v room safe is has = absurd (cc)
  factor_leaves (leaf (known n)) at env cs few v room safe is has = absurd (cc)
  factor_leaves (leaf (named n)) at env cs few v room safe is has = absurd (cc)
  factor_leaves (item x t) at env cs few v room safe is has = absurd (cc)
  factor_leaves (one op t) at env cs few v room safe is has = absurd (cc)
  factor_leaves (two op t u) at env cs few v room safe is has = absurd (cc)
  factor_leaves (choice c t u) at env cs few v room safe is has = absurd (cc)

  assigned_leaves : (k : DeclaredKind) (e : Term) (at : ℕ) (env : Env) (cs : List ℕ) → AreHeld scope.variables env → IsTypedTerm scope e → suits k e (kind_of scope e) ≡ true → Leaves k e at env cs
  assigned_leaves declares.Factor e at env cs held typed fits = factor_leaves e at env cs fits
  assigned_leaves declares.Int e at env cs held typed fits = general e at env cs held typed
  assigned_leaves declares.Long e at env cs held typed fits = general e at env cs held typed
  assigned_leaves declares.Big e at env cs held typed fits = general e at env cs held typed
  assigned_leaves declares.Table e at env cs held typed fits = absurd (cc)

  -- a target that holds whole numbers gets one
  kept_whole : (k : DeclaredKind) (e : Term) (env : Env) (v : Decimal) → AreHeld scope.variables env → IsTypedTerm scope e → suits k e (kind_of scope e) ≡ true → value scope e env ≡ Some v → is_whole (declared_kind k) ≡ true → scale_of (kept_as k v) ≡ 0
  kept_whole declares.Int e env v held typed fits is w = whole_of scope env held ready.types e v typed (int_whole (kind_of scope e) fits) is
  kept_whole declares.Long e env v held typed fits is w = whole_of scope env held ready.types e v typed fits is
  kept_whole declares.Big e env v held typed fits is w = absurd (cc)
  kept_whole declares.Factor e env v held typed fits is w = absurd (cc)
  kept_whole declares.Table e env v held typed fits is w = absurd (cc)

  -- after an assignment
  record IsAssigned (x : List ℕ) (e : Term) (v : Decimal) (at : ℕ) (env : Env) (cs : List ℕ) : Type 0 where
    run : Leads p (cost scope e env + 1) (between at env cs) (between (at + term_length e + 1) (assigned scope x v env) cs)
    held : AreHeld scope.variables (assigned scope x v env)

  assigns : (x : List ℕ) (e : Term) (v : Decimal) (at : ℕ) (env : Env) (cs : List ℕ) (rest : List Instr) → AreHeld scope.variables env → IsTypedTerm scope e → TargetSuits scope x e → term_height e ≤ p.height → IsSafe scope e env → value scope e env ≡ Some v →
      HasAt p.instrs at (assigned_code (name_kind scope x) e (term_code scope at e) ++ i.Store (slot scope x) ∷ rest) → IsAssigned x e v at env cs
  assigns x e v at env cs rest held typed suited room safe is has = elim (looked scope.variables env x held) [
    | inl m ↦ absurd (let none = m.declared in let some = suited.declared in cc)
    | inr f ↦ (let k = f.declaration.kind in
        let kind : name_kind scope x ≡ declared_kind k = rw f.declared refl in
        let fits : suits k e (kind_of scope e) ≡ true = subst (λ (d : Declaration). suits d.kind e (kind_of scope e) ≡ true) (some_is suited.declaration f.declaration (sym suited.declared ∙ f.declared)) suited.suits in
        let code = assigned_code (name_kind scope x) e (term_code scope at e) in
        let front : HasAt p.instrs at (assigned_code (declared_kind k) e (term_code scope at e)) = subst (λ n. HasAt p.instrs at (assigned_code n e (term_code scope at e))) kind (has_front p.instrs at code (i.Store (slot scope x) ∷ rest) has) in
        let behind = has_back p.instrs at (term_length e) code (i.Store (slot scope x) ∷ rest) (length_assigned scope (name_kind scope x) e (term_code scope at e) (length_term scope e at)) has in
        let first = assigned_leaves k e at env cs held typed fits v room safe is front in
        let place : slot scope x ≡ f.at = rw (number_is, f.number) refl in
        let stored : Leads p 1 (machine_state (at + term_length e) (kept_as k v ∷ []) (values_of env) cs) (machine_state (at + term_length e + 1) [] (slice_set (values_of env) f.at (kept_as k v)) cs) =
        leads_one p (machine_state (at + term_length e) (kept_as k v ∷ []) (values_of env) cs) (machine_state (at + term_length e + 1) [] (slice_set (values_of env) f.at (kept_as k v)) cs) (i.Store f.at) (behind.0 ∙ ap (λ n. Some (i.Store n)) place)
        (stores (at + term_length e) (values_of env) cs f.at (kept_as k v) [] f.within) in
        let same : assigned scope x v env ≡ put_value env x (kept_as k v) = rw f.declared refl in
        let slots : slice_set (values_of env) f.at (kept_as k v) ≡ values_of (assigned scope x v env) = f.puts (kept_as k v) ∙ ap values_of (sym same) in
        record {
          run = subst (λ s. Leads p (cost scope e env + 1) (between at env cs) (machine_state (at + term_length e + 1) [] s cs)) slots
              (leads_on p (cost scope e env) 1 (between at env cs) (machine_state (at + term_length e) (kept_as k v ∷ []) (values_of env) cs) (machine_state (at + term_length e + 1) [] (slice_set (values_of env) f.at (kept_as k v)) cs) first stored);
          held = subst (AreHeld scope.variables) (sym same) (f.keeps (kept_as k v) (λ w. kept_whole k e env v held typed fits is w));
        })
  ]

  -- ---- statements

  module _ (to : List ℕ → ℕ) where
    -- from the first instruction of a method to where it was called
    pub record CallsRun (calls : Calls) (deep : List ℕ → ℕ) : Type 0 where
      pub each : (m : List ℕ) (env ends : Env) (r : ℕ) (cs : List ℕ) → AreHeld scope.variables env → length cs + (deep m + 1) ≤ p.depth → calls.IsSafeCall m env → calls.after m env ≡ Some ends →
          Leads p (calls.spent m env + 1) (between (to m) env (r ∷ cs)) (between r ends cs) × AreHeld scope.variables ends

    module _ (ms : List Routine) (calls : Calls) (deep : List ℕ → ℕ) where
      abbrev pub Runs : Body → ℕ → Type 0
      Runs b at =
          (cs : List ℕ) (env ends : Env) → AreHeld scope.variables env → length cs + body_depth deep b ≤ p.depth → body_height b ≤ p.height → IsSafeBody scope calls b env → after scope calls b env ≡ Some ends →
          Leads p (spent scope calls b env) (between at env cs) (between (at + body_length b) ends cs) × AreHeld scope.variables ends

      eval_runs : (x : List ℕ) (e : Term) (rest : Body) (at : ℕ) → IsTypedTerm scope e → TargetSuits scope x e → HasAt p.instrs at (body_code scope to at (eval x e rest)) → Runs rest (at + term_length e + 1) → Runs (eval x e rest) at
      eval_runs x e rest at typed suited has later cs env ends held deep_enough high safe is =
          let k = and_then_some (λ v. after scope calls rest (assigned scope x v env)) (value scope e env) ends is in
          let a = assigns x e k.0 at env cs (body_code scope to (at + term_length e + 1) rest) held typed suited (omega (arith, high)) safe.0 k.1.0 has in
          let r = later cs (assigned scope x k.0 env) ends a.held deep_enough (omega (arith, high)) (safe.1 k.0 k.1.0) k.1.1 in
          let n : cost scope e env + 1 + spent scope calls rest (assigned scope x k.0 env) ≡ spent scope calls (eval x e rest) env = spent_eval scope calls env ends rest x e k.0 k.1.0 in (
            as_place (spent scope calls (eval x e rest) env) (between at env cs) (at + term_length e + 1 + body_length rest) (at + body_length (eval x e rest)) [] (values_of ends) cs (omega arith)
                (as_cost (cost scope e env + 1 + spent scope calls rest (assigned scope x k.0 env)) (spent scope calls (eval x e rest) env) (between at env cs) (between (at + term_length e + 1 + body_length rest) ends cs) n
                (leads_on p (cost scope e env + 1) (spent scope calls rest (assigned scope x k.0 env)) (between at env cs) (between (at + term_length e + 1) (assigned scope x k.0 env) cs) (between (at + term_length e + 1 + body_length rest) ends cs) a.run r.0)),
            r.1,
          )

      execute_runs : (m : List ℕ) (rest : Body) (at : ℕ) → CallsRun calls deep → slice_get p.instrs at ≡ Some (i.Call (to m)) → Runs rest (at + 1) → Runs (execute m rest) at
      execute_runs m rest at called has later cs env ends held deep_enough high safe is =
          let k = and_then_some (after scope calls rest) (calls.after m env) ends is in
          let first = leads_one p (between at env cs) (between (to m) env ((at + 1) ∷ cs)) (i.Call (to m)) has (calls_on at (values_of env) cs p.depth (to m) [] (omega (arith, deep_enough))) in
          let c = called.each m env k.0 (at + 1) cs held (omega (arith, deep_enough)) safe.0 k.1.0 in
          let r = later cs k.0 ends c.1 (omega (arith, deep_enough)) high (safe.1 k.0 k.1.0) k.1.1 in
          let n : 1 + (calls.spent m env + 1) + spent scope calls rest k.0 ≡ spent scope calls (execute m rest) env = spent_execute scope calls env k.0 rest m k.1.0 in (
            as_place (spent scope calls (execute m rest) env) (between at env cs) (at + 1 + body_length rest) (at + body_length (execute m rest)) [] (values_of ends) cs (omega arith)
                (as_cost (1 + (calls.spent m env + 1) + spent scope calls rest k.0) (spent scope calls (execute m rest) env) (between at env cs) (between (at + 1 + body_length rest) ends cs) n
                (leads_on p (1 + (calls.spent m env + 1)) (spent scope calls rest k.0) (between at env cs) (between (at + 1) k.0 cs) (between (at + 1 + body_length rest) ends cs)
                (leads_on p 1 (calls.spent m env + 1) (between at env cs) (between (to m) env ((at + 1) ∷ cs)) (between (at + 1) k.0 cs) first c.0) r.0)),
            r.1,
          )

      -- a choice, from what its parts do
      module _ (t : Term) (a b rest : Body) (at : ℕ) (typed : IsTypedTerm scope t) (kind : is_truth (kind_of scope t) ≡ true) where
        abbrev yes_at : ℕ
        yes_at = at + term_length t + 1

        abbrev no_at : ℕ
        no_at = yes_at + body_length a + 1

        abbrev rest_at : ℕ
        rest_at = no_at + body_length b

        branch_runs : HasAt p.instrs at (term_code scope at t) → slice_get p.instrs (at + term_length t) ≡ Some (i.JumpFalse no_at) → slice_get p.instrs (yes_at + body_length a) ≡ Some (i.Jump rest_at) → Runs a yes_at → Runs b no_at → Runs rest rest_at → Runs (branch t a b rest) at
        branch_runs has h1 h2 ra rb rr cs env ends held deep_enough high safe is =
            let k = and_then_some (λ v. option_and_then (after scope calls rest) (if is_zero v then after scope calls b env else after scope calls a env)) (value scope t env) ends is in
            let w = truth_of scope env t k.0 typed kind k.1.0 in
            let v : value scope t env ≡ Some (truth w.0) = k.1.0 ∙ ap Some w.1 in
            let first = term_runs scope p env cs (ready_in env held) t at typed has [] (truth w.0) (omega (arith, high)) safe.0 v in
            let then_is = subst (λ x. option_and_then (after scope calls rest) (if is_zero x then after scope calls b env else after scope calls a env) ≡ Some ends) w.1 k.1.1 in
            by_truth w.0 v first then_is (safe.1 (truth w.0) v)
          where
            by_truth : (z : Bool) → value scope t env ≡ Some (truth z) → Leads p (cost scope t env) (between at env cs) (machine_state (at + term_length t) (truth z ∷ []) (values_of env) cs) → option_and_then (after scope calls rest) (if is_zero (truth z) then after scope calls b env else after scope calls a env) ≡ Some ends →
                (is_zero (truth z) ≡ true → IsSafeBody scope calls b env) × (is_zero (truth z) ≡ false → IsSafeBody scope calls a env) × ((e : Env) → (if is_zero (truth z) then after scope calls b env else after scope calls a env) ≡ Some e → IsSafeBody scope calls rest e) →
                Leads p (spent scope calls (branch t a b rest) env) (between at env cs) (between (at + body_length (branch t a b rest)) ends cs) × AreHeld scope.variables ends
            by_truth true v first then_is s =
                let k = and_then_some (after scope calls rest) (after scope calls a env) ends then_is in
                let tested = machine_state (at + term_length t) (truth true ∷ []) (values_of env) cs in
                let on = leads_one p tested (between yes_at env cs) (i.JumpFalse no_at) h1 (branches (at + term_length t) (values_of env) cs (λ z rest. if z then gone tested (at + term_length t + 1) rest else gone tested no_at rest) true []) in
                let r1 = ra cs env k.0 held (omega (arith, deep_enough)) (omega (arith, high)) (s.1 refl) k.1.0 in
                let jump = leads_one p (between (yes_at + body_length a) k.0 cs) (between rest_at k.0 cs) (i.Jump rest_at) h2 refl in
                let r2 = rr cs k.0 ends r1.1 (omega (arith, deep_enough)) (omega (arith, high)) (s.2 k.0 k.1.0) k.1.1 in
                let n : cost scope t env + 1 + spent scope calls a env + 1 + spent scope calls rest k.0 ≡ spent scope calls (branch t a b rest) env = spent_yes scope calls env k.0 rest t a b v k.1.0 in (
                  as_place (spent scope calls (branch t a b rest) env) (between at env cs) (rest_at + body_length rest) (at + body_length (branch t a b rest)) [] (values_of ends) cs (omega arith)
                      (as_cost (cost scope t env + 1 + spent scope calls a env + 1 + spent scope calls rest k.0) (spent scope calls (branch t a b rest) env) (between at env cs) (between (rest_at + body_length rest) ends cs) n
                      (leads_on p (cost scope t env + 1 + spent scope calls a env + 1) (spent scope calls rest k.0) (between at env cs) (between rest_at k.0 cs) (between (rest_at + body_length rest) ends cs)
                      (leads_on p (cost scope t env + 1 + spent scope calls a env) 1 (between at env cs) (between (yes_at + body_length a) k.0 cs) (between rest_at k.0 cs)
                      (leads_on p (cost scope t env + 1) (spent scope calls a env) (between at env cs) (between yes_at env cs) (between (yes_at + body_length a) k.0 cs)
                      (leads_on p (cost scope t env) 1 (between at env cs) tested (between yes_at env cs) first on) r1.0) jump) r2.0)),
                  r2.1,
                )
            by_truth false v first then_is s =
                let k = and_then_some (after scope calls rest) (after scope calls b env) ends then_is in
                let tested = machine_state (at + term_length t) (truth false ∷ []) (values_of env) cs in
                let off = leads_one p tested (between no_at env cs) (i.JumpFalse no_at) h1 (branches (at + term_length t) (values_of env) cs (λ z rest. if z then gone tested (at + term_length t + 1) rest else gone tested no_at rest) false []) in
                let r1 = rb cs env k.0 held (omega (arith, deep_enough)) (omega (arith, high)) (s.0 refl) k.1.0 in
                let r2 = rr cs k.0 ends r1.1 (omega (arith, deep_enough)) (omega (arith, high)) (s.2 k.0 k.1.0) k.1.1 in
                let n : cost scope t env + 1 + spent scope calls b env + spent scope calls rest k.0 ≡ spent scope calls (branch t a b rest) env = spent_no scope calls env k.0 rest t a b v k.1.0 in (
                  as_place (spent scope calls (branch t a b rest) env) (between at env cs) (rest_at + body_length rest) (at + body_length (branch t a b rest)) [] (values_of ends) cs (omega arith)
                      (as_cost (cost scope t env + 1 + spent scope calls b env + spent scope calls rest k.0) (spent scope calls (branch t a b rest) env) (between at env cs) (between (rest_at + body_length rest) ends cs) n
                      (leads_on p (cost scope t env + 1 + spent scope calls b env) (spent scope calls rest k.0) (between at env cs) (between rest_at k.0 cs) (between (rest_at + body_length rest) ends cs)
                      (leads_on p (cost scope t env + 1) (spent scope calls b env) (between at env cs) (between no_at env cs) (between rest_at k.0 cs)
                      (leads_on p (cost scope t env) 1 (between at env cs) tested (between no_at env cs) first off) r1.0) r2.0)),
                  r2.1,
                )

      pub body_runs : CallsRun calls deep → (b : Body) (at : ℕ) → IsTypedBody scope ms b → HasAt p.instrs at (body_code scope to at b) → Runs b at
      body_runs called done at typed has = λ cs env ends held deep_enough high safe is.
          let same : env ≡ ends = some_is env ends is in
          let n : at ≡ at + 0 = omega arith in
          (subst (λ e. Leads p 0 (between at env cs) (between (at + 0) e cs)) same (as_place 0 (between at env cs) at (at + 0) [] (values_of env) cs n (leads_none p (between at env cs))), subst (AreHeld scope.variables) same held)
      body_runs called (eval x e rest) at typed has =
          let code = assigned_code (name_kind scope x) e (term_code scope at e) in
          let behind = has_back p.instrs at (term_length e) code (i.Store (slot scope x) ∷ body_code scope to (at + term_length e + 1) rest) (length_assigned scope (name_kind scope x) e (term_code scope at e) (length_term scope e at)) has in
          eval_runs x e rest at typed.0 typed.1 has (body_runs called rest (at + term_length e + 1) typed.2 behind.1)
      body_runs called (execute m rest) at typed has = execute_runs m rest at called has.0 (body_runs called rest (at + 1) typed.1 has.1)
      body_runs called (branch t a b rest) at typed has =
          let p1 = at + term_length t + 1 in
          let q1 = p1 + body_length a + 1 in
          let r1 = q1 + body_length b in
          let ct = term_code scope at t in
          let ca = body_code scope to p1 a in
          let cb = body_code scope to q1 b in
          let cr = body_code scope to r1 rest in
          let h1 = has_back p.instrs at (term_length t) ct (i.JumpFalse q1 ∷ (ca ++ i.Jump r1 ∷ (cb ++ cr))) (length_term scope t at) has in
          let h2 = has_back p.instrs p1 (body_length a) ca (i.Jump r1 ∷ (cb ++ cr)) (length_body scope to a p1) h1.1 in
          let h3 = has_back p.instrs q1 (body_length b) cb cr (length_body scope to b q1) h2.1 in
          branch_runs t a b rest at typed.0 typed.1 (has_front p.instrs at ct (i.JumpFalse q1 ∷ (ca ++ i.Jump r1 ∷ (cb ++ cr))) has) h1.0 h2.0
          (body_runs called a p1 typed.2 (has_front p.instrs p1 ca (i.Jump r1 ∷ (cb ++ cr)) h1.1))
          (body_runs called b q1 typed.3 (has_front p.instrs q1 cb cr h2.1))
          (body_runs called rest r1 typed.4 h3)
