-- The names that a list of statements executes.
use Rattle.std.proofs.Common.{◌≡◌, ℕ, ◌+◌, Bool, true, false, List, [], ◌∷◌, ◌++◌, Some, None, refl, subst}
use Rattle.std.proofs.lemmas.List.Elements.{All-nil, All-cons}
use Rattle.std.specs.Prelude.{All, if◌then◌else◌, is_some}
use Rattle.std.specs.Str.{bytes_eq}
use Rattle.pap_tree.specs.Flowchart.{Body, done, eval, branch, execute, Routine, Flowchart}
use Rattle.pap_tree.specs.Statements.{written}
use Rattle.pap_types.specs.Scopes.{Scope, scope_of}
use Rattle.pap_types.specs.Routines.{body_named}
use Rattle.pap_tree.specs.Names.{main_name}
use Rattle.pap_types.specs.declared.fault.TypeFault.{TypeFault}
use Rattle.pap_types.specs.declared.fault.TypeFault.TheVariants.{NoMethod}
use Rattle.pap_types.specs.Checks.{Check, place, first_fault, check, eval_checks, test_checks, body_checks, routine_checks, declaration_checks, method_checks, IsWellTyped}
use Rattle.call_order.specs.Executed.{EachExecuted}

pub each_weaker : (P Q : List ℕ → Type 0) → ((x : List ℕ) → P x → Q x) → (b : Body) → EachExecuted P b → EachExecuted Q b
each_weaker P Q f done h = tt
each_weaker P Q f (eval x e rest) h = each_weaker P Q f rest h
each_weaker P Q f (branch t a b rest) h = (each_weaker P Q f a h.0, each_weaker P Q f b h.1, each_weaker P Q f rest h.2)
each_weaker P Q f (execute m rest) h = (f m h.0, each_weaker P Q f rest h.1)

-- ---- each executed name of a well-typed plan is a method's

pub passes_front : (xs ys : List Check) → first_fault (xs ++ ys) ≡ None → first_fault xs ≡ None
passes_front [] ys e = refl
passes_front (c ∷ xs) ys e = by_test c.passes (passes_front xs ys) e
  where
    by_test : (t : Bool) → (first_fault (xs ++ ys) ≡ None → first_fault xs ≡ None) → (if t then first_fault (xs ++ ys) else Some c.fault) ≡ None → (if t then first_fault xs else Some c.fault) ≡ None
    by_test true r h = r h
    by_test false r h = absurd (cc)

pub passes_back : (xs ys : List Check) → first_fault (xs ++ ys) ≡ None → first_fault ys ≡ None
passes_back [] ys e = e
passes_back (c ∷ xs) ys e = by_test c.passes (passes_back xs ys) e
  where
    by_test : (t : Bool) → (first_fault (xs ++ ys) ≡ None → first_fault ys ≡ None) → (if t then first_fault (xs ++ ys) else Some c.fault) ≡ None → first_fault ys ≡ None
    by_test true r h = r h
    by_test false r h = absurd (cc)

passes_first : (t : Bool) (fault : TypeFault) (ys : List Check) → first_fault (check t fault ∷ ys) ≡ None → t ≡ true
passes_first true fault ys e = refl
passes_first false fault ys e = absurd (cc)

abbrev pub IsNamed : List Routine → List ℕ → Type 0
IsNamed ms m = is_some (body_named ms m) ≡ true

module _ (scope : Scope) (ms : List Routine) where
  named_in : (name : List ℕ) (b : Body) (at : ℕ) → first_fault (body_checks scope ms name at b) ≡ None → EachExecuted (IsNamed ms) b
  named_in name done at e = tt
  named_in name (eval x t rest) at e =
      named_in name rest (at + 1) (passes_back (eval_checks scope ms name at x t) (body_checks scope ms name (at + 1) rest) e)
  named_in name (branch t a b rest) at e =
      let third = body_checks scope ms name (at + 1 + written a + written b) rest in
      let second = body_checks scope ms name (at + 1 + written a) b in
      let first = body_checks scope ms name (at + 1) a in
      let past = passes_back (test_checks scope ms name at t) (first ++ (second ++ third)) e in
      let more = passes_back first (second ++ third) past in (
        named_in name a (at + 1) (passes_front first (second ++ third) past),
        named_in name b (at + 1 + written a) (passes_front second third more),
        named_in name rest (at + 1 + written a + written b) (passes_back second third more),
      )
  named_in name (execute m rest) at e =
      let own = check (is_some (body_named ms m)) (NoMethod (place name at 0)) in
      let more = body_checks scope ms name (at + 1) rest in
      (passes_first (is_some (body_named ms m)) (NoMethod (place name at 0)) more e, named_in name rest (at + 1) (passes_back (own ∷ []) more e))

  named_in_routines : (rs : List Routine) (x : List ℕ) (b : Body) → first_fault (routine_checks scope ms rs) ≡ None → body_named rs x ≡ Some b → EachExecuted (IsNamed ms) b
  named_in_routines [] x b e is = absurd (cc)
  named_in_routines (r ∷ rs) x b e is = by_test (bytes_eq x r.name) (named_in_routines rs x b) is
    where
      own : first_fault (body_checks scope ms r.name 0 r.body) ≡ None
      own = passes_front (body_checks scope ms r.name 0 r.body) (routine_checks scope ms rs) e

      by_test : (t : Bool) → (first_fault (routine_checks scope ms rs) ≡ None → body_named rs x ≡ Some b → EachExecuted (IsNamed ms) b) → (if t then Some r.body else body_named rs x) ≡ Some b → EachExecuted (IsNamed ms) b
      by_test true more h = let same : r.body ≡ b = cc in subst (EachExecuted (IsNamed ms)) same (named_in r.name r.body 0 own)
      by_test false more h = more (passes_back (body_checks scope ms r.name 0 r.body) (routine_checks scope ms rs) e) h

  named_in_each : (rs : List Routine) → first_fault (routine_checks scope ms rs) ≡ None → All (λ r. EachExecuted (IsNamed ms) r.body) rs
  named_in_each [] e = All-nil (λ (r : Routine). EachExecuted (IsNamed ms) r.body)
  named_in_each (r ∷ rs) e =
      let own = body_checks scope ms r.name 0 r.body in
      let more = routine_checks scope ms rs in
      All-cons (λ (q : Routine). EachExecuted (IsNamed ms) q.body) r rs (named_in r.name r.body 0 (passes_front own more e)) (named_in_each rs (passes_back own more e))

-- each name that MAIN or a method executes is a method's
pub record AreNamed (f : Flowchart) : Type 0 where
  pub main : EachExecuted (IsNamed f.methods) f.main
  pub methods : (x : List ℕ) (b : Body) → body_named f.methods x ≡ Some b → EachExecuted (IsNamed f.methods) b
  pub each : All (λ r. EachExecuted (IsNamed f.methods) r.body) f.methods

pub are_named : (f : Flowchart) → IsWellTyped f → AreNamed f
are_named f typed =
    let scope = scope_of f in
    let all = declaration_checks [] (f.inputs ++ (f.outputs ++ (f.internals ++ f.constants))) in
    let names = method_checks (main_name ∷ []) f.methods in
    let main = body_checks scope f.methods main_name 0 f.main in
    let routines = routine_checks scope f.methods f.methods in
    let bodies = passes_back names (main ++ routines) (passes_back all (names ++ (main ++ routines)) typed) in
    record {
      main = named_in scope f.methods main_name f.main 0 (passes_front main routines bodies);
      methods = λ x b is. named_in_routines scope f.methods f.methods x b (passes_back main routines bodies) is;
      each = named_in_each scope f.methods f.methods (passes_back main routines bodies);
    }
