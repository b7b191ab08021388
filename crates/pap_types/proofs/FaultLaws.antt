-- A plan is refused with the first of all its faults, and is well typed where it has none.
use Rattle.std.proofs.Common.{◌≡◌, ℕ, ◌+◌, Bool, true, false, List, [], ◌∷◌, ◌++◌, Option, Some, None, refl, sym, ap, ◌∙◌, true≢false}
use Rattle.std.specs.Prelude.{slice_get, if◌then◌else◌}
use Rattle.std.specs.List.{list_any}
use Rattle.std.specs.Option.{option_to_list}
use Rattle.std.proofs.lemmas.Option.{none-some}
use Rattle.pap_tree.specs.Declarations.{Declaration}
use Rattle.pap_tree.specs.Flowchart.{Body, done, eval, branch, execute, Routine, Flowchart}
use Rattle.pap_tree.specs.Names.{main_name}
use Rattle.pap_tree.specs.Statements.{written}
use Rattle.pap_types.specs.declared.fault.TypeFault.{TypeFault}
use Rattle.pap_types.specs.Scopes.{Scope, scope_of}
use Rattle.pap_types.specs.Typing.{declarations_of}
use Rattle.pap_types.specs.Checks.{Check, first_fault, declaration_checks, method_checks, eval_checks, test_checks, body_checks, routine_checks}
use Rattle.pap_types.specs.AllFaults.{own_fault, declaration_faults, method_name_faults, name_faults, is_twice, body_faults, routine_faults, statement_faults, type_faults, RefusedByFirst, FaultlessIsWellTyped}
use Rattle.pap_types.specs.private.PlanViews.{name_checks, statement_checks}
use Rattle.pap_types.proofs.CheckLemmas.{past, front}
use Rattle.pap_types.proofs.NamingLemmas.{whole_checks}

-- the first of these faults is that of the first check that doesn't pass
abbrev IsFirstOf : List Check → List TypeFault → Type 0
IsFirstOf cs fs = slice_get fs 0 ≡ first_fault cs

first_own : (cs : List Check) → IsFirstOf cs (own_fault cs)
first_own cs = by_fault (first_fault cs)
  where
    by_fault : (o : Option TypeFault) → slice_get (option_to_list o) 0 ≡ o
    by_fault None = refl
    by_fault (Some f) = refl

first_both : (a b : List Check) (xs ys : List TypeFault) → IsFirstOf a xs → IsFirstOf b ys → IsFirstOf (a ++ b) (xs ++ ys)
first_both a b [] ys h k = k ∙ sym (past a b (sym h))
first_both a b (f ∷ xs) ys h k = sym (front a b f (sym h))

-- ---- names

first_declared : (before : List (List ℕ)) (ds : List Declaration) → IsFirstOf (declaration_checks before ds) (declaration_faults before ds)
first_declared before [] = refl
first_declared before (d ∷ ds) =
    let own = declaration_checks before (d ∷ []) in
    let next = before ++ (d.name ∷ []) in
    first_both own (declaration_checks next ds) (own_fault own) (declaration_faults next ds) (first_own own) (first_declared next ds)

first_named : (before : List (List ℕ)) (ms : List Routine) → IsFirstOf (method_checks before ms) (method_name_faults before ms)
first_named before [] = refl
first_named before (m ∷ ms) =
    let own = method_checks before (m ∷ []) in
    let next = before ++ (m.name ∷ []) in
    first_both own (method_checks next ms) (own_fault own) (method_name_faults next ms) (first_own own) (first_named next ms)

first_of_names : (f : Flowchart) → IsFirstOf (name_checks f) (name_faults f)
first_of_names f =
    first_both (declaration_checks [] (declarations_of f)) (method_checks (main_name ∷ []) f.methods) (declaration_faults [] (declarations_of f))
    (method_name_faults (main_name ∷ []) f.methods) (first_declared [] (declarations_of f)) (first_named (main_name ∷ []) f.methods)

-- ---- statements

module _ (scope : Scope) (methods : List Routine) (name : List ℕ) where
  abbrev checks : ℕ → Body → List Check
  checks at b = body_checks scope methods name at b

  abbrev told : ℕ → Body → List TypeFault
  told at b = body_faults scope methods name at b

  first_in_body : (at : ℕ) (b : Body) → IsFirstOf (checks at b) (told at b)
  first_in_body at done = refl
  first_in_body at (eval x e rest) =
      let own = eval_checks scope methods name at x e in
      first_both own (checks (at + 1) rest) (own_fault own) (told (at + 1) rest) (first_own own) (first_in_body (at + 1) rest)
  first_in_body at (branch t a b rest) =
      let own = test_checks scope methods name at t in
      let second = at + 1 + written a in
      let third = at + 1 + written a + written b in
      first_both own (checks (at + 1) a ++ (checks second b ++ checks third rest)) (own_fault own) (told (at + 1) a ++ (told second b ++ told third rest)) (first_own own)
      (first_both (checks (at + 1) a) (checks second b ++ checks third rest) (told (at + 1) a) (told second b ++ told third rest) (first_in_body (at + 1) a)
      (first_both (checks second b) (checks third rest) (told second b) (told third rest) (first_in_body second b) (first_in_body third rest)))
  first_in_body at (execute m rest) =
      let own = checks at (execute m done) in
      first_both own (checks (at + 1) rest) (own_fault own) (told (at + 1) rest) (first_own own) (first_in_body (at + 1) rest)

first_in_routines : (scope : Scope) (all ms : List Routine) → IsFirstOf (routine_checks scope all ms) (routine_faults scope all ms)
first_in_routines scope all [] = refl
first_in_routines scope all (m ∷ ms) =
    first_both (body_checks scope all m.name 0 m.body) (routine_checks scope all ms) (body_faults scope all m.name 0 m.body) (routine_faults scope all ms)
    (first_in_body scope all m.name 0 m.body) (first_in_routines scope all ms)

first_of_statements : (f : Flowchart) → IsFirstOf (statement_checks f) (statement_faults f)
first_of_statements f =
    first_both (body_checks (scope_of f) f.methods main_name 0 f.main) (routine_checks (scope_of f) f.methods f.methods)
    (body_faults (scope_of f) f.methods main_name 0 f.main) (routine_faults (scope_of f) f.methods f.methods)
    (first_in_body (scope_of f) f.methods main_name 0 f.main) (first_in_routines (scope_of f) f.methods f.methods)

-- ---- the whole

-- a fault of names is the first, whatever checks follow
some_named : (a b : List Check) (xs : List TypeFault) → IsFirstOf a xs → list_any is_twice xs ≡ true → IsFirstOf (a ++ b) (xs ++ [])
some_named a b [] h twice = absurd (true≢false (sym twice))
some_named a b (f ∷ xs) h twice = sym (front a b f (sym h))

first_of_all : (f : Flowchart) → IsFirstOf (name_checks f ++ statement_checks f) (type_faults f)
first_of_all f = by_twice (list_any is_twice (name_faults f)) refl
  where
    by_twice : (t : Bool) → list_any is_twice (name_faults f) ≡ t
        → IsFirstOf (name_checks f ++ statement_checks f) (name_faults f ++ (if t then [] else statement_faults f))
    by_twice true e = some_named (name_checks f) (statement_checks f) (name_faults f) (first_of_names f) e
    by_twice false e =
        first_both (name_checks f) (statement_checks f) (name_faults f) (statement_faults f) (first_of_names f) (first_of_statements f)

pub refused_by_first : (f : Flowchart) → RefusedByFirst f
refused_by_first f = first_of_all f ∙ sym (whole_checks f)

none_first : (fs : List TypeFault) → slice_get fs 0 ≡ None → fs ≡ []
none_first [] e = refl
none_first (f ∷ fs) e = absurd (none-some f (sym e))

pub faultless_is_well_typed : (f : Flowchart) → FaultlessIsWellTyped f
faultless_is_well_typed f = (
  λ well. none_first (type_faults f) (refused_by_first f ∙ well),
  λ none. sym (refused_by_first f) ∙ ap (λ fs. slice_get fs 0) none,
)
