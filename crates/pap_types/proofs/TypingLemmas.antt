-- What the checks of a plan say of its parts where they all pass.
use Rattle.std.proofs.Common.{true≢false, ◌≡◌, ℕ, ◌+◌, ◌<◌, List, [], ◌∷◌, ◌++◌, length, Some, None, Option, Bool, true, false, not, ◌&&◌, refl, sym, ◌∙◌, arith, get_or}
use Rattle.std.specs.Prelude.{if◌then◌else◌, IsTrue, is_some, All, ◌≢◌}
use Rattle.std.specs.Option.{option_map, option_map_or}
use Rattle.std.specs.Str.{bytes_eq}
use Rattle.std.proofs.lemmas.List.{append_assoc, append-nil}
use Rattle.std.proofs.lemmas.List.Folds.{list_any_at}
use Rattle.std.proofs.lemmas.List.Quantifiers.{all_pairs_push}
use Rattle.std.proofs.lemmas.Slice.Eq.{bytes_eq-Decides}
use Rattle.std.proofs.lemmas.List.Elements.{All-cons, All-nil}
use Rattle.std.proofs.lemmas.Option.{none-some}
use Rattle.pap_tree.specs.declared.place.Place.{Place}
use Rattle.pap_tree.specs.Term.{Leaf, named, Term, leaf, item, one, two, choice}
use Rattle.pap_tree.specs.Numbering.{nodes}
use Rattle.pap_tree.specs.Statements.{written}
use Rattle.pap_tree.specs.Declarations.{Declaration}
use Rattle.pap_tree.specs.Flowchart.{Body, done, eval, branch, execute, Routine, Flowchart}
use Rattle.pap_types.specs.declared.fault.TypeFault.{TypeFault}
use Rattle.pap_types.specs.Scopes.{Scope, scope_of, declared_as, names_of}
use Rattle.pap_types.specs.Routines.{body_named, method_names}
use Rattle.pap_tree.specs.Names.{main_name}
use Rattle.pap_types.specs.Kinds.{kind_of, name_kind, is_table, is_int, is_truth, are_parts, suits}
use Rattle.pap_types.specs.Checks.{Check, first_fault, place, node_checks, leaf_checks, eval_checks, test_checks, body_checks, routine_checks, declaration_checks, method_checks, IsWellTyped, has_name}
use Rattle.pap_types.specs.Typing.{IsDeclaredLeaf, IsTypedTerm, TargetSuits, IsMethod, IsTypedBody, HasItsType, declarations_of, AreDistinct, HasTypes}
use Rattle.pap_types.proofs.CheckLemmas.{past}

-- ---- lists of checks

-- the first check passes, and so do the others
pub one_passes : (passes : Bool) (fault : TypeFault) (rest : Option TypeFault) → (if passes then rest else Some fault) ≡ None → IsTrue passes × (rest ≡ None)
one_passes true fault rest e = (refl, e)
one_passes false fault rest e = absurd (none-some fault (sym e))

passes_front : (c : Check) (a b : List Check) → (first_fault (a ++ b) ≡ None → first_fault a ≡ None) → (passes : Bool) → (if passes then first_fault (a ++ b) else Some c.fault) ≡ None → (if passes then first_fault a else Some c.fault) ≡ None
passes_front c a b more true e = more e
passes_front c a b more false e = e

front_passes : (a b : List Check) → first_fault (a ++ b) ≡ None → first_fault a ≡ None
front_passes [] b e = refl
front_passes (c ∷ a) b e = passes_front c a b (front_passes a b) c.passes e

-- both parts of a list pass
pub both_pass : (a b : List Check) → first_fault (a ++ b) ≡ None → (first_fault a ≡ None) × (first_fault b ≡ None)
both_pass a b e = let h = front_passes a b e in (h, sym (past a b h) ∙ e)

two_tests : (a b : Bool) → IsTrue (a && b) → IsTrue a × IsTrue b
two_tests true b h = (refl, h)
two_tests false b h = absurd (true≢false (sym h))

-- ---- expressions

module _ (scope : Scope) (at_node : ℕ → Place) where
  typed_leaf : (l : Leaf) (at : ℕ) → first_fault (leaf_checks scope at_node l at) ≡ None → IsDeclaredLeaf scope l
  typed_leaf (named x) at e = (one_passes _ _ _ e).0
  typed_leaf l at e = tt

  pub typed_term : (t : Term) (at : ℕ) → first_fault (node_checks scope at_node t at) ≡ None → IsTypedTerm scope t
  typed_term (leaf l) at h = typed_leaf l at h
  typed_term (item x e) at h =
      let parts = both_pass (node_checks scope at_node e at) _ h in
      let known = one_passes _ _ _ parts.1 in
      let fits = two_tests (is_table (name_kind scope x)) (is_int (kind_of scope e)) (one_passes _ _ _ known.1).0 in
      (typed_term e at parts.0, record { declared = known.0; table = fits.0; index = fits.1 })
  typed_term (one op e) at h =
      let parts = both_pass (node_checks scope at_node e at) _ h in
      (typed_term e at parts.0, (one_passes _ _ _ parts.1).0)
  typed_term (two op e f) at h =
      let left = both_pass (node_checks scope at_node e at) _ h in
      let right = both_pass (node_checks scope at_node f (at + nodes e)) _ left.1 in
      (typed_term e at left.0, typed_term f (at + nodes e) right.0, (one_passes _ _ _ right.1).0)
  typed_term (choice c e f) at h =
      let test = both_pass (node_checks scope at_node c at) _ h in
      let first = both_pass (node_checks scope at_node e (at + nodes c)) _ test.1 in
      let second = both_pass (node_checks scope at_node f (at + nodes c + nodes e)) _ first.1 in
      let fits = two_tests (is_truth (kind_of scope c)) (are_parts (kind_of scope e) (kind_of scope f)) (one_passes _ _ _ second.1).0 in
      (typed_term c at test.0, typed_term e (at + nodes c) first.0, typed_term f (at + nodes c + nodes e) second.0, record { test = fits.0; parts = fits.1 })

-- ---- statements

target_suits : (scope : Scope) (x : List ℕ) (e : Term) (found : Option Declaration) → declared_as scope.variables x ≡ found → IsTrue (is_some (option_map (λ (d : Declaration). d.kind) found)) → IsTrue (option_map_or (λ k. suits k e (kind_of scope e)) (option_map (λ (d : Declaration). d.kind) found) false) → TargetSuits scope x e
target_suits scope x e (Some d) is h s = record { declaration = d; declared = is; suits = s }
target_suits scope x e None is h s = absurd (true≢false (sym h))

is_method : (methods : List Routine) (m : List ℕ) (found : Option Body) → body_named methods m ≡ found → IsTrue (is_some found) → IsMethod methods m
is_method methods m (Some b) is h = record { body = b; named = is }
is_method methods m None is h = absurd (true≢false (sym h))

module _ (scope : Scope) (methods : List Routine) (name : List ℕ) where
  typed_test : (stmt : ℕ) (t : Term) → first_fault (test_checks scope methods name stmt t) ≡ None → IsTypedTerm scope t × IsTrue (is_truth (kind_of scope t))
  typed_test stmt t h =
      let parts = both_pass (node_checks scope (place name stmt) t 0) _ h in
      (typed_term scope (place name stmt) t 0 parts.0, (one_passes _ _ _ parts.1).0)

  typed_eval : (stmt : ℕ) (x : List ℕ) (e : Term) → first_fault (eval_checks scope methods name stmt x e) ≡ None → IsTypedTerm scope e × TargetSuits scope x e
  typed_eval stmt x e h =
      let known = one_passes _ _ _ h in
      let target = one_passes _ _ _ known.1 in
      let parts = both_pass (node_checks scope (place name stmt) e 0) _ target.1 in
      (typed_term scope (place name stmt) e 0 parts.0, target_suits scope x e (declared_as scope.variables x) refl target.0 (one_passes _ _ _ parts.1).0)

  pub typed_body : (at : ℕ) (b : Body) → first_fault (body_checks scope methods name at b) ≡ None → IsTypedBody scope methods b
  typed_body at done h = tt
  typed_body at (eval x e rest) h =
      let parts = both_pass (eval_checks scope methods name at x e) _ h in
      let own = typed_eval at x e parts.0 in
      (own.0, own.1, typed_body (at + 1) rest parts.1)
  typed_body at (branch t a b rest) h =
      let test = both_pass (test_checks scope methods name at t) _ h in
      let first = both_pass (body_checks scope methods name (at + 1) a) _ test.1 in
      let second = both_pass (body_checks scope methods name (at + 1 + written a) b) _ first.1 in
      let own = typed_test at t test.0 in
      (own.0, own.1, typed_body (at + 1) a first.0, typed_body (at + 1 + written a) b second.0, typed_body (at + 1 + written a + written b) rest second.1)
  typed_body at (execute m rest) h =
      let parts = one_passes _ _ _ h in
      (is_method methods m (body_named methods m) refl parts.0, typed_body (at + 1) rest parts.1)

typed_methods : (scope : Scope) (all ms : List Routine) → first_fault (routine_checks scope all ms) ≡ None → All (λ m. IsTypedBody scope all m.body) ms
typed_methods scope all [] h = All-nil (λ (m : Routine). IsTypedBody scope all m.body)
typed_methods scope all (m ∷ ms) h =
    let parts = both_pass (body_checks scope all m.name 0 m.body) _ h in
    All-cons (λ (m : Routine). IsTypedBody scope all m.body) m ms (typed_body scope all m.name 0 m.body parts.0) (typed_methods scope all ms parts.1)

-- ---- names

not_true : (b : Bool) → IsTrue (not b) → b ≡ true → ⊥
not_true true h e = true≢false (sym h)
not_true false h e = true≢false (sym e)

-- a name that is new is none of those before it
new_name : (before : List (List ℕ)) (x : List ℕ) → IsTrue (not (has_name before x)) → (k : ℕ) (d : List ℕ) → k < length before → get_or before k d ≢ x
new_name before x h k d less e =
    not_true (has_name before x) h (list_any_at (bytes_eq x) before k d less ((bytes_eq-Decides x (get_or before k d)).1 (sym e)))

-- so the names stay distinct
more_names : (before : List (List ℕ)) (x : List ℕ) → IsTrue (not (has_name before x)) → AreDistinct before → AreDistinct (before ++ (x ∷ []))
more_names before x h d = all_pairs_push (λ x y. x ≢ y) before x d (new_name before x h)

no_names : AreDistinct []
no_names i j d less within = absurd (omega arith)

-- the first of a list behind another list moves to the end of that
moved : (before : List (List ℕ)) (x : List ℕ) (names : List (List ℕ)) → AreDistinct ((before ++ (x ∷ [])) ++ names) → AreDistinct (before ++ (x ∷ names))
moved before x names h = rw (append_assoc before (x ∷ []) names) at h

declared_parts : (before : List (List ℕ)) (ds : List Declaration) → first_fault (declaration_checks before ds) ≡ None → AreDistinct before → AreDistinct (before ++ names_of ds) × All HasItsType ds
declared_parts before [] h d = (rw (append-nil before) d, All-nil HasItsType)
declared_parts before (x ∷ ds) h d =
    let new = one_passes _ _ _ h in
    let literal = one_passes _ _ _ new.1 in
    let rest = declared_parts (before ++ (x.name ∷ [])) ds literal.1 (more_names before x.name new.0 d) in
    (moved before x.name (names_of ds) rest.0, All-cons HasItsType x ds literal.0 rest.1)

method_parts : (before : List (List ℕ)) (ms : List Routine) → first_fault (method_checks before ms) ≡ None → AreDistinct before → AreDistinct (before ++ method_names ms)
method_parts before [] h d = rw (append-nil before) d
method_parts before (m ∷ ms) h d =
    let new = one_passes _ _ _ h in
    moved before m.name (method_names ms) (method_parts (before ++ (m.name ∷ [])) ms new.1 (more_names before m.name new.0 d))

one_name : (x : List ℕ) → AreDistinct (x ∷ [])
one_name x i j d less within = absurd (omega arith)

-- ---- the plan

pub has_types : (f : Flowchart) → IsWellTyped f → HasTypes f
has_types f h =
    let declared = both_pass (declaration_checks [] (declarations_of f)) _ h in
    let named = both_pass (method_checks (main_name ∷ []) f.methods) _ declared.1 in
    let main = both_pass (body_checks (scope_of f) f.methods main_name 0 f.main) _ named.1 in
    let names = declared_parts [] (declarations_of f) declared.0 no_names in
    record {
      names = names.0;
      literals = names.1;
      method_names = method_parts (main_name ∷ []) f.methods named.0 (one_name main_name);
      main = typed_body (scope_of f) f.methods main_name 0 f.main main.0;
      methods = typed_methods (scope_of f) f.methods f.methods main.1;
    }
