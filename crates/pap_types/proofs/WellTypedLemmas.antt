-- Where the parts of a plan have their types its checks all pass.
use Rattle.std.proofs.Common.{true≢false, ◌≡◌, ◌≢◌, ℕ, suc, ◌+◌, ◌<◌, List, [], ◌∷◌, ◌++◌, length, Some, None, Option, Bool, true, false, not, ◌&&◌, refl, sym, ◌∙◌, arith, get_or}
use Rattle.std.specs.Prelude.{if◌then◌else◌, IsTrue, is_some, All}
use Rattle.std.specs.Option.{option_map_or}
use Rattle.std.specs.Str.{bytes_eq}
use Rattle.std.proofs.Math.Seq.{get_or-append_seam}
use Rattle.std.proofs.lemmas.List.{append_assoc, length-append, get_or_append_left}
use Rattle.std.proofs.lemmas.List.Folds.{list_any_none}
use Rattle.std.proofs.lemmas.Slice.Eq.{bytes_eq-Decides}
use Rattle.pap_tree.specs.declared.place.Place.{Place}
use Rattle.pap_tree.specs.Term.{Leaf, named, Term, leaf, item, one, two, choice}
use Rattle.pap_tree.specs.Numbering.{nodes}
use Rattle.pap_tree.specs.Statements.{written}
use Rattle.pap_tree.specs.Declarations.{Declaration}
use Rattle.pap_tree.specs.Flowchart.{Body, done, eval, branch, execute, Routine, Flowchart}
use Rattle.pap_types.specs.declared.fault.TypeFault.{TypeFault}
use Rattle.pap_types.specs.Scopes.{Scope, scope_of, declaration_in, names_of}
use Rattle.pap_types.specs.Routines.{body_named, method_names}
use Rattle.pap_tree.specs.Names.{main_name}
use Rattle.pap_types.specs.Kinds.{kind_of, is_truth, suits}
use Rattle.pap_types.specs.Checks.{Check, first_fault, place, node_checks, leaf_checks, eval_checks, test_checks, body_checks, routine_checks, declaration_checks, method_checks, target_kind, IsWellTyped, has_name}
use Rattle.pap_types.specs.Typing.{IsDeclaredLeaf, IsTypedTerm, TargetSuits, IsMethod, IsTypedBody, HasItsType, declarations_of, AreDistinct, HasTypes}
use Rattle.pap_types.proofs.CheckLemmas.{past}

-- ---- lists of checks

pass_one : (passes : Bool) (fault : TypeFault) (rest : Option TypeFault) → IsTrue passes → rest ≡ None → (if passes then rest else Some fault) ≡ None
pass_one true fault rest h e = e
pass_one false fault rest h e = absurd (true≢false (sym h))

pass_both : (a b : List Check) → first_fault a ≡ None → first_fault b ≡ None → first_fault (a ++ b) ≡ None
pass_both a b f g = past a b f ∙ g

both_tests : (a b : Bool) → IsTrue a → IsTrue b → IsTrue (a && b)
both_tests true b h k = k
both_tests false b h k = h

-- ---- expressions

module _ (scope : Scope) (at_node : ℕ → Place) where
  leaf_passes : (l : Leaf) (at : ℕ) → IsDeclaredLeaf scope l → first_fault (leaf_checks scope at_node l at) ≡ None
  leaf_passes (named x) at h = pass_one _ _ None h refl
  leaf_passes l at h = refl

  term_passes : (t : Term) (at : ℕ) → IsTypedTerm scope t → first_fault (node_checks scope at_node t at) ≡ None
  term_passes (leaf l) at h = leaf_passes l at h
  term_passes (item x e) at (operand, fits) =
      pass_both (node_checks scope at_node e at) _ (term_passes e at operand)
      (pass_one _ _ _ fits.declared (pass_one _ _ None (both_tests _ _ fits.table fits.index) refl))
  term_passes (one op e) at (operand, takes) =
      pass_both (node_checks scope at_node e at) _ (term_passes e at operand) (pass_one _ _ None takes refl)
  term_passes (two op e f) at (left, right, takes) =
      pass_both (node_checks scope at_node e at) _ (term_passes e at left)
      (pass_both (node_checks scope at_node f (at + nodes e)) _ (term_passes f (at + nodes e) right)
      (pass_one _ _ None takes refl))
  term_passes (choice c e f) at (test, first, second, fit) =
      pass_both (node_checks scope at_node c at) _ (term_passes c at test)
      (pass_both (node_checks scope at_node e (at + nodes c)) _ (term_passes e (at + nodes c) first)
      (pass_both (node_checks scope at_node f (at + nodes c + nodes e)) _ (term_passes f (at + nodes c + nodes e) second)
      (pass_one _ _ None (both_tests _ _ fit.test fit.parts) refl)))

-- ---- statements

module _ (scope : Scope) (x : List ℕ) (e : Term) (h : TargetSuits scope x e) where
  target_known : IsTrue (is_some (declaration_in scope x))
  target_known = rw h.declared refl

  target_variable : IsTrue (is_some (target_kind scope x))
  target_variable = rw h.declared refl

  target_takes : IsTrue (option_map_or (λ k. suits k e (kind_of scope e)) (target_kind scope x) false)
  target_takes = rw h.declared h.suits

method_known : (methods : List Routine) (m : List ℕ) → IsMethod methods m → IsTrue (is_some (body_named methods m))
method_known methods m h = rw h.named refl

module _ (scope : Scope) (methods : List Routine) (name : List ℕ) where
  eval_passes : (stmt : ℕ) (x : List ℕ) (e : Term) → IsTypedTerm scope e → TargetSuits scope x e → first_fault (eval_checks scope methods name stmt x e) ≡ None
  eval_passes stmt x e typed target =
      pass_one _ _ _ (target_known scope x e target) (pass_one _ _ _ (target_variable scope x e target)
      (pass_both (node_checks scope (place name stmt) e 0) _ (term_passes scope (place name stmt) e 0 typed)
      (pass_one _ _ None (target_takes scope x e target) refl)))

  test_passes : (stmt : ℕ) (t : Term) → IsTypedTerm scope t → IsTrue (is_truth (kind_of scope t)) → first_fault (test_checks scope methods name stmt t) ≡ None
  test_passes stmt t typed truth =
      pass_both (node_checks scope (place name stmt) t 0) _ (term_passes scope (place name stmt) t 0 typed)
      (pass_one _ _ None truth refl)

  body_passes : (at : ℕ) (b : Body) → IsTypedBody scope methods b → first_fault (body_checks scope methods name at b) ≡ None
  body_passes at done h = refl
  body_passes at (eval x e rest) (typed, target, more) =
      pass_both (eval_checks scope methods name at x e) _ (eval_passes at x e typed target) (body_passes (at + 1) rest more)
  body_passes at (branch t a b rest) (typed, truth, first, second, more) =
      pass_both (test_checks scope methods name at t) _ (test_passes at t typed truth)
      (pass_both (body_checks scope methods name (at + 1) a) _ (body_passes (at + 1) a first)
      (pass_both (body_checks scope methods name (at + 1 + written a) b) _ (body_passes (at + 1 + written a) b second)
      (body_passes (at + 1 + written a + written b) rest more)))
  body_passes at (execute m rest) (there, more) =
      pass_one _ _ _ (method_known methods m there) (body_passes (at + 1) rest more)

methods_pass : (scope : Scope) (all ms : List Routine) → All (λ m. IsTypedBody scope all m.body) ms → first_fault (routine_checks scope all ms) ≡ None
methods_pass scope all [] h = refl
methods_pass scope all (m ∷ ms) h =
    pass_both (body_checks scope all m.name 0 m.body) _ (body_passes scope all m.name 0 m.body (h 0 m (omega arith)))
    (methods_pass scope all ms (λ k d less. h (suc k) d (omega arith)))

-- ---- names

is_other : (x y : List ℕ) (t : Bool) → bytes_eq x y ≡ t → y ≢ x → t ≡ false
is_other x y true e h = absurd (h (sym ((bytes_eq-Decides x y).0 e)))
is_other x y false e h = refl

is_false : (t : Bool) → t ≡ false → IsTrue (not t)
is_false true e = absurd (true≢false e)
is_false false e = refl

-- a name behind others, among distinct ones, is new
is_new : (before : List (List ℕ)) (x : List ℕ) (names : List (List ℕ)) → AreDistinct (before ++ (x ∷ names)) → IsTrue (not (has_name before x))
is_new before x names h = is_false (has_name before x) (list_any_none (bytes_eq x) before (λ k d less. is_other x (get_or before k d) _ refl (apart k d less)))
  where
    apart : (k : ℕ) (d : List ℕ) → k < length before → get_or before k d ≢ x
    apart k d less e = h k (length before) d less (rw (length-append before (x ∷ names)) (omega arith)) (get_or_append_left before (x ∷ names) d k less ∙ e ∙ sym (get_or-append_seam before x names d))

-- a name moves to the end of those before it
moved : (before : List (List ℕ)) (x : List ℕ) (names : List (List ℕ)) → AreDistinct (before ++ (x ∷ names)) → AreDistinct ((before ++ (x ∷ [])) ++ names)
moved before x names h = rw (append_assoc before (x ∷ []) names) h

declarations_pass : (before : List (List ℕ)) (ds : List Declaration) → AreDistinct (before ++ names_of ds) → All HasItsType ds → first_fault (declaration_checks before ds) ≡ None
declarations_pass before [] distinct typed = refl
declarations_pass before (x ∷ ds) distinct typed =
    pass_one _ _ _ (is_new before x.name (names_of ds) distinct) (pass_one _ _ _ (typed 0 x (omega arith))
    (declarations_pass (before ++ (x.name ∷ [])) ds (moved before x.name (names_of ds) distinct) (λ k d less. typed (suc k) d (omega arith))))

method_names_pass : (before : List (List ℕ)) (ms : List Routine) → AreDistinct (before ++ method_names ms) → first_fault (method_checks before ms) ≡ None
method_names_pass before [] distinct = refl
method_names_pass before (m ∷ ms) distinct =
    pass_one _ _ _ (is_new before m.name (method_names ms) distinct)
    (method_names_pass (before ++ (m.name ∷ [])) ms (moved before m.name (method_names ms) distinct))

-- ---- the plan

pub well_typed : (f : Flowchart) → HasTypes f → IsWellTyped f
well_typed f h =
    pass_both (declaration_checks [] (declarations_of f)) _ (declarations_pass [] (declarations_of f) h.names h.literals)
    (pass_both (method_checks (main_name ∷ []) f.methods) _ (method_names_pass (main_name ∷ []) f.methods h.method_names)
    (pass_both (body_checks (scope_of f) f.methods main_name 0 f.main) _ (body_passes (scope_of f) f.methods main_name 0 f.main h.main)
    (methods_pass (scope_of f) f.methods f.methods h.methods)))
