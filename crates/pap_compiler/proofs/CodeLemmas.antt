-- Instructions that stand in a code, and how many an expression and a list of statements have.
use Rattle.std.proofs.Common.{◌≡◌, ℕ, ◌+◌, ◌-◌, ◌<◌, List, [], ◌∷◌, ◌++◌, length, Some, refl, ap, ◌∙◌, subst, arith, append_assoc, length-append, Bool, true, false, if◌then◌else◌}
use Rattle.std.specs.Prelude.{slice_get}
use Rattle.std.proofs.Math.Seq.{get_or-append_seam}
use Rattle.std.proofs.lemmas.Option.{slice_get-get_or}
use Rattle.pap_tree.specs.declared.expression.Binary.TheVariants as binaries
use Rattle.pap_tree.specs.Term.{whole, point, Term, leaf, item, one, two, choice, One, value_of, operator}
use Rattle.pap_tree.specs.Flowchart.{Body, done, eval, branch, execute}
use Rattle.pap_types.specs.Scopes.{Scope, at_factor_scale}
use Rattle.pap_types.specs.Kinds.{name_kind, has_few_places}
use Rattle.pap_types.specs.declared.kinds.NodeKind.{NodeKind}
use Rattle.pap_types.specs.declared.kinds.NodeKind.TheVariants.{Factor}
use Rattle.pap_machine.specs.declared.code.Instr.{Instr}
use Rattle.pap_machine.specs.declared.code.Instr.TheVariants as i
use Rattle.pap_compiler.specs.CodeDecisions.{term_length, body_length, term_code, operand_code, instr_of_one, instr_of_two, table_number, factor_code, assigned_code, body_code, slot}

-- the instructions stand in the code from this place on
abbrev pub HasAt : List Instr → ℕ → List Instr → Type 0
HasAt code at [] = Unit {0}
HasAt code at (i ∷ is) = (slice_get code at ≡ Some i) × HasAt code (at + 1) is

pub has_front : (code : List Instr) (at : ℕ) (a b : List Instr) → HasAt code at (a ++ b) → HasAt code at a
has_front code at [] b h = tt
has_front code at (i ∷ a) b h = (h.0, has_front code (at + 1) a b h.1)

pub has_back : (code : List Instr) (at n : ℕ) (a b : List Instr) → length a ≡ n → HasAt code at (a ++ b) → HasAt code (at + n) b
has_back code at n [] b l h = let e : at ≡ at + n = omega arith in subst (λ k. HasAt code k b) e h
has_back code at n (i ∷ a) b l h =
    let e : at + 1 + (n - 1) ≡ at + n = omega arith in
    subst (λ k. HasAt code k b) e (has_back code (at + 1) (n - 1) a b (omega arith) h.1)

pub has_all : (is pre : List Instr) → HasAt (pre ++ is) (length pre) is
has_all [] pre = tt
has_all (i ∷ is) pre =
    let within : length pre < length (pre ++ i ∷ is) = omega (arith, length-append pre (i ∷ is)) in
    let here = slice_get-get_or (pre ++ i ∷ is) (length pre) i within ∙ ap Some (get_or-append_seam pre i is i) in
    let n : length (pre ++ i ∷ []) ≡ length pre + 1 = omega (arith, length-append pre (i ∷ [])) in
    let rest = has_all is (pre ++ i ∷ []) in
    let rest' = subst (λ l. HasAt l (length (pre ++ i ∷ [])) is) (append_assoc pre (i ∷ []) is) rest in
    (here, subst (λ m. HasAt (pre ++ i ∷ is) m is) n rest')

-- ---- lengths

one_behind : (a : List Instr) (j : Instr) (n : ℕ) → length a ≡ n → length (a ++ j ∷ []) ≡ n + 1
one_behind a j n l = omega (arith, length-append a (j ∷ []))

pub length_operand : (op : One) (e : Term) (code : List Instr) → length code ≡ term_length e → length (operand_code op e code) ≡ term_length e
length_operand value_of (leaf (point d)) code l = refl
length_operand op e code l = l

module _ (scope : Scope) where
  pub length_term : (t : Term) (at : ℕ) → length (term_code scope at t) ≡ term_length t
  length_term (leaf l) at = refl
  length_term (item x e) at = one_behind (term_code scope at e) (i.Item (table_number scope x)) (term_length e) (length_term e at)
  length_term (one op e) at = one_behind (operand_code op e (term_code scope at e)) (instr_of_one op) (term_length e) (length_operand op e (term_code scope at e) (length_term e at))
  length_term (two (operator binaries.And) e f) at =
      let skip = i.AndSkip (at + term_length e + 1 + term_length f) in
      let cf = term_code scope (at + term_length e + 1) f in
      omega (arith, length-append (term_code scope at e) (skip ∷ cf), length_term e at, length_term f (at + term_length e + 1))
  length_term (two (operator binaries.Or) e f) at =
      let skip = i.OrSkip (at + term_length e + 1 + term_length f) in
      let cf = term_code scope (at + term_length e + 1) f in
      omega (arith, length-append (term_code scope at e) (skip ∷ cf), length_term e at, length_term f (at + term_length e + 1))
  length_term (two op e f) at =
      let cf = term_code scope (at + term_length e) f in
      let j = instr_of_two scope op f in
      omega (arith, length-append (term_code scope at e) (cf ++ j ∷ []), length-append cf (j ∷ []), length_term e at, length_term f (at + term_length e))
  length_term (choice c e f) at =
      let p = at + term_length c + 1 in
      let q = p + term_length e + 1 in
      let ce = term_code scope p e in
      let cf = term_code scope q f in
      omega (arith, length-append (term_code scope at c) (i.JumpFalse q ∷ (ce ++ i.Jump (q + term_length f) ∷ cf)), length-append ce (i.Jump (q + term_length f) ∷ cf), length_term c at, length_term e p, length_term f q)

  length_factor : (e : Term) (code : List Instr) → length code ≡ term_length e → length (factor_code e code) ≡ term_length e
  length_factor (leaf (whole n)) code l = refl
  length_factor (leaf (point d)) code l = by_places (has_few_places d)
    where
      by_places : (few : Bool) → length (if few then i.Lit (at_factor_scale d) ∷ [] else code) ≡ 1
      by_places true = refl
      by_places false = l
  length_factor e code l = l

  pub length_assigned : (k : NodeKind) (e : Term) (code : List Instr) → length code ≡ term_length e → length (assigned_code k e code) ≡ term_length e
  length_assigned Factor e code l = length_factor e code l
  length_assigned k e code l = l

  pub length_body : (to : List ℕ → ℕ) (b : Body) (at : ℕ) → length (body_code scope to at b) ≡ body_length b
  length_body to done at = refl
  length_body to (eval x e rest) at =
      let ce = assigned_code (name_kind scope x) e (term_code scope at e) in
      omega (arith, length-append ce (i.Store (slot scope x) ∷ body_code scope to (at + term_length e + 1) rest), length_assigned (name_kind scope x) e (term_code scope at e) (length_term e at), length_body to rest (at + term_length e + 1))
  length_body to (branch t a b rest) at =
      let p = at + term_length t + 1 in
      let q = p + body_length a + 1 in
      let r = q + body_length b in
      let ca = body_code scope to p a in
      let cb = body_code scope to q b in
      let cr = body_code scope to r rest in
      omega (arith, length-append (term_code scope at t) (i.JumpFalse q ∷ (ca ++ i.Jump r ∷ (cb ++ cr))), length-append ca (i.Jump r ∷ (cb ++ cr)), length-append cb cr, length_term t at, length_body to a p, length_body to b q, length_body to rest r)
  length_body to (execute m rest) at = omega (arith, length_body to rest (at + 1))
