-- The code of a list of statements, as it is appended.
use Rattle.std.proofs.Common.{◌≡◌, ℕ, ◌+◌, ◌<◌, ◌≤◌, List, [], ◌∷◌, ◌++◌, length, drop, get_or, sym, ap, ◌∙◌, append_assoc, Result, Ok, Err, OnOk, arith}
use Rattle.pap_tree.specs.declared.plan.Stmt.{Stmt}
use Rattle.pap_tree.specs.Term.{Term}
use Rattle.pap_tree.specs.Flowchart.{Body, done, eval, branch, execute, body_of, stmt_then}
use Rattle.pap_tree.proofs.Laws.{stmt_at}
use Rattle.pap_types.specs.Kinds.{name_kind}
use Rattle.pap_machine.specs.declared.code.Instr.{Instr}
use Rattle.pap_machine.specs.declared.code.Instr.TheVariants as i
use Rattle.pap_compiler.specs.declared.names.Names.{Names}
use Rattle.pap_compiler.specs.CodeDecisions.{term_length, term_code, body_length, assigned_code, slot, entry, first_method}
use Rattle.pap_compiler.specs.private.NameViews.{plan_in, scope_of_names}
use Rattle.pap_compiler.specs.private.EmitViews.{IsAppended}
use Rattle.pap_compiler.specs.private.StatementViews.{code_in, IsLedOn}
use Rattle.pap_compiler.proofs.SizeLemmas.{length_then}

module _ (n : Names) where
  pub eval_whole : (x : List ℕ) (e : Term) (old c1 new : List Instr) → IsAppended old (assigned_code (name_kind (scope_of_names n) x) e (term_code (scope_of_names n) (length old) e)) (term_length e) c1 → IsAppended c1 (i.Store (slot (scope_of_names n) x) ∷ []) 1 new → IsLedOn n (eval x e) old new
  eval_whole x e old c1 new h1 h2 =
      let code = assigned_code (name_kind (scope_of_names n) x) e (term_code (scope_of_names n) (length old) e) in
      let store = i.Store (slot (scope_of_names n) x) in
      let place : length new ≡ length old + term_length e + 1 = omega (arith, h1.place, h2.place) in
      let all : new ≡ (old ++ code) ++ store ∷ [] = h2.code ∙ ap (λ c. c ++ store ∷ []) h1.code in
      record {
        whole = λ rest. ap (λ k. new ++ code_in n k rest) place ∙ ap (λ c. c ++ code_in n (length old + term_length e + 1) rest) all ∙ simp append_assoc;
        place = omega (arith, place);
      }

  pub execute_whole : (m : List ℕ) (old new : List Instr) → IsAppended old (i.Call (entry (first_method (plan_in n)) (plan_in n).methods m) ∷ []) 1 new → IsLedOn n (execute m) old new
  execute_whole m old new h = record {
    whole = λ rest. ap (λ k. new ++ code_in n k rest) h.place ∙ ap (λ c. c ++ code_in n (length old + 1) rest) h.code ∙ simp append_assoc;
    place = omega (arith, h.place);
  }

  pub if_whole : (t : Term) (a b : Body) (old new : List Instr) →
      IsAppended old (term_code (scope_of_names n) (length old) t ++ i.JumpFalse (length old + term_length t + 1 + body_length a + 1) ∷ (code_in n (length old + term_length t + 1) a ++ i.Jump (length old + term_length t + 1 + body_length a + 1 + body_length b) ∷ code_in n (length old + term_length t + 1 + body_length a + 1) b)) (term_length t + 1 + body_length a + 1 + body_length b) new → IsLedOn n (branch t a b) old new
  if_whole t a b old new h =
      let r = length old + term_length t + 1 + body_length a + 1 + body_length b in
      let place : length new ≡ r = omega (arith, h.place) in
      record {
        whole = λ rest. ap (λ k. new ++ code_in n k rest) place ∙ ap (λ c. c ++ code_in n r rest) h.code ∙ simp append_assoc;
        place = omega (arith, h.place);
      }

  -- ---- a loop over statements

  -- some statements are left: with their code, what was appended is the whole
  pub record IsPartly (ss : List Stmt) (k : ℕ) (old now : List Instr) : Type 0 where
    pub whole : now ++ code_in n (length now) (body_of (drop k ss)) ≡ old ++ code_in n (length old) (body_of ss)
    pub place : length now + body_length (body_of (drop k ss)) ≡ length old + body_length (body_of ss)
    pub grown : length old ≤ length now

  pub one_more : (ss : List Stmt) (k : ℕ) (s : Stmt) (old now new : List Instr) → s ≡ get_or ss k s → k < length ss → IsPartly ss k old now → IsLedOn n (stmt_then s) now new → IsPartly ss (k + 1) old new
  one_more ss k s old now new is lt h led =
      let rest = body_of (drop (k + 1) ss) in
      let at = stmt_at ss k s is lt in
      record {
        whole = led.whole rest ∙ ap (λ b. now ++ code_in n (length now) b) (sym at) ∙ h.whole;
        place = omega (arith, led.place, h.place, ap body_length at, length_then s rest);
        grown = omega (arith, led.place, h.grown);
      }

-- the same by another name of the statement
pub led_as : {A E : Type 0} (n : Names) (r : Result A E) (one other : Body → Body) (old new : List Instr) → ((rest : Body) → one rest ≡ other rest) → OnOk r (IsLedOn n one old new) → OnOk r (IsLedOn n other old new)
led_as n (Ok x) one other old new same h = record {
  whole = λ rest. h.whole rest ∙ ap (λ b. old ++ code_in n (length old) b) (same rest);
  place = h.place ∙ ap (λ b. length old + body_length b) (same done);
}
led_as n (Err e) one other old new same h = tt
