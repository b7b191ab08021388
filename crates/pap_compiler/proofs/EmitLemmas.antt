-- Instructions that are appended, and then written over.
use Rattle.std.proofs.Common.{◌≡◌, ℕ, ◌+◌, List, [], ◌∷◌, ◌++◌, length, sym, ap, ◌∙◌, append_assoc, length-append, arith}
use Rattle.std.specs.Prelude.{slice_set}
use Rattle.std.proofs.Math.Seq.{set-append_seam}
use Rattle.std.proofs.lemmas.List.{length-set}
use Rattle.pap_tree.specs.declared.expression.Binary.{Binary}
use Rattle.pap_tree.specs.Term.{Term}
use Rattle.pap_types.specs.Scopes.{Scope}
use Rattle.pap_machine.specs.declared.code.Instr.{Instr}
use Rattle.pap_machine.specs.declared.code.Instr.TheVariants as i
use Rattle.pap_compiler.specs.CodeDecisions.{term_length, term_code}
use Rattle.pap_compiler.specs.private.EmitViews.{IsAppended, skip_to, skip_code}

-- one instruction and then others
pub one_and_more : (c1 c2 c3 more : List Instr) (j : Instr) → c2 ≡ c1 ++ j ∷ [] → c3 ≡ c2 ++ more → c3 ≡ c1 ++ j ∷ more
one_and_more c1 c2 c3 more j e f = f ∙ ap (λ c. c ++ more) e ∙ append_assoc c1 (j ∷ []) more

-- an instruction written over
pub patched : (c1 c2 new more : List Instr) (j k : Instr) (at : ℕ) → c2 ≡ c1 ++ j ∷ more → at ≡ length c1 → new ≡ slice_set c2 at k → new ≡ c1 ++ k ∷ more
patched c1 c2 new more j k at e n is = is ∙ ap (λ c. slice_set c at k) e ∙ ap (λ m. slice_set (c1 ++ j ∷ more) m k) n ∙ set-append_seam c1 j more k

pub length_patched : (c2 new : List Instr) (k : Instr) (at : ℕ) → new ≡ slice_set c2 at k → length new ≡ length c2
length_patched c2 new k at is = ap length is ∙ length-set c2 at k

pub joined_whole : (scope : Scope) (op : Binary) (e f : Term) (old c1 c2 c3 new : List Instr) (at end : ℕ) (j : Instr) → IsAppended old (term_code scope (length old) e) (term_length e) c1 → IsAppended c1 (j ∷ []) 1 c2 → IsAppended c2 (term_code scope (length c2) f) (term_length f) c3 →
    at ≡ length c1 → end ≡ length c3 → new ≡ slice_set c3 at (skip_to op end) → IsAppended old (skip_code scope op (length old) e f) (term_length e + term_length f + 1) new
joined_whole scope op e f old c1 c2 c3 new at end j h1 h2 h3 n m is =
    let p = length old + term_length e + 1 in
    let ce = term_code scope (length old) e in
    let cf = term_code scope p f in
    let place : length c2 ≡ p = omega (arith, h1.place, h2.place) in
    let last : end ≡ p + term_length f = omega (arith, h3.place) in
    let first = one_and_more c1 c2 c3 cf j h2.code (h3.code ∙ ap (λ k. c2 ++ term_code scope k f) place) in
    let all = patched c1 c3 new cf j (skip_to op end) at first n is in
    let whole : new ≡ old ++ (ce ++ skip_to op (p + term_length f) ∷ cf) =
    all ∙ ap (λ c. c ++ skip_to op end ∷ cf) h1.code ∙ ap (λ k. (old ++ ce) ++ skip_to op k ∷ cf) last ∙ append_assoc old ce (skip_to op (p + term_length f) ∷ cf) in
    record { code = whole; place = omega (arith, length_patched c3 new (skip_to op end) at is, h1.place, h2.place, h3.place) }

-- a code of two jumps: a test, a first part and a second one
pub jumps_whole : (old c1 c2 c3 c4 c5 c6 new ct ca cb : List Instr) (t a b at to q r : ℕ) → IsAppended old ct t c1 → IsAppended c1 (i.JumpFalse 0 ∷ []) 1 c2 → IsAppended c2 ca a c3 → IsAppended c3 (i.Jump 0 ∷ []) 1 c4 →
    at ≡ length c1 → q ≡ length c4 → c5 ≡ slice_set c4 at (i.JumpFalse q) → IsAppended c5 cb b c6 → to ≡ length c3 → r ≡ length c6 → new ≡ slice_set c6 to (i.Jump r) →
    IsAppended old (ct ++ i.JumpFalse (length old + t + 1 + a + 1) ∷ (ca ++ i.Jump (length old + t + 1 + a + 1 + b) ∷ cb)) (t + 1 + a + 1 + b) new
jumps_whole old c1 c2 c3 c4 c5 c6 new ct ca cb t a b at to q r h1 h2 h3 h4 n m is h6 n' m' is' =
    let q0 = length old + t + 1 + a + 1 in
    let r0 = q0 + b in
    let l5 = length_patched c4 c5 (i.JumpFalse q) at is in
    let l7 = length_patched c6 new (i.Jump r) to is' in
    let q_is : q ≡ q0 = omega (arith, h1.place, h2.place, h3.place, h4.place) in
    let r_is : r ≡ r0 = omega (arith, h1.place, h2.place, h3.place, h4.place, l5, h6.place) in
    let e3 = one_and_more c1 c2 c3 ca (i.JumpFalse 0) h2.code h3.code in
    let e4 : c4 ≡ c1 ++ i.JumpFalse 0 ∷ (ca ++ i.Jump 0 ∷ []) = h4.code ∙ ap (λ c. c ++ i.Jump 0 ∷ []) e3 ∙ append_assoc c1 (i.JumpFalse 0 ∷ ca) (i.Jump 0 ∷ []) in
    let e5 = patched c1 c4 c5 (ca ++ i.Jump 0 ∷ []) (i.JumpFalse 0) (i.JumpFalse q) at e4 n is in
    -- the front that the second jump stands behind
    let front = c1 ++ i.JumpFalse q ∷ ca in
    let e6 : c6 ≡ front ++ i.Jump 0 ∷ cb = h6.code ∙ ap (λ c. c ++ cb) e5 ∙ simp append_assoc in
    let fl : length front ≡ length c3 = omega (arith, ap length e3, length-append c1 (i.JumpFalse q ∷ ca), length-append c1 (i.JumpFalse 0 ∷ ca)) in
    let e7 = patched front c6 new cb (i.Jump 0) (i.Jump r) to e6 (n' ∙ sym fl) is' in
    let whole : new ≡ old ++ (ct ++ i.JumpFalse q0 ∷ (ca ++ i.Jump r0 ∷ cb)) =
    e7 ∙ ap (λ c. (c ++ i.JumpFalse q ∷ ca) ++ i.Jump r ∷ cb) h1.code ∙ ap (λ k. ((old ++ ct) ++ i.JumpFalse k ∷ ca) ++ i.Jump r ∷ cb) q_is ∙ ap (λ k. ((old ++ ct) ++ i.JumpFalse q0 ∷ ca) ++ i.Jump k ∷ cb) r_is ∙ simp append_assoc in
    record { code = whole; place = omega (arith, l7, h6.place, l5, h4.place, h3.place, h2.place, h1.place) }
