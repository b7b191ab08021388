-- The sizes of a plan within its counts, and its methods one after the other.
use Rattle.std.proofs.Common.{◌≡◌, ℕ, zero, suc, ◌+◌, ◌*◌, ◌<◌, ◌≤◌, ◌^◌, max, List, [], ◌∷◌, ◌++◌, length, map, drop, get_or, refl, sym, ap, ◌∙◌, append_assoc, arith, add-one}
use Rattle.std.specs.List.{All}
use Rattle.std.proofs.lemmas.List.{drop_more}
use Rattle.std.proofs.lemmas.List.Elements.{All-head, All-tail}
use Rattle.pap_tree.specs.declared.plan.Method.{Method}
use Rattle.pap_tree.specs.declared.declaration.Declared.{Declared}
use Rattle.pap_tree.specs.Declarations.{declaration_of}
use Rattle.pap_tree.specs.Term.{Term, leaf, item, one, two, choice}
use Rattle.pap_tree.specs.Numbering.{nodes}
use Rattle.pap_tree.specs.Flowchart.{Body, done, eval, branch, execute, Routine, Flowchart, body_of, routine_of}
use Rattle.pap_tree.specs.Statements.{written}
use Rattle.pap_types.specs.Counts.{AreSmallTerms, methods_written, IsWithinCounts}
use Rattle.pap_machine.specs.declared.code.Instr.{Instr}
use Rattle.pap_machine.specs.declared.code.Instr.TheVariants as i
use Rattle.pap_compiler.specs.declared.names.Names.{Names}
use Rattle.pap_compiler.specs.CodeDecisions.{term_length, body_length, entries_from, numbers_from}
use Rattle.pap_compiler.specs.private.CodeDecisions.{methods_length, length_of}
use Rattle.pap_compiler.specs.Heights.{body_height, methods_height}
use Rattle.pap_compiler.specs.private.EmitViews.{IsAppended}
use Rattle.pap_compiler.specs.private.StatementViews.{code_in}
use Rattle.pap_compiler.specs.private.PlanViews.{methods_code_in}

term_small : (t : Term) → term_length t ≤ 2 * nodes t
term_small (leaf l) = omega arith
term_small (item x e) = omega (arith, term_small e)
term_small (one op e) = omega (arith, term_small e)
term_small (two op e f) = omega (arith, term_small e, term_small f)
term_small (choice c e f) = omega (arith, term_small c, term_small e, term_small f)

body_small : (b : Body) → AreSmallTerms b → body_length b ≤ 2002 * written b
body_small done h = omega arith
body_small (eval x e rest) h = let n = h.0.size in omega (arith, term_small e, n, body_small rest h.1)
body_small (branch t a b rest) h = let n = h.0.size in omega (arith, term_small t, n, body_small a h.1, body_small b h.2, body_small rest h.3)
body_small (execute m rest) h = omega (arith, body_small rest h)

methods_small : (ms : List Routine) → All (λ m. AreSmallTerms m.body) ms → methods_length ms ≤ 2002 * methods_written ms + length ms
methods_small [] h = omega arith
methods_small (m ∷ ms) h =
    omega (arith, body_small m.body (All-head (λ q. AreSmallTerms q.body) m ms h), methods_small ms (All-tail (λ q. AreSmallTerms q.body) m ms h))

-- code has fewer instructions than a u32 counts
pub length_small : (f : Flowchart) → IsWithinCounts f → length_of f < 2 ^ 32
length_small f h =
    let n = h.statements in
    let k = h.methods in
    omega (arith, body_small f.main h.main_terms, methods_small f.methods h.terms, n, k)

-- ---- methods one after the other

left_from : (ms : List Method) (k : ℕ) (m : Method) → m ≡ get_or ms k m → k < length ms → map routine_of (drop k ms) ≡ routine_of m ∷ map routine_of (drop (k + 1) ms)
left_from ms k m is lt = ap (map routine_of) (drop_more ms k m lt ∙ ap (λ x. x ∷ drop (k + 1) ms) (sym is))

pub record IsSplit (ms : List Method) (k : ℕ) (m : Method) : Type 0 where
  pub entries : (at : ℕ) → entries_from at (map routine_of (drop k ms)) ≡ at ∷ entries_from (at + body_length (body_of m.body.items) + 1) (map routine_of (drop (k + 1) ms))
  pub length : methods_length (map routine_of (drop k ms)) ≡ body_length (body_of m.body.items) + 1 + methods_length (map routine_of (drop (k + 1) ms))
  pub height : methods_height (map routine_of (drop k ms)) ≡ max (body_height (body_of m.body.items)) (methods_height (map routine_of (drop (k + 1) ms)))

pub split_at : (ms : List Method) (k : ℕ) (m : Method) → m ≡ get_or ms k m → k < length ms → IsSplit ms k m
split_at ms k m is lt =
    let left = left_from ms k m is lt in
    record { entries = λ at. ap (entries_from at) left; length = ap methods_length left; height = ap methods_height left }

module _ (n : Names) where
  -- some methods are left: with their code, what was appended is the whole
  pub record ArePartly (ms : List Method) (k : ℕ) (old now : List Instr) : Type 0 where
    pub whole : now ++ methods_code_in n (length now) (map routine_of (drop k ms)) ≡ old ++ methods_code_in n (length old) (map routine_of ms)
    pub place : length now + methods_length (map routine_of (drop k ms)) ≡ length old + methods_length (map routine_of ms)

  pub one_method : (ms : List Method) (k : ℕ) (m : Method) (old now mid new : List Instr) → m ≡ get_or ms k m → k < length ms → ArePartly ms k old now → IsAppended now (code_in n (length now) (body_of m.body.items)) (body_length (body_of m.body.items)) mid → IsAppended mid (i.Return ∷ []) 1 new → ArePartly ms (k + 1) old new
  one_method ms k m old now mid new is lt h h1 h2 =
      let b = body_of m.body.items in
      let code = code_in n (length now) b in
      let rest = map routine_of (drop (k + 1) ms) in
      let left = left_from ms k m is lt in
      let place : length new ≡ length now + body_length b + 1 = omega (arith, h1.place, h2.place) in
      let all : new ≡ (now ++ code) ++ i.Return ∷ [] = h2.code ∙ ap (λ c. c ++ i.Return ∷ []) h1.code in
      let p = length now + body_length b + 1 in
      let first : new ++ methods_code_in n (length new) rest ≡ now ++ (code ++ i.Return ∷ methods_code_in n p rest) = ap (λ q. new ++ methods_code_in n q rest) place ∙ ap (λ c. c ++ methods_code_in n p rest) all ∙ simp append_assoc in
      let whole : new ++ methods_code_in n (length new) rest ≡ old ++ methods_code_in n (length old) (map routine_of ms) = first ∙ ap (λ l. now ++ methods_code_in n (length now) l) (sym left) ∙ h.whole in
      record {
        whole = whole;
        place = omega (arith, place, h.place, ap methods_length left);
      }

-- ---- declarations

numbers_behind : (ds : List Declared) (j k : ℕ) → k < length ds → numbers_from j (map declaration_of (drop k ds)) ≡ j ∷ numbers_from (j + 1) (map declaration_of (drop (suc k) ds))
numbers_behind [] j k lt = absurd (omega arith)
numbers_behind (d ∷ ds) j zero lt = refl
numbers_behind (d ∷ ds) j (suc k) lt = numbers_behind ds j k (omega arith)

pub numbers_at : (ds : List Declared) (j k : ℕ) → k < length ds → numbers_from j (map declaration_of (drop k ds)) ≡ j ∷ numbers_from (j + 1) (map declaration_of (drop (k + 1) ds))
numbers_at ds j k lt = numbers_behind ds j k lt ∙ ap (λ n. j ∷ numbers_from (j + 1) (map declaration_of (drop n ds))) (sym (add-one k))
