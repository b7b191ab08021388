-- The bound of a short plan is small: each expanded statement costs at most 2,002.
use Rattle.std.proofs.Common.{◌≡◌, ℕ, zero, suc, ◌*◌, ◌≤◌, Bool, true, false, List, [], ◌∷◌, Option, Some, None, refl, subst, arith}
use Rattle.std.specs.Prelude.{All, if◌then◌else◌}
use Rattle.std.specs.Option.{option_map_or}
use Rattle.std.specs.Str.{bytes_eq}
use Rattle.std.proofs.lemmas.List.Elements.{All-head, All-tail}
use Rattle.pap_tree.specs.Term.{Term, leaf, item, one, two, choice}
use Rattle.pap_tree.specs.Numbering.{nodes}
use Rattle.pap_tree.specs.Flowchart.{Body, done, eval, branch, execute, Routine, Flowchart}
use Rattle.pap_types.specs.Routines.{body_named}
use Rattle.pap_types.specs.Bounds.{term_bound, body_bound, method_bound}
use Rattle.pap_types.specs.Counts.{IsWithinCounts, AreSmallTerms}
use Rattle.pap_types.specs.Meaning.{bound_of}
use Rattle.call_order.specs.Expanded.{expanded, expanded_of}
use Rattle.call_order.specs.Orders.{IsOrdered}

pub term_bound_small : (e : Term) → term_bound e ≤ 2 * nodes e
term_bound_small (leaf l) = omega arith
term_bound_small (item x e) = let h = term_bound_small e in omega (arith, h)
term_bound_small (one op e) = let h = term_bound_small e in omega (arith, h)
term_bound_small (two op e f) = let h = term_bound_small e in let k = term_bound_small f in omega (arith, h, k)
term_bound_small (choice c e f) = let g = term_bound_small c in let h = term_bound_small e in let k = term_bound_small f in omega (arith, g, h, k)

body_bound_small : (bound count : List ℕ → ℕ) → ((m : List ℕ) → bound m ≤ 2002 * count m) → (b : Body) → AreSmallTerms b → body_bound bound b ≤ 2002 * expanded count b
body_bound_small bound count h done s = omega arith
body_bound_small bound count h (eval x e rest) s =
    let t = term_bound_small e in
    let n = s.0.size in
    let r = body_bound_small bound count h rest s.1 in
    omega (arith, t, n, r)
body_bound_small bound count h (branch t a b rest) s =
    let u = term_bound_small t in
    let n = s.0.size in
    let p = body_bound_small bound count h a s.1 in
    let q = body_bound_small bound count h b s.2 in
    let r = body_bound_small bound count h rest s.3 in
    omega (arith, u, n, p, q, r)
body_bound_small bound count h (execute m rest) s =
    let c = h m in
    let r = body_bound_small bound count h rest s in
    omega (arith, c, r)

small_named : (ms : List Routine) → All (λ m. AreSmallTerms m.body) ms → (x : List ℕ) (b : Body) → body_named ms x ≡ Some b → AreSmallTerms b
small_named [] s x b is = absurd (cc)
small_named (m ∷ ms) s x b is = by_test (bytes_eq x m.name) (small_named ms (All-tail (λ r. AreSmallTerms r.body) m ms s) x b) is
  where
    by_test : (t : Bool) → (body_named ms x ≡ Some b → AreSmallTerms b) → (if t then Some m.body else body_named ms x) ≡ Some b → AreSmallTerms b
    by_test true more e = let same : m.body ≡ b = cc in subst AreSmallTerms same (All-head (λ r. AreSmallTerms r.body) m ms s)
    by_test false more e = more e

method_bound_small : (ms : List Routine) → All (λ m. AreSmallTerms m.body) ms → (n : ℕ) (x : List ℕ) → method_bound ms n x ≤ 2002 * expanded_of ms n x
unfolding method_bound expanded_of
method_bound_small ms s zero x = omega arith
method_bound_small ms s (suc n) x =
    by_body (body_named ms x) (λ b is. body_bound_small (method_bound ms n) (expanded_of ms n) (method_bound_small ms s n) b (small_named ms s x b is))
  where
    by_body : (o : Option Body) → ((b : Body) → o ≡ Some b → body_bound (method_bound ms n) b ≤ 2002 * expanded (expanded_of ms n) b) → option_map_or (body_bound (method_bound ms n)) o 0 ≤ 2002 * option_map_or (expanded (expanded_of ms n)) o 0
    by_body None h = omega arith
    by_body (Some b) h = h b refl

pub bound_small : (f : Flowchart) (order : List ℕ) → IsWithinCounts f → IsOrdered f order → bound_of f ≤ 1000000000
bound_small f order counts h =
    let b = body_bound_small (method_bound f.methods 64) (expanded_of f.methods 64) (method_bound_small f.methods counts.terms 64) f.main counts.main_terms in
    let s = h.short in
    omega (arith, b, s)
