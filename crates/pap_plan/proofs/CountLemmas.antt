-- A plan that is read is within the counts of plans.
use Rattle.std.proofs.Common.{◌≡◌, ℕ, ◌+◌, ◌≤◌, max, List, [], ◌∷◌, length, suc, refl, ap, ap₂, subst, arith}
use Rattle.std.specs.List.{All}
use Rattle.std.proofs.lemmas.List.Elements.{All-nil, All-cons}
use Rattle.pap_tree.specs.Term.{Term}
use Rattle.pap_tree.specs.Grammar.{Level, Assignment, tree, assignment}
use Rattle.pap_tree.specs.Expressions.{IsAccepted}
use Rattle.pap_tree.specs.Tokens.{plain}
use Rattle.pap_tree.specs.Declarations.{Declaration}
use Rattle.pap_tree.specs.Flowchart.{Body, done, eval, branch, execute, Routine, Flowchart}
use Rattle.pap_tree.specs.Statements.{written}
use Rattle.expr_grammar.proofs.Laws.{bounded, bytes_keep}
use Rattle.pap_reader.specs.Trees.{RawDeclaration, RawBody, RawRoutine}
use Rattle.pap_reader.specs.Trees as raw
use Rattle.pap_reader.specs.TreeLimits.{raw_written, raw_nesting}
use Rattle.pap_reader.specs.TreeLimits as raws
use Rattle.pap_reader.proofs.Laws.{small_tree}
use Rattle.pap_types.specs.Counts.{IsSmallTerm, AreSmallTerms, nesting, methods_written, methods_nesting, IsWithinCounts}
use Rattle.plan_text.specs.Plans.{AreDeclarations, IsBody, AreRoutines, IsPlan}

-- ---- expressions

test_small : (bytes : List ℕ) (t : Term) → IsAccepted (Level 0) bytes (tree t) → IsSmallTerm t
test_small bytes t h = record {
  size = bounded (Level 0) (plain h.spots) (tree t) refl h.text h.read;
  scales = bytes_keep (Level 0) bytes (tree t) (record { spots = h.spots; tokens = h.tokens; text = h.text });
}

assignment_small : (bytes name : List ℕ) (t : Term) → IsAccepted Assignment bytes (assignment name t) → IsSmallTerm t
assignment_small bytes name t h = record {
  size = bounded Assignment (plain h.spots) (assignment name t) refl h.text h.read;
  scales = bytes_keep Assignment bytes (assignment name t) (record { spots = h.spots; tokens = h.tokens; text = h.text });
}

-- ---- lists of statements: as many, nested as deep, of small expressions

pub record IsLike (r : RawBody) (b : Body) : Type 0 where
  pub count : raw_written r ≡ written b
  pub depth : raw_nesting r ≡ nesting b
  pub terms : AreSmallTerms b

body_like : (r : RawBody) (b : Body) → IsBody r b → IsLike r b
body_like raw.done done h = record { count = refl; depth = refl; terms = tt }
body_like raw.done (eval x e more) h = absurd h
body_like raw.done (branch t u v more) h = absurd h
body_like raw.done (execute x more) h = absurd h
body_like (raw.eval bytes rest) done h = absurd h
body_like (raw.eval bytes rest) (eval x e more) h =
    let k = body_like rest more h.1 in
    record { count = ap (λ n. 1 + n) k.count; depth = k.depth; terms = (assignment_small bytes x e h.0, k.terms) }
body_like (raw.eval bytes rest) (branch t u v more) h = absurd h
body_like (raw.eval bytes rest) (execute x more) h = absurd h
body_like (raw.branch bytes a b rest) done h = absurd h
body_like (raw.branch bytes a b rest) (eval x e more) h = absurd h
body_like (raw.branch bytes a b rest) (branch t u v more) h =
    let i = body_like a u h.1 in
    let j = body_like b v h.2 in
    let k = body_like rest more h.3 in
    record {
      count = omega (arith, i.count, j.count, k.count);
      depth = ap₂ max (ap (λ n. 1 + n) (ap₂ max i.depth j.depth)) k.depth;
      terms = (test_small bytes t h.0, i.terms, j.terms, k.terms);
    }
body_like (raw.branch bytes a b rest) (execute x more) h = absurd h
body_like (raw.execute x rest) done h = absurd h
body_like (raw.execute x rest) (eval y e more) h = absurd h
body_like (raw.execute x rest) (branch t u v more) h = absurd h
body_like (raw.execute x rest) (execute y more) h =
    let k = body_like rest more h.1 in
    record { count = ap (λ n. 1 + n) k.count; depth = k.depth; terms = k.terms }

pub record AreLike (rs : List RawRoutine) (ms : List Routine) : Type 0 where
  pub number : length rs ≡ length ms
  pub count : raws.methods_written rs ≡ methods_written ms
  pub depth : raws.methods_nesting rs ≡ methods_nesting ms
  pub terms : All (λ m. AreSmallTerms m.body) ms

routines_like : (rs : List RawRoutine) (ms : List Routine) → AreRoutines rs ms → AreLike rs ms
routines_like [] [] h = record { number = refl; count = refl; depth = refl; terms = All-nil (λ m. AreSmallTerms m.body) }
routines_like [] (m ∷ ms) h = absurd h
routines_like (r ∷ rs) [] h = absurd h
routines_like (r ∷ rs) (m ∷ ms) h =
    let i = body_like r.body m.body h.1 in
    let k = routines_like rs ms h.2 in
    record {
      number = ap suc k.number;
      count = ap₂ (λ a b. a + b) i.count k.count;
      depth = ap₂ max i.depth k.depth;
      terms = All-cons (λ m. AreSmallTerms m.body) m ms i.terms k.terms;
    }

declared_like : (rs : List RawDeclaration) (ds : List Declaration) → AreDeclarations rs ds → length rs ≡ length ds
declared_like [] [] h = refl
declared_like [] (d ∷ ds) h = absurd h
declared_like (r ∷ rs) [] h = absurd h
declared_like (r ∷ rs) (d ∷ ds) h = ap suc (declared_like rs ds h.1)

pub counted : (bytes : List ℕ) (f : Flowchart) → IsPlan bytes f → IsWithinCounts f
counted bytes f h =
    let x = h.elements in
    let s = small_tree bytes x h.read in
    let i = body_like x.main f.main h.flowchart.main in
    let k = routines_like x.methods f.methods h.flowchart.methods in
    record {
      inputs = omega (arith, s.inputs, declared_like x.inputs f.inputs h.flowchart.inputs);
      outputs = omega (arith, s.outputs, declared_like x.outputs f.outputs h.flowchart.outputs);
      internals = omega (arith, s.internals, declared_like x.internals f.internals h.flowchart.internals);
      constants = omega (arith, s.constants, declared_like x.constants f.constants h.flowchart.constants);
      methods = omega (arith, s.methods, k.number);
      statements = omega (arith, s.statements, i.count, k.count);
      main_nesting = subst (λ n. n ≤ 32) i.depth s.main_nesting;
      nesting = subst (λ n. n ≤ 32) k.depth s.nesting;
      main_terms = i.terms;
      terms = k.terms;
    }
