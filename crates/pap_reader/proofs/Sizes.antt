-- How much nested marks say, by the elements that count.
use Rattle.std.proofs.Common.{◌≡◌, ℕ, ◌+◌, ◌≤◌, Option, Some, None, List, [], ◌∷◌, ◌++◌, length, map, refl, ap, ◌∙◌, arith}
use Rattle.std.specs.Prelude.{count_by}
use Rattle.std.proofs.lemmas.List.{length-append}
use Rattle.pap_reader.specs.declared.element.Element.{Element}
use Rattle.pap_reader.specs.declared.element.Element.TheVariants as elements
use Rattle.pap_reader.specs.declared.fault.Which.{Which}
use Rattle.pap_reader.specs.declared.fault.Which.TheVariants as which
use Rattle.pap_reader.specs.Structure.{opens, closes}
use Rattle.pap_reader.specs.Tags.{Attribute}
use Rattle.pap_reader.specs.Marks.{Mark, begins, ends, shape}
use Rattle.pap_reader.specs.Trees.{RawBody, done, eval, branch, execute, RawRoutine}
use Rattle.pap_reader.specs.Meaning.{join, Piece, nothing, both, later, or_done, routine, adds, says, ElementsSay, none, node}
use Rattle.pap_reader.specs.Limits.{counts, is_counted}
use Rattle.pap_reader.specs.TreeLimits.{raw_written, methods_written}
use Rattle.pap_reader.specs.private.Views.{one_if}
use Rattle.pap_reader.proofs.Completion.{count_by-append, count_by-cons}
use Rattle.pap_reader.proofs.Exact.{map-append}

-- a size of pieces that no more than the counted elements add to
pub record Measures (w : Which) (size : Piece → ℕ) : Type 0 where
  pub at_nothing : size nothing ≡ 0
  pub of_both : (p q : Piece) → size (both p q) ≤ size p + size q
  pub of_element : (e : Element) (attributes : List Attribute) (p : Piece) → size (says e attributes p) ≤ size p + one_if (is_counted w e)

count_node : (w : Which) (e : Element) (attributes : List Attribute) (inside rest : List Mark)
    → count_by (counts w) (map shape (begins e attributes ∷ (inside ++ (ends e ∷ rest)))) ≡ one_if (is_counted w e) + (count_by (counts w) (map shape inside) + count_by (counts w) (map shape rest))
count_node w e attributes inside rest =
    count_by-cons (counts w) (opens e) (map shape (inside ++ (ends e ∷ rest)))
    ∙ ap (λ ss. one_if (is_counted w e) + count_by (counts w) ss) (map-append inside (ends e ∷ rest))
    ∙ ap (λ n. one_if (is_counted w e) + n) (count_by-append (counts w) (map shape inside) (closes e ∷ map shape rest))

pub measured : (w : Which) (size : Piece → ℕ) → Measures w size → {ms : List Mark} {p : Piece} → ElementsSay ms p → size p ≤ count_by (counts w) (map shape ms)
measured w size h none = let e = h.at_nothing in omega arith
measured w size h (node {inside} {rest} {p} {q} e attributes i r) =
    let a = measured w size h i in
    let b = measured w size h r in
    let c = h.of_element e attributes p in
    let d = h.of_both (says e attributes p) q in
    let f = count_node w e attributes inside rest in
    omega arith

-- ---- declared names and methods

added_inputs : (e : Element) (attributes : List Attribute) (p : Piece) → length (adds e attributes p).inputs ≤ one_if (is_counted which.Inputs e)
added_inputs elements.Input attributes p = omega arith
added_inputs e attributes p = omega arith

pub inputs_size : Measures which.Inputs (λ p. length p.inputs)
inputs_size = record {
  at_nothing = refl;
  of_both = λ p q. let l = length-append p.inputs q.inputs in omega arith;
  of_element = λ e attributes p. let l = length-append p.inputs (adds e attributes p).inputs in let a = added_inputs e attributes p in omega arith;
}

added_outputs : (e : Element) (attributes : List Attribute) (p : Piece) → length (adds e attributes p).outputs ≤ one_if (is_counted which.Outputs e)
added_outputs elements.Output attributes p = omega arith
added_outputs e attributes p = omega arith

pub outputs_size : Measures which.Outputs (λ p. length p.outputs)
outputs_size = record {
  at_nothing = refl;
  of_both = λ p q. let l = length-append p.outputs q.outputs in omega arith;
  of_element = λ e attributes p. let l = length-append p.outputs (adds e attributes p).outputs in let a = added_outputs e attributes p in omega arith;
}

added_internals : (e : Element) (attributes : List Attribute) (p : Piece) → length (adds e attributes p).internals ≤ one_if (is_counted which.Internals e)
added_internals elements.Internal attributes p = omega arith
added_internals e attributes p = omega arith

pub internals_size : Measures which.Internals (λ p. length p.internals)
internals_size = record {
  at_nothing = refl;
  of_both = λ p q. let l = length-append p.internals q.internals in omega arith;
  of_element = λ e attributes p. let l = length-append p.internals (adds e attributes p).internals in let a = added_internals e attributes p in omega arith;
}

added_constants : (e : Element) (attributes : List Attribute) (p : Piece) → length (adds e attributes p).constants ≤ one_if (is_counted which.Constants e)
added_constants elements.Constant attributes p = omega arith
added_constants e attributes p = omega arith

pub constants_size : Measures which.Constants (λ p. length p.constants)
constants_size = record {
  at_nothing = refl;
  of_both = λ p q. let l = length-append p.constants q.constants in omega arith;
  of_element = λ e attributes p. let l = length-append p.constants (adds e attributes p).constants in let a = added_constants e attributes p in omega arith;
}

added_methods : (e : Element) (attributes : List Attribute) (p : Piece) → length (adds e attributes p).methods ≤ one_if (is_counted which.Methods e)
added_methods elements.Method attributes p = omega arith
added_methods e attributes p = omega arith

pub methods_size : Measures which.Methods (λ p. length p.methods)
methods_size = record {
  at_nothing = refl;
  of_both = λ p q. let l = length-append p.methods q.methods in omega arith;
  of_element = λ e attributes p. let l = length-append p.methods (adds e attributes p).methods in let a = added_methods e attributes p in omega arith;
}

-- ---- statements

written_join : (a b : RawBody) → raw_written (join a b) ≡ raw_written a + raw_written b
written_join done b = omega arith
written_join (eval x a) b = let h = written_join a b in omega arith
written_join (branch x y n a) b = let h = written_join a b in omega arith
written_join (execute x a) b = let h = written_join a b in omega arith

written_later : (a b : Option RawBody) → raw_written (or_done (later a b)) ≤ raw_written (or_done a) + raw_written (or_done b)
written_later a None = omega arith
written_later a (Some b) = omega arith

written_append : (xs ys : List RawRoutine) → methods_written (xs ++ ys) ≡ methods_written xs + methods_written ys
written_append [] ys = omega arith
written_append (x ∷ xs) ys = let h = written_append xs ys in omega arith

-- all statements that a piece has
abbrev pub all_written : Piece → ℕ
all_written p =
    raw_written p.statements + raw_written (or_done p.yes) + raw_written (or_done p.no)
    + raw_written (or_done p.main) + methods_written p.methods

written_both : (p q : Piece) → all_written (both p q) ≤ all_written p + all_written q
written_both p q =
    let a = written_join p.statements q.statements in
    let b = written_later p.yes q.yes in
    let c = written_later p.no q.no in
    let d = written_later p.main q.main in
    let e = written_append p.methods q.methods in
    omega arith

written_element : (e : Element) (attributes : List Attribute) (p : Piece) → all_written (says e attributes p) ≤ all_written p + one_if (is_counted which.Statements e)
written_element elements.Method attributes p = let l = written_append p.methods (routine attributes p.statements ∷ []) in omega arith
written_element e attributes p = let l = written_append p.methods [] in omega arith

pub statements_size : Measures which.Statements all_written
statements_size = record { at_nothing = refl; of_both = written_both; of_element = written_element }
