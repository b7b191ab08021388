-- How deep the IFs of nested marks stand in one another.
use Rattle.std.proofs.Common.{◌≡◌, ℕ, ◌+◌, ◌≤◌, max, ◌⊎◌, inl, inr, Option, Some, None, List, [], ◌∷◌, ◌++◌, map, refl, sym, ap, subst, ◌∙◌, append_assoc, arith}
use Rattle.std.proofs.lemmas.Bool.{cases_Bool}
use Rattle.pap_reader.specs.declared.element.Element.{Element}
use Rattle.pap_reader.specs.declared.element.Element.TheVariants as elements
use Rattle.pap_reader.specs.declared.fault.Which.TheVariants as which
use Rattle.pap_reader.specs.Table.{may_stand}
use Rattle.pap_reader.specs.Structure.{Shape, opens, closes, IsDocument}
use Rattle.pap_reader.specs.private.NestingDecisions.{Open, enters, start}
use Rattle.pap_reader.specs.Tags.{Attribute, Tag}
use Rattle.pap_reader.specs.Tokens.{PlacedTag}
use Rattle.pap_reader.specs.Marks.{Mark, begins, ends, marks_by, marks_of, marks, shape, shapes, element_of}
use Rattle.pap_reader.specs.Trees.{RawBody, done, eval, branch, execute, RawRoutine}
use Rattle.pap_reader.specs.Meaning.{join, Piece, both, later, or_done, routine, says, ElementsSay, none, node}
use Rattle.pap_reader.specs.Limits.{IsWithin}
use Rattle.pap_reader.specs.private.CountDecisions.{deeper, depth_from}
use Rattle.pap_reader.specs.TreeLimits.{raw_nesting, methods_nesting}
use Rattle.pap_reader.proofs.Completion.{document_read}
use Rattle.pap_reader.proofs.Fronts.{enters_then, enters_front, no_some}
use Rattle.pap_reader.proofs.Exact.{map-append, shapes-append}
use Rattle.pap_reader.proofs.ReaderSteps.{depth-one}
use Rattle.pap_reader.proofs.OpenIfs.{tallied}
use Rattle.pap_reader.specs.declared.tags.Form.{Form}
use Rattle.pap_reader.specs.declared.tags.Form.TheVariants as forms

-- ---- what a piece says at a depth

pub record IsDeep (d : ℕ) (p : Piece) : Type 0 where
  pub statements : d + raw_nesting p.statements ≤ 32
  pub yes : d + raw_nesting (or_done p.yes) ≤ 32
  pub no : d + raw_nesting (or_done p.no) ≤ 32
  pub main : d + raw_nesting (or_done p.main) ≤ 32
  pub methods : d + methods_nesting p.methods ≤ 32

nesting_join : (a b : RawBody) → raw_nesting (join a b) ≡ max (raw_nesting a) (raw_nesting b)
nesting_join done b = omega arith
nesting_join (eval x a) b = nesting_join a b
nesting_join (branch x y n a) b = let h = nesting_join a b in omega arith
nesting_join (execute x a) b = nesting_join a b

nesting_later : (a b : Option RawBody) → raw_nesting (or_done (later a b)) ≤ max (raw_nesting (or_done a)) (raw_nesting (or_done b))
nesting_later a None = omega arith
nesting_later a (Some b) = omega arith

nesting_append : (xs ys : List RawRoutine) → methods_nesting (xs ++ ys) ≡ max (methods_nesting xs) (methods_nesting ys)
nesting_append [] ys = omega arith
nesting_append (x ∷ xs) ys = let h = nesting_append xs ys in omega arith

below : (d n a b : ℕ) → n ≤ max a b → d + a ≤ 32 → d + b ≤ 32 → d + n ≤ 32
below d n a b h i j = omega arith

deep_both : (d : ℕ) (p q : Piece) → IsDeep d p → IsDeep d q → IsDeep d (both p q)
deep_both d p q h k = record {
  statements = below d _ _ _ (let e = nesting_join p.statements q.statements in omega arith) h.statements k.statements;
  yes = below d _ _ _ (nesting_later p.yes q.yes) h.yes k.yes;
  no = below d _ _ _ (nesting_later p.no q.no) h.no k.no;
  main = below d _ _ _ (nesting_later p.main q.main) h.main k.main;
  methods = below d _ _ _ (let e = nesting_append p.methods q.methods in omega arith) h.methods k.methods;
}

deep_element : (d : ℕ) (e : Element) (attributes : List Attribute) (p : Piece) → d ≤ 32 → IsDeep (deeper d (opens e)) p → IsDeep d (says e attributes p)
deep_element d elements.If attributes p le h =
    let a = h.yes in
    let b = h.no in
    let c = h.main in
    let m = h.methods in
    let l = nesting_append p.methods [] in
    record { statements = omega arith; yes = omega arith; no = omega arith; main = omega arith; methods = omega arith }
deep_element d elements.Method attributes p le h =
    let s = h.statements in
    let c = h.main in
    let m = h.methods in
    let l = nesting_append p.methods (routine attributes p.statements ∷ []) in
    record { statements = omega arith; yes = omega arith; no = omega arith; main = omega arith; methods = omega arith }
deep_element d e attributes p le h =
    let s = h.statements in
    let c = h.main in
    let m = h.methods in
    let l = nesting_append p.methods [] in
    record { statements = omega arith; yes = omega arith; no = omega arith; main = omega arith; methods = omega arith }

-- ---- depths along nested marks

depth_append : (d : ℕ) (a b : List Shape) → depth_from d (a ++ b) ≡ depth_from (depth_from d a) b
depth_append d [] b = refl
depth_append d (s ∷ a) b = depth_append (deeper d s) a b

back : (d : ℕ) (e : Element) → deeper (deeper d (opens e)) (closes e) ≡ d
back d elements.If = omega arith
back d e = refl

level : {ms : List Mark} {p : Piece} → ElementsSay ms p → (d : ℕ) → depth_from d (map shape ms) ≡ d
level none d = refl
level (node {inside} {rest} e attributes i r) d =
    ap (depth_from (deeper d (opens e))) (map-append inside (ends e ∷ rest))
    ∙ depth_append (deeper d (opens e)) (map shape inside) (closes e ∷ map shape rest)
    ∙ ap (λ n. depth_from (deeper n (closes e)) (map shape rest)) (level i (deeper d (opens e)))
    ∙ ap (λ n. depth_from n (map shape rest)) (back d e)
    ∙ level r d

-- no more than 32 IFs are open after any of the shapes
abbrev pub IsBounded : ℕ → List Shape → Type 0
IsBounded d ss = (a b : List Shape) → ss ≡ a ++ b → depth_from d a ≤ 32

bounded_inside : (d : ℕ) (e : Element) (attributes : List Attribute) (inside rest : List Mark)
    → IsBounded d (map shape (begins e attributes ∷ (inside ++ (ends e ∷ rest)))) → IsBounded (deeper d (opens e)) (map shape inside)
bounded_inside d e attributes inside rest h a b f =
    h (opens e ∷ a) (b ++ (closes e ∷ map shape rest))
    (ap (λ ss. opens e ∷ ss) (map-append inside (ends e ∷ rest) ∙ ap (λ ss. ss ++ (closes e ∷ map shape rest)) f ∙ append_assoc a b (closes e ∷ map shape rest)))

bounded_rest : (d : ℕ) (e : Element) (attributes : List Attribute) (inside rest : List Mark) {p : Piece} → ElementsSay inside p
    → IsBounded d (map shape (begins e attributes ∷ (inside ++ (ends e ∷ rest)))) → IsBounded d (map shape rest)
bounded_rest d e attributes inside rest i h a b f =
    let le = h (opens e ∷ (map shape inside ++ (closes e ∷ a))) b
    (ap (λ ss. opens e ∷ ss) (map-append inside (ends e ∷ rest) ∙ ap (λ ss. map shape inside ++ (closes e ∷ ss)) f ∙ sym (append_assoc (map shape inside) (closes e ∷ a) b))) in
    subst (λ n. n ≤ 32)
    (depth_append (deeper d (opens e)) (map shape inside) (closes e ∷ a)
    ∙ ap (λ n. depth_from (deeper n (closes e)) a) (level i (deeper d (opens e)))
    ∙ ap (λ n. depth_from n a) (back d e)) le

pub deep : {ms : List Mark} {p : Piece} → ElementsSay ms p → (d : ℕ) → IsBounded d (map shape ms) → IsDeep d p
deep none d h =
    let le = h [] [] refl in
    record { statements = omega arith; yes = omega arith; no = omega arith; main = omega arith; methods = omega arith }
deep (node {inside} {rest} {p} {q} e attributes i r) d h =
    deep_both d (says e attributes p) q
    (deep_element d e attributes p (h [] _ refl) (deep i (deeper d (opens e)) (bounded_inside d e attributes inside rest h)))
    (deep r d (bounded_rest d e attributes inside rest i h))

-- ---- depths along tags

-- an IF has a THEN, so it is no empty tag
none_here : (q : List Open) (more : List Shape) → enters q (opens elements.If ∷ closes elements.If ∷ more) ≡ None
none_here [] more = refl
none_here (o ∷ os) more = elim (cases_Bool (may_stand o.inside o.children elements.If)) [
  | inl t ↦ rw t refl
  | inr t ↦ rw t refl
]

no_empty_if : (a more : List Shape) → IsDocument (a ++ (opens elements.If ∷ closes elements.If ∷ more)) → ⊥
no_empty_if a more d =
    let ss = opens elements.If ∷ closes elements.If ∷ more in
    let all = document_read (a ++ ss) d in
    let first = enters_front a ss start _ all in
    no_some _ (sym (none_here first.0 more) ∙ sym (enters_then a ss start first.0 first.1) ∙ all)

open_other : (d : ℕ) (e : Element) → (e ≡ elements.If → ⊥) → deeper d (opens e) ≡ d
open_other d elements.If h = absurd (h refl)
open_other d e h = refl

-- where a front of the shapes is cut: after a tag, or in an empty tag
pub record CutAt (ts : List PlacedTag) (a : List Shape) : Type 0 where
  pub us : List PlacedTag
  pub vs : List PlacedTag
  pub whole : ts ≡ us ++ vs
  pub place : (a ≡ shapes us) ⊎ ((e : Element) × (more : List Shape) × (a ≡ shapes us ++ (opens e ∷ [])) × (shapes vs ≡ opens e ∷ closes e ∷ more))

abbrev OneOrTwo : List Shape → Type 0
OneOrTwo ss = ((s : Shape) × (ss ≡ s ∷ [])) ⊎ ((e : Element) × (ss ≡ opens e ∷ closes e ∷ []))

one_or_two_by : (f : Form) (o : Option Element) (attributes : List Attribute) → OneOrTwo (map shape (marks_by f o attributes))
one_or_two_by f None attributes = inl (_, refl)
one_or_two_by forms.Start (Some e) attributes = inl (_, refl)
one_or_two_by forms.Empty (Some e) attributes = inr (e, refl)
one_or_two_by forms.End (Some e) attributes = inl (_, refl)

one_or_two : (t : Tag) → OneOrTwo (map shape (marks_of t))
one_or_two t = one_or_two_by t.form (element_of t.name) t.attributes

shapes-cons : (t : PlacedTag) (ts : List PlacedTag) → shapes (t ∷ ts) ≡ map shape (marks_of t.tag) ++ shapes ts
shapes-cons t ts = map-append (marks_of t.tag) (marks ts)

tail_of : (s u : Shape) (a b : List Shape) → s ∷ a ≡ u ∷ b → a ≡ b
tail_of s u a b e = cc

head_of : (s u : Shape) (a b : List Shape) → s ∷ a ≡ u ∷ b → s ≡ u
head_of s u a b e = cc

-- one tag more in front
cut_more : (t : PlacedTag) (ts : List PlacedTag) (k a front : List Shape) → map shape (marks_of t.tag) ≡ k → front ≡ k ++ a → CutAt ts a → CutAt (t ∷ ts) front
cut_more t ts k a front i j c =
    let here : shapes (t ∷ c.us) ≡ k ++ shapes c.us = shapes-cons t c.us ∙ ap (λ z. z ++ shapes c.us) i in
    record {
      us = t ∷ c.us;
      vs = c.vs;
      whole = ap (λ z. t ∷ z) c.whole;
      place = elim c.place [
        | inl h ↦ inl (j ∙ ap (λ z. k ++ z) h ∙ sym here)
        | inr h ↦ inr (h.0, h.1, j ∙ ap (λ z. k ++ z) h.2 ∙ sym (append_assoc k (shapes c.us) (opens h.0 ∷ [])) ∙ ap (λ z. z ++ (opens h.0 ∷ [])) (sym here), h.3)
      ];
    }

cut_one : (t : PlacedTag) (ts : List PlacedTag) (u s : Shape) (a b : List Shape) → map shape (marks_of t.tag) ≡ u ∷ [] → shapes (t ∷ ts) ≡ s ∷ (a ++ b)
    → (shapes ts ≡ a ++ b → CutAt ts a) → CutAt (t ∷ ts) (s ∷ a)
cut_one t ts u s a b i e go =
    let f : u ∷ shapes ts ≡ s ∷ (a ++ b) = ap (λ z. z ++ shapes ts) (sym i) ∙ sym (shapes-cons t ts) ∙ e in
    cut_more t ts (u ∷ []) a (s ∷ a) i (ap (λ z. z ∷ a) (sym (head_of u s (shapes ts) (a ++ b) f))) (go (tail_of u s (shapes ts) (a ++ b) f))

cut_two : (t : PlacedTag) (ts : List PlacedTag) (x : Element) (s : Shape) (a b : List Shape) → map shape (marks_of t.tag) ≡ opens x ∷ closes x ∷ [] → shapes (t ∷ ts) ≡ s ∷ (a ++ b)
    → ((c : List Shape) → shapes ts ≡ c ++ b → CutAt ts c) → CutAt (t ∷ ts) (s ∷ a)
cut_two t ts x s [] b i e go =
    let f : opens x ∷ closes x ∷ shapes ts ≡ s ∷ b = ap (λ z. z ++ shapes ts) (sym i) ∙ sym (shapes-cons t ts) ∙ e in
    record {
      us = [];
      vs = t ∷ ts;
      whole = refl;
      place = inr (x, shapes ts, ap (λ z. z ∷ []) (sym (head_of (opens x) s (closes x ∷ shapes ts) b f)), shapes-cons t ts ∙ ap (λ z. z ++ shapes ts) i);
    }
cut_two t ts x s (u ∷ a) b i e go =
    let f : opens x ∷ closes x ∷ shapes ts ≡ s ∷ u ∷ (a ++ b) = ap (λ z. z ++ shapes ts) (sym i) ∙ sym (shapes-cons t ts) ∙ e in
    let g = tail_of (opens x) s (closes x ∷ shapes ts) (u ∷ (a ++ b)) f in
    cut_more t ts (opens x ∷ closes x ∷ []) a (s ∷ u ∷ a) i
    (ap (λ z. z ∷ u ∷ a) (sym (head_of (opens x) s (closes x ∷ shapes ts) (u ∷ (a ++ b)) f)) ∙ ap (λ z. opens x ∷ z ∷ a) (sym (head_of (closes x) u (shapes ts) (a ++ b) g)))
    (go a (tail_of (closes x) u (shapes ts) (a ++ b) g))

cut : (ts : List PlacedTag) (a b : List Shape) → shapes ts ≡ a ++ b → CutAt ts a
cut ts [] b e = record { us = []; vs = ts; whole = refl; place = inl refl }
cut [] (s ∷ a) b e = absurd cc
cut (t ∷ ts) (s ∷ a) b e = elim (one_or_two t.tag) [
  | inl o ↦ cut_one t ts o.0 s a b o.1 e (cut ts a b)
  | inr o ↦ cut_two t ts o.0 s a b o.1 e (λ c. cut ts c b)
]

pub bounded : (ts : List PlacedTag) → IsDocument (shapes ts) → IsWithin ts → IsBounded 0 (shapes ts)
bounded ts d h a b e =
    let c = cut ts a b e in
    let parts : shapes ts ≡ shapes c.us ++ shapes c.vs = ap shapes c.whole ∙ shapes-append c.us c.vs in
    let first = enters_front (shapes c.us) (shapes c.vs) start _ (ap (enters start) (sym parts) ∙ document_read (shapes ts) d) in
    let le : depth_from 0 (shapes c.us) ≤ 32 = subst (λ n. n ≤ 32) (sym (tallied (shapes c.us) first.0 first.1 which.Depth)) (h c.us c.vs which.Depth c.whole) in
    elim c.place [
      | inl i ↦ subst (λ z. depth_from 0 z ≤ 32) (sym i) le
      | inr i ↦
          let no_if : i.0 ≡ elements.If → ⊥ = λ f.
          no_empty_if (shapes c.us) i.1 (subst IsDocument (ap shapes c.whole ∙ shapes-append c.us c.vs ∙ ap (λ z. shapes c.us ++ z) (i.3 ∙ ap (λ z. opens z ∷ closes z ∷ i.1) f)) d) in
          subst (λ n. n ≤ 32) (sym (ap (depth_from 0) i.2 ∙ depth-one 0 (shapes c.us) (opens i.0) ∙ open_other (depth_from 0 (shapes c.us)) i.0 no_if)) le
    ]
