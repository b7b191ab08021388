-- What a closed element makes of its parent and of the plan.
use Rattle.std.proofs.Common.{◌≡◌, ℕ, true, false, Option, None, List, [], ◌∷◌, ◌++◌, map, Vec, Global, refl, sym, ap, subst, ◌∙◌}
use Rattle.std.proofs.lemmas.List.{append-nil}
use mathlib.Core.Former.{Count}
use Rattle.pap_reader.specs.declared.element.Element.{Element}
use Rattle.pap_reader.specs.declared.element.Element.TheVariants as elements
use Rattle.pap_reader.specs.declared.elements.RawStmt.{RawStmt, Row_of-RawStmt, end_of-RawStmt, more_of-RawStmt, items-the_row-RawStmt, items_hidden-the_row-RawStmt-0}
use Rattle.pap_reader.specs.declared.elements.RawStmt as raws
use Rattle.pap_reader.specs.declared.elements.Elements.{Elements}
use Rattle.pap_reader.specs.declared.reader.OpenElement.{OpenElement}
use Rattle.pap_reader.specs.Tags.{Attribute}
use Rattle.pap_reader.specs.Trees.{RawBody, done, branch, raw_declaration_of, raw_stmt_then, raw_body_of_row, raw_body_of, raw_routine_of}
use Rattle.pap_reader.specs.Meaning.{join, Piece, both, adds, says, later, or_done}
use Rattle.pap_reader.specs.declared.attributes.TagValue.{TagValue}
use Rattle.pap_reader.specs.declared.attributes.TagValue.TheVariants.{Text, Named}
use Rattle.pap_reader.specs.private.Views.{is_in_body, IsValueOf, IsText, IsNamed}
use Rattle.pap_reader.proofs.Pieces.{join-done}
use Rattle.pap_reader.specs.private.ReaderViews.{ShowsPiece, ShowsPlan, ClosedInBody, ClosedInPlan, Closed}

-- ---- lists of statements

pub body_of_row_is : (n : Count) (row : Row_of-RawStmt n) → raw_body_of_row row ≡ raw_body_of (items-the_row-RawStmt n row)
body_of_row_is n end_of-RawStmt = refl
body_of_row_is n (more_of-RawStmt s rest) = ap (raw_stmt_then s) (body_of_row_is _ rest)

abbrev HeldRow : Type 0
HeldRow = (n : Count) × Row_of-RawStmt n

abbrev first_row : RawStmt → HeldRow
first_row (raws.If' t m ys n zs) = (_, ys)
first_row _ = (_, end_of-RawStmt)

abbrev second_row : RawStmt → HeldRow
second_row (raws.If' t m ys n zs) = (_, zs)
second_row _ = (_, end_of-RawStmt)

-- a choice, from the lists of its two branches
pub raw_stmt_then-If : (t : Vec ℕ Global) (ys zs : Vec RawStmt Global) (rest : RawBody) → raw_stmt_then (raws.If t ys zs) rest ≡ branch t.items (raw_body_of ys.items) (raw_body_of zs.items) rest
raw_stmt_then-If t ys zs rest =
    let a = first_row (raws.If t ys zs) in
    let b = second_row (raws.If t ys zs) in
    let y : raw_body_of_row a.1 ≡ raw_body_of ys.items = body_of_row_is a.0 a.1 ∙ ap raw_body_of (items_hidden-the_row-RawStmt-0 ys) in
    let z : raw_body_of_row b.1 ≡ raw_body_of zs.items = body_of_row_is b.0 b.1 ∙ ap raw_body_of (items_hidden-the_row-RawStmt-0 zs) in
    ap (λ x. branch t.items x (raw_body_of_row b.1) rest) y ∙ ap (λ x. branch t.items (raw_body_of ys.items) x rest) z

join_first : (s : RawStmt) (rest : RawBody) → raw_stmt_then s rest ≡ join (raw_stmt_then s done) rest
join_first (raws.Eval x) rest = refl
join_first (raws.If' t m ys n zs) rest = refl
join_first (raws.Execute x) rest = refl

join_then : (s : RawStmt) (a b : RawBody) → join (raw_stmt_then s a) b ≡ raw_stmt_then s (join a b)
join_then (raws.Eval x) a b = refl
join_then (raws.If' t m ys n zs) a b = refl
join_then (raws.Execute x) a b = refl

pub body_one : (ss : List RawStmt) (s : RawStmt) → raw_body_of (ss ++ (s ∷ [])) ≡ join (raw_body_of ss) (raw_stmt_then s done)
body_one [] s = refl
body_one (u ∷ ss) s = ap (raw_stmt_then u) (body_one ss s) ∙ sym (join_then u (raw_body_of ss) (raw_stmt_then s done))

-- ---- the parent and the plan

-- the parent, with more
pub record MorePiece (r after : OpenElement) (q : Piece) : Type 0 where
  pub statements : raw_body_of after.statements.items ≡ join (raw_body_of r.statements.items) q.statements
  pub yes : (m : Option RawBody) → raw_body_of r.yes.items ≡ or_done m → raw_body_of after.yes.items ≡ or_done (later m q.yes)
  pub no : (m : Option RawBody) → raw_body_of r.no.items ≡ or_done m → raw_body_of after.no.items ≡ or_done (later m q.no)

-- the plan, with more
pub record MorePlan (x y : Elements) (q : Piece) : Type 0 where
  pub inputs : map raw_declaration_of y.inputs.items ≡ map raw_declaration_of x.inputs.items ++ q.inputs
  pub outputs : map raw_declaration_of y.outputs.items ≡ map raw_declaration_of x.outputs.items ++ q.outputs
  pub internals : map raw_declaration_of y.internals.items ≡ map raw_declaration_of x.internals.items ++ q.internals
  pub constants : map raw_declaration_of y.constants.items ≡ map raw_declaration_of x.constants.items ++ q.constants
  pub main : (m : Option RawBody) → raw_body_of x.main.items ≡ or_done m → raw_body_of y.main.items ≡ or_done (later m q.main)
  pub methods : map raw_routine_of y.methods.items ≡ map raw_routine_of x.methods.items ++ q.methods

more_piece : (r after : OpenElement) (v q : Piece) → MorePiece r after q → ShowsPiece r v → ShowsPiece after (both v q)
more_piece r after v q h k = record {
  statements = h.statements ∙ ap (λ b. join b q.statements) k.statements;
  yes = h.yes v.yes k.yes;
  no = h.no v.no k.no;
}

more_plan : (x y : Elements) (p q : Piece) → MorePlan x y q → ShowsPlan x p → ShowsPlan y (both p q)
more_plan x y p q h k = record {
  inputs = h.inputs ∙ ap (λ l. l ++ q.inputs) k.inputs;
  outputs = h.outputs ∙ ap (λ l. l ++ q.outputs) k.outputs;
  internals = h.internals ∙ ap (λ l. l ++ q.internals) k.internals;
  constants = h.constants ∙ ap (λ l. l ++ q.constants) k.constants;
  main = h.main p.main k.main;
  methods = h.methods ∙ ap (λ l. l ++ q.methods) k.methods;
}

-- the parent as it was
pub record SamePart (r after : OpenElement) : Type 0 where
  pub element : after.element ≡ r.element
  pub children : after.children ≡ r.children
  pub value : after.value ≡ r.value

-- what holds at one of the elements
pub body_arm : (child r after : OpenElement) (e f : Element) → e ≡ f → SamePart r after
    → ((attributes : List Attribute) (p : Piece) → IsValueOf f attributes child.value → ShowsPiece child p → MorePiece r after (says f attributes p))
    → ClosedInBody e child r after
body_arm child r after e f is same h = subst (λ z. ClosedInBody z child r after) (sym is) (record {
  element = same.element;
  children = same.children;
  value = same.value;
  piece = λ attributes p v s a b. more_piece r after v (says f attributes p) (h attributes p s a) b;
})

pub plan_arm : (child : OpenElement) (x y : Elements) (e f : Element) → e ≡ f
    → ((attributes : List Attribute) (p : Piece) → IsValueOf f attributes child.value → ShowsPiece child p → MorePlan x y (adds f attributes p))
    → ClosedInPlan e child x y
plan_arm child x y e f is k = subst (λ z. ClosedInPlan z child x y) (sym is) (λ attributes p q s a b. more_plan x y q (adds f attributes p) (k attributes p s a) b)

pub as_it_was : (r : OpenElement) → SamePart r r
as_it_was r = record { element = refl; children = refl; value = refl }

pub kept : {A : Type 0} (xs : List A) → xs ≡ xs ++ []
kept xs = sym (append-nil xs)

pub piece_same : (r : OpenElement) (q : Piece) → q.statements ≡ done → q.yes ≡ None → q.no ≡ None → MorePiece r r q
piece_same r q e f g = record {
  statements = sym (join-done (raw_body_of r.statements.items)) ∙ ap (join (raw_body_of r.statements.items)) (sym e);
  yes = λ m h. h ∙ ap (λ n. or_done (later m n)) (sym f);
  no = λ m h. h ∙ ap (λ n. or_done (later m n)) (sym g);
}

-- the same names, and more statements
pub piece_statement : (r : OpenElement) (v : Vec RawStmt Global) (s : RawStmt) (b : RawBody) (q : Piece) → v.items ≡ r.statements.items ++ (s ∷ []) → raw_stmt_then s done ≡ b → q.statements ≡ b → q.yes ≡ None → q.no ≡ None
    → MorePiece r (record r { statements = v }) q
piece_statement r v s b q e i j f g = record {
  statements = ap raw_body_of e ∙ body_one r.statements.items s ∙ ap (join (raw_body_of r.statements.items)) (i ∙ sym j);
  yes = λ m h. h ∙ ap (λ n. or_done (later m n)) (sym f);
  no = λ m h. h ∙ ap (λ n. or_done (later m n)) (sym g);
}

pub plan_same : (x : Elements) (q : Piece) → q.inputs ≡ [] → q.outputs ≡ [] → q.internals ≡ [] → q.constants ≡ [] → q.main ≡ None → q.methods ≡ [] → MorePlan x x q
plan_same x q a b c d e f = record {
  inputs = kept (map raw_declaration_of x.inputs.items) ∙ ap (λ l. map raw_declaration_of x.inputs.items ++ l) (sym a);
  outputs = kept (map raw_declaration_of x.outputs.items) ∙ ap (λ l. map raw_declaration_of x.outputs.items ++ l) (sym b);
  internals = kept (map raw_declaration_of x.internals.items) ∙ ap (λ l. map raw_declaration_of x.internals.items ++ l) (sym c);
  constants = kept (map raw_declaration_of x.constants.items) ∙ ap (λ l. map raw_declaration_of x.constants.items ++ l) (sym d);
  main = λ m h. h ∙ ap (λ n. or_done (later m n)) (sym e);
  methods = kept (map raw_routine_of x.methods.items) ∙ ap (λ l. map raw_routine_of x.methods.items ++ l) (sym f);
}

pub text_is : (t : List ℕ) (s : TagValue) (v : Vec ℕ Global) → s ≡ Text v → IsText t s → v.items ≡ t
text_is t s v e h = subst (IsText t) e h

pub name_is : (t : List ℕ) (s : TagValue) (n : List ℕ) → s ≡ Named n → IsNamed t s → n ≡ t
name_is t s n e h = subst (IsNamed t) e h

pub map_one : {A B : Type 0} (f : A → B) (xs : List A) (x : A) → map f (xs ++ (x ∷ [])) ≡ map f xs ++ (f x ∷ [])
map_one f [] x = refl
map_one f (y ∷ xs) x = ap (λ l. f y ∷ l) (map_one f xs x)

-- an element that stands in no body leaves its parent as it was
same_body : (child r : OpenElement) (f : Element) → ((attributes : List Attribute) (p : Piece) → MorePiece r r (says f attributes p)) → ClosedInBody f child r r
same_body child r f h = body_arm child r r f f refl (as_it_was r) (λ attributes p s k. h attributes p)

pub body_kept : (child r : OpenElement) (e : Element)
    → (e ≡ elements.Eval → ⊥)
    → (e ≡ elements.Execute → ⊥)
    → (e ≡ elements.If → ⊥)
    → (e ≡ elements.Then → ⊥)
    → (e ≡ elements.Else → ⊥)
    → ClosedInBody e child r r
body_kept child r elements.Eval a b c d f = absurd (a refl)
body_kept child r elements.Execute a b c d f = absurd (b refl)
body_kept child r elements.If a b c d f = absurd (c refl)
body_kept child r elements.Then a b c d f = absurd (d refl)
body_kept child r elements.Else a b c d f = absurd (f refl)
body_kept child r e a b c d f = same_body child r e (λ attributes p. piece_same r (says e attributes p) refl refl refl)

-- an element that stands in a body, or has no meaning of its own, leaves the plan as it was
same_plan : (child : OpenElement) (x : Elements) (f : Element) → ((attributes : List Attribute) (p : Piece) → MorePlan x x (adds f attributes p)) → ClosedInPlan f child x x
same_plan child x f h = plan_arm child x x f f refl (λ attributes p s k. h attributes p)

pub plan_kept : (child : OpenElement) (x : Elements) (e : Element)
    → (e ≡ elements.Input → ⊥)
    → (e ≡ elements.Output → ⊥)
    → (e ≡ elements.Internal → ⊥)
    → (e ≡ elements.Constant → ⊥)
    → (e ≡ elements.Main → ⊥)
    → (e ≡ elements.Method → ⊥)
    → ClosedInPlan e child x x
plan_kept child x elements.Input a b c d f g = absurd (a refl)
plan_kept child x elements.Output a b c d f g = absurd (b refl)
plan_kept child x elements.Internal a b c d f g = absurd (c refl)
plan_kept child x elements.Constant a b c d f g = absurd (d refl)
plan_kept child x elements.Main a b c d f g = absurd (f refl)
plan_kept child x elements.Method a b c d f g = absurd (g refl)
plan_kept child x e a b c d f g = same_plan child x e (λ attributes p. plan_same x (adds e attributes p) refl refl refl refl refl refl)

-- the parent and the plan together
pub closed_in_body : (child r after : OpenElement) (x : Elements) (e : Element) → is_in_body e ≡ true → ClosedInBody e child r after → Closed e child r after x x
closed_in_body child r after x e is h = record {
  body = h;
  plan = plan_kept child x e (apart elements.Input refl) (apart elements.Output refl) (apart elements.Internal refl) (apart elements.Constant refl) (apart elements.Main refl) (apart elements.Method refl);
}
  where
    apart : (f : Element) → is_in_body f ≡ false → e ≡ f → ⊥
    apart f aside same = let inside : is_in_body f ≡ true = ap is_in_body (sym same) ∙ is in absurd (cc)

pub closed_in_plan : (child r : OpenElement) (x y : Elements) (e : Element) → is_in_body e ≡ false → ClosedInPlan e child x y → Closed e child r r x y
closed_in_plan child r x y e is h = record {
  body = body_kept child r e (apart elements.Eval refl) (apart elements.Execute refl) (apart elements.If refl) (apart elements.Then refl) (apart elements.Else refl);
  plan = h;
}
  where
    apart : (f : Element) → is_in_body f ≡ true → e ≡ f → ⊥
    apart f inside same = let aside : is_in_body f ≡ false = ap is_in_body (sym same) ∙ is in absurd (cc)
