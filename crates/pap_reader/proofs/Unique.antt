-- Tags have one tree, those of a tree are clean, and a tag earns one refusal.
use Rattle.std.proofs.Common.{◌≡◌, ◌<◌, Bool, true, false, inl, inr, List, [], ◌∷◌, ◌++◌, sym, ap, subst, ◌∙◌, append_assoc, arith}
use Rattle.std.specs.List.{list_all}
use Rattle.std.proofs.lemmas.Bool.{and_parts}
use Rattle.std.proofs.lemmas.List.Folds.{list_all-append}
use Rattle.pap_reader.specs.declared.fault.Which.{Which}
use Rattle.pap_reader.specs.declared.fault.ReadFault.{ReadFault}
use Rattle.pap_reader.specs.declared.fault.ReadFault.TheVariants as faults
use Rattle.pap_reader.specs.Structure.{IsDocument, BeginsDocument}
use Rattle.pap_reader.specs.Tokens.{PlacedTag}
use Rattle.pap_reader.specs.Marks.{marks_of, marks, shapes}
use Rattle.pap_reader.specs.Attributes.{mark_is_right}
use Rattle.pap_reader.specs.Trees.{ElementTree}
use Rattle.pap_reader.specs.Meaning.{piece_tree}
use Rattle.pap_reader.specs.Limits.{amount, most, tested, IsWithin, IsFirstOver}
use Rattle.pap_reader.specs.Elements.{HasTree}
use Rattle.pap_reader.specs.Faults.{Earns, IsClean}
use Rattle.pap_reader.proofs.Pieces.{one_piece}
use Rattle.pap_reader.proofs.Exact.{marks-append, shapes-append}

pub one_tree : (ts : List PlacedTag) (x y : ElementTree) → HasTree ts x → HasTree ts y → x ≡ y
one_tree ts x y h k = sym h.tree ∙ ap piece_tree (one_piece (marks ts) h.piece k.piece h.says k.says) ∙ k.tree

-- ---- a tree has clean tags

both_ways : (b : Bool) → b ≡ true → b ≡ false → ⊥
both_ways b e f = absurd cc

document_front : (a b : List PlacedTag) → IsDocument (shapes (a ++ b)) → BeginsDocument (shapes a)
document_front a b d = (shapes b, subst IsDocument (shapes-append a b) d)

some_over : (before : List PlacedTag) (t : PlacedTag) (ws : List Which) (w : Which) → IsFirstOver before t ws w → (v : Which) × (most v < amount v (shapes (before ++ (t ∷ []))))
some_over before t [] w h = absurd h
some_over before t (v ∷ vs) w (inl h) = (v, h.1)
some_over before t (v ∷ vs) w (inr h) = some_over before t vs w h.1

right_here : (a b : List PlacedTag) (t : PlacedTag) → list_all mark_is_right (marks (a ++ (t ∷ b))) ≡ true → list_all mark_is_right (marks_of t.tag) ≡ true
right_here a b t e =
    let whole = sym (list_all-append mark_is_right (marks a) (marks (t ∷ b))) ∙ ap (list_all mark_is_right) (sym (marks-append a (t ∷ b))) ∙ e in
    let parts = and_parts (list_all mark_is_right (marks a)) (list_all mark_is_right (marks (t ∷ b))) whole in
    (and_parts (list_all mark_is_right (marks_of t.tag)) (list_all mark_is_right (marks b)) (sym (list_all-append mark_is_right (marks_of t.tag) (marks b)) ∙ parts.1)).0

tree_earns : (ts a b : List PlacedTag) (t : PlacedTag) (f : ReadFault) → IsDocument (shapes ts) → list_all mark_is_right (marks ts) ≡ true → IsWithin ts → ts ≡ (a ++ (t ∷ [])) ++ b → Earns a t f → ⊥
tree_earns ts a b t (faults.Text at) d r k e h = h
tree_earns ts a b t (faults.Element at) d r k e h = h.1 (document_front (a ++ (t ∷ [])) b (subst (λ x. IsDocument (shapes x)) e d))
tree_earns ts a b t (faults.Attribute at) d r k e h =
    both_ways (list_all mark_is_right (marks_of t.tag)) (right_here a b t (ap (λ x. list_all mark_is_right (marks x)) (sym (e ∙ append_assoc a (t ∷ []) b)) ∙ r)) h.2
tree_earns ts a b t (faults.Many w) d r k e h =
    let o = some_over a t tested w h.2 in
    let le = k (a ++ (t ∷ [])) b o.0 e in
    let lt = o.1 in
    absurd (omega arith)
tree_earns ts a b t faults.Memory d r k e h = h

pub tree_clean : (ts : List PlacedTag) (x : ElementTree) → HasTree ts x → IsWithin ts → IsClean ts
tree_clean ts x h k a b t f e q = tree_earns ts a b t f h.document h.right k (e ∙ sym (append_assoc a (t ∷ []) b)) q

-- ---- one fault

over_one : (a : List PlacedTag) (t : PlacedTag) (ws : List Which) (v w : Which) → IsFirstOver a t ws v → IsFirstOver a t ws w → v ≡ w
over_one a t [] v w h k = absurd h
over_one a t (u ∷ us) v w (inl h) (inl k) = sym h.0 ∙ k.0
over_one a t (u ∷ us) v w (inl h) (inr k) = absurd (k.0 h.1)
over_one a t (u ∷ us) v w (inr h) (inl k) = absurd (h.0 k.1)
over_one a t (u ∷ us) v w (inr h) (inr k) = over_one a t us v w h.1 k.1

pub earns_one : (a : List PlacedTag) (t : PlacedTag) (f g : ReadFault) → Earns a t f → Earns a t g → f ≡ g
earns_one a t (faults.Text m) g h k = absurd h
earns_one a t f (faults.Text n) h k = absurd k
earns_one a t (faults.Element m) (faults.Element n) h k = ap (λ x. faults.Element x) (h.0 ∙ sym k.0)
earns_one a t (faults.Element m) (faults.Attribute n) h k = absurd (k.1 h.1)
earns_one a t (faults.Element m) (faults.Many w) h k = absurd (k.0 h.1)
earns_one a t (faults.Attribute m) (faults.Element n) h k = absurd (h.1 k.1)
earns_one a t (faults.Attribute m) (faults.Attribute n) h k = ap (λ x. faults.Attribute x) (h.0 ∙ sym k.0)
earns_one a t (faults.Attribute m) (faults.Many w) h k = absurd (k.1 h.2)
earns_one a t (faults.Many v) (faults.Element n) h k = absurd (h.0 k.1)
earns_one a t (faults.Many v) (faults.Attribute n) h k = absurd (h.1 k.2)
earns_one a t (faults.Many v) (faults.Many w) h k = ap (λ x. faults.Many x) (over_one a t tested v w h.2 k.2)
earns_one a t faults.Memory g h k = absurd h
earns_one a t f faults.Memory h k = absurd k
