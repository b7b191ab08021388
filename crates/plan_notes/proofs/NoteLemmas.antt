-- What a scan's notes hold, one token after the other.
use Rattle.std.proofs.Common.{◌≡◌, ℕ, ◌+◌, ◌-◌, ◌<◌, ◌≤◌, cond, List, [], ◌∷◌, ◌++◌, length, take, drop, get_or, map, refl, sym, ap, subst, ◌∙◌, arith, Option, Result, Ok, Err}
use Rattle.std.specs.declared.alloc.Global.{Global}
use Rattle.std.specs.declared.alloc.AllocError.{AllocError}
use Rattle.std.specs.Prelude.{String, slice_range, option_map, string_bytes, vec_len, OnOk}
use Rattle.std.specs.List.{flat_map, fold}
use Rattle.std.proofs.lemmas.Bool.{le-leb}
use Rattle.std.proofs.lemmas.List.{append-nil, append_assoc, map-append, length-append, length-drop, take-append-le, drop-append-le, take_rest, drop_all}
use Rattle.std.proofs.lemmas.List.Concat.{flat_map-append}
use Rattle.std.proofs.lemmas.List.Sums.{fold_push}
use Rattle.pap_reader.specs.declared.element.Element.{Element}
use Rattle.pap_reader.specs.declared.tags.Form.{Form}
use Rattle.pap_reader.specs.declared.tokens.Token.{Token as ReadToken}
use Rattle.pap_reader.specs.Tags.{Attribute, Tag}
use Rattle.pap_reader.specs.Marks.{element_of, marks_by, marks_of}
use Rattle.pap_reader.specs.Contents.{Token, token_meant}
use Rattle.pap_reader.proofs.Laws as reader
use Rattle.plan_notes.specs.declared.notes.Notes.{Notes}
use Rattle.plan_notes.specs.declared.scan.Scan.{Scan}
use Rattle.plan_notes.specs.declared.tag.Mark.{Mark}
use Rattle.plan_notes.specs.Edges.{edges_by}
use Rattle.plan_notes.specs.Marks.{edge_of, HaveInTurn}
use Rattle.plan_notes.specs.Walks.{comments_at}
use Rattle.plan_notes.specs.Contents.{NoteItem, line, place, remark_items, items_by, items_told, root_at, root_by, root_of}
use Rattle.plan_notes.specs.Notes.{comment_items, items_at, noted, SaysOfRoot}
use Rattle.plan_notes.specs.private.ScanViews.{SameRoot, AddsComment, Holds, Keeps}

-- ---- the comments of marks

in_turn_up : (from : ℕ) (marks : List Mark) (to : ℕ) → HaveInTurn from marks to → from ≤ to
in_turn_up from [] to turn = omega (arith, turn)
in_turn_up from (m ∷ marks) to turn =
    let up = in_turn_up m.last marks to turn.1.1 in omega (arith, turn.0, turn.1.0, up)

comments_are : (comments : List (String Global)) (m : Mark) → m.last ≤ length comments → comments_at comments m
    ≡ slice_range comments m.first m.last
comments_are comments m within =
    ap (λ b. cond b (slice_range comments m.first m.last) []) (le-leb m.last (length comments) within)

same_comments : (comments more : List (String Global)) (m : Mark) → m.first ≤ m.last → m.last ≤ length comments
    → comments_at (comments ++ more) m ≡ comments_at comments m
same_comments comments more m up within =
    comments_are (comments ++ more) m (omega (arith, length-append comments more))
    ∙ ap (take (m.last - m.first)) (drop-append-le m.first comments more (omega arith))
    ∙ take-append-le (m.last - m.first) (drop m.first comments) more (omega (arith, length-drop m.first comments))
    ∙ sym (comments_are comments m within)

same_items : (from : ℕ) (marks : List Mark) (to : ℕ) (comments more : List (String Global)) → HaveInTurn from marks to
    → to ≤ length comments
    → flat_map (items_at (comments ++ more)) marks ≡ flat_map (items_at comments) marks
same_items from [] to comments more turn within = refl
same_items from (m ∷ marks) to comments more turn within =
    let up = in_turn_up m.last marks to turn.1.1 in
    ap (λ c. (comment_items c ++ (place (edge_of m) ∷ [])) ++ flat_map (items_at (comments ++ more)) marks)
    (same_comments comments more m turn.1.0 (omega (arith, up, within)))
    ∙ ap (λ z. items_at comments m ++ z) (same_items m.last marks to comments more turn.1.1 within)

-- ---- what the notes hold, with one thing more

abbrev pub items_in : List Mark → List (String Global) → ℕ → List NoteItem
items_in marks comments behind = flat_map (items_at comments) marks ++ comment_items (drop behind comments)

pub noted_is : (notes : Notes) (behind : ℕ) → noted notes behind
    ≡ items_in notes.marks.items notes.comments.items behind
unfolding noted
noted_is notes behind = refl

-- the same marks and comments
pub noted_same : (old new : Notes) (first next : ℕ) → new.marks.items ≡ old.marks.items → new.comments.items
    ≡ old.comments.items → next ≡ first
    → noted new next ≡ noted old first
noted_same old new first next m c e =
    noted_is new next ∙ ap (λ ms. items_in ms new.comments.items next) m
    ∙ ap (λ cs. items_in old.marks.items cs next) c
    ∙ ap (items_in old.marks.items old.comments.items) e ∙ sym (noted_is old first)

items_comment : (marks : List Mark) (comments more : List (String Global)) (first : ℕ) → HaveInTurn 0 marks first
    → first ≤ length comments
    → items_in marks (comments ++ more) first ≡ items_in marks comments first ++ comment_items more
items_comment marks comments more first turn within =
    ap (λ z. z ++ comment_items (drop first (comments ++ more))) (same_items 0 marks first comments more turn within)
    ∙ ap (λ z. flat_map (items_at comments) marks ++ comment_items z) (drop-append-le first comments more within)
    ∙ ap (λ z. flat_map (items_at comments) marks ++ z)
    (map-append (λ comment. line (string_bytes comment)) (drop first comments) more)
    ∙ sym (append_assoc (flat_map (items_at comments) marks) (comment_items (drop first comments)) (comment_items more))

-- comments more
noted_comment : (old new : Notes) (first next : ℕ) (more : List (String Global)) → HaveInTurn 0 old.marks.items first
    → first ≤ length old.comments.items
    → new.marks.items ≡ old.marks.items → new.comments.items ≡ old.comments.items ++ more → next ≡ first
    → noted new next ≡ noted old first ++ comment_items more
noted_comment old new first next more turn within m c e =
    noted_is new next ∙ ap (λ ms. items_in ms new.comments.items next) m
    ∙ ap (λ cs. items_in old.marks.items cs next) c
    ∙ ap (items_in old.marks.items (old.comments.items ++ more)) e
    ∙ items_comment old.marks.items old.comments.items more first turn within
    ∙ ap (λ z. z ++ comment_items more) (sym (noted_is old first))

items_mark : (marks : List Mark) (comments : List (String Global)) (m : Mark) → m.last ≡ length comments
    → items_in (marks ++ m ∷ []) comments m.last ≡ items_in marks comments m.first ++ place (edge_of m) ∷ []
items_mark marks comments m e =
    let front : List NoteItem = flat_map (items_at comments) marks in
    let shown : comments_at comments m ≡ drop m.first comments =
    comments_are comments m (omega (arith, e)) ∙ ap (λ n. take (n - m.first) (drop m.first comments)) e
    ∙ take_rest comments m.first in
    ap (λ z. flat_map (items_at comments) (marks ++ m ∷ []) ++ comment_items z)
    (drop_all m.last comments (omega (arith, e)))
    ∙ append-nil (flat_map (items_at comments) (marks ++ m ∷ []))
    ∙ flat_map-append (items_at comments) marks (m ∷ [])
    ∙ ap (λ z. front ++ z) (append-nil (items_at comments m))
    ∙ ap (λ z. front ++ (comment_items z ++ place (edge_of m) ∷ [])) shown
    ∙ sym (append_assoc front (comment_items (drop m.first comments)) (place (edge_of m) ∷ []))

-- one mark more, with the comments behind the others'
pub noted_mark : (old new : Notes) (m : Mark) → m.last ≡ length old.comments.items
    → new.marks.items ≡ old.marks.items ++ m ∷ [] → new.comments.items ≡ old.comments.items
    → noted new m.last ≡ noted old m.first ++ place (edge_of m) ∷ []
noted_mark old new m e grown c =
    noted_is new m.last ∙ ap (λ ms. items_in ms new.comments.items m.last) grown
    ∙ ap (λ cs. items_in (old.marks.items ++ m ∷ []) cs m.last) c
    ∙ items_mark old.marks.items old.comments.items m e
    ∙ ap (λ z. z ++ place (edge_of m) ∷ []) (sym (noted_is old m.first))

-- no mark and no comment
pub noted_none : (notes : Notes) (first : ℕ) → notes.marks.items ≡ [] → notes.comments.items ≡ [] → first ≡ 0
    → noted notes first ≡ []
noted_none notes first m c e =
    noted_is notes first ∙ ap (λ ms. items_in ms notes.comments.items first) m ∙ ap (λ cs. items_in [] cs first) c
    ∙ ap (items_in [] []) e

-- ---- what the root says

pub says_same : (old new : Notes) (attributes : List Attribute) → SameRoot old new → SaysOfRoot old attributes
    → SaysOfRoot new attributes
says_same old new attributes same says = record {
  name = ap (option_map (λ text. string_bytes text)) same.name ∙ says.name;
  version = ap (option_map (λ text. string_bytes text)) same.version ∙ says.version;
}

-- ---- what a scan holds, with one thing more

pub holds_none : (scan : Scan) → scan.notes.marks.items ≡ [] → scan.notes.comments.items ≡ [] → scan.first ≡ 0
    → SaysOfRoot scan.notes [] → Holds scan [] []
holds_none scan m c e root = record {
  in_turn = subst (λ (ms : List Mark). HaveInTurn 0 ms scan.first) (sym m) (sym e);
  within = omega (arith, e);
  told = noted_none scan.notes scan.first m c e;
  says = root;
}

-- the same, but for comments more
keeps_comments : (old new : Scan) (inside : List ℕ) → AddsComment old.notes.comments.items new.notes.comments.items inside
    → new.notes.marks.items ≡ old.notes.marks.items → new.first ≡ old.first → SameRoot old.notes new.notes
    → Keeps old new (remark_items inside) (λ before. before)
keeps_comments old new inside added m e same items root h =
    let within : old.first ≤ length old.notes.comments.items = omega (arith, h.within, old.notes.comments.ok.0) in
    let longer = ap length added.grown in
    record {
      in_turn = subst (λ (ms : List Mark). HaveInTurn 0 ms new.first) (sym m)
          (subst (HaveInTurn 0 old.notes.marks.items) (sym e) h.in_turn);
      within = omega (arith, within, e, new.notes.comments.ok.0, longer, length-append old.notes.comments.items added.more);
      told = noted_comment old.notes new.notes old.first new.first added.more h.in_turn within m added.grown e
          ∙ ap (λ z. z ++ comment_items added.more) h.told ∙ ap (λ z. items ++ z) added.lines;
      says = says_same old.notes new.notes root same h.says;
    }

pub keeps_comment : (old new : Scan) (inside : List ℕ) (r : Result (Unit {0}) AllocError)
    → OnOk r (AddsComment old.notes.comments.items new.notes.comments.items inside)
    → OnOk r (new.notes.marks.items ≡ old.notes.marks.items) → OnOk r (new.first ≡ old.first)
    → OnOk r (SameRoot old.notes new.notes) → OnOk r (Keeps old new (remark_items inside) (λ before. before))
keeps_comment old new inside (Ok u) added m e same = keeps_comments old new inside added m e same
keeps_comment old new inside (Err f) added m e same = tt

-- one tag more, with the comments behind the others'
in_turn_push : (from : ℕ) (marks : List Mark) (mark : Mark) → HaveInTurn from marks mark.first
    → mark.first ≤ mark.last → HaveInTurn from (marks ++ mark ∷ []) mark.last
in_turn_push from [] mark turn up = (sym turn, (up, refl))
in_turn_push from (m ∷ marks) mark turn up = (turn.0, (turn.1.0, in_turn_push m.last marks mark turn.1.1 up))

pub keeps_mark : (old new : Scan) (m : Mark) → m.first ≡ old.first → m.last ≡ vec_len old.notes.comments
    → new.first ≡ m.last → new.notes.marks.items ≡ old.notes.marks.items ++ m ∷ []
    → new.notes.comments ≡ old.notes.comments → SameRoot old.notes new.notes
    → Keeps old new (place (edge_of m) ∷ []) (λ before. before)
keeps_mark old new m f l e grown c same items root h =
    let turn : HaveInTurn 0 old.notes.marks.items m.first =
    subst (HaveInTurn 0 old.notes.marks.items) (sym f) h.in_turn in
    record {
      in_turn = subst (λ (ms : List Mark). HaveInTurn 0 ms new.first) (sym grown)
          (subst (HaveInTurn 0 (old.notes.marks.items ++ m ∷ [])) (sym e)
          (in_turn_push 0 old.notes.marks.items m turn (omega (arith, f, l, h.within))));
      within = omega (arith, e, l, ap vec_len c);
      told = ap (noted new.notes) e
          ∙ noted_mark old.notes new.notes m (l ∙ old.notes.comments.ok.0) grown (ap (λ v. v.items) c)
          ∙ ap (λ z. z ++ place (edge_of m) ∷ []) (ap (noted old.notes) f ∙ h.told);
      says = says_same old.notes new.notes root same h.says;
    }

-- nothing more, but another root
pub keeps_root : (old new : Scan) (turn : List Attribute → List Attribute) → new.notes.marks ≡ old.notes.marks
    → new.notes.comments ≡ old.notes.comments → new.first ≡ old.first
    → ((root : List Attribute) → SaysOfRoot old.notes root → SaysOfRoot new.notes (turn root)) → Keeps old new [] turn
keeps_root old new turn m c e says items root h = record {
  in_turn = subst (λ ms. HaveInTurn 0 ms.items new.first) (sym m)
      (subst (HaveInTurn 0 old.notes.marks.items) (sym e) h.in_turn);
  within = omega (arith, h.within, e, ap vec_len c);
  told = noted_same old.notes new.notes old.first new.first (ap (λ v. v.items) m) (ap (λ v. v.items) c) e
      ∙ h.told ∙ sym (append-nil items);
  says = says root h.says;
}

-- one after the other
pub keeps_on : (a b c : Scan) (x y : List NoteItem) (f g : List Attribute → List Attribute) (r : Result (Unit {0}) AllocError)
    → Keeps a b x f → OnOk r (Keeps b c y g) → OnOk r (Keeps a c (x ++ y) (λ root. g (f root)))
keeps_on a b c x y f g (Ok u) h k = λ items root held.
    subst (λ z. Holds c z (g (f root))) (append_assoc items x y) (k (items ++ x) (f root) (h items root held))
keeps_on a b c x y f g (Err e) h k = tt

-- a tag of this form and element
pub keeps_tag : (a b : Scan) (at : ℕ) (t : Tag) (f : Form) (o : Option Element) (r : Result (Unit {0}) AllocError)
    → t.form ≡ f → element_of t.name ≡ o
    → OnOk r (Keeps a b (map place (edges_by at (marks_by f o t.attributes)))
    (λ root. fold root_at root (marks_by f o t.attributes)))
    → OnOk r (Keeps a b (map place (edges_by at (marks_of t))) (λ root. fold root_at root (marks_of t)))
keeps_tag a b at t f o r e i h =
    let same : marks_of t ≡ marks_by f o t.attributes =
    ap (λ z. marks_by z (element_of t.name) t.attributes) e ∙ ap (λ z. marks_by f z t.attributes) i in
    subst (λ ms. OnOk r (Keeps a b (map place (edges_by at ms)) (λ root. fold root_at root ms))) (sym same) h

-- one token more
pub holds_more : (old new : Scan) (xs ys : List ReadToken) (i : ℕ) (t : ReadToken) → ys ≡ xs → i < length ys → t ≡ get_or ys i t
    → Holds old (items_told (map token_meant (take i xs))) (root_of (map token_meant (take i xs)))
    → Keeps old new (items_by (token_meant t)) (λ before. root_by before (token_meant t))
    → Holds new (items_told (map token_meant (take (i + 1) xs))) (root_of (map token_meant (take (i + 1) xs)))
holds_more old new xs ys i t same lt e h k =
    let ts : List Token = map token_meant (take i xs) in
    let u : Token = token_meant t in
    let more : items_told (ts ++ (u ∷ [])) ≡ items_told ts ++ items_by u =
    flat_map-append items_by ts (u ∷ []) ∙ ap (λ z. items_told ts ++ z) (append-nil (items_by u)) in
    subst (λ us. Holds new (items_told us) (root_of us)) (sym (reader.one_token_more xs ys i t same lt e))
    (subst (λ z. Holds new z (root_of (ts ++ (u ∷ [])))) (sym more)
    (subst (Holds new (items_told ts ++ items_by u)) (sym (fold_push root_by [] ts u))
    (k (items_told ts) (root_of ts) h)))
