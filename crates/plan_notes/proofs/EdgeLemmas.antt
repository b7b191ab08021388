-- A file has one list of places where elements begin and end, and its notes have these.
use Rattle.std.proofs.Common.{◌≡◌, ℕ, zero, suc, ◌<◌, ◌≤◌, List, [], ◌∷◌, ◌++◌, map, drop, filter, length, refl, sym, ap, subst, ◌∙◌, arith}
use Rattle.std.specs.declared.alloc.Global.{Global}
use Rattle.std.specs.Prelude.{All, String, string_bytes, vec_len}
use Rattle.std.specs.List.{flat_map}
use Rattle.std.specs.List.Sorted.{IsNonDecreasingBy}
use Rattle.std.proofs.lemmas.List.{append-nil}
use Rattle.std.proofs.lemmas.List.Elements.{All-nil, All-cons}
use Rattle.pap_reader.specs.declared.tokens.Tokens.{Tokens}
use Rattle.pap_reader.specs.Marks.{Mark as TagMark, begins, ends, alien, marks_of}
use Rattle.pap_reader.specs.Contents.{Token, remark, tagged, AreRead, StandInOrder, tags_of, token_byte, tokens_of}
use Rattle.pap_reader.proofs.Laws as reader
use Rattle.plan_notes.specs.declared.notes.Notes.{Notes}
use Rattle.plan_notes.specs.declared.tag.Mark.{Mark}
use Rattle.plan_notes.specs.Edges.{Edge, edges_by, edges_of, HasEdges}
use Rattle.plan_notes.specs.Lines.{is_some_text, line_text}
use Rattle.plan_notes.specs.Marks.{edge_of, HaveComments}
use Rattle.plan_notes.specs.Walks.{comments_at}
use Rattle.plan_notes.specs.Contents.{NoteItem, line, place, remark_items, items_told}
use Rattle.plan_notes.specs.Notes.{comment_items, items_at, noted, IsNoted, HasNotes}
use Rattle.plan_notes.proofs.NoteLemmas.{noted_is}

pub one_edges : (file : List ℕ) (edges others : List Edge) → HasEdges file edges → HasEdges file others → edges ≡ others
one_edges file edges others h k =
    sym h.is ∙ ap edges_of (reader.one_list file h.rest k.rest h.tags k.tags h.read h.ended k.read k.ended) ∙ k.is

-- ---- the places among what is told

abbrev edges_in : List NoteItem → List Edge
edges_in [] = []
edges_in (line text ∷ items) = edges_in items
edges_in (place e ∷ items) = e ∷ edges_in items

edges_in-append : (a b : List NoteItem) → edges_in (a ++ b) ≡ edges_in a ++ edges_in b
edges_in-append [] b = refl
edges_in-append (line text ∷ a) b = edges_in-append a b
edges_in-append (place e ∷ a) b = ap (λ z. e ∷ z) (edges_in-append a b)

edges_in-lines : (texts : List (List ℕ)) → edges_in (map line texts) ≡ []
edges_in-lines [] = refl
edges_in-lines (t ∷ texts) = edges_in-lines texts

edges_in-comments : (comments : List (String Global)) → edges_in (comment_items comments) ≡ []
edges_in-comments [] = refl
edges_in-comments (c ∷ comments) = edges_in-comments comments

edges_in-places : (edges : List Edge) → edges_in (map place edges) ≡ edges
edges_in-places [] = refl
edges_in-places (e ∷ edges) = ap (λ z. e ∷ z) (edges_in-places edges)

edges_told : (ts : List Token) → edges_in (items_told ts) ≡ edges_of (tags_of ts)
edges_told [] = refl
edges_told (remark at inside ∷ ts) =
    edges_in-append (remark_items inside) (items_told ts)
    ∙ ap (λ z. z ++ edges_in (items_told ts)) (edges_in-lines (filter is_some_text (line_text inside ∷ [])))
    ∙ edges_told ts
edges_told (tagged t ∷ ts) =
    let here : List Edge = edges_by t.at (marks_of t.tag) in
    edges_in-append (map place here) (items_told ts)
    ∙ ap (λ z. z ++ edges_in (items_told ts)) (edges_in-places here)
    ∙ ap (λ z. here ++ z) (edges_told ts)

edges_at : (comments : List (String Global)) (marks : List Mark)
    → edges_in (flat_map (items_at comments) marks) ≡ map edge_of marks
edges_at comments [] = refl
edges_at comments (m ∷ marks) =
    let more : List NoteItem = flat_map (items_at comments) marks in
    let before : List (String Global) = comments_at comments m in
    edges_in-append (items_at comments m) more
    ∙ ap (λ z. z ++ edges_in more) (edges_in-append (comment_items before) (place (edge_of m) ∷ []))
    ∙ ap (λ z. (z ++ (edge_of m ∷ [])) ++ edges_in more) (edges_in-comments before)
    ∙ ap (λ z. edge_of m ∷ z) (edges_at comments marks)

edges_noted : (notes : Notes) (behind : ℕ) → edges_in (noted notes behind) ≡ map edge_of notes.marks.items
edges_noted notes behind =
    let items : List NoteItem = flat_map (items_at notes.comments.items) notes.marks.items in
    let last : List (String Global) = drop behind notes.comments.items in
    ap edges_in (noted_is notes behind) ∙ edges_in-append items (comment_items last)
    ∙ ap (λ z. edges_in items ++ z) (edges_in-comments last) ∙ append-nil (edges_in items)
    ∙ edges_at notes.comments.items notes.marks.items

edges_are : (file : List ℕ) (notes : Notes) (h : HasNotes file notes) → edges_of (tags_of h.tokens) ≡ map edge_of notes.marks.items
edges_are file notes h =
    sym (edges_told h.tokens) ∙ ap edges_in (sym h.noted.items) ∙ edges_noted notes h.noted.behind

pub has_edges : (file : List ℕ) (notes : Notes) → HasNotes file notes → HasEdges file (map edge_of notes.marks.items)
has_edges file notes h = record {
  tags = tags_of h.tokens;
  rest = h.rest;
  read = reader.reads_told file h.rest h.tokens h.are.read;
  ended = h.are.ended;
  is = edges_are file notes h;
}

-- ---- their order

abbrev bytes_of : List Edge → List ℕ
bytes_of edges = map (λ (e : Edge). e.at) edges

tag_in_order : (at from end : ℕ) (ms : List TagMark) (more : List Edge) → from ≤ at → at < end
    → StandInOrder at (bytes_of more) end → StandInOrder from (bytes_of (edges_by at ms ++ more)) end
tag_in_order at from end [] more le lt h = reader.order_from from at end (bytes_of more) le h
tag_in_order at from end (begins e attributes ∷ ms) more le lt h =
    (le, (lt, tag_in_order at at end ms more (omega arith) lt h))
tag_in_order at from end (ends e ∷ ms) more le lt h = (le, (lt, tag_in_order at at end ms more (omega arith) lt h))
tag_in_order at from end (alien ∷ ms) more le lt h = tag_in_order at from end ms more le lt h

edges_in_order : (from end : ℕ) (ts : List Token) → StandInOrder from (map token_byte ts) end
    → StandInOrder from (bytes_of (edges_of (tags_of ts))) end
edges_in_order from end [] h = tt
edges_in_order from end (remark at inside ∷ ts) h =
    reader.order_from from at end (bytes_of (edges_of (tags_of ts))) h.0 (edges_in_order at end ts h.1.1)
edges_in_order from end (tagged t ∷ ts) h =
    tag_in_order t.at from end (marks_of t.tag) (edges_of (tags_of ts)) h.0 h.1.0 (edges_in_order t.at end ts h.1.1)

marks_order : (file : List ℕ) (notes : Notes) → HasNotes file notes
    → StandInOrder 0 (bytes_of (map edge_of notes.marks.items)) (length file)
marks_order file notes h =
    subst (λ es. StandInOrder 0 (bytes_of es) (length file)) (edges_are file notes h)
    (edges_in_order 0 (length file) h.tokens (reader.tokens_in_order file h.rest h.tokens h.are))

marks_below : (from end : ℕ) (marks : List Mark) → StandInOrder from (bytes_of (map edge_of marks)) end
    → All (λ (m : Mark). m.at < end) marks
marks_below from end [] h = All-nil (λ (m : Mark). m.at < end)
marks_below from end (m ∷ marks) h =
    All-cons (λ (o : Mark). o.at < end) m marks h.1.0 (marks_below m.at end marks h.1.1)

marks_above : (low from end : ℕ) (marks : List Mark) → low ≤ from → StandInOrder from (bytes_of (map edge_of marks)) end
    → All (λ (m : Mark). low ≤ m.at) marks
marks_above low from end [] le h = All-nil (λ (m : Mark). low ≤ m.at)
marks_above low from end (m ∷ marks) le h =
    let up = h.0 in
    let here : low ≤ m.at = omega arith in
    All-cons (λ (o : Mark). low ≤ o.at) m marks here (marks_above low m.at end marks here h.1.1)

rises : (m : Mark) (marks : List Mark) → All (λ (o : Mark). m.at ≤ o.at) marks
    → IsNonDecreasingBy (λ (o : Mark). o.at) marks → IsNonDecreasingBy (λ (o : Mark). o.at) (m ∷ marks)
rises m marks above h zero zero d le lt = omega arith
rises m marks above h zero (suc j) d le lt = above j d (omega arith)
rises m marks above h (suc i) zero d le lt = absurd (omega arith)
rises m marks above h (suc i) (suc j) d le lt = h i j d (omega arith) (omega arith)

marks_rise : (from end : ℕ) (marks : List Mark) → StandInOrder from (bytes_of (map edge_of marks)) end
    → IsNonDecreasingBy (λ (m : Mark). m.at) marks
marks_rise from end [] h = λ i j d le lt. absurd (omega arith)
marks_rise from end (m ∷ marks) h =
    rises m marks (marks_above m.at m.at end marks (omega arith) h.1.1) (marks_rise m.at end marks h.1.1)

-- ---- what is said of a file's notes

pub whole_notes : (file : List ℕ) (tokens : Tokens) (notes : Notes) → AreRead file tokens → IsNoted (tokens_of tokens) notes
    → HasNotes file notes
whole_notes file tokens notes read noted =
    record { tokens = tokens_of tokens; rest = tokens.left.now; are = read; noted = noted }

pub marks_within : (file : List ℕ) (notes : Notes) → HasNotes file notes
    → All (λ (m : Mark). m.at < length file) notes.marks.items
marks_within file notes h = marks_below 0 (length file) notes.marks.items (marks_order file notes h)

pub marks_in_order : (file : List ℕ) (notes : Notes) → HasNotes file notes
    → IsNonDecreasingBy (λ (m : Mark). m.at) notes.marks.items
marks_in_order file notes h = marks_rise 0 (length file) notes.marks.items (marks_order file notes h)

pub have_comments : (file : List ℕ) (notes : Notes) → HasNotes file notes
    → HaveComments notes.marks.items (vec_len notes.comments)
have_comments file notes h = record { behind = h.noted.behind; in_turn = h.noted.in_turn; within = h.noted.within }
