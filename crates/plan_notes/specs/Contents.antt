-- What is told of a plan's file: its comments, the places where its elements begin and end, and what its root says.
use Rattle.std.specs.Prelude.{ℕ, List, [], ◌∷◌, map, filter}
use Rattle.std.specs.List.{fold, flat_map}
use Rattle.pap_reader.specs.declared.element.Element.TheVariants.{Pap}
use Rattle.pap_reader.specs.Tags.{Attribute}
use Rattle.pap_reader.specs.Marks.{Mark, begins, marks_of}
use Rattle.pap_reader.specs.Contents.{Token, remark, tagged}
use Rattle.plan_notes.specs.Edges.{Edge, edges_by}
use Rattle.plan_notes.specs.Lines.{is_some_text, line_text}

-- a comment in one line, or where an element begins or ends
pub data NoteItem : Type 0 where
  line : List ℕ → NoteItem
  place : Edge → NoteItem

-- what is told of a comment with these bytes inside: its line, if it isn't blank
abbrev pub remark_items : List ℕ → List NoteItem
remark_items inside = map line (filter is_some_text (line_text inside ∷ []))

-- what is told of a token: a comment that isn't blank, or the places at the marks of a tag
abbrev pub items_by : Token → List NoteItem
items_by (remark at inside) = remark_items inside
items_by (tagged t) = map place (edges_by t.at (marks_of t.tag))

-- what is told of some tokens, in their order
abbrev pub items_told : List Token → List NoteItem
items_told ts = flat_map items_by ts

-- the attributes with which a PAP begins at the mark, or else those before
abbrev pub root_at : List Attribute → Mark → List Attribute
root_at before (begins Pap attributes) = attributes
root_at before _ = before

-- the attributes of the last PAP up to this token
abbrev pub root_by : List Attribute → Token → List Attribute
root_by before (remark at inside) = before
root_by before (tagged t) = fold root_at before (marks_of t.tag)

-- the attributes of the last PAP that begins; none where none does
abbrev pub root_of : List Token → List Attribute
root_of ts = fold root_by [] ts
