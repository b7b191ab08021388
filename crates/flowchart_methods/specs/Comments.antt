-- Comments of the plan's file in a page.
use Rattle.std.specs.Prelude.{ℕ, Bool, not, ◌-◌, ◌&&◌, if◌then◌else◌, List, [], ◌∷◌, ◌++◌, length, codes, map, filter, drop, slice_get, String, string_bytes}
use Rattle.std.specs.declared.alloc.Global.{Global}
use Rattle.std.specs.List.{flat_map, join_with_byte}
use Rattle.std.specs.Option.{option_map_or}
use Rattle.pap_reader.specs.declared.element.Element.{Element}
use Rattle.pap_reader.specs.Table.{same}
use Rattle.plan_notes.specs.declared.tag.Mark.{Mark}
use Rattle.plan_notes.specs.declared.notes.Notes.{Notes}
use Rattle.plan_notes.specs.Walks.{comments_at}
use Rattle.flowchart_markup.specs.Escapes.{escaped}

-- comments, with a space between two of them
abbrev pub comments_text : List (String Global) → List ℕ
comments_text comments = join_with_byte 0x20 (map (λ comment. escaped (string_bytes comment)) comments)

-- a paragraph of comments, where there are some
abbrev pub paragraph : List (String Global) → List ℕ
paragraph [] = []
paragraph (comment ∷ comments) =
    codes "<p class=\"com\">" ++ (comments_text (comment ∷ comments) ++ codes "</p>\n")

-- an element of this kind begins at the mark, or ends at it
abbrev pub is_tag : Element → Bool → Mark → Bool
is_tag element is_end mark = same mark.element element && (if is_end then mark.is_end else not mark.is_end)

-- a paragraph of the comments before each tag with which such an element begins, or before each with which one ends
abbrev pub paragraphs : Notes → Element → Bool → List ℕ
paragraphs notes element is_end =
    flat_map (λ mark. paragraph (comments_at notes.comments.items mark))
    (filter (is_tag element is_end) notes.marks.items)

-- how many comments stand before the last of the tags
abbrev pub count_before : List Mark → ℕ
count_before marks = option_map_or (λ mark. mark.last) (slice_get marks (length marks - 1)) 0

-- a paragraph of the comments behind the last tag
abbrev pub last_paragraph : Notes → List ℕ
last_paragraph notes = paragraph (drop (count_before notes.marks.items) notes.comments.items)
