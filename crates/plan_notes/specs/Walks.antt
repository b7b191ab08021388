-- A walk along the marks of a file: which are left, and what is found on the way.
use Rattle.std.specs.Prelude.{ℕ, zero, suc, Bool, true, false, not, ◌&&◌, nat_le, if◌then◌else◌, Option, Some, None, option_map, List, [], ◌∷◌, length, filter, slice_get, slice_range, String}
use Rattle.std.specs.declared.alloc.Global.{Global}
use Rattle.std.specs.List.{list_any, after_first}
use Rattle.pap_reader.specs.declared.element.Element.{Element}
use Rattle.pap_reader.specs.declared.element.Element.TheVariants.{Eval, Execute, If}
use Rattle.pap_reader.specs.Table.{same}
use Rattle.plan_notes.specs.declared.tag.Mark.{Mark}
use Rattle.plan_notes.specs.declared.tag.Starts.{Starts}
use Rattle.plan_notes.specs.declared.tag.Starts.TheVariants.{Of, OfStatements}
use Rattle.plan_notes.specs.declared.notes.Notes.{Notes}
use Rattle.plan_notes.specs.declared.notes.Walk.{Walk}

-- the notes that are walked along
abbrev pub notes_of : Walk → Notes
notes_of walk = walk.notes.now

-- the marks that are left
abbrev pub marks_left : Walk → List Mark
marks_left walk = walk.left.now

-- the element is a statement
abbrev pub is_statement : Element → Bool
is_statement Eval = true
is_statement Execute = true
is_statement If = true
is_statement _ = false

-- the mark's element is looked for
abbrev pub is_sought : Starts → Element → Bool
is_sought (Of sought) element = same element sought
is_sought OfStatements element = is_statement element

-- an element that is looked for begins at the mark
abbrev pub is_start : Starts → Mark → Bool
is_start starts mark = is_sought starts mark.element && not mark.is_end

-- the byte of the numbered one of the starts, counted from 0
abbrev pub start_byte : Starts → ℕ → List Mark → Option ℕ
start_byte starts number marks = option_map (λ mark. mark.at) (slice_get (filter (is_start starts) marks) number)

-- the marks behind the first start; all where there is none
abbrev pub behind_start : Starts → List Mark → List Mark
behind_start starts marks = if list_any (is_start starts) marks then after_first (is_start starts) marks else marks

-- the marks behind so many starts; behind the last where there are fewer
abbrev pub behind_starts : Starts → ℕ → List Mark → List Mark
behind_starts starts zero marks = marks
behind_starts starts (suc count) marks = behind_start starts (behind_starts starts count marks)

-- the comments of a mark's numbers; none where there aren't so many
abbrev pub comments_at : List (String Global) → Mark → List (String Global)
comments_at comments mark = if nat_le mark.last (length comments) then slice_range comments mark.first mark.last else []

-- the comments of a mark that is found
abbrev pub comments_of : Notes → Option Mark → List (String Global)
comments_of notes None = []
comments_of notes (Some mark) = comments_at notes.comments.items mark

-- the mark that is the next begins an element that is looked for
abbrev pub begins_wanted : Starts → List Mark → Bool
begins_wanted starts [] = false
begins_wanted starts (mark ∷ marks) = is_start starts mark
