-- The comments before the start tags of an element.
use Rattle.std.specs.Prelude.{ℕ, List, filter, slice_get, String}
use Rattle.std.specs.declared.alloc.Global.{Global}
use Rattle.pap_reader.specs.declared.element.Element.{Element}
use Rattle.plan_notes.specs.declared.tag.Starts.TheVariants.{Of}
use Rattle.plan_notes.specs.declared.notes.Notes.{Notes}
use Rattle.plan_notes.specs.Walks.{is_start, comments_of}

-- the comments before the numbered start tag of the element, counted from 0; none where there are fewer
abbrev pub comments_before : Notes → Element → ℕ → List (String Global)
comments_before notes element number =
    comments_of notes (slice_get (filter (is_start (Of element)) notes.marks.items) number)
