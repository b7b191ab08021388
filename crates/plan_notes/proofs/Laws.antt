-- What a walk finds, start tag by start tag of an element, and what a file's tokens say.
use Rattle.std.proofs.Common.{◌≡◌, ℕ, ◌+◌, List, ap, ◌∙◌}
use Rattle.std.specs.Prelude.{find}
use Rattle.pap_reader.specs.declared.element.Element.{Element}
use Rattle.plan_notes.specs.declared.tag.Mark.{Mark}
use Rattle.plan_notes.specs.declared.tag.Starts.{Starts}
use Rattle.plan_notes.specs.declared.tag.Starts.TheVariants.{Of}
use Rattle.plan_notes.specs.declared.notes.Notes.{Notes}
use Rattle.plan_notes.specs.declared.notes.Walk.{Walk}
use Rattle.plan_notes.specs.Walks.{notes_of, marks_left, is_start, behind_start, behind_starts, comments_of}
use Rattle.plan_notes.specs.StartTags.{comments_before}
use Rattle.plan_notes.proofs.WalkLemmas as walks
pub use Rattle.plan_notes.proofs.EdgeLemmas.{whole_notes}

-- behind so many start tags it finds the comments before the next
pub comments_found : (notes : Notes) (walk : Walk) (element : Element) (number : ℕ) → notes_of walk ≡ notes
    → marks_left walk ≡ behind_starts (Of element) number notes.marks.items
    → comments_of (notes_of walk) (find (is_start (Of element)) (marks_left walk))
    ≡ comments_before notes element number
comments_found notes walk element number same left =
    ap (λ n. comments_of n (find (is_start (Of element)) (marks_left walk))) same
    ∙ ap (λ marks. comments_of notes (find (is_start (Of element)) marks)) left
    ∙ ap (comments_of notes) (walks.found_start (Of element) number notes.marks.items)

-- and then it stands behind one more
pub one_start_more : (starts : Starts) (number : ℕ) (marks : List Mark)
    → behind_start starts (behind_starts starts number marks) ≡ behind_starts starts (number + 1) marks
one_start_more = walks.one_start_more
