use Rattle.std.proofs.Common.{◌≡◌, ◌++◌, take}
use Rattle.std.specs.Prelude.{filter}
use Rattle.std.specs.List.{flat_map}
use Rattle.plan_notes.specs.Walks.{comments_at}
use Rattle.flowchart_methods.specs.Comments.{paragraph, is_tag}
use Rattle.flowchart_methods.proofs.comments.write_paragraphs.Given as goal

-- the paragraphs of the tags so far are written
abbrev pub invariant-loop-mark : goal.invariant-loop-mark
invariant-loop-mark l =
    l.page ≡ l.initial.page
    ++ flat_map (λ mark. paragraph (comments_at l.notes.comments.items mark))
    (filter (is_tag l.element l.is_end) (take l.mark-index l.notes.marks.items))
