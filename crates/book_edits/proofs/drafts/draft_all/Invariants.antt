use Rattle.std.specs.Vec.Iter.{into_iter_items}
use Rattle.book_year.specs.Accepted.{plans_in}
use Rattle.book_edits.specs.Kept.{runs_in}
use Rattle.book_edits.proofs.DraftLemmas.{AreDraftedSoFar}
use Rattle.book_edits.proofs.drafts.draft_all.Given as goal

abbrev pub invariant-loop-group : goal.invariant-loop-group
invariant-loop-group g l = AreDraftedSoFar (plans_in l.fn.plans) (runs_in l.fn.list) l.fn.groups.items (into_iter_items l.group-iterator) l.drafts.items l.runs l.taken l.fn.steps l.steps
