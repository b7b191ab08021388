use Rattle.std.proofs.Common.{[], ◌∷◌, ◌++◌, sym, ap, ◌∙◌, append_assoc}
use Rattle.std.specs.Vec.Iter.{into_iter_items}
use Rattle.book_edits.proofs.GroupLemmas.{groups_more}
use Rattle.book_edits.proofs.groups.groups_of.Goals as goal

pub loop-item-preserved : goal.loop-item-preserved
loop-item-preserved c =
    let l = c.loop-item in
    record {
      groups = groups_more l.yielded c.in-Some.item l.groups.items c.put_item.new.groups.items l.invariant.groups c.in_ok-put_item.ensures;
      rest = append_assoc l.yielded (c.in-Some.item ∷ []) (into_iter_items c.next.new.self) ∙ ap (λ t. l.yielded ++ t) (sym c.in-Some.ensures.steps.0) ∙ l.invariant.rest;
    }
