use Rattle.range_comparison.proofs.ChangeLemmas.{changes_of}
use Rattle.range_comparison.proofs.changes.compare_entries.Goals as goal

pub returns : goal.returns
returns c =
    changes_of c.args.old.now c.args.new.now c.in_ok-old_places.old_places c.in_ok-new_places.new_places
    c.args.changes.now.items c.push_changes.new.changes.items c.push_gone.new.changes.items c.in_ok-old_places.ensures
    c.in_ok-new_places.ensures c.in_ok-push_changes.ensures c.in_ok-push_gone.ensures
