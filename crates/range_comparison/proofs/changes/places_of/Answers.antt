use Rattle.std.proofs.Common.{◌≡◌, ◌+◌, ◌-◌, arith, sym, subst}
use Rattle.std.specs.Prelude.{Some}
use Rattle.std.proofs.lemmas.Map.Text.{btree_map_updates_str}
use Rattle.range_comparison.specs.private.EntryViews.{ArePlacesFrom}
use Rattle.range_comparison.proofs.ChangeLemmas.{places_more}
use Rattle.range_comparison.proofs.changes.places_of.Goals as goal

pub loop-place-preserved : goal.loop-place-preserved
loop-place-preserved c =
    let back : c.loop-place.place ≡ (c.loop-place.place - 1) + 1 = omega arith in
    places_more c.args.entries.now (c.loop-place.place - 1) c.index-entries-place.result c.name_bytes.result.now
    c.loop-place.places c.insert.new.self (omega arith) c.index-entries-place.is c.name_bytes.ensures
    (btree_map_updates_str c.name_bytes.result.now c.loop-place.places c.insert.new.self (Some (c.loop-place.place - 1))
    c.in_ok-insert.ensures.updates)
    (subst (λ n. ArePlacesFrom n c.args.entries.now c.loop-place.places) back c.loop-place.invariant)
