use Rattle.std.proofs.Common.{sym, ◌∙◌, arith}
use Rattle.std.specs.Prelude.{Some}
use Rattle.std.proofs.lemmas.Map.Text.{btree_map_updates_str}
use Rattle.flowchart_comparison.specs.Comparisons.{item_names}
use Rattle.flowchart_comparison.specs.private.NameViews.{place_in}
use Rattle.flowchart_comparison.proofs.NameLemmas.{item_name, places_more}
use Rattle.flowchart_comparison.proofs.proposals.places_of.Goals as goal

pub loop-place-preserved : goal.loop-place-preserved
loop-place-preserved c =
    places_more (item_names c.args.items.now) c.loop-place.place c.name_bytes.result.now (place_in c.loop-place.places)
    (place_in c.insert.new.self)
    (item_name c.args.items.now c.loop-place.place c.index-items-place.result (omega arith) c.index-items-place.is
    ∙ sym c.name_bytes.ensures)
    (btree_map_updates_str c.name_bytes.result.now c.loop-place.places c.insert.new.self (Some c.loop-place.place)
    c.in_ok-insert.ensures.updates)
    c.loop-place.invariant
