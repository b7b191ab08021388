use Rattle.std.proofs.Common.{sym, ap, ◌∙◌}
use Rattle.std.specs.Prelude.{Some}
use Rattle.std.proofs.lemmas.Map.Text.{btree_map_updates_str}
use Rattle.flowchart_comparison.specs.Comparisons.{item_names}
use Rattle.flowchart_comparison.specs.private.NameViews.{place_in}
use Rattle.flowchart_comparison.proofs.NameLemmas.{item_name, gone_more}
use Rattle.flowchart_comparison.proofs.proposals.add_gone.Goals as goal

pub returns-in_ok-insert-in-None : goal.returns-in_ok-insert-in-None
returns-in_ok-insert-in-None c =
    gone_more (item_names c.args.items.now) c.args.place c.text.result.now (place_in c.args.names.now)
    (place_in c.args.gone.now) (place_in c.insert.new.self)
    (ap (place_in c.args.names.now)
    (item_name c.args.items.now c.args.place c.index-items-place.result c.requires c.index-items-place.is
    ∙ sym c.name_bytes.ensures)
    ∙ sym c.in-None.ensures)
    (btree_map_updates_str c.text.result.now c.args.gone.now c.insert.new.self (Some c.args.place)
    c.in_ok-insert-in-None.ensures.updates)
