use Rattle.std.proofs.Common.{sym, subst}
use Rattle.flowchart_comparison.specs.Comparisons.{item_names}
use Rattle.flowchart_comparison.specs.private.NameViews.{ProposesPartners}
use Rattle.flowchart_comparison.proofs.NameLemmas.{partners_by_name}
use Rattle.flowchart_comparison.proofs.comparison.pair_items.Goals as goal

pub pair_up-requires : goal.pair_up-requires
pair_up-requires c =
    subst (λ l. ProposesPartners (item_names c.args.old.now) (item_names c.args.new.now) l) (sym c.deref.ensures.value)
    (partners_by_name (item_names c.args.old.now) (item_names c.args.new.now) c.in_ok-proposed.proposed.items
    c.in_ok-proposed.ensures)
