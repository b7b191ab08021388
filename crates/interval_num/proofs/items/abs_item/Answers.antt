use Rattle.std.proofs.Common.{sym, ◌∙◌}
use Rattle.interval_num.specs.Soundness.{ItemIsSound}
use Rattle.interval_num.proofs.AlignmentLemmas.{if_ok}
use Rattle.interval_num.proofs.ItemLemmas.{item_sound}
use Rattle.interval_num.proofs.TogetherLemmas.{chosen_row}
use Rattle.interval_num.proofs.items.abs_item.Goals as goal

pub returns-clause-exact : goal.returns-clause-exact
returns-clause-exact c = chosen_row c.args.items.now c.args.index (c.in_ok-first.first, c.in_ok-first.end) c.together.result c.in_ok-first.ensures.places c.together.ensures

pub returns-clause-sound : goal.returns-clause-sound
returns-clause-sound c = if_ok c.together.result (ItemIsSound c.args.items.now c.args.index) (λ r e. item_sound c.args.items.now c.args.index r c.requires (sym (returns-clause-exact c) ∙ e))
