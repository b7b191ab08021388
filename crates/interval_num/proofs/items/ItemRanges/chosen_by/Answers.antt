use Rattle.std.proofs.Common.{arith, ◌≡◌, ◌∙◌, sym, ap, subst, length, map}
use Rattle.interval_num.specs.Rows.{decimals_row}
use Rattle.interval_num.specs.ItemLevels.{first_level}
use Rattle.interval_num.specs.Soundness.{ItemIsSound}
use Rattle.interval_num.specs.private.Views.{ArePlaces}
use Rattle.interval_num.proofs.AlignmentLemmas.{if_ok}
use Rattle.interval_num.proofs.ItemLemmas.{item_sound}
use Rattle.interval_num.proofs.LevelLemmas.{alone, alone_some, alone_rows, alone_range}
use Rattle.interval_num.proofs.TogetherLemmas.{chosen_row}
use Rattle.interval_num.proofs.items.ItemRanges.chosen_by.Goals as goal

pub returns-clause-exact : goal.returns-clause-exact
returns-clause-exact c =
    let items = c.self.inside.items.items in
    let first = c.in_ok-first.first in
    let end = c.in_ok-first.end in
    let base : first_level c.as_slice.result.now ≡ map decimals_row (alone items) = ap first_level c.as_slice.ensures.value ∙ c.self.invariant.first ∙ alone_rows items in
    let found = c.between.ensures (alone items) (alone_some items) base ∙ ap decimals_row (alone_range items first end) in
    let size : c.len.result ≡ length items = omega (arith, c.len.ensures) in
    let at = subst (λ n. ArePlaces c.args.index n (first, end)) size c.in_ok-first.ensures.places in
    rw (← c.self.view_is) (chosen_row items c.args.index (first, end) c.between.result at found)

pub returns-clause-sound : goal.returns-clause-sound
returns-clause-sound c = if_ok c.between.result (ItemIsSound c.args.self.now c.args.index) (λ r e. item_sound c.args.self.now c.args.index r c.requires (sym (returns-clause-exact c) ∙ e))
