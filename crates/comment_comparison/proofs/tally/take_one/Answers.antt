use Rattle.std.proofs.Common.{◌-◌, ap}
use Rattle.std.specs.Prelude.{Some}
use Rattle.std.proofs.lemmas.Map.Text.{btree_map_updates_str}
use Rattle.comment_comparison.proofs.TallyLemmas.{count_less}
use Rattle.comment_comparison.proofs.tally.take_one.Goals as goal

pub returns-clause-left : goal.returns-clause-left
returns-clause-left c =
    let n = c.count_of-count.result - 1 in
    count_less c.args.counts.now c.insert.new.self c.args.text.now n
    (btree_map_updates_str c.args.text.now c.args.counts.now c.insert.new.self (Some n) c.in_ok-insert.ensures.updates)
    (ap (λ k. k - 1) c.count_of-count.ensures)
