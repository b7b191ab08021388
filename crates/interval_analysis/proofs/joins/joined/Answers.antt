use Rattle.std.proofs.Common.{◌∙◌, sym}
use Rattle.interval_analysis.proofs.MeetLemmas.{first_around, second_around}
use Rattle.interval_analysis.proofs.joins.joined.Goals as goal

pub returns-then-is_around : goal.returns-then-is_around
returns-then-is_around c =
    sym (first_around c.args.range c.args.other c.is_kept.ensures c.is_kept-2.ensures (sym c.is_around.ensures ∙ c.if-is_around.true))

pub returns-then-is_around-2 : goal.returns-then-is_around-2
returns-then-is_around-2 c =
    sym (second_around c.args.range c.args.other c.is_kept.ensures c.is_kept-2.ensures (sym c.is_around-2.ensures ∙ c.if-is_around-2.true))
