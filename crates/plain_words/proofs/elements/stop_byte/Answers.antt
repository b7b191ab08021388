use Rattle.std.proofs.Common.{sym, ◌∙◌}
use Rattle.plain_words.proofs.StopLemmas.{stop_outside, stop_at_first}
use Rattle.plain_words.proofs.elements.stop_byte.Goals as goal

pub returns-in_default : goal.returns-in_default
returns-in_default c = stop_outside c.args.plan.now c.args.at c.args.stop c.requires.stops c.in_default.is

pub returns-else-begins_with_sign : goal.returns-else-begins_with_sign
returns-else-begins_with_sign c =
    stop_at_first c.args.plan.now c.args.at c.args.stop c.in-Some.front c.requires.stops c.in-Some.is
    (sym c.begins_with_sign.ensures ∙ c.if-begins_with_sign.false)
