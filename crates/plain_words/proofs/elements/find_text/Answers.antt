use Rattle.std.proofs.Common.{subst}
use Rattle.plain_words.specs.private.StopViews.{StopsAs}
use Rattle.plain_words.proofs.elements.find_text.Goals as goal

pub stop_byte-requires-clause-stops : goal.stop_byte-requires-clause-stops
stop_byte-requires-clause-stops c =
    subst (λ tag. StopsAs tag c.tag_stop-stop.result) c.text_from-text.ensures.from c.tag_stop-stop.ensures.stops
