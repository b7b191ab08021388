use Rattle.std.proofs.Common.{subst}
use Rattle.messages.specs.Turns.{IsFirstTurn}
use Rattle.messages.proofs.TurnLemmas.{boundary_behind}
use Rattle.messages.proofs.reading.split_help.Goals as goal

pub range_from-help-requires : goal.range_from-help-requires
range_from-help-requires c =
    let first : IsFirstTurn c.args.reason.now c.in-Some.turn =
    subst (λ r. IsFirstTurn r c.in-Some.turn) c.as_bytes.ensures.value c.in-Some.ensures in
    λ some. boundary_behind c.args.reason.now c.in-Some.turn c.utf8.reason first.turn
