use Rattle.expr_tokens.specs.Spots.{spot_of}
use Rattle.pap_expr.specs.private.Constants.{room_of}
use Rattle.pap_expr.proofs.ConstantLemmas.{point_moves}
use Rattle.pap_expr.proofs.constants.value_point.Goals as goal

pub returns-in-Some : goal.returns-in-Some
returns-in-Some c =
    point_moves c.args.d c.in-Some.short (room_of c.args.room) (spot_of c.args.found.now) c.close.result c.in-Some.ensures (c.close.ensures 0)
