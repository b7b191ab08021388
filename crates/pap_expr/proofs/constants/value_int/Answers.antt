use Rattle.std.proofs.Common.{sym}
use Rattle.std.specs.Int.{w32}
use Rattle.std.proofs.lemmas.Int.{to_z-of_z}
use Rattle.expr_tokens.specs.Spots.{spot_of}
use Rattle.pap_expr.specs.private.Constants.{room_of}
use Rattle.pap_expr.proofs.ConstantLemmas.{int_moves}
use Rattle.pap_expr.proofs.constants.value_int.Goals as goal

pub returns : goal.returns
returns c =
    int_moves c.args.i (room_of c.args.room) (spot_of c.args.found.now) c.close.result (sym c.if-is_sign.ensures) (rw (c.int.ensures, to_z-of_z w32 c.args.i c.ranges.i) at (c.close.ensures 0))
