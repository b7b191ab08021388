use Rattle.std.proofs.Common.{refl, arith}
use Rattle.script_run.proofs.KeepingLaws.{keeps_all, keeps_part}
use Rattle.script_run.proofs.open_line.OpenLine.keep.Goals as goal

pub returns-in_ok-extend_from_slice : goal.returns-in_ok-extend_from_slice
returns-in_ok-extend_from_slice c =
    keeps_all c.args.self.now _ c.args.more.now c.space-room.result c.space-room.ensures
    c.in_ok-extend_from_slice.ensures.items refl (omega arith)

pub returns-in_ok-extend_from_slice-2 : goal.returns-in_ok-extend_from_slice-2
returns-in_ok-extend_from_slice-2 c =
    keeps_part c.args.self.now _ c.args.more.now c.space-room.result c.space-room.ensures
    c.in_ok-extend_from_slice-2.ensures.items refl (omega arith)
