use Rattle.std.proofs.Common.{arith}
use Rattle.pap_compiler.proofs.SizeLemmas.{size_at}
use Rattle.pap_compiler.proofs.sizes.+size.Goals as goal

pub body_size-stmt_size-requires : goal.body_size-stmt_size-requires
body_size-stmt_size-requires t c =
    let h = size_at c.args.body.now c.loop-s.s-index c.s-item.result c.s-item.is c.loop-s-test.true in
    (omega (arith, h.length), omega (arith, h.length))

pub body_size-then-size-requires : goal.body_size-then-size-requires
body_size-then-size-requires t c =
    let h = size_at c.args.body.now c.loop-s.s-index c.s-item.result c.s-item.is c.loop-s-test.true in
    omega (arith, h.length)

pub body_size-loop-s-preserved : goal.body_size-loop-s-preserved
body_size-loop-s-preserved t c =
    let h = size_at c.args.body.now c.loop-s.s-index c.s-item.result c.s-item.is c.loop-s-test.true in
    record { length = omega (arith, h.length); height = omega (arith, h.height, c.loop-s.invariant.height) }
