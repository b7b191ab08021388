use Rattle.std.proofs.Common.{◌+◌, ◌<◌, sym, subst}
use Rattle.pap_reader.proofs.Codes.{one_more, beyond, whole}
use Rattle.pap_reader.proofs.values.code_of.Goals as goal

pub returns-then-code-gt127 : goal.returns-then-code-gt127
returns-then-code-gt127 c =
    let i = c.loop-digit.invariant in
    let m = one_more c.args.radix c.args.digits.now c.loop-digit.digit-index c.loop-digit.code c.from.result c.in_ok-code.field-0 c.loop-digit-test.true i.digits i.value c.from.ensures c.in_ok-code.ensures.value in
    sym (beyond c.args.radix c.args.digits.now (c.loop-digit.digit-index + 1) c.requires.low (subst (λ v. 127 < v) m.1 c.if-code-gt127.true))

pub loop-digit-preserved : goal.loop-digit-preserved
loop-digit-preserved c =
    let i = c.loop-digit.invariant in
    let m = one_more c.args.radix c.args.digits.now c.loop-digit.digit-index c.loop-digit.code c.from.result c.in_ok-code.field-0 c.loop-digit-test.true i.digits i.value c.from.ensures c.in_ok-code.ensures.value in
    record { digits = m.0; value = m.1; small = c.if-code-gt127.false }

pub returns-else-code-eq0 : goal.returns-else-code-eq0
returns-else-code-eq0 c =
    let i = c.loop-digit.invariant in
    sym (whole c.args.radix c.args.digits.now c.loop-digit.digit-index c.loop-digit.code c.loop-digit-test.false i.digits i.value i.small c.if-code-eq0.false)
