use Rattle.std.proofs.Common.{◌∙◌, subst, sym}
use Rattle.std.proofs.lemmas.Fmt.{parse-decimal}
use Rattle.messages.specs.private.Cuts.{IsPlain}
use Rattle.messages.proofs.NumberLemmas.{decimal_plain, plain_number}
use Rattle.messages.proofs.reading.read_number.Goals as goal

pub returns-in_default : goal.returns-in_default
returns-in_default c = λ number small is.
    let same = parse-decimal 64 number c.args.digits.now c.parse.result small small is c.parse.ensures.value.0 in
    cc

pub returns-then-is_plain : goal.returns-then-is_plain
returns-then-is_plain c =
    plain_number c.args.digits.now c.in-Ok.number c.in-Ok.ensures.value.0
    (subst IsPlain c.as_bytes.ensures.value (c.is_plain.ensures.plain c.if-is_plain.true))

pub returns-else-is_plain : goal.returns-else-is_plain
returns-else-is_plain c = λ number small is.
    let plain = c.is_plain.ensures.alone (subst IsPlain (sym (c.as_bytes.ensures.value ∙ is)) (decimal_plain number small)) in
    cc (plain, c.if-is_plain.false)
