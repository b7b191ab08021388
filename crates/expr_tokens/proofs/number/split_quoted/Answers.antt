use Rattle.std.proofs.Common.{refl, arith}
use Rattle.pap_tree.specs.Tokens.{Beyond, Quoted, great_quoted}
use Rattle.expr_tokens.proofs.StringLemmas.{string_begins, no_end, no_number}
use Rattle.expr_tokens.proofs.number.split_quoted.Goals as goal

pub returns-in_default : goal.returns-in_default
returns-in_default c = no_end c.args.bytes.now c.in_default.ensures

pub returns-in-Ok : goal.returns-in-Ok
returns-in-Ok c =
    let read = (c.in-Ok.ensures.number c.in-Ok.number).0 refl in
    string_begins c.args.bytes.now c.in-Some.inner.now c.in-Some.after.now (Quoted c.in-Ok.number) c.in-Some.ensures ((c.in-Some.inner.now, refl, read.0), read.1)

pub returns-in-Err-Shape : goal.returns-in-Err-Shape
returns-in-Err-Shape c =
    let e = rw c.in-Err-Shape.field-0-is at c.in-Err-Shape.ensures.shape in
    no_number c.args.bytes.now c.in-Some.inner.now c.in-Some.after.now c.in-Some.ensures ((e c.in-Err-Shape.field-0-0).0 refl).0

pub returns-in-Err-Scale : goal.returns-in-Err-Scale
returns-in-Err-Scale c =
    let e = rw c.in-Err-Scale.field-0-is at c.in-Err-Scale.ensures.scale in
    let many = e.0 refl in
    string_begins c.args.bytes.now c.in-Some.inner.now c.in-Some.after.now Beyond c.in-Some.ensures
    (great_quoted many.number (c.in-Some.inner.now, refl, many.spells) (λ kept. let a = many.many in let b = kept.scale in omega arith))

pub returns-in-Err-Wide : goal.returns-in-Err-Wide
returns-in-Err-Wide c =
    let e = rw c.in-Err-Wide.field-0-is at c.in-Err-Wide.ensures.wide in
    let wide = e.0 refl in
    string_begins c.args.bytes.now c.in-Some.inner.now c.in-Some.after.now Beyond c.in-Some.ensures
    (great_quoted wide.number (c.in-Some.inner.now, refl, wide.spells) (λ kept. wide.beyond kept.numerator))
