use Rattle.std.proofs.Common.{sym, subst}
use Rattle.std.specs.Str.{IsUtf8}
use Rattle.saved_items.specs.private.NumberViews.{BeginsNumber}
use Rattle.saved_items.proofs.NumberLemmas.{whole_begins, whole_utf8, read_answer}
use Rattle.saved_items.proofs.numbers.read_number.Goals as goal

pub returns-then-not-begins_number : goal.returns-then-not-begins_number
returns-then-not-begins_number c = λ n small is.
    c.if-not-begins_number.ensures (subst BeginsNumber (sym is) (whole_begins n))

pub returns-in-Ok : goal.returns-in-Ok
returns-in-Ok c =
    read_answer c.args.word.now c.in-Ok.text.now c.parse.result c.ok.result c.in-Ok.ensures.cases.0
    c.parse.ensures.value.0 c.if-not-begins_number.ensures c.ok.ensures.value

pub returns-in-Err : goal.returns-in-Err
returns-in-Err c = λ n small is. c.in-Err.ensures.cases.0 (subst IsUtf8 (sym is) (whole_utf8 n small))
