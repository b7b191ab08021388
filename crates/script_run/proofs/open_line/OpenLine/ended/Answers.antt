use Rattle.std.proofs.Common.{◌≡◌, ◌∙◌, ◌<◌, length, ap, arith}
use Rattle.std.specs.Str.Lines.{strip_carriage_return}
use Rattle.script_run.proofs.KeepingLaws.{none_of, some_of, says_whole, says_long, says_kept}
use Rattle.script_run.proofs.open_line.OpenLine.ended.Goals as goal

pub returns-then-is_empty : goal.returns-then-is_empty
returns-then-is_empty c = λ line ends.
    let none = none_of c.as_slice-kept.result.now c.is_empty.result c.is_empty.ensures c.if-is_empty.true in
    let items : length c.args.self.now.bytes.items ≡ 0 = omega (arith, none, ap length c.as_slice-kept.ensures.value) in
    says_whole c.args.self.now c.args.last.now c.without_cr.result.now line ends items c.without_cr.ensures

pub returns-then-self : goal.returns-then-self
returns-then-self c = λ line ends.
    let some = some_of c.as_slice-kept.result.now c.is_empty.result c.is_empty.ensures c.if-is_empty.false in
    let items : 0 < length c.args.self.now.bytes.items = omega (arith, some, ap length c.as_slice-kept.ensures.value) in
    says_long c.args.self.now c.args.last.now c.as_slice-kept.result.now line ends items c.if-self.true
    c.as_slice-kept.ensures.value

pub returns : goal.returns
returns c = λ line ends.
    let some = some_of c.as_slice-kept.result.now c.is_empty.result c.is_empty.ensures c.if-is_empty.false in
    let items : 0 < length c.args.self.now.bytes.items = omega (arith, some, ap length c.as_slice-kept.ensures.value) in
    says_kept c.args.self.now c.args.last.now c.without_cr-2.result.now line ends items c.if-self.false
    (c.without_cr-2.ensures ∙ ap (λ v. strip_carriage_return v) c.as_slice-kept.ensures.value)
