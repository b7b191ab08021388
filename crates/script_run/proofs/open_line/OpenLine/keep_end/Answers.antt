use Rattle.std.proofs.lemmas.Result.{IfOk-weaker}
use Rattle.script_run.proofs.KeepingLaws.{empty, not_empty, ends_whole_line, ends_begun_line}
use Rattle.script_run.proofs.open_line.OpenLine.keep_end.Goals as goal

pub returns-then-is_empty : goal.returns-then-is_empty
returns-then-is_empty c = λ line holds.
    let none = empty c.args.self.now.bytes c.is_empty.result c.is_empty.ensures c.if-is_empty.true in
    ends_whole_line c.args.self.now c.args.last.now line none holds

pub returns : goal.returns
returns c =
    let some = not_empty c.args.self.now.bytes c.is_empty.result c.is_empty.ensures c.if-is_empty.false in
    IfOk-weaker c.keep.result _ _ (λ done kept line holds.
    ends_begun_line c.args.self.now c.keep.new.self c.args.last.now line some holds (kept line holds)) c.keep.ensures
