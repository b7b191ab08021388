use Rattle.script_run.proofs.KeepingLaws.{says_last}
use Rattle.script_run.proofs.open_line.OpenLine.as_last.Goals as goal

pub returns : goal.returns
returns c = λ line holds. says_last c.args.self.now c.deref.result.now line c.deref.ensures.value holds
