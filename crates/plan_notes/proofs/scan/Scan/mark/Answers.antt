use Rattle.std.proofs.Common.{refl}
use Rattle.plan_notes.proofs.NoteLemmas.{keeps_mark}
use Rattle.plan_notes.proofs.scan.Scan.mark.Goals as goal

pub returns : goal.returns
returns c =
    keeps_mark c.args.self.now _ _ refl c.len-last.ensures refl c.in_ok-push.ensures.items refl
    (record { name = refl; version = refl })
