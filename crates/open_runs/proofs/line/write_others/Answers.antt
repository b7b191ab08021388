use Rattle.std.proofs.Common.{string_bytes}
use Rattle.open_runs.specs.OpenRuns.{other_part}
use Rattle.open_runs.proofs.LineLemmas.{text_with}
use Rattle.open_runs.proofs.line.write_others.Goals as goal

pub loop-other-preserved : goal.loop-other-preserved
loop-other-preserved c =
    text_with (other_part c.args.book.now) c.args.others.now c.loop-other.other-index c.other-item.result (string_bytes c.args.line.now)
    (string_bytes c.loop-other.line) (string_bytes c.write_other.new.line) c.other-item.is c.loop-other-test.true
    c.in_ok-write_other.ensures c.loop-other.invariant
