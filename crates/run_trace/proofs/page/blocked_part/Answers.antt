use Rattle.std.proofs.Common.{◌++◌, ap, ◌∙◌}
use Rattle.run_trace.specs.RunPages.{part_start, blocked_text}
use Rattle.run_trace.proofs.page.blocked_part.Goals as goal

pub returns : goal.returns
returns c =
    let line = c.args.line.now in
    c.in_ok-put_blocked.ensures
    ∙ ap (λ p. p ++ blocked_text c.as_bytes.result.now line)
    (c.in_ok-put.ensures ∙ ap (λ q. q ++ part_start) c.new-part.ensures)
    ∙ ap (λ w. part_start ++ blocked_text w line) c.as_bytes.ensures.value
