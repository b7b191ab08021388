use Rattle.std.proofs.Common.{rules, string_bytes}
use Rattle.plain_words.specs.Places.{files_of}
use Rattle.diagnostics.specs.FaultLines.{IsStateLine}
use Rattle.diagnostics.proofs.LineLemmas.{adds_each}
use Rattle.diagnostics.proofs.fault_lines.state_lines.Goals as goal

pub returns : goal.returns
returns c =
    adds_each _ (IsStateLine (files_of c.args.plan c.args.limits)) (λ reason words h. search rules) c.args.reasons.now (string_bytes c.new-text.result)
    (string_bytes c.put_lines.new.text) c.new-text.ensures.bytes c.in_ok-put_lines.ensures
