use Rattle.std.proofs.Common.{◌++◌, ◌∙◌, ap, rules, string_bytes}
use Rattle.plain_words.specs.Places.{files_of}
use Rattle.diagnostics.specs.FaultLines.{IsPlanLine}
use Rattle.diagnostics.proofs.LineLemmas.{adds_behind}
use Rattle.diagnostics.proofs.fault_lines.plan_lines.Goals as goal

pub returns : goal.returns
returns c =
    adds_behind _ (IsPlanLine (files_of c.args.plan c.args.limits)) (λ refusal words h. search rules) c.args.refusal.now c.args.further.now (string_bytes c.in_ok-first.first)
    (string_bytes c.put_line.new.text) (string_bytes c.put_lines.new.text)
    (record { line = c.in_ok-first.ensures.line; begins = c.in_ok-first.ensures.place })
    (c.in_ok-put_line.ensures ∙ search rules) c.in_ok-put_lines.ensures
