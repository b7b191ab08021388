use Rattle.std.proofs.Common.{◌≡◌, ◌+◌, ◌-◌, ◌<◌, length, take, drop, ap, ◌∙◌, arith}
use Rattle.interval_analysis.specs.private.Notes.{taken_back}
use Rattle.interval_analysis.proofs.NoteLemmas.{noted_then}
use Rattle.interval_analysis.proofs.RepeatLemmas.{note_before, returned}
use Rattle.interval_analysis.proofs.variables.Variables.return_to.Goals as goal

pub loop-left-preserved : goal.loop-left-preserved
loop-left-preserved c =
    let was = c.args.self.now in
    let ns = was.notes.items in
    let now = c.loop-left.self in
    let inv = c.loop-left.invariant in
    let left = c.loop-left.left - 1 in
    let note = c.index-note.result.now in
    let less : left < length ns = omega (arith, inv.below, c.loop-left-test.true) in
    let is = note_before was now left note inv.noted less c.index-note.ensures in
    let more : left + 1 ≡ c.loop-left.left = omega (arith, c.loop-left-test.true) in
    record {
      above = omega (arith, c.loop-left-test.true);
      below = omega (arith, inv.below);
      back =
          ap (λ rs. taken_back rs (drop c.args.mark (take left ns))) c.in_ok-put.ensures.value
          ∙ returned now.ranges.items c.args.mark left ns note less (omega (arith, c.loop-left-test.true)) is
          ∙ ap (λ k. taken_back now.ranges.items (drop c.args.mark (take k ns))) more
          ∙ inv.back;
      noted = noted_then was now c.put.new.self inv.noted c.in_ok-put.ensures.noted;
      kept = c.in_ok-put.ensures.kept;
    }

pub returns-in_err-put-clause-noted : goal.returns-in_err-put-clause-noted
returns-in_err-put-clause-noted c = noted_then c.args.self.now c.loop-left.self c.put.new.self c.loop-left.invariant.noted c.in_err-put.ensures.noted
