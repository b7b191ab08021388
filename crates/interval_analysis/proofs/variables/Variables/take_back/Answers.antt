use Rattle.std.proofs.Common.{◌≤◌, [], ◌∷◌, length, take, drop, sym, ap, ◌∙◌, arith}
use Rattle.std.proofs.lemmas.List.{take-append-le, length-append}
use Rattle.interval_analysis.specs.private.Notes.{taken_back}
use Rattle.interval_analysis.proofs.NoteLemmas.{taken_last}
use Rattle.interval_analysis.proofs.variables.Variables.take_back.Goals as goal

pub loop-self-preserved-in-Some : goal.loop-self-preserved-in-Some
loop-self-preserved-in-Some c =
    let mark = c.args.mark in
    let cs = c.loop-self.self.notes.items in
    let front = c.pop.new.self.items in
    let note = c.in-Some.note in
    let count = ap length c.in-Some.ensures.items ∙ length-append front (note ∷ []) in
    let many : mark ≤ length front = omega (arith, count, c.loop-self-test.true, c.len.ensures) in
    record {
      many = omega (arith, many, ap length c.put_back.ensures.notes);
      front =
          ap (take mark) c.put_back.ensures.notes
          ∙ sym (ap (take mark) c.in-Some.ensures.items ∙ take-append-le mark front (note ∷ []) many)
          ∙ c.loop-self.invariant.front;
      left =
          ap (λ ns. taken_back c.put_back.new.self.ranges.items (drop mark ns)) c.put_back.ensures.notes
          ∙ ap (λ rs. taken_back rs (drop mark front)) c.put_back.ensures.ranges
          ∙ taken_last c.loop-self.self.ranges.items mark cs front note c.in-Some.ensures.items many
          ∙ c.loop-self.invariant.left;
    }
