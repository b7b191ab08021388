use Rattle.std.proofs.Common.{◌<◌, length, take, ◌∙◌, subst, arith}
use Rattle.std.proofs.lemmas.List.{length-set}
use Rattle.interval_analysis.specs.private.Notes.{FirstAnswer}
use Rattle.interval_analysis.proofs.RepeatLemmas.{kept_back, kept_placed, placed_distinct, skipped_back}
use Rattle.interval_analysis.proofs.repeats.first_notes.Goals as goal
use Rattle.interval_analysis.proofs.repeats.first_notes.Goals.{then-is_first, else-is_first}

pub returns-clause-distinct : goal.returns-clause-distinct
returns-clause-distinct c = placed_distinct 0 c.loop-at.places (take c.loop-at.count c.loop-at.notes) c.loop-at.invariant.placed

pub loop-at-preserved : goal.loop-at-preserved
loop-at-preserved c =
    let ns = c.loop-at.notes in
    let places = c.loop-at.places in
    let count = c.loop-at.count in
    let at = c.loop-at.at in
    let note = c.index-notes-at.result in
    let inv = c.loop-at.invariant in
    let less : at < length ns = omega (arith, inv.long, c.loop-at-test.true) in
    let answer : FirstAnswer places (take count ns) note.number c.is_first.result = c.is_first.ensures in
    elim c.if-is_first.branch [
      | then-is_first w ↦
          let first = subst (FirstAnswer places (take count ns) note.number) w.if-is_first.true answer in
          rw w.notes-is (rw w.places-is (rw w.count-is (record {
            few = omega (arith, inv.few);
            long = length-set ns count note ∙ inv.long;
            room = length-set places note.number count ∙ inv.room;
            back = λ ranges fits.
                let size = length-set places note.number count in
                kept_back ns count at note less inv.few c.index-notes-at.is ranges ∙ inv.back ranges (omega (arith, fits, size));
            placed = kept_placed ns count at note less inv.few c.index-notes-at.is places inv.placed first;
          })))
      | else-is_first w ↦
          let repeated = subst (FirstAnswer places (take count ns) note.number) w.if-is_first.false answer in
          rw w.notes-is (rw w.places-is (rw w.count-is (record {
            few = omega (arith, inv.few);
            long = inv.long;
            room = inv.room;
            back = λ ranges fits. skipped_back ns count at note less inv.few c.index-notes-at.is places ranges fits repeated ∙ inv.back ranges fits;
            placed = inv.placed;
          })))
    ]
