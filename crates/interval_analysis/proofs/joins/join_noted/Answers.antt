use Rattle.std.proofs.Common.{◌+◌, length, drop, refl, sym, ap, ◌∙◌, arith}
use Rattle.std.proofs.lemmas.Option.{slice_get_read}
use Rattle.interval_analysis.specs.private.Notes.{taken_back}
use Rattle.interval_analysis.specs.private.StatementViews.{joined_lists}
use Rattle.interval_analysis.proofs.MeetLemmas.{distinct_rest, join_fails, join_past, join_step, joined_behind}
use Rattle.interval_analysis.proofs.NoteLemmas.{drop_there, kept_set}
use Rattle.interval_analysis.proofs.RepeatLemmas.{seen_over}
use Rattle.interval_analysis.proofs.joins.join_noted.Goals as goal
use Rattle.interval_analysis.proofs.joins.join_noted.Goals.{then-number-ranges+in-Ok, else-number-ranges}

pub returns-in-Err-clause-meets : goal.returns-in-Err-clause-meets
returns-in-Err-clause-meets c =
    let rs = c.loop-note.ranges in
    let cs = c.args.notes.now in
    let i = c.loop-note.note-index in
    let note = c.note-item.result in
    let r = c.index-ranges-number.result in
    let there = slice_get_read rs (length rs) note.number r refl c.if-number-ranges.true c.index-ranges-number.is in (
      refl,
      sym c.loop-note.invariant.left
          ∙ ap (λ l. joined_lists rs (taken_back rs l)) (drop_there cs i note c.loop-note-test.true c.note-item.is)
          ∙ join_fails rs note (drop (i + 1) cs) r c.in-Err.cause there (sym c.in-Err.ensures),
    )

pub returns-clause-meets : goal.returns-clause-meets
returns-clause-meets c =
    sym c.loop-note.invariant.left
    ∙ joined_behind c.loop-note.ranges c.args.notes.now c.loop-note.note-index c.loop-note.invariant.kept (omega (arith, c.loop-note-test.false))

pub loop-note-preserved : goal.loop-note-preserved
loop-note-preserved c =
    let rs = c.loop-note.ranges in
    let cs = c.args.notes.now in
    let i = c.loop-note.note-index in
    let note = c.note-item.result in
    let rest = drop (i + 1) cs in
    let inv = c.loop-note.invariant in
    let here = ap (λ l. joined_lists rs (taken_back rs l)) (sym (drop_there cs i note c.loop-note-test.true c.note-item.is)) in
    elim c.if-number-ranges.branch [
      | then-number-ranges+in-Ok w ↦
          let r = w.index-ranges-number.result in
          let j = w.in-Ok.range in
          let there = slice_get_read rs (length rs) note.number r refl w.if-number-ranges.true w.index-ranges-number.is in
          let other = distinct_rest cs i note c.requires.distinct c.loop-note-test.true c.note-item.is in
          let noted = slice_get_read cs (length cs) i note refl c.loop-note-test.true c.note-item.is in
          rw w.ranges-is (record {
            left = join_step rs note rest r j there (sym w.in-Ok.ensures) w.is_kept.ensures other ∙ here ∙ inv.left;
            back = seen_over rs cs note.number i j note noted refl ∙ inv.back;
            kept = kept_set rs note.number j inv.kept w.is_kept.ensures;
          })
      | else-number-ranges w ↦
          rw w.ranges-is (record {
            left = join_past rs note rest (omega (arith, w.if-number-ranges.false)) ∙ here ∙ inv.left;
            back = inv.back;
            kept = inv.kept;
          })
    ]
