use Rattle.std.proofs.Common.{refl, ap, ◌∙◌, sym, ◌++◌, ◌+◌, drop, arith, append_assoc, None, Some, [], ◌∷◌}
use Rattle.std.proofs.lemmas.Option.{slice_get_read, slice_get_past}
use Rattle.interval_analysis.specs.private.Notes.{own_ranges}
use Rattle.interval_analysis.proofs.NoteLemmas.{own_more}
use Rattle.interval_analysis.proofs.variables.own_ranges.Goals as goal
use Rattle.interval_analysis.proofs.variables.own_ranges.Goals.{then-number-ranges+in_ok-push, else-number-ranges}

pub loop-change-preserved : goal.loop-change-preserved
loop-change-preserved c =
    let rs = c.args.ranges.now in
    let cs = c.args.changes.now in
    let i = c.loop-change.change-index in
    let change = c.change-item.result in
    let rest = own_ranges rs (drop (i + 1) cs) in
    elim c.if-number-ranges.branch [
      | then-number-ranges+in_ok-push w ↦
          let r = w.index-ranges-number.result in
          let there = slice_get_read rs _ change.number r refl w.if-number-ranges.true w.index-ranges-number.is in
          ap (λ l. l ++ rest) (ap (λ o. o.items) w.own-is ∙ w.in_ok-push.ensures.items)
          ∙ append_assoc c.loop-change.own.items (record { number = change.number; range = r } ∷ []) rest
          ∙ ap (λ l. c.loop-change.own.items ++ l) (sym (own_more rs cs i change (Some r) c.loop-change-test.true c.change-item.is there))
          ∙ c.loop-change.invariant
      | else-number-ranges w ↦
          let none = slice_get_past rs change.number (omega (arith, w.if-number-ranges.false)) in
          ap (λ o. o.items ++ rest) w.own-is
          ∙ ap (λ l. c.loop-change.own.items ++ l) (sym (own_more rs cs i change None c.loop-change-test.true c.change-item.is none))
          ∙ c.loop-change.invariant
    ]
