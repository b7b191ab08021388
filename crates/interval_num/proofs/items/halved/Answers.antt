use Rattle.std.proofs.Common.{arith, ◌≡◌, ◌+◌, ◌-◌, ◌*◌, ◌≤◌, length, sym, ap, ap₂, ◌∙◌, ◌++◌, ◌∷◌, []}
use Rattle.std.specs.Prelude.{slice_get}
use Rattle.std.proofs.lemmas.List.{take_all}
use Rattle.interval_num.specs.ItemLevels.{halved}
use Rattle.interval_num.proofs.LevelLemmas.{halved_next, halved_last}
use Rattle.interval_num.proofs.items.halved.Goals as goal
use Rattle.interval_num.proofs.items.halved.Goals.{then-count-eq1+in_ok-push-2, else-count-eq1}

pub loop-i-preserved : goal.loop-i-preserved
loop-i-preserved c =
    c.in_ok-push.ensures.items ∙ ap₂ (λ rs r. rs ++ (r ∷ [])) c.loop-i.invariant c.joined.ensures ∙ sym (halved_next c.args.level.now c.loop-i.i c.at.result c.at-in-loop-i.result c.at.ensures c.at-in-loop-i.ensures)

pub returns : goal.returns
returns c = elim c.if-count-eq1.branch [
  | then-count-eq1+in_ok-push-2 w ↦
      let level = c.args.level.now in
      let i = c.loop-i.i in
      let last = w.at-then-count-eq1.result in
      let size : length level ≡ 2 * i + 1 = omega (arith, c.len-count.ensures, w.if-count-eq1.true, c.loop-i-test.false, c.loop-i.auto.i-end) in
      let place : c.len-count.result - 1 ≡ 2 * i = omega (arith, c.len-count.ensures) in
      let at = ap (slice_get level) (sym place) ∙ w.at-then-count-eq1.ensures in
      ap (λ v. v.items) w.ranges-is ∙ w.in_ok-push-2.ensures.items ∙ ap (λ rs. rs ++ (last ∷ [])) c.loop-i.invariant ∙ sym (halved_last level i last size at)
  | else-count-eq1 w ↦
      let level = c.args.level.now in
      let size : length level ≤ 2 * c.loop-i.i = omega (arith, c.len-count.ensures, w.if-count-eq1.false, c.loop-i-test.false) in
      ap (λ v. v.items) w.ranges-is ∙ c.loop-i.invariant ∙ ap halved (take_all (2 * c.loop-i.i) level size)
]
