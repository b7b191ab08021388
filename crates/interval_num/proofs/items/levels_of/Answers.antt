use Rattle.std.proofs.Common.{arith, ◌≤◌, ◌++◌, ◌∷◌, [], length, sym, ap, ◌∙◌, subst, append_assoc}
use Rattle.interval_num.specs.ItemLevels.{first_level, AreLevels}
use Rattle.interval_num.proofs.LevelLemmas.{first_stays, halved_shorter}
use Rattle.interval_num.proofs.items.levels_of.Goals as goal

pub loop-alloc-smaller : goal.loop-alloc-smaller
loop-alloc-smaller c =
    let size = ap length c.in_ok-next.ensures in
    let half = halved_shorter c.loop-alloc.level in
    omega (arith, size, half, c.len.ensures, c.loop-alloc-test.true)

pub loop-alloc-preserved : goal.loop-alloc-preserved
loop-alloc-preserved c =
    let levels = c.loop-alloc.levels.items in
    let level = c.loop-alloc.level in
    let next = c.in_ok-next.next in
    let pushed = c.in_ok-push.ensures.items in
    record {
      first =
          ap (λ ls. first_level (ls ++ (next ∷ []))) pushed
          ∙ ap first_level (append_assoc levels (level ∷ []) (next ∷ []))
          ∙ first_stays levels level (next ∷ [])
          ∙ c.loop-alloc.invariant.first;
      under = λ rest h.
          subst AreLevels (sym (ap (λ ls. ls ++ (next ∷ rest)) pushed ∙ append_assoc levels (level ∷ []) (next ∷ rest)))
          (c.loop-alloc.invariant.under (next ∷ rest) (c.in_ok-next.ensures, h));
    }

pub returns : goal.returns
returns c =
    let one : length c.loop-alloc.level ≤ 1 = omega (arith, c.len.ensures, c.loop-alloc-test.false) in
    let all = c.in_ok-push-2.ensures.items in
    record {
      first = ap first_level all ∙ c.loop-alloc.invariant.first;
      halves = subst AreLevels (sym all) (c.loop-alloc.invariant.under [] one);
    }
