use Rattle.std.proofs.Common.{ℕ, ◌<◌, List, length, subst, sym}
use Rattle.std.specs.Prelude.{All}
use Rattle.call_order.specs.Chains.{content_at}
use Rattle.call_order.specs.private.LevelViews.{level_at}
use Rattle.call_order.proofs.LevelLemmas.{is_without, is_with, read_at, raised_set, raised_not, raised_kept}
use Rattle.call_order.proofs.levels.raise.Goals as goal
use Rattle.call_order.proofs.levels.raise.Goals.{then-is_none+then-are_placed, else-is_none, else-is_none-via-then-is_none+else-are_placed, else-is_none-via-else-is_none}

pub are_placed-requires : goal.are_placed-requires
are_placed-requires c =
    let is = read_at c.args.graph.now c.loop-i.i c.index-graph-i.result c.methods.result.now c.index-graph-i.is c.loop-i-test.true c.methods.ensures in
    let P : List ℕ → Type 0 = λ l. All (λ j. j < length c.loop-i.levels) l in
    subst P (sym is) (subst (λ n. All (λ j. j < n) (content_at c.args.graph.now c.loop-i.i).methods) (sym c.loop-i.invariant.all) (c.requires.known c.loop-i.i))

pub loop-i-preserved : goal.loop-i-preserved
loop-i-preserved c =
    elim c.if-is_none.branch [
      | then-is_none+then-are_placed w ↦
          let is = read_at c.args.graph.now c.loop-i.i w.index-graph-i.result w.methods.result.now w.index-graph-i.is c.loop-i-test.true w.methods.ensures in
          raised_set _ _ _ c.loop-i.levels _ _ c.loop-i.invariant c.requires.known c.loop-i-test.true is (is_without (level_at c.loop-i.levels c.loop-i.i) w.if-is_none.ensures) w.if-are_placed.ensures w.levels-is
      | else-is_none w ↦ elim w.else-is_none.branch [
        | else-is_none-via-then-is_none+else-are_placed w' ↦
            let is = read_at c.args.graph.now c.loop-i.i w'.index-graph-i.result w'.methods.result.now w'.index-graph-i.is c.loop-i-test.true w'.methods.ensures in
            raised_not _ _ _ c.loop-i.levels _ _ c.loop-i.invariant c.requires.known c.loop-i-test.true is (is_without (level_at c.loop-i.levels c.loop-i.i) w'.if-is_none.ensures) w'.if-are_placed.ensures w.levels-is
        | else-is_none-via-else-is_none w' ↦
            raised_kept _ _ _ c.loop-i.levels _ c.loop-i.invariant c.loop-i-test.true (is_with (level_at c.loop-i.levels c.loop-i.i) w'.if-is_none.ensures) w.levels-is
      ]
    ]
