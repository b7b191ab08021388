use Rattle.std.proofs.Common.{arith, ◌≡◌, ◌+◌, ◌-◌, ◌*◌, ◌/◌, ◌<◌, length, sym, ap, ◌∙◌}
use Rattle.std.specs.Prelude.{slice_get}
use Rattle.interval_num.specs.ItemLevels.{first_level}
use Rattle.interval_num.proofs.LevelLemmas.{level_is, one_run, first_run, last_run, above_rows, even_runs, above_halved, halved_length, pairs, pairs_some}
use Rattle.interval_num.proofs.items.+between.Goals as goal

pub returns-then-hi-lo-eq1 : goal.returns-then-hi-lo-eq1
returns-then-hi-lo-eq1 t c = λ runs all is.
    let levels = c.args.levels.now in
    let level = level_is levels c.index-levels-0.result (omega (arith, c.requires.some, c.requires.inside)) c.index-levels-0.is in
    let at = ap (λ l. slice_get l c.args.lo) (sym level) ∙ c.at.ensures in
    one_run (first_level levels) runs all is c.args.lo c.args.hi c.at.result c.requires.some c.requires.inside c.if-hi-lo-eq1.true at

pub returns-then-lo-eq1 : goal.returns-then-lo-eq1
returns-then-lo-eq1 t c = λ runs all is.
    let levels = c.args.levels.now in
    let level = level_is levels c.index-levels-0.result (omega (arith, c.requires.some, c.requires.inside)) c.index-levels-0.is in
    let at = ap (λ l. slice_get l c.args.lo) (sym level) ∙ c.at-then-lo-eq1.ensures in
    let two : c.args.lo + 1 < c.args.hi = omega (arith, c.requires.some, c.if-hi-lo-eq1.false) in
    c.joined.ensures ∙ first_run (first_level levels) runs all is c.args.lo c.args.hi c.at-then-lo-eq1.result c.between.result two c.requires.inside at (c.between.ensures runs all is)

pub returns-then-hi-eq1 : goal.returns-then-hi-eq1
returns-then-hi-eq1 t c = λ runs all is.
    let levels = c.args.levels.now in
    let level = level_is levels c.index-levels-0.result (omega (arith, c.requires.some, c.requires.inside)) c.index-levels-0.is in
    let at = ap (λ l. slice_get l (c.args.hi - 1)) (sym level) ∙ c.at-then-hi-eq1.ensures in
    let two : c.args.lo + 1 < c.args.hi = omega (arith, c.requires.some, c.if-hi-lo-eq1.false) in
    c.joined-then-hi-eq1.ensures ∙ last_run (first_level levels) runs all is c.args.lo c.args.hi c.at-then-hi-eq1.result c.between-then-hi-eq1.result two c.requires.inside at (c.between-then-hi-eq1.ensures runs all is)

pub between-requires-2 : goal.between-requires-2
between-requires-2 t c =
    let levels = c.args.levels.now in
    let two : c.args.lo + 1 < c.args.hi = omega (arith, c.requires.some, c.if-hi-lo-eq1.false) in
    let above = above_halved levels c.requires.levels (omega (arith, c.requires.inside)) in
    let size = ap length above.first in
    let half = halved_length (first_level levels) in
    (omega (arith, two), (above.halves, (omega (arith, two, c.if-lo-eq1.false), omega (arith, size, half, c.requires.inside))))

pub returns : goal.returns
returns t c = λ runs all is.
    let levels = c.args.levels.now in
    let two : c.args.lo + 1 < c.args.hi = omega (arith, c.requires.some, c.if-hi-lo-eq1.false) in
    let above = above_halved levels c.requires.levels (omega (arith, c.requires.inside)) in
    let rows = above.first ∙ above_rows (first_level levels) runs all is in
    let low : 2 * (c.args.lo / 2) ≡ c.args.lo = omega (arith, c.if-lo-eq1.false) in
    let high : 2 * (c.args.hi / 2) ≡ c.args.hi = omega (arith, c.if-hi-eq1.false) in
    even_runs (first_level levels) runs all is c.args.lo c.args.hi c.between-2.result low high (c.between-2.ensures (pairs runs) (pairs_some runs all) rows)
