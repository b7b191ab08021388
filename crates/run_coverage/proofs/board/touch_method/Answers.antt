use Rattle.std.proofs.Common.{sym, ap, ◌∙◌, arith}
use Rattle.std.specs.Prelude.{slice_set}
use Rattle.run_coverage.specs.private.Tallies.{touched, with_step}
use Rattle.run_coverage.proofs.PlaceLemmas.{touched_in, touched_out}
use Rattle.run_coverage.proofs.board.touch_method.Goals as goal

pub returns-then-method-methods : goal.returns-then-method-methods
returns-then-method-methods c =
    ap (λ y. slice_set c.args.methods.now c.args.method y) c.touch.ensures
    ∙ sym (touched_in c.args.method (touched c.args.statement (with_step c.args.run c.args.step.now)) c.args.methods.now
    c.index-methods-method.result (omega arith))

pub returns-else-method-methods : goal.returns-else-method-methods
returns-else-method-methods c =
    sym (touched_out c.args.method (touched c.args.statement (with_step c.args.run c.args.step.now)) c.args.methods.now (omega arith))
