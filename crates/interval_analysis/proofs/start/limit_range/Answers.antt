use Rattle.std.proofs.Common.{subst}
use Rattle.interval_walk.specs.Admission.{SuitsLimit}
use Rattle.interval_analysis.proofs.StartLemmas.{spans_plain, spans_factor}
use Rattle.interval_analysis.proofs.start.limit_range.Goals as goal

pub between-requires : goal.between-requires
between-requires c = spans_factor c.args.limit.now c.requires.sound (subst (λ k. SuitsLimit k c.args.limit.now) c.in-Factor.is c.requires.suits)

pub between-requires-in-Int : goal.between-requires-in-Int
between-requires-in-Int c = spans_plain c.args.limit.now c.requires.sound
