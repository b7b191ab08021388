use Rattle.std.proofs.Common.{refl}
use Rattle.interval_analysis.proofs.analysis.refused_survey.Goals as goal

pub returns-clause-known : goal.returns-clause-known
returns-clause-known c = rw (c.in-Some.is) refl
