use Rattle.interval_analysis.proofs.NoteLemmas.{noted_then}
use Rattle.interval_analysis.proofs.variables.Variables.narrow.Goals as goal

pub returns-clause-noted : goal.returns-clause-noted
returns-clause-noted c = noted_then c.args.self.now c.change.new.self c.change-2.new.self c.in_ok-change.ensures.noted c.change-2.ensures.noted
