use Rattle.std.proofs.Common.{refl}
use Rattle.chart_layout.proofs.CountLemmas.{method_count}
use Rattle.chart_layout.proofs.build.read_method.Goals as goal

pub returns-clause-count : goal.returns-clause-count
returns-clause-count c = method_count _ c.body.new.self.numbering _ _ _ refl c.in_ok-body.ensures.statements
