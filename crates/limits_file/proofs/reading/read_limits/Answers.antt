use Rattle.std.proofs.Common.{arith}
use Rattle.toml.specs.View.{table_view}
use Rattle.limits_file.proofs.Laws.{never_long, never_refused}
use Rattle.limits_file.proofs.reading.read_limits.Goals as goal

pub returns-clause-long : goal.returns-clause-long
returns-clause-long c = (
  λ e. absurd (never_long (table_view c.in_ok-table.table) (rw e at c.read_table.ensures.says)),
  λ long. absurd (omega arith),
)

pub returns-clause-toml : goal.returns-clause-toml
returns-clause-toml c = λ e. absurd (never_refused (table_view c.in_ok-table.table) (rw e at c.read_table.ensures.says))
