use Rattle.std.proofs.Common.{◌≡◌, ◌++◌, take}
use Rattle.interval_analysis.specs.private.StartViews.{declarations}
use Rattle.interval_analysis.specs.private.TableViews.{tables_of}
use Rattle.interval_analysis.proofs.tables.push_tables.Given as goal

abbrev pub invariant-loop-name : goal.invariant-loop-name
invariant-loop-name l = l.tables.items ≡ l.initial.tables.items ++ tables_of (declarations (take l.name-index l.declared))
