use Rattle.std.proofs.Common.{take}
use Rattle.std.specs.Prelude.{All}
use Rattle.std.specs.Borrow.{Bor}
use Rattle.payroll_records.specs.declared.record.Record.{Record}
use Rattle.book_year.specs.Picks.{planned_after}
use Rattle.book_year.specs.private.ChainClauses.{PlanReadsNothing}
use Rattle.book_year.proofs.chain.some_reads.Given as goal

abbrev pub invariant-loop-item : goal.invariant-loop-item
invariant-loop-item l = All (λ (x : Bor Record). PlanReadsNothing (planned_after l.picks x.now.day)) (take l.item-index l.records)
