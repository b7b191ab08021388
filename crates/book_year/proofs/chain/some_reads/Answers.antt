use Rattle.std.proofs.Common.{subst}
use Rattle.std.proofs.lemmas.Bool.{OnFalse_at}
use Rattle.std.proofs.lemmas.List.{take_all}
use Rattle.std.proofs.lemmas.List.Elements.{All-more}
use Rattle.std.specs.Prelude.{All}
use Rattle.std.specs.Borrow.{Bor}
use Rattle.payroll_records.specs.declared.record.Record.{Record}
use Rattle.book_year.specs.Picks.{planned_after}
use Rattle.book_year.specs.private.ChainClauses.{PlanReadsNothing}
use Rattle.book_year.proofs.chain.some_reads.Goals as goal

pub loop-item-preserved : goal.loop-item-preserved
loop-item-preserved c =
    let P = λ (x : Bor Record). PlanReadsNothing (planned_after c.args.picks.now x.now.day) in
    All-more P c.args.records.now c.loop-item.item-index c.item-item.result c.loop-item-test.true c.loop-item.invariant
    (subst P c.item-item.is (OnFalse_at c.if-plan_reads.false c.plan_reads.ensures))

pub returns : goal.returns
returns c =
    subst (λ t. All (λ (x : Bor Record). PlanReadsNothing (planned_after c.args.picks.now x.now.day)) t) (take_all c.loop-item.item-index c.args.records.now c.loop-item-test.false) c.loop-item.invariant
