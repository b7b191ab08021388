use Rattle.std.proofs.Common.{arith}
use Rattle.author_cli.proofs.CoverFrontLemmas.{three_fronts, third_missing}
use Rattle.author_cli.proofs.covered.read_three.Goals as goal

pub returns-clause-read : goal.returns-clause-read
returns-clause-read g c = λ files told.
    let both = c.in_ok-plan in
    let last = c.in_ok-table in
    three_fronts (g.F.Files.told c.read_both.new.files) files c.args.plan.now c.args.limits.now c.args.table.now
    (record { plan = both.plan; limits = both.limits; table = last.table }) (both.ensures.read files told)
    last.ensures.front (grind arith)

pub returns-in_err-table-clause-failed : goal.returns-in_err-table-clause-failed
returns-in_err-table-clause-failed g c = λ failed.
    third_missing c.args.plan.now c.args.limits.now c.args.table.now c.in_ok-plan.plan.items c.in_ok-plan.limits.items
    (g.F.Files.failed c.read_front.new.self) c.in_ok-plan.ensures.read (c.read_front.ensures.cause.named (grind (arith, failed)))
