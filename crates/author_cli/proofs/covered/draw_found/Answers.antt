use Rattle.std.proofs.Common.{refl}
use Rattle.author_cli.proofs.CoveredLemmas.{draws_found}
use Rattle.author_cli.proofs.covered.draw_found.Goals as goal

pub returns : goal.returns
returns c =
    draws_found c.args.plan.bytes.now c.args.limits.bytes.now c.args.found.now c.in_ok-verdict.verdict c.in_ok-part.part
    c.in_ok-marks.marks.items c.deref.result.now _ c.in_ok-page.page.items c.requires c.in_ok-verdict.ensures.found
    c.in_ok-part.ensures c.in_ok-marks.ensures c.deref.ensures.value refl c.in_ok-page.ensures
