use Rattle.std.proofs.Common.{sym, refl, IsSome, subst}
use Rattle.interval_analysis.proofs.VisitLemmas.{range_first, range_joined}
use Rattle.interval_analysis.proofs.visits.put_range.Goals as goal

pub returns-in-Some : goal.returns-in-Some
returns-in-Some c =
    let kept = c.joined.result in
    let is = sym c.in-Some.ensures.value in
    let known = subst (λ o. IsSome o) (sym is) refl in
    range_joined c.args.place c.args.range.now c.in-Some.known.now kept c.args.values.now (c.get_mut.follows.lender kept) is c.joined.ensures
    ((c.get_mut.follows.holds kept).3 known).0

pub returns : goal.returns
returns c =
    range_first c.args.place c.args.range.now c.args.values.now c.get_mut.follows.lender-at-none c.insert.new.self c.get_mut.follows.holds-at-none (sym c.in_default.ensures.value)
    c.in_ok-insert.ensures.updates.0
