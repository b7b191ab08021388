use Rattle.std.proofs.Common.{◌≡◌, ◌∙◌, ◌||◌, ap, arith, get_or, if◌then◌else◌, sym}
use Rattle.open_runs.specs.private.Tallies.{is_of, one_more, raised_by}
use Rattle.open_runs.proofs.TallyLemmas.{any_next, at_next, set_next}
use Rattle.open_runs.proofs.tally.raise.Goals as goal
use Rattle.open_runs.proofs.tally.raise.Goals.{then-stands, else-stands}

pub loop-i-preserved : goal.loop-i-preserved
loop-i-preserved c =
    let cause = c.args.cause.now in
    let xs = c.args.causes.now in
    let i = c.loop-i.i in
    let known = c.index-causes-i.result in
    let at : known ≡ get_or xs i known =
    at_next (raised_by cause) xs c.loop-i.causes i known (omega arith) c.loop-i.invariant.causes c.index-causes-i.is in
    let so_far = any_next (is_of cause) xs i known c.loop-i.stands (omega arith) c.loop-i.invariant.stands at in
    record {
      causes = set_next (raised_by cause) xs c.loop-i.causes i known c.raised.result (omega arith) c.loop-i.invariant.causes at
          (c.raised.ensures ∙ ap (λ b. if b then one_more known else known) c.same_reason-same.ensures);
      stands = elim c.if-stands.branch [
        | then-stands w ↦ w.stands-is ∙ (w.if-stands.true ∙ (sym (ap (λ v. v || is_of cause known) w.if-stands.true) ∙ so_far))
        | else-stands w ↦ w.stands-is ∙ (c.same_reason-same.ensures ∙ (sym (ap (λ v. v || is_of cause known) w.if-stands.false) ∙ so_far))
      ];
    }
