use Rattle.std.proofs.Common.{length, refl, arith}
use Rattle.std.specs.Vec.{with_item}
use Rattle.std.proofs.lemmas.Option.{slice_get_read}
use Rattle.interval_analysis.proofs.NoteLemmas.{noted_put}
use Rattle.interval_analysis.proofs.variables.Variables.put.Goals as goal

pub returns-in_ok-push-clause-noted : goal.returns-in_ok-push-clause-noted
returns-in_ok-push-clause-noted c =
    let was = c.args.self.now in
    let n = c.args.number in
    let r = c.index-then-ne.result.now in
    noted_put was (record { ranges = with_item was.ranges n c.args.range; notes = c.push.new.self; places = was.places }) n c.args.range r
    (slice_get_read was.ranges.items (length was.ranges.items) n r refl (omega (arith, c.if-number-len.true)) c.index-then-ne.ensures) refl c.in_ok-push.ensures.items
