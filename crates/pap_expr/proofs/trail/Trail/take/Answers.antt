use Rattle.pap_expr.proofs.TrackLemmas.{take_track}
use Rattle.pap_expr.proofs.trail.Trail.take.Goals as goal

pub returns-in-Some-clause-track : goal.returns-in-Some-clause-track
returns-in-Some-clause-track c =
    let t = c.args.self.now in
    take_track t.begins.items _ c.in-Some.first t.first t.end t.made.items c.in-Some.ensures.items
