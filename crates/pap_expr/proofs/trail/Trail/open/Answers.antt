use Rattle.pap_expr.proofs.TrackLemmas.{open_track}
use Rattle.pap_expr.proofs.trail.Trail.open.Goals as goal

pub returns-clause-track : goal.returns-clause-track
returns-clause-track c =
    let t = c.args.self.now in
    open_track t.begins.items _ t.first t.end t.made.items c.in_ok-push.ensures.items
