use Rattle.std.proofs.Common.{sym, ◌∙◌}
use Rattle.pap_expr.specs.private.Tracks.{track_of}
use Rattle.pap_expr.proofs.TrackLemmas.{close_off, closed_by}
use Rattle.pap_expr.proofs.trail.Trail.+close.Goals as goal

pub returns-then-not-binds_so-clause-track : goal.returns-then-not-binds_so-clause-track
returns-then-not-binds_so-clause-track t c =
    close_off c.args.tightness c.args.frames.now c.in-Some.outer.now c.in-Some.frame.now (track_of c.args.self.now) c.in-Some.ensures.cases.0 (sym c.binds_so.ensures ∙ c.if-not-binds_so.true)

pub returns-clause-track : goal.returns-clause-track
returns-clause-track t c =
    closed_by c.args.tightness c.args.frames.now c.in-Some.outer.now c.in-Some.frame.now (track_of c.args.self.now) (track_of c.take.new.self) (track_of c.note.new.self) (track_of c.close.new.self) c.close.result
    c.in-Some.ensures.cases.0 (sym c.binds_so.ensures ∙ c.if-not-binds_so.false) c.take.ensures.track c.in_ok-note.ensures.track c.close.ensures.track
