use Rattle.std.proofs.Common.{◌++◌, ◌∙◌, sym}
use Rattle.std.proofs.lemmas.Bool.{ltb-false}
use Rattle.std.proofs.lemmas.List.{nil_from_length}
use Rattle.expr_tokens.specs.Spots.{spots_of}
use Rattle.expr_grammar.specs.Machine.{level_of}
use Rattle.pap_expr.specs.NodeBytes.{placed_tokens}
use Rattle.pap_expr.specs.private.Answers.{meaning_of}
use Rattle.pap_expr.specs.private.Stacks.{stack_of}
use Rattle.pap_expr.specs.private.Views.{refusal_of}
use Rattle.pap_expr.specs.private.States.{state_of}
use Rattle.pap_expr.proofs.RunLemmas.{goes_over}
use Rattle.pap_expr.proofs.TrailLemmas.{traced_more, traced_at, traced_none, traced_end}
use Rattle.pap_expr.proofs.reading.read.Goals as goal

pub loop-found-preserved : goal.loop-found-preserved
loop-found-preserved c =
    let s = state_of c.loop-found.state (stack_of c.loop-found.reader.stack) in
    let r = state_of c.in_ok-state.state (stack_of c.step.new.self.stack) in
    let low = sym c.if-is_over.ensures in
    let v = c.loop-found.invariant in
    let found = c.in-Some.found.now in
    let rest = c.in-Some.rest.now in
    let f = c.in_ok-follow.ensures in
    record {
      room = ltb-false 64 (level_of r) low;
      runs = λ line h. v.runs line h ∙ goes_over line (refusal_of c.args.end) s r c.loop-found.left.now rest found h c.in-Some.ensures.cases.0 c.in_ok-state.ensures low;
      text = f.text ∙ v.text;
      kept = f.kept ∙ v.kept;
      traced = λ before h. traced_more c.args.trail.now _ s r c.loop-found.trail c.follow.new.self found (spots_of rest)
          (traced_at c.args.trail.now _ s c.loop-found.trail c.loop-found.left.now rest found c.in-Some.ensures.cases.0 (v.traced before h)) c.in_ok-state.ensures v.text v.kept f.track;
    }

pub returns-in-Some-2-clause-places : goal.returns-in-Some-2-clause-places
returns-in-Some-2-clause-places c = λ before h k e.
    let s = state_of c.loop-found.state (stack_of c.loop-found.reader.stack) in
    let v = c.loop-found.invariant in
    let none = nil_from_length c.loop-found.left.now c.in_default.ensures.cases in
    let whole = before ++ placed_tokens c.args.trail.now.text.now (spots_of c.args.tokens.now) in
    let ended = sym (rw c.in-Some-2.is at c.in_ok-reading.ensures.finished) in
    traced_end c.args.trail.now whole s c.loop-found.trail c.finish.new.self (meaning_of c.in-Some-2.reading)
    (traced_none c.args.trail.now whole s c.loop-found.trail c.loop-found.left.now none (v.traced before h)) ended v.kept c.in_ok-finish.ensures.track k e
