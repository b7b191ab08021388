use Rattle.std.proofs.Common.{refl, sym, ap, ◌∙◌}
use Rattle.std.proofs.lemmas.List.{nil_from_length}
use Rattle.plan_notes.specs.Walks.{notes_of, marks_left, is_start}
use Rattle.plan_notes.proofs.WalkLemmas.{ahead_start, ahead_more, ahead_found, ahead_behind, ahead_none, ahead_stays}
use Rattle.plan_notes.proofs.notes.Walk.next_start.Goals as goal

pub loop-mark-init : goal.loop-mark-init
loop-mark-init c = record { ahead = ahead_start (is_start c.args.starts) (marks_left c.args.self.now); same = refl }

pub loop-mark-preserved : goal.loop-mark-preserved
loop-mark-preserved c = record {
  ahead = ahead_more (is_start c.args.starts) (marks_left c.args.self.now) c.loop-mark.left.now c.in-Some.mark.now
      c.in-Some.rest.now
      c.loop-mark.invariant.ahead c.in-Some.ensures.cases.0 (sym c.has.ensures ∙ c.if-has.false);
  same = c.loop-mark.invariant.same;
}

pub returns-then-has-clause-mark : goal.returns-then-has-clause-mark
returns-then-has-clause-mark c =
    ahead_found (is_start c.args.starts) (marks_left c.args.self.now) c.loop-mark.left.now c.in-Some.mark.now
    c.in-Some.rest.now
    c.loop-mark.invariant.ahead c.in-Some.ensures.cases.0 (sym c.has.ensures ∙ c.if-has.true)

pub returns-then-has-clause-left : goal.returns-then-has-clause-left
returns-then-has-clause-left c =
    ahead_behind (is_start c.args.starts) (marks_left c.args.self.now) c.loop-mark.left.now c.in-Some.mark.now
    c.in-Some.rest.now
    c.loop-mark.invariant.ahead c.in-Some.ensures.cases.0 (sym c.has.ensures ∙ c.if-has.true)

pub returns-then-has-clause-notes : goal.returns-then-has-clause-notes
returns-then-has-clause-notes c = ap notes_of c.loop-mark.invariant.same

pub returns-clause-mark : goal.returns-clause-mark
returns-clause-mark c =
    ahead_none (is_start c.args.starts) (marks_left c.args.self.now) c.loop-mark.left.now c.loop-mark.invariant.ahead
    (nil_from_length c.loop-mark.left.now c.in_default.ensures.cases)

pub returns-clause-left : goal.returns-clause-left
returns-clause-left c =
    ap marks_left c.loop-mark.invariant.same
    ∙ ahead_stays (is_start c.args.starts) (marks_left c.args.self.now) c.loop-mark.left.now
    c.loop-mark.invariant.ahead
    (nil_from_length c.loop-mark.left.now c.in_default.ensures.cases)

pub returns-clause-notes : goal.returns-clause-notes
returns-clause-notes c = ap notes_of c.loop-mark.invariant.same
