use Rattle.std.proofs.Common.{◌≡◌, ◌+◌, ◌≤◌, sym, ap, ◌∙◌, arith}
use Rattle.std.specs.Prelude.{find, option_map}
use Rattle.plan_notes.specs.declared.tag.Mark.{Mark}
use Rattle.plan_notes.specs.Walks.{marks_left, is_start, behind_start, behind_starts}
use Rattle.plan_notes.proofs.WalkLemmas.{found_at, none_at, stays_at, one_start_more}
use Rattle.plan_notes.proofs.notes.Walk.find_start.Goals as goal

pub loop-passed-preserved : goal.loop-passed-preserved
loop-passed-preserved c =
    let i = c.loop-passed.invariant in
    record {
      left = c.in_ok-next_start.ensures.left ∙ ap (behind_start c.args.starts) i.left
          ∙ one_start_more c.args.starts c.loop-passed._passed (marks_left c.args.self.now);
      notes = c.in_ok-next_start.ensures.notes ∙ i.notes;
    }

pub returns-in_err-next_start-clause-byte : goal.returns-in_err-next_start-clause-byte
returns-in_err-next_start-clause-byte c =
    let up : c.loop-passed._passed ≤ c.args.number = omega arith in
    let none = none_at c.args.starts c.loop-passed._passed c.args.number (marks_left c.args.self.now) up
    (sym (c.in_err-next_start.ensures.mark ∙ ap (find (is_start c.args.starts)) c.loop-passed.invariant.left)) in
    cc none

pub returns-in_err-next_start-clause-left : goal.returns-in_err-next_start-clause-left
returns-in_err-next_start-clause-left c =
    let up : c.loop-passed._passed ≤ c.args.number + 1 = omega arith in
    c.in_err-next_start.ensures.left ∙ ap (behind_start c.args.starts) c.loop-passed.invariant.left
    ∙ stays_at c.args.starts c.loop-passed._passed (c.args.number + 1) (marks_left c.args.self.now) up
    (sym (c.in_err-next_start.ensures.mark ∙ ap (find (is_start c.args.starts)) c.loop-passed.invariant.left))

pub returns-in_err-next_start-clause-notes : goal.returns-in_err-next_start-clause-notes
returns-in_err-next_start-clause-notes c = c.in_err-next_start.ensures.notes ∙ c.loop-passed.invariant.notes

pub returns-in_err-mark-clause-byte : goal.returns-in_err-mark-clause-byte
returns-in_err-mark-clause-byte c =
    let at : c.loop-passed._passed ≡ c.args.number = omega arith in
    let left = c.loop-passed.invariant.left
    ∙ ap (λ n. behind_starts c.args.starts n (marks_left c.args.self.now)) at in
    let up : c.args.number ≤ c.args.number = omega arith in
    let none = none_at c.args.starts c.args.number c.args.number (marks_left c.args.self.now) up
    (sym (c.in_err-mark.ensures.mark ∙ ap (find (is_start c.args.starts)) left)) in
    cc none

pub returns-in_err-mark-clause-left : goal.returns-in_err-mark-clause-left
returns-in_err-mark-clause-left c =
    let at : c.loop-passed._passed ≡ c.args.number = omega arith in
    let left = c.loop-passed.invariant.left
    ∙ ap (λ n. behind_starts c.args.starts n (marks_left c.args.self.now)) at in
    c.in_err-mark.ensures.left ∙ ap (behind_start c.args.starts) left
    ∙ one_start_more c.args.starts c.args.number (marks_left c.args.self.now)

pub returns-in_err-mark-clause-notes : goal.returns-in_err-mark-clause-notes
returns-in_err-mark-clause-notes c = c.in_err-mark.ensures.notes ∙ c.loop-passed.invariant.notes

pub returns-clause-byte : goal.returns-clause-byte
returns-clause-byte c =
    let at : c.loop-passed._passed ≡ c.args.number = omega arith in
    let left = c.loop-passed.invariant.left
    ∙ ap (λ n. behind_starts c.args.starts n (marks_left c.args.self.now)) at in
    ap (option_map (λ (m : Mark). m.at)) (c.in_ok-mark.ensures.mark ∙ ap (find (is_start c.args.starts)) left)
    ∙ found_at c.args.starts c.args.number (marks_left c.args.self.now)

pub returns-clause-left : goal.returns-clause-left
returns-clause-left c =
    let at : c.loop-passed._passed ≡ c.args.number = omega arith in
    let left = c.loop-passed.invariant.left
    ∙ ap (λ n. behind_starts c.args.starts n (marks_left c.args.self.now)) at in
    c.in_ok-mark.ensures.left ∙ ap (behind_start c.args.starts) left
    ∙ one_start_more c.args.starts c.args.number (marks_left c.args.self.now)

pub returns-clause-notes : goal.returns-clause-notes
returns-clause-notes c = c.in_ok-mark.ensures.notes ∙ c.loop-passed.invariant.notes
