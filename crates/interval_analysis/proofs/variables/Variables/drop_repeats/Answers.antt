use Rattle.std.proofs.Common.{◌≡◌, ◌≤◌, length, take, drop, sym, ap, ◌∙◌, subst, arith}
use Rattle.interval_analysis.specs.private.Notes.{AreDistinct, taken_back}
use Rattle.interval_analysis.proofs.RepeatLemmas.{all_behind, first_before, first_behind, first_kept, first_room}
use Rattle.interval_analysis.proofs.variables.Variables.drop_repeats.Goals as goal
use Rattle.interval_analysis.proofs.variables.Variables.drop_repeats.Goals.{then-len+in_ok-resize, else-len}

pub returns-clause-distinct : goal.returns-clause-distinct
returns-clause-distinct c =
    let mark = c.args.mark in
    let count = c.first_notes-count.result in
    let notes = c.deref_mut.result.now in
    let firsts = c.first_notes-count.new.notes in
    let same : c.if-len.self.notes.items ≡ c.args.self.now.notes.items = elim c.if-len.branch [
      | then-len+in_ok-resize w ↦ ap (λ v. v.notes.items) w.self-is
      | else-len w ↦ ap (λ v. v.notes.items) w.self-is
    ] in
    let all : notes ≡ c.args.self.now.notes.items = c.deref_mut.ensures.value ∙ same in
    let within : mark ≤ length notes = subst (λ l. mark ≤ length l) (sym all) c.requires in
    let long = ap length c.deref_mut.ensures.value in
    let size = c.if-len.self.notes.ok.0 in
    let few = c.first_notes-count.ensures.within in
    let kept = first_kept mark notes firsts within count c.if-len.self.notes.len _ _ few (omega (arith, few, long, size, within, c.first_notes-count.auto.notes)) in
    let items = c.truncate.ensures.items ∙ kept in
    subst AreDistinct (sym (ap (drop mark) items ∙ first_behind mark notes firsts within (take count firsts))) c.first_notes-count.ensures.distinct

pub returns-clause-back : goal.returns-clause-back
returns-clause-back c =
    let mark = c.args.mark in
    let was = c.args.self.now in
    let count = c.first_notes-count.result in
    let notes = c.deref_mut.result.now in
    let firsts = c.first_notes-count.new.notes in
    let same : c.if-len.self.notes.items ≡ c.args.self.now.notes.items = elim c.if-len.branch [
      | then-len+in_ok-resize w ↦ ap (λ v. v.notes.items) w.self-is
      | else-len w ↦ ap (λ v. v.notes.items) w.self-is
    ] in
    let all : notes ≡ was.notes.items = c.deref_mut.ensures.value ∙ same in
    let within : mark ≤ length notes = subst (λ l. mark ≤ length l) (sym all) c.requires in
    let long = ap length c.deref_mut.ensures.value in
    let size = c.if-len.self.notes.ok.0 in
    let few = c.first_notes-count.ensures.within in
    let kept = first_kept mark notes firsts within count c.if-len.self.notes.len _ _ few (omega (arith, few, long, size, within, c.first_notes-count.auto.notes)) in
    let items = c.truncate.ensures.items ∙ kept in
    let rest = take count firsts in
    let now = c.if-len.self.ranges.items in
    let ranges : now ≡ was.ranges.items = elim c.if-len.branch [
      | then-len+in_ok-resize w ↦ ap (λ v. v.ranges.items) w.self-is
      | else-len w ↦ ap (λ v. v.ranges.items) w.self-is
    ] in
    let room : length now ≤ length c.deref_mut-2.result.now = elim c.if-len.branch [
      | then-len+in_ok-resize w ↦
          let places = ap length c.deref_mut-2.ensures.value in
          let size = ap (λ v. length v.places.items) w.self-is in
          let long = c.if-len.self.places.ok.0 in
          let count = ap length ranges in
          let own = was.ranges.ok.0 in
          rw places (rw size (omega (arith, w.in_ok-resize.ensures.len, w.resize.new.self.ok.0, w.len-then-len.ensures, count, own)))
      | else-len w ↦
          let places = ap length c.deref_mut-2.ensures.value in
          let size = ap (λ v. length v.places.items) w.self-is in
          let count = ap length ranges in
          omega (arith, places, size, count, was.ranges.ok.0, was.places.ok.0, c.len.ensures, c.len-2.ensures, w.if-len.false)
    ] in
    record {
      within = subst (λ l. mark ≤ length l) (sym items) (first_room mark notes firsts within rest);
      before = ap (take mark) items ∙ first_before mark notes firsts within rest ∙ ap (take mark) all;
      back =
          ap (λ l. taken_back now l) (ap (drop mark) items ∙ first_behind mark notes firsts within rest)
          ∙ c.first_notes-count.ensures.back now room
          ∙ ap (taken_back now) (all_behind mark notes ∙ ap (drop mark) all)
          ∙ ap (λ rs. taken_back rs (drop mark was.notes.items)) ranges;
    }
