use Rattle.std.proofs.Common.{◌≡◌, ◌<◌, ◌∙◌, ◌+◌, length, take, sym, ap, arith, refl}
use Rattle.std.specs.Prelude.{Err}
use Rattle.std.proofs.lemmas.Result.{err_from_is_err_and}
use Rattle.std.proofs.lemmas.List.{length-take-le}
use Rattle.script_run.specs.Limits.{most_script}
use Rattle.script_run.proofs.KeepingLaws.{is_above, is_below}
use Rattle.script_run.proofs.TurnLaws.{stood_first, stood_on, meets_read, meets_long, meets_break, meets_at}
use Rattle.script_run.proofs.turns.take_turns.Goals as goal

pub turns-init : goal.turns-init
turns-init g c = record {
  stood = stood_first _ _ c.args.reading.now c.requires.start;
  room = c.requires.room;
  within = omega arith;
  mode = refl;
  same = refl;
  kept = refl;
  files_later = omega arith;
  source_later = omega arith;
  sink_later = omega arith;
}

pub returns-in-Err-clause-err : goal.returns-in-Err-clause-err
returns-in-Err-clause-err g c = λ stop stop_is script is.
    meets_at stop stop_is
    (meets_read c.turns.invariant.stood c.in-Err.ensures.bytes c.turns.invariant.within script is)

pub returns-then-is_too_long-clause-err : goal.returns-then-is_too_long-clause-err
returns-then-is_too_long-clause-err g c = λ stop stop_is script is.
    let count = c.in-Ok.count in
    let buf = c.next_turn.new.buf in
    let size : length (take count buf) ≡ count = length-take-le count buf (omega (arith, c.in-Ok.ensures.short)) in
    let over : most_script < c.turns.taken + count = is_above most_script (c.turns.taken + count)
    (sym c.is_too_long.ensures ∙ c.if-is_too_long.true) in
    let past : c.turns.taken + count ≡ most_script + 1 = omega (arith, c.in-Ok.ensures.limit) in
    meets_at stop stop_is (meets_long (take count buf) size c.in-Ok.ensures.bytes.0 c.turns.invariant.stood
    (c.in-Ok.ensures.past past) past script is)

pub returns-in_err-feed-clause-err : goal.returns-in_err-feed-clause-err
returns-in_err-feed-clause-err g c = λ stop stop_is script is.
    let p = err_from_is_err_and c.from_residual.result c.from_residual.ensures.1 in
    let count = c.in-Ok.count in
    let buf = c.next_turn.new.buf in
    let size : length (take count buf) ≡ count = length-take-le count buf (omega (arith, c.in-Ok.ensures.short)) in
    let within = is_below most_script (c.turns.taken + count) (sym c.is_too_long.ensures ∙ c.if-is_too_long.false) in
    meets_at stop (sym (p.1 ∙ ap (λ v. Err v) p.2) ∙ stop_is)
    (meets_break (take count buf) size c.in-Ok.ensures.short
    within c.in-Ok.ensures.bytes.0 c.turns.invariant.stood
    (c.in_err-feed.ensures.err c.in_err-feed.field-0.0 refl) script is)

pub turns-preserved : goal.turns-preserved
turns-preserved g c = record {
  stood =
      let count = c.in-Ok.count in
      let buf = c.next_turn.new.buf in
      let size : length (take count buf) ≡ count = length-take-le count buf (omega (arith, c.in-Ok.ensures.short)) in
      stood_on (take count buf) size c.in-Ok.ensures.bytes.0 c.in_ok-feed.ensures.ok c.turns.invariant.stood;
  room = omega arith;
  within = is_below most_script (c.turns.taken + c.in-Ok.count) (sym c.is_too_long.ensures ∙ c.if-is_too_long.false);
  mode = c.feed.ensures.mode ∙ c.turns.invariant.mode;
  same = c.feed.ensures.same ∙ c.turns.invariant.same;
  kept = c.in_ok-feed.ensures.kept (λ e. cc) ∙ c.turns.invariant.kept;
  files_later = omega (arith, c.feed.ensures.file.later);
  source_later = omega (arith, c.next_turn.ensures.cause.later);
  sink_later = omega (arith, c.feed.ensures.write.later);
}

pub turns-smaller : goal.turns-smaller
turns-smaller g c =
    let within = is_below most_script (c.turns.taken + c.in-Ok.count) (sym c.is_too_long.ensures ∙ c.if-is_too_long.false) in
    omega arith
