use Rattle.std.proofs.Common.{◌≡◌, ◌∙◌, [], ◌∷◌, ◌++◌, ◌+◌, length, length-drop, take, drop, sym, ap, refl, append_assoc, arith}
use Rattle.std.proofs.lemmas.List.{append-nil, take_rest}
use Rattle.std.proofs.lemmas.Result.{err_from_is_err_and}
use Rattle.script_steps.specs.declared.stop.LineStop.TheVariants.{Memory}
use Rattle.script_run.proofs.LineLaws.{before_lf, around_lf}
use Rattle.script_run.proofs.StepLaws.{goes_nowhere, goes_further, goes_over, keep_on, breaks_memory, breaks_within, err_same}
use Rattle.script_run.proofs.reading.Reading.feed.Goals as goal

pub loop-end-init : goal.loop-end-init
loop-end-init g c = record {
  done = [];
  split = refl;
  within = omega arith;
  on = goes_nowhere;
  mode = refl;
  same = refl;
  kept = refl;
  files_later = omega arith;
  sink_later = omega arith;
}

pub end_line-requires : goal.end_line-requires
end_line-requires g c = before_lf c.loop-end.rest.now c.in-Some.end c.in-Some.ensures

pub loop-end-preserved : goal.loop-end-preserved
loop-end-preserved g c =
    let rest = c.loop-end.rest.now in
    let end = c.in-Some.end in
    let line = take end rest ++ 10 ∷ [] in
    let left = take_rest rest (end + 1) in
    record {
      done = c.loop-end.invariant.done ++ line;
      split = c.loop-end.invariant.split
          ∙ ap (λ v. c.loop-end.invariant.done ++ v) (around_lf rest end c.in-Some.ensures ∙ ap (λ v. line ++ v) (sym left))
          ∙ sym (append_assoc c.loop-end.invariant.done line _);
      within = omega (arith, c.loop-end.invariant.within, ap length left, length-drop (end + 1) rest);
      on = goes_further c.loop-end.invariant.done line c.loop-end.invariant.on c.in_ok-end_line.ensures.ok;
      mode = c.end_line.ensures.mode ∙ c.loop-end.invariant.mode;
      same = c.end_line.ensures.same ∙ c.loop-end.invariant.same;
      kept = c.in_ok-end_line.ensures.kept (λ e. cc) ∙ c.loop-end.invariant.kept;
      files_later = omega (arith, c.end_line.ensures.file.later);
      sink_later = omega (arith, c.end_line.ensures.write.later);
    }

pub returns-in_err-end_line-clause-err : goal.returns-in_err-end_line-clause-err
returns-in_err-end_line-clause-err g c = λ stop is.
    let p = err_from_is_err_and c.from_residual.result c.from_residual.ensures.1 in
    let same : c.in_err-end_line.field-0.0 ≡ stop = cc (p.1, p.2) in
    let rest = c.loop-end.rest.now in
    let end = c.in-Some.end in
    let done = c.loop-end.invariant.done in
    let line = take end rest ++ 10 ∷ [] in
    breaks_within done line (drop (end + 1) rest) c.args.piece.now
    (c.loop-end.invariant.split ∙ ap (λ v. done ++ v) (around_lf rest end c.in-Some.ensures)
    ∙ sym (append_assoc done line (drop (end + 1) rest)))
    c.loop-end.invariant.on (c.in_err-end_line.ensures.err stop (err_same same))

pub returns-in_err-keep-clause-err : goal.returns-in_err-keep-clause-err
returns-in_err-keep-clause-err g c = λ stop is.
    let p = err_from_is_err_and c.from_residual-in_err-keep.result c.from_residual-in_err-keep.ensures.1 in
    let memory : Memory ≡ stop = cc (p.1, p.2) in
    let rest = c.loop-end.rest.now in
    let done = c.loop-end.invariant.done in
    breaks_within done rest [] c.args.piece.now (c.loop-end.invariant.split ∙ sym (append-nil (done ++ rest)))
    c.loop-end.invariant.on (breaks_memory rest memory)

pub returns-clause-ok : goal.returns-clause-ok
returns-clause-ok g c =
    let rest = c.loop-end.rest.now in
    goes_over (c.loop-end.invariant.done ++ rest) c.args.piece.now (sym c.loop-end.invariant.split)
    (goes_further c.loop-end.invariant.done rest c.loop-end.invariant.on
    (keep_on rest c.in_default.ensures c.in_ok-keep.ensures refl))
