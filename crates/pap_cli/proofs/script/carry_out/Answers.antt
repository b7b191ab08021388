use Rattle.std.proofs.Common.{◌∙◌, Bool, ap, sym, subst}
use Rattle.std.specs.Prelude.{Err, ◌++◌}
use Rattle.std.proofs.lemmas.Result.{err_from_is_err_and}
use Rattle.open_runs.specs.OpenRuns.{open_line}
use Rattle.script_steps.specs.Steps.{Standing}
use Rattle.script_run.specs.Notes.{AreNoted, notes_shown}
use Rattle.pap_cli.specs.Notes.{refused_summary, telling}
use Rattle.pap_cli.specs.Outside.{objects, outside_of}
use Rattle.pap_cli.specs.ScriptClauses.{LeavesOnScript}
use Rattle.pap_cli.specs.Statuses.{done_status, status_of}
use Rattle.pap_cli.proofs.ScriptLemmas.{script_end, script_stop, script_unsaid}
use Rattle.pap_cli.proofs.script.carry_out.Goals as goal

pub returns-in_ok-sum_up-in-Ok-clause-leaves : goal.returns-in_ok-sum_up-in-Ok-clause-leaves
returns-in_ok-sum_up-in-Ok-clause-leaves g c =
    let before = outside_of g.F.Files g.R.Source g.W.Sink
    (objects c.args.files.now c.args.source.now c.args.sink.now c.args.steps.now) in
    let after = outside_of g.F.Files g.R.Source g.W.Sink
    (objects c.run.new.files c.run.new.source c.run.new.sink c.run.new.steps) in
    let ended = c.in-Ok.ended in
    subst (λ (r : Bool). LeavesOnScript before after (telling g.N.Sink ended.counts c.args.notes.now c.sum_up.new.notes)
    (done_status r)) (sym c.any.ensures)
    (script_end before after (notes_shown g.N.Sink c.args.notes.now) (notes_shown g.N.Sink c.run.new.notes)
    (notes_shown g.N.Sink c.sum_up.new.notes) ended.counts c.in-Ok.ensures.script (c.in-Ok.ensures.kept (λ e. cc))
    (record {
      book = ended.script.book;
      leaves = λ script left files told. let ends = c.in-Ok.ensures.standing script left files told in
          record { session = ends.session; is = ends.is; book_is = ap (λ (s : Standing). s.book) (sym ends.left) };
      put = subst (λ b. AreNoted (notes_shown g.N.Sink c.run.new.notes) (notes_shown g.N.Sink c.sum_up.new.notes)
          (refused_summary ended.counts.refused ++ open_line b)) c.book.ensures c.in_ok-sum_up-in-Ok.ensures;
    }))

pub returns-in_err-sum_up-in-Ok-clause-leaves : goal.returns-in_err-sum_up-in-Ok-clause-leaves
returns-in_err-sum_up-in-Ok-clause-leaves g c =
    let p = err_from_is_err_and c.from_residual.result c.from_residual.ensures.1 in
    let before = outside_of g.F.Files g.R.Source g.W.Sink
    (objects c.args.files.now c.args.source.now c.args.sink.now c.args.steps.now) in
    let after = outside_of g.F.Files g.R.Source g.W.Sink
    (objects c.run.new.files c.run.new.source c.run.new.sink c.run.new.steps) in
    let ended = c.in-Ok.ended in
    subst (λ r. LeavesOnScript before after (telling g.N.Sink ended.counts c.args.notes.now c.sum_up.new.notes)
    (status_of r)) (sym (p.1 ∙ ap (λ v. Err v) p.2))
    (script_unsaid before after (notes_shown g.N.Sink c.args.notes.now) (notes_shown g.N.Sink c.run.new.notes)
    (notes_shown g.N.Sink c.sum_up.new.notes) ended.counts c.in-Ok.ensures.script (c.in-Ok.ensures.kept (λ e. cc)))

pub returns-in-Err-clause-leaves : goal.returns-in-Err-clause-leaves
returns-in-Err-clause-leaves g c =
    let before = outside_of g.F.Files g.R.Source g.W.Sink
    (objects c.args.files.now c.args.source.now c.args.sink.now c.args.steps.now) in
    let after = outside_of g.F.Files g.R.Source g.W.Sink
    (objects c.run.new.files c.run.new.source c.run.new.sink c.run.new.steps) in
    script_stop before after (notes_shown g.N.Sink c.args.notes.now) (notes_shown g.N.Sink c.run.new.notes)
    c.in-Err.stopped c.in-Err.ensures.script (λ other. c.in-Err.ensures.kept (λ e. other cc))
