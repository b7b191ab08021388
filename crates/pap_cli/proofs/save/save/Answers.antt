use Rattle.std.proofs.Common.{◌∙◌, Bool, ap, sym, subst, refl}
use Rattle.std.specs.Prelude.{Err, ◌++◌}
use Rattle.std.proofs.lemmas.Result.{err_from_is_err_and}
use Rattle.outside.specs.Told.{Appends, AppendsShort}
use Rattle.pap_cli.specs.Statuses.{status_of}
use Rattle.open_runs.specs.OpenRuns.{open_line}
use Rattle.script_steps.specs.Steps.{Standing}
use Rattle.script_run.specs.Notes.{AreNoted, notes_shown}
use Rattle.pap_cli.specs.Notes.{refused_summary, telling}
use Rattle.pap_cli.specs.Outside.{objects, outside_of}
use Rattle.pap_cli.specs.SaveAnswers.{IsSave, was_filed}
use Rattle.pap_cli.specs.SaveClauses.{LeavesOnSave}
use Rattle.pap_cli.specs.private.SaveViews.{written_of}
use Rattle.pap_cli.proofs.SaveLemmas.{leaves_whole, leaves_cut, leaves_stop, leaves_unsaid}
use Rattle.pap_cli.proofs.save.save.Goals as goal

pub returns-in-Ok-put_all-clause-leaves : goal.returns-in-Ok-put_all-clause-leaves
returns-in-Ok-put_all-clause-leaves g c =
    let before = outside_of g.F.Files g.R.Source g.W.Sink
    (objects c.args.files.now c.args.source.now c.args.sink.now c.args.steps.now) in
    let after = outside_of g.F.Files g.R.Source g.W.Sink
    (objects c.run_unwritten.new.files c.run_unwritten.new.source c.put_all.new.sink c.run_unwritten.new.steps) in
    let ended = c.in-Ok.ended in
    let reply = c.in_ok-reply.reply in
    leaves_whole before after ended reply (notes_shown g.N.Sink c.args.notes.now)
    (notes_shown g.N.Sink c.run_unwritten.new.notes) (notes_shown g.N.Sink c.sum_up.new.notes)
    c.in-Ok.ensures.script c.in-Ok.ensures.standing
    (subst (λ (r : Bool). IsSave r (was_filed ended.script) ended.refusals.items ended.script.book (written_of reply))
    c.any.ensures c.in_ok-reply.ensures)
    (record {
      book = ended.script.book;
      leaves = λ script left files told. let ends = c.in-Ok.ensures.standing script left files told in
          record { session = ends.session; is = ends.is; book_is = ap (λ (s : Standing). s.book) (sym ends.left) };
      put = subst (λ b. AreNoted (notes_shown g.N.Sink c.run_unwritten.new.notes) (notes_shown g.N.Sink c.sum_up.new.notes)
          (refused_summary ended.counts.refused ++ open_line b)) c.book.ensures c.in_ok-sum_up.ensures;
    }) (c.in-Ok.ensures.kept (λ e. cc))
    (subst (λ t. Appends before.written after.written t) c.deref.ensures.value c.in-Ok-put_all.ensures.ok)

pub returns-clause-leaves : goal.returns-clause-leaves
returns-clause-leaves g c =
    let before = outside_of g.F.Files g.R.Source g.W.Sink
    (objects c.args.files.now c.args.source.now c.args.sink.now c.args.steps.now) in
    let after = outside_of g.F.Files g.R.Source g.W.Sink
    (objects c.run_unwritten.new.files c.run_unwritten.new.source c.put_all.new.sink c.run_unwritten.new.steps) in
    let ended = c.in-Ok.ended in
    let reply = c.in_ok-reply.reply in
    leaves_cut before after ended reply (notes_shown g.N.Sink c.args.notes.now)
    (notes_shown g.N.Sink c.run_unwritten.new.notes) (notes_shown g.N.Sink c.sum_up.new.notes)
    c.in-Ok.ensures.script c.in-Ok.ensures.standing
    (subst (λ (r : Bool). IsSave r (was_filed ended.script) ended.refusals.items ended.script.book (written_of reply))
    c.any.ensures c.in_ok-reply.ensures)
    (record {
      book = ended.script.book;
      leaves = λ script left files told. let ends = c.in-Ok.ensures.standing script left files told in
          record { session = ends.session; is = ends.is; book_is = ap (λ (s : Standing). s.book) (sym ends.left) };
      put = subst (λ b. AreNoted (notes_shown g.N.Sink c.run_unwritten.new.notes) (notes_shown g.N.Sink c.sum_up.new.notes)
          (refused_summary ended.counts.refused ++ open_line b)) c.book.ensures c.in_ok-sum_up.ensures;
    }) (c.in-Ok.ensures.kept (λ e. cc))
    (subst (λ t. AppendsShort before.written after.written t) c.deref.ensures.value c.in-Err-put_all.ensures.err)

pub returns-in-Err-clause-leaves : goal.returns-in-Err-clause-leaves
returns-in-Err-clause-leaves g c =
    let before = outside_of g.F.Files g.R.Source g.W.Sink
    (objects c.args.files.now c.args.source.now c.args.sink.now c.args.steps.now) in
    let after = outside_of g.F.Files g.R.Source g.W.Sink
    (objects c.run_unwritten.new.files c.run_unwritten.new.source c.args.sink.now c.run_unwritten.new.steps) in
    leaves_stop before after (notes_shown g.N.Sink c.args.notes.now) (notes_shown g.N.Sink c.run_unwritten.new.notes)
    c.in-Err.stopped c.in-Err.ensures.script refl
    (λ other. c.in-Err.ensures.kept (λ e. other cc)) (λ e. c.in-Err.ensures.no_write cc)

pub returns-in_err-sum_up-clause-leaves : goal.returns-in_err-sum_up-clause-leaves
returns-in_err-sum_up-clause-leaves g c =
    let p = err_from_is_err_and c.from_residual.result c.from_residual.ensures.1 in
    let before = outside_of g.F.Files g.R.Source g.W.Sink
    (objects c.args.files.now c.args.source.now c.args.sink.now c.args.steps.now) in
    let after = outside_of g.F.Files g.R.Source g.W.Sink
    (objects c.run_unwritten.new.files c.run_unwritten.new.source c.args.sink.now c.run_unwritten.new.steps) in
    let counts = c.in-Ok.ended.counts in
    subst (λ r. LeavesOnSave before after (telling g.N.Sink counts c.args.notes.now c.sum_up.new.notes) (status_of r))
    (sym (p.1 ∙ ap (λ v. Err v) p.2))
    (leaves_unsaid before after counts (notes_shown g.N.Sink c.args.notes.now)
    (notes_shown g.N.Sink c.run_unwritten.new.notes) (notes_shown g.N.Sink c.sum_up.new.notes) c.in-Ok.ensures.script refl
    (c.in-Ok.ensures.kept (λ e. cc)))

pub returns-in_err-reply-clause-leaves : goal.returns-in_err-reply-clause-leaves
returns-in_err-reply-clause-leaves g c =
    let p = err_from_is_err_and c.from_residual-in_err-reply.result c.from_residual-in_err-reply.ensures.1 in
    let before = outside_of g.F.Files g.R.Source g.W.Sink
    (objects c.args.files.now c.args.source.now c.args.sink.now c.args.steps.now) in
    let after = outside_of g.F.Files g.R.Source g.W.Sink
    (objects c.run_unwritten.new.files c.run_unwritten.new.source c.args.sink.now c.run_unwritten.new.steps) in
    let counts = c.in-Ok.ended.counts in
    subst (λ r. LeavesOnSave before after (telling g.N.Sink counts c.args.notes.now c.sum_up.new.notes) (status_of r))
    (sym (p.1 ∙ ap (λ v. Err v) p.2))
    (leaves_unsaid before after counts (notes_shown g.N.Sink c.args.notes.now)
    (notes_shown g.N.Sink c.run_unwritten.new.notes) (notes_shown g.N.Sink c.sum_up.new.notes) c.in-Ok.ensures.script refl
    (c.in-Ok.ensures.kept (λ e. cc)))
