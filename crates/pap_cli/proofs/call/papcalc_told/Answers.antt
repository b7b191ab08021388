use Rattle.std.proofs.Common.{◌∙◌, ap, refl, subst, sym}
use Rattle.pap_cli.specs.Words.{texts, run, sample, save}
use Rattle.pap_cli.specs.private.WordViews.{form_on_files}
use Rattle.pap_cli.specs.Outside.{objects, outside_of, shown_of}
use Rattle.pap_cli.specs.CallClauses.{Carries}
use Rattle.script_run.specs.Notes.{notes_shown}
use Rattle.pap_cli.specs.Notes.{HasReason, telling}
use Rattle.pap_cli.specs.ScriptWords.{AsksOfFiles}
use Rattle.pap_cli.specs.Statuses.{status_of}
use Rattle.pap_cli.proofs.CallLemmas.{caused_by, files_no_sample, tells_good, touches_own}
use Rattle.pap_cli.proofs.WordLemmas.{is_check, one_form}
use Rattle.pap_cli.proofs.ScriptLemmas.{headline_script}
use Rattle.pap_cli.proofs.SampleLemmas.{headline_sample, reads_no_file, samples_no_script}
use Rattle.pap_cli.proofs.SaveLemmas.{headline_save}
use Rattle.pap_cli.proofs.LeavesLemmas.{leaves_form, carries_none, headline_form, reads_no_script}
use Rattle.pap_cli.proofs.ReasonLemmas.{asks_of_files, not_refused, notes_kept, notes_told, reason_of_form, refused_ok}
use Rattle.pap_cli.proofs.call.papcalc_told.Goals as goal

-- ---- all that the call meets, by what the words ask for

pub returns-in-Ok-Some-Files-clause-meets : goal.returns-in-Ok-Some-Files-clause-meets
returns-in-Ok-Some-Files-clause-meets g c =
    let words = texts c.args.words.now in
    let request = c.in-Ok-Some-Files.request in
    let own = rw c.in-Ok-Some-Files.field-0-0-is at (rw c.in-Ok-Some-Files.field-0-is at c.in-Ok-Some-Files.ensures) in
    let first = objects c.args.files.now c.args.source.now c.args.sink.now c.args.steps.now in
    let last = objects c.answer.new.files c.args.source.now c.answer.new.sink c.answer.new.steps in
    let before = outside_of g.F.Files g.R.Source g.W.Sink first in
    let after = outside_of g.F.Files g.R.Source g.W.Sink last in
    let status = c.status.result in
    let lines = telling g.N.Sink c.args.counts.now c.args.notes.now c.answer.new.notes in
    let caused = caused_by before after status c.answer.result c.status.ensures
    (λ e. c.answer.ensures.file.rose e)
    (λ e. absurd (reads_no_script {before = shown_of before} {after = shown_of after} c.answer.ensures.leaves
    (ap (λ r. status_of r) e)))
    (λ e. c.answer.ensures.write.rose e) in
    record {
      bad_words = tells_good words (form_on_files request) own status c.answer.result c.status.ensures;
      touches = touches_own words (form_on_files request) own first last (λ none. refl {a = c.args.source.now})
          (λ employees e. absurd (files_no_sample request employees e))
          (λ plan limits e. c.answer.ensures.check
          (is_check request.command request.plan.now request.limits.now plan limits e));
      files_same = c.answer.ensures.same;
      caused = caused;
      carries = λ form has.
          let same = one_form words (form_on_files request) form own has in
          let meets = rw (← c.status.ensures) at c.answer.ensures.leaves in
          let all = leaves_form request.command request.plan.now request.limits.now before after lines status meets in
          subst (λ f. Carries f before after lines status) same (record {
            leaves = all;
            headline = headline_form request.command request.plan.now request.limits.now before after lines status all
                caused.file caused.write;
          });
    }

pub returns-in-Ok-Some-Run-clause-meets : goal.returns-in-Ok-Some-Run-clause-meets
returns-in-Ok-Some-Run-clause-meets g c =
    let words = texts c.args.words.now in
    let own = rw c.in-Ok-Some-Run.field-0-0-is at (rw c.in-Ok-Some-Run.field-0-is at c.in-Ok-Some-Run.ensures) in
    let first = objects c.args.files.now c.args.source.now c.args.sink.now c.args.steps.now in
    let last = objects c.carry_out.new.files c.carry_out.new.source c.carry_out.new.sink c.carry_out.new.steps in
    let before = outside_of g.F.Files g.R.Source g.W.Sink first in
    let after = outside_of g.F.Files g.R.Source g.W.Sink last in
    let status = c.status-in-Ok-Some-Run.result in
    let lines = telling g.N.Sink c.carry_out.new.counts c.args.notes.now c.carry_out.new.notes in
    let is = c.status-in-Ok-Some-Run.ensures in
    let caused = caused_by before after status c.carry_out.result is
    (λ e. c.carry_out.ensures.file.rose e) (λ e. c.carry_out.ensures.read.rose e) (λ e. c.carry_out.ensures.write.rose e) in
    record {
      bad_words = tells_good words run own status c.carry_out.result is;
      touches = touches_own words run own first last (λ none. absurd (none tt)) (λ employees e. cc) (λ plan limits e. cc);
      files_same = c.carry_out.ensures.same;
      caused = caused;
      carries = λ form has.
          let all = rw (← is) at c.carry_out.ensures.leaves in
          subst (λ f. Carries f before after lines status) (one_form words run form own has) (record {
            leaves = all;
            headline = headline_script before after lines status all caused.file caused.read caused.write;
          });
    }

pub returns-in-Ok-Some-Sample-clause-meets : goal.returns-in-Ok-Some-Sample-clause-meets
returns-in-Ok-Some-Sample-clause-meets g c =
    let words = texts c.args.words.now in
    let employees = c.in-Ok-Some-Sample.employees in
    let own = rw c.in-Ok-Some-Sample.field-0-0-is at (rw c.in-Ok-Some-Sample.field-0-is at c.in-Ok-Some-Sample.ensures) in
    let first = objects c.args.files.now c.args.source.now c.args.sink.now c.args.steps.now in
    let last = objects c.args.files.now c.args.source.now c.sample.new.sink c.sample.new.steps in
    let before = outside_of g.F.Files g.R.Source g.W.Sink first in
    let after = outside_of g.F.Files g.R.Source g.W.Sink last in
    let status = c.status-in-Ok-Some-Sample.result in
    let lines = telling g.N.Sink c.args.counts.now c.args.notes.now c.args.notes.now in
    let is = c.status-in-Ok-Some-Sample.ensures in
    let caused = caused_by before after status c.sample.result is
    (λ e. absurd (reads_no_file c.sample.ensures.leaves (ap (λ r. status_of r) e)))
    (λ e. absurd (samples_no_script c.sample.ensures.leaves (ap (λ r. status_of r) e)))
    (λ e. c.sample.ensures.write.rose e) in
    record {
      bad_words = tells_good words (sample employees) own status c.sample.result is;
      touches = touches_own words (sample employees) own first last
          (λ none. refl {a = c.args.source.now}) (λ number e. refl {a = c.args.files.now}) (λ plan limits e. cc);
      files_same = refl {a = g.F.Files.told c.args.files.now};
      caused = caused;
      carries = λ form has.
          let all = rw (← is) at c.sample.ensures.leaves in
          subst (λ f. Carries f before after lines status) (one_form words (sample employees) form own has) (record {
            leaves = all;
            headline = headline_sample employees before after status all caused.write;
          });
    }

pub returns-in-Ok-Some-Save-clause-meets : goal.returns-in-Ok-Some-Save-clause-meets
returns-in-Ok-Some-Save-clause-meets g c =
    let words = texts c.args.words.now in
    let own = rw c.in-Ok-Some-Save.field-0-0-is at (rw c.in-Ok-Some-Save.field-0-is at c.in-Ok-Some-Save.ensures) in
    let first = objects c.args.files.now c.args.source.now c.args.sink.now c.args.steps.now in
    let last = objects c.save.new.files c.save.new.source c.save.new.sink c.save.new.steps in
    let before = outside_of g.F.Files g.R.Source g.W.Sink first in
    let after = outside_of g.F.Files g.R.Source g.W.Sink last in
    let status = c.status-in-Ok-Some-Save.result in
    let lines = telling g.N.Sink c.save.new.counts c.args.notes.now c.save.new.notes in
    let is = c.status-in-Ok-Some-Save.ensures in
    let caused = caused_by before after status c.save.result is
    (λ e. c.save.ensures.file.rose e) (λ e. c.save.ensures.read.rose e) (λ e. c.save.ensures.write.rose e) in
    record {
      bad_words = tells_good words save own status c.save.result is;
      touches = touches_own words save own first last (λ none. absurd (none tt)) (λ employees e. cc) (λ plan limits e. cc);
      files_same = c.save.ensures.same;
      caused = caused;
      carries = λ form has.
          let all = rw (← is) at c.save.ensures.leaves in
          subst (λ f. Carries f before after lines status) (one_form words save form own has) (record {
            leaves = all;
            headline = headline_save before after lines status all caused.file caused.read caused.write;
          });
    }

pub returns-in-Ok-None-clause-meets : goal.returns-in-Ok-None-clause-meets
returns-in-Ok-None-clause-meets g c =
    let bad = rw c.in-Ok-None.field-0-is at c.in-Ok-None.ensures in
    record {
      bad_words = record { told = λ bad memory. refl; alone = λ e. bad };
      touches = record {
        without_form = λ bad. refl;
        source_same = λ form is none. refl;
        files_same = λ employees is. refl;
        steps_same = λ plan limits is. refl;
      };
      files_same = refl;
      caused = record { file = λ e. cc; read = λ e. cc; write = λ e. cc };
      carries = λ form has. absurd (bad form has);
    }

pub returns-in-Err-clause-meets : goal.returns-in-Err-clause-meets
returns-in-Err-clause-meets g c = record {
  bad_words = record { told = λ bad memory. absurd (memory refl); alone = λ e. cc };
  touches = record {
    without_form = λ bad. refl;
    source_same = λ form is none. refl;
    files_same = λ employees is. refl;
    steps_same = λ plan limits is. refl;
  };
  files_same = refl;
  caused = record { file = λ e. cc; read = λ e. cc; write = λ e. cc };
  carries = λ form has. carries_none form (outside_of g.F.Files g.R.Source g.W.Sink
      (objects c.args.files.now c.args.source.now c.args.sink.now c.args.steps.now))
      (telling g.N.Sink c.args.counts.now c.args.notes.now c.args.notes.now);
}

-- ---- of a script it is told how many lines were refused, of other words nothing

pub returns-in-Ok-Some-Run-clause-untold : goal.returns-in-Ok-Some-Run-clause-untold
returns-in-Ok-Some-Run-clause-untold g c = λ none.
    let own = rw c.in-Ok-Some-Run.field-0-0-is at (rw c.in-Ok-Some-Run.field-0-is at c.in-Ok-Some-Run.ensures) in
    absurd (none (record { form = run; has = own; reads = tt }))

pub returns-in-Ok-Some-Save-clause-untold : goal.returns-in-Ok-Some-Save-clause-untold
returns-in-Ok-Some-Save-clause-untold g c = λ none.
    let own = rw c.in-Ok-Some-Save.field-0-0-is at (rw c.in-Ok-Some-Save.field-0-is at c.in-Ok-Some-Save.ensures) in
    absurd (none (record { form = save; has = own; reads = tt }))

-- ---- of two files the reason of a refusal is put to the notes, of other words nothing

pub returns-in-Ok-Some-Files-clause-notes : goal.returns-in-Ok-Some-Files-clause-notes
returns-in-Ok-Some-Files-clause-notes g c =
    let words = texts c.args.words.now in
    let request = c.in-Ok-Some-Files.request in
    let command = request.command in
    let plan = request.plan.now in
    let limits = request.limits.now in
    let mine = form_on_files request in
    let own = rw c.in-Ok-Some-Files.field-0-0-is at (rw c.in-Ok-Some-Files.field-0-is at c.in-Ok-Some-Files.ensures) in
    let told = g.F.Files.told c.args.files.now in
    let before = notes_shown g.N.Sink c.args.notes.now in
    let after = notes_shown g.N.Sink c.answer.new.notes in
    record {
      reason = λ form has asked refused.
          subst (λ f. HasReason f told before after) (one_form words mine form own has)
          (reason_of_form command plan limits told before after
          (c.answer.ensures.reason (refused_ok c.answer.result (sym c.status.ensures ∙ refused))));
      silent = λ none other. c.answer.ensures.silent (λ e. other (c.status.ensures ∙ ap (λ r. status_of r) e));
      other = λ form has none unread.
          absurd (none (subst AsksOfFiles (one_form words mine form own has) (asks_of_files command plan limits)));
    }

pub returns-in-Ok-Some-Run-clause-notes : goal.returns-in-Ok-Some-Run-clause-notes
returns-in-Ok-Some-Run-clause-notes g c =
    let own = rw c.in-Ok-Some-Run.field-0-0-is at (rw c.in-Ok-Some-Run.field-0-is at c.in-Ok-Some-Run.ensures) in
    notes_told g.N.Sink (texts c.args.words.now) (g.F.Files.told c.args.files.now) c.args.notes.now c.carry_out.new.notes
    c.status-in-Ok-Some-Run.result run own (λ asked. asked) tt

pub returns-in-Ok-Some-Sample-clause-notes : goal.returns-in-Ok-Some-Sample-clause-notes
returns-in-Ok-Some-Sample-clause-notes g c =
    let own = rw c.in-Ok-Some-Sample.field-0-0-is at (rw c.in-Ok-Some-Sample.field-0-is at c.in-Ok-Some-Sample.ensures) in
    notes_kept g.N.Sink (texts c.args.words.now) (g.F.Files.told c.args.files.now) c.args.notes.now c.status-in-Ok-Some-Sample.result (sample c.in-Ok-Some-Sample.employees) own (λ asked. asked)

pub returns-in-Ok-Some-Save-clause-notes : goal.returns-in-Ok-Some-Save-clause-notes
returns-in-Ok-Some-Save-clause-notes g c =
    let own = rw c.in-Ok-Some-Save.field-0-0-is at (rw c.in-Ok-Some-Save.field-0-is at c.in-Ok-Some-Save.ensures) in
    notes_told g.N.Sink (texts c.args.words.now) (g.F.Files.told c.args.files.now) c.args.notes.now c.save.new.notes
    c.status-in-Ok-Some-Save.result save own (λ asked. asked) tt

pub returns-in-Ok-None-clause-notes : goal.returns-in-Ok-None-clause-notes
returns-in-Ok-None-clause-notes g c =
    let bad = rw c.in-Ok-None.field-0-is at c.in-Ok-None.ensures in
    record { reason = λ form has asked refused. absurd (bad form has); silent = λ none other. refl; other = λ form has none unread. refl }

pub returns-in-Err-clause-notes : goal.returns-in-Err-clause-notes
returns-in-Err-clause-notes g c =
    record { reason = λ form has asked refused. absurd (not_refused refused); silent = λ none other. refl; other = λ form has none unread. refl }
