use Rattle.std.proofs.Common.{ap, string_bytes}
use Rattle.outside.specs.Memory.{named_files, file_named}
use Rattle.script_run.specs.RunClauses.{IsSpentWithin}
use Rattle.script_run.specs.Samples.{sample_lines, script_of}
use Rattle.script_run.specs.SampleFiles.{sample_files}
use Rattle.script_run.proofs.MemoryLaws.{on_err, spent_nothing}
use Rattle.script_run.proofs.SampleLaws.{there_in}
use Rattle.script_run.proofs.ThereLaws.{sample_there_in}
use Rattle.script_run.proofs.sample.run_sample.Goals as goal

pub run_in_memory-requires-clause-there : goal.run_in_memory-requires-clause-there
run_in_memory-requires-clause-there g c =
    there_in (file_named (named_files c.in_ok-files.files.items)) c.into_bytes.result.items (string_bytes c.in_ok-script.script)
    (sample_lines c.args.employees) (ap (λ v. v.items) c.into_bytes.ensures.value) c.in_ok-script.ensures.lines
    (sample_there_in (named_files c.in_ok-files.files.items) c.args.employees c.requires c.in_ok-files.ensures)

pub returns-in_err-script-clause-memory : goal.returns-in_err-script-clause-memory
returns-in_err-script-clause-memory g c =
    let script = script_of (sample_lines c.args.employees) in
    on_err (IsSpentWithin sample_files script c.args.steps.now c.args.steps.now) c.from_residual.result
    (spent_nothing sample_files script c.args.steps.now)

pub returns-in_err-files-clause-memory : goal.returns-in_err-files-clause-memory
returns-in_err-files-clause-memory g c =
    let script = script_of (sample_lines c.args.employees) in
    on_err (IsSpentWithin sample_files script c.args.steps.now c.args.steps.now) c.from_residual-in_err-files.result
    (spent_nothing sample_files script c.args.steps.now)
