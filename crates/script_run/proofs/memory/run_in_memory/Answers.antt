use Rattle.std.proofs.Common.{◌∙◌, sym, ap}
use Rattle.std.specs.Prelude.{Some}
use Rattle.outside.specs.Memory.{named_files, file_named}
use Rattle.outside.proofs.Laws.{sure_lacked}
use Rattle.script_run.proofs.MemoryLaws.{told_files, finished, spent_within, no_file_stop, no_long_stop, stopped_for}
use Rattle.script_run.proofs.memory.run_in_memory.Goals as goal

pub returns-in-Ok-clause-ok : goal.returns-in-Ok-clause-ok
returns-in-Ok-clause-ok g c =
    let files = file_named (named_files c.args.files.items) in
    let script = c.args.script.items in
    let told = told_files c.new-files.ensures.files in
    let left = ap (λ v. Some v.left) c.new-source.ensures in
    let made = c.in-Ok.made in
    finished files script made.ended made.refusals
    (c.in-Ok.ensures.script script left) (c.in-Ok.ensures.standing script left files told) told

pub unreachable-requires : goal.unreachable-requires
unreachable-requires g c =
    let files = file_named (named_files c.args.files.items) in
    let script = c.args.script.items in
    let left = ap (λ v. Some v.left) c.new-source.ensures in
    no_file_stop files script (stopped_for c.in-Err.stopped c.in-File.is (c.in-Err.ensures.script script left))
    c.requires.there
    (λ name failed. sym (ap (λ v. file_named v name) c.new-files.ensures.files)
    ∙ sure_lacked c.new-files.result c.run_to_end.new.files name c.run_to_end.ensures.same failed)

pub unreachable-requires-in-Long : goal.unreachable-requires-in-Long
unreachable-requires-in-Long g c =
    let script = c.args.script.items in
    let left = ap (λ v. Some v.left) c.new-source.ensures in
    no_long_stop script (stopped_for c.in-Err.stopped c.in-Long.is (c.in-Err.ensures.script script left))
    c.requires.short

pub returns-in-Memory-clause-memory : goal.returns-in-Memory-clause-memory
returns-in-Memory-clause-memory g c =
    let files = file_named (named_files c.args.files.items) in
    let script = c.args.script.items in
    let told = told_files c.new-files.ensures.files in
    let left = ap (λ v. Some v.left) c.new-source.ensures in
    spent_within files script (stopped_for c.in-Err.stopped c.in-Memory.is (c.in-Err.ensures.script script left)) told
