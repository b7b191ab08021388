use Rattle.std.proofs.Common.{◌∙◌, ◌++◌, ap, string_bytes}
use Rattle.open_runs.specs.OpenRuns.{causes_part, counted_in}
use Rattle.open_runs.proofs.LineLemmas.{whole_line}
use Rattle.open_runs.proofs.line.counted_line.Goals as goal

pub returns : goal.returns
returns c =
    whole_line c.args.book.now (counted_in c.args.tally.now) (string_bytes c.new-line.result) (string_bytes c.write_counts.new.line)
    (string_bytes c.write_causes.new.line) (string_bytes c.write_end.new.line) c.if-tally-eq0.false c.new-line.ensures.bytes
    c.in_ok-write_counts.ensures
    (c.in_ok-write_causes.ensures ∙ ap (λ v. string_bytes c.write_counts.new.line ++ causes_part c.args.book.now v) c.as_slice.ensures.value)
    c.in_ok-write_end.ensures
