use Rattle.std.proofs.Common.{◌-◌, drop, length, string_bytes, take}
use Rattle.std.specs.Prelude.{codes}
use Rattle.std.specs.List.{flat_map}
use Rattle.open_runs.specs.OpenRuns.{cause_part, causes_part, other_part}
use Rattle.open_runs.proofs.LineLemmas.{causes_split, with_parts}
use Rattle.open_runs.proofs.line.write_causes.Goals as goal

pub returns : goal.returns
returns c =
    let causes = c.args.causes.now in
    let first = c.first-item.result in
    let book = c.args.book.now in
    with_parts c.write_others.result (string_bytes c.args.line.now) (string_bytes c.push_str.new.self)
    (string_bytes c.write_cause.new.line) (string_bytes c.write_others.new.line) (codes ": ") (cause_part book first)
    (flat_map (other_part book) (take (length causes - 1) (drop 1 causes))) (causes_part book causes) c.in_ok-push_str.ensures.bytes
    c.in_ok-write_cause.ensures (causes_split book causes first c.in-len1-up.len_at_least c.first-item.is) c.write_others.ensures
