use Rattle.std.proofs.Common.{◌≡◌, ◌∙◌, ◌++◌, map, string_bytes, ◌≤◌, length, sym, ap, subst}
use Rattle.std.specs.Prelude.{codes}
use Rattle.std.specs.List.{flat_map}
use Rattle.script_run.specs.Samples.{change_line, year_lines, sample_lines, numbers, script_of}
use Rattle.script_run.specs.Limits.{most_script}
use Rattle.script_run.specs.Transcripts.{lines_of}
use Rattle.script_run.proofs.SampleLaws.{joined, sample_parts, lines_of-sample, short_sample}
use Rattle.script_run.proofs.sample.sample_script.Goals as goal

-- the script is the defined one
script_is : (c : goal.In_ok-push_str) → string_bytes c.push_str.new.self ≡ script_of (sample_lines c.args.employees)
script_is c =
    let employees = c.args.employees in
    joined (codes "plan 2025-01-01 p2.xml l2.toml\n") (script_of (flat_map year_lines (numbers employees))) (script_of
    (map change_line (numbers employees))) (codes "report\n")
    (string_bytes c.write_years.new.script) (string_bytes c.write_corrections.new.script)
    (string_bytes c.push_str.new.self)
    (c.in_ok-write_years.ensures ∙ ap (λ v. v ++ script_of (flat_map year_lines
    (numbers employees))) c.in_ok-script.ensures.ok) c.in_ok-write_corrections.ensures
    c.in_ok-push_str.ensures.bytes
    ∙ sym (sample_parts employees)

pub returns-clause-text : goal.returns-clause-text
returns-clause-text c = script_is c

pub returns-clause-lines : goal.returns-clause-lines
returns-clause-lines c = ap (λ v. lines_of v) (script_is c) ∙ lines_of-sample c.args.employees c.requires.employees

pub returns-clause-short : goal.returns-clause-short
returns-clause-short c = subst (λ v. length v ≤ most_script) (sym (script_is c))
    (short_sample c.args.employees c.requires.employees)
