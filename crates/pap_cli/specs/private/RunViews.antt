-- The lines of outputs that stand under their names.
use Rattle.std.specs.Prelude.{ℕ, List}
use Rattle.std.specs.List.{flat_map}
use Rattle.payroll_records.specs.declared.values.NamedValue.{NamedValue}
use Rattle.pap_cli.specs.RunLines.{value_line}

-- a line for each value
abbrev pub named_lines : List NamedValue → List ℕ
named_lines values = flat_map (λ (v : NamedValue). value_line v.name v.value) values
