-- What private contracts cite beside the definitions of SavedBooks.
use Rattle.std.specs.Prelude.{List, ◌++◌, codes}
use Rattle.std.specs.List.{flat_map}
use Rattle.payroll_records.specs.Tables.{Text}
use Rattle.payroll_records.specs.declared.values.NamedValue.{NamedValue}
use Rattle.saved_items.specs.SavedBooks.{value_word}

-- value words, each with a space before it
abbrev pub values_text : List NamedValue → Text
values_text values = flat_map (λ v. codes " " ++ value_word v) values
