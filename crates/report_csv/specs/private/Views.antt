-- What the private functions of the report say of its rows.
use Rattle.std.specs.Prelude.{◌≡◌, ℕ, true, false, List, [], ◌∷◌, Option, Some, None, Vec}
use Rattle.std.specs.declared.alloc.Global.{Global}
use Rattle.csv.specs.Writing.{default_writer, fields_written, has_written, text_written, with_flexible, with_style, writer_setup}
use Rattle.csv.specs.declared.writer.QuoteStyle.TheVariants as style
use Rattle.csv.specs.declared.writer.Writer.{Writer}
use Rattle.csv.specs.declared.writer.WriterBuilder.{WriterBuilder}
use Rattle.scaled_decimal.specs.PlainTexts.{plain_text}
use Rattle.payroll_records.specs.declared.values.NamedValue.{NamedValue}
use Rattle.payroll_records.specs.Tables.{Text}
use Rattle.report_csv.specs.Reports.{row_line}

-- the row of an output, behind the text of its first five fields
abbrev pub output_line : Text → NamedValue → Text
output_line front v = row_line (front ∷ v.name ∷ plain_text v.value ∷ [])

-- ---- the writer

abbrev pub text_or_none : Option (List ℕ) → List ℕ
text_or_none None = []
text_or_none (Some text) = text

-- what was written to memory
abbrev pub written : Writer (Vec ℕ Global) → List ℕ
written w = text_or_none (text_written (λ v. Some v.items) w)

-- the default settings, but with no quotes, and for rows of any number of fields
abbrev pub bare_writer : WriterBuilder
bare_writer = with_flexible (with_style default_writer style.Never) true

-- a writer with these settings between two rows
pub record IsBetweenRows (w : Writer (Vec ℕ Global)) : Type 0 where
  pub setup : writer_setup w ≡ bare_writer
  pub fields : fields_written w ≡ 0
  pub clean : has_written w ≡ false
  pub known : text_written (λ v. Some v.items) w ≡ Some (written w)
