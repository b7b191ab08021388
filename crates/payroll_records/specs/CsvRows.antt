-- The rows of a CSV text. Source: RFC 4180, as the kit's `csv` reads it with its default settings.
use Rattle.std.specs.Prelude.{ℕ, List}
use Rattle.csv.specs.Reading.{default_config, records, strip_bom}

-- the records that `csv` reads from the bytes with its default settings, a byte order mark at the front taken off
abbrev pub csv_rows : List ℕ → List (List (List ℕ))
csv_rows bytes = records default_config (strip_bom bytes)
