-- What private contracts see of a book that is written.
use Rattle.std.specs.Prelude.{◌<◌, ℕ, List, All, length, ⊤}
use Rattle.std.specs.List.{flat_map}
use Rattle.saved_items.specs.SavedBooks.{IsRun, saved_plan_text, saved_run_text}
use Rattle.plan_calendar.specs.Picking.{Entry}
use Rattle.book_year.specs.Accepted.{Accepted}
use Rattle.book_year.specs.declared.year.Year.{Year}
use Rattle.book_edits.specs.Books.{YearRuns}
use Rattle.book_file.specs.BookTexts.{saved_entry}
use Rattle.book_file.specs.Limits.{most_book_text}
use Rattle.book_file.specs.declared.refusal.SaveRefusal.{SaveRefusal}
use Rattle.book_file.specs.declared.refusal.SaveRefusal.TheVariants as refusal

-- each run of the year has a text
abbrev pub HasRuns : Year → Type 0
HasRuns y = All IsRun y.records.items

-- the text of an entry of the calendar, and of the runs of a year
abbrev pub entry_text : Entry Accepted → List ℕ
entry_text e = saved_plan_text (saved_entry e)

abbrev pub year_text : YearRuns → List ℕ
year_text y = flat_map saved_run_text y.runs

-- this text was to be written, and it is too long; that memory ran out may be answered of any
abbrev pub IsCutFrom : List ℕ → SaveRefusal → Type 0
IsCutFrom text refusal.Long = most_book_text < length text
IsCutFrom text (refusal.Memory e) = ⊤
