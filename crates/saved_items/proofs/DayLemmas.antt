-- The words of days: what a day is written as is its text, and that of no other.
use Rattle.std.proofs.Common.{◌≡◌, refl, sym}
use Rattle.payroll_records.specs.Days.{IsDayText}
use Rattle.payroll_records.specs.Tables.{Text}
use Rattle.payroll_records.specs.declared.day.Day.{Day}
use Rattle.payroll_records.proofs.Laws.{days_once}
use Rattle.saved_items.specs.SavedBooks.{day_word}

pub day_spells : (t : Text) (d : Day) → t ≡ day_word d → IsDayText t d.year d.month d.day
day_spells t d e = record { exists = d.exists; written = e }

pub day_word_once : (d e : Day) → day_word d ≡ day_word e → d ≡ e
day_word_once d e same = days_once (day_word e) d e (day_spells (day_word e) d (sym same)) (day_spells (day_word e) e refl)
