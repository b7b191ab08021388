-- Parts of the answer.
use Rattle.std.specs.Prelude.{◌≡◌, ◌≢◌, ◌<◌, ℕ, List, [], ◌∷◌, length, ⊤}
use Rattle.std.specs.BTreeSet.{BTreeSet}
use Rattle.interval_analysis.specs.Surveys.{StatementPlace, AreReached}
use Rattle.pap_plan.specs.Acceptance.{Meaning, IsAccepted}
use Rattle.payroll_records.specs.declared.day.Day.{Day}
use Rattle.book_year.specs.Accepted.{Accepted}
use Rattle.payroll_records.specs.declared.record.Record.{Record}
use Rattle.payroll_records.specs.Limits.{most_records}
use Rattle.book_edits.specs.declared.refusal.EditRefusal.{EditRefusal}
use Rattle.book_edits.specs.declared.refusal.EditRefusal.TheVariants as edits
use Rattle.recalc_engine.specs.Contents.{Contents}
use Rattle.table_coverage.specs.declared.refusal.CoverRefusal.{CoverRefusal}
use Rattle.table_coverage.specs.declared.refusal.CoverRefusal.TheVariants as refusals
use Rattle.table_coverage.specs.TableCoverages.{CoverFiles, RunsFound, TellsCoverage}

-- three texts as the files that they are
abbrev pub files_of : (plan limits table : List ℕ) → CoverFiles
files_of plan limits table = record { plan = plan; limits = limits; table = table }

-- where the texts are accepted, these are the statements to which the walk over the ranges comes
abbrev pub IsReachable : List ℕ → List ℕ → BTreeSet StatementPlace → Type 0
IsReachable plan limits reached =
    (m : Meaning) → IsAccepted plan limits m → AreReached m.flowchart m.limits reached

-- a book has a plan
abbrev pub IsPlanned : Contents → Type 0
IsPlanned book = book.plans ≢ []

-- what is found of a book that has one plan
abbrev pub IsBookCovered : List ℕ → BTreeSet StatementPlace → Contents → RunsFound → Type 0
IsBookCovered file reached book found =
    (day : Day) (p : Accepted) → book.plans ≡ (day, p) ∷ [] → TellsCoverage file p.meaning.flowchart reached book found

-- a call failed for lack of memory alone
abbrev pub IsMemoryFault : EditRefusal → Type 0
IsMemoryFault (edits.Memory e) = ⊤
IsMemoryFault why = ⊥

-- why runs aren't loaded into a book without runs: memory ran out, or they are too many
abbrev pub load_stop : EditRefusal → CoverRefusal
load_stop (edits.Memory e) = refusals.Memory e
load_stop why = refusals.Records

-- why there is no book of these runs: they are too many, or memory ran out
abbrev pub IsWithoutBook : List Record → CoverRefusal → Type 0
IsWithoutBook runs refusals.Records = most_records < length runs
IsWithoutBook runs (refusals.Memory e) = ⊤
IsWithoutBook runs why = ⊥
