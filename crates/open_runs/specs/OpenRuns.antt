-- The runs of a book that have no amounts, by cause, and the line that says so on standard error.
use Rattle.std.specs.Prelude.{ℕ, nat_lt, List, [], ◌∷◌, ◌++◌, length, map, take, filter, count_by, codes, Bool, true, false, not, ◌&&◌, ◌==◌, if◌then◌else◌, Option, Some, None, is_some}
use Rattle.std.specs.Fmt.{decimal}
use Rattle.std.specs.List.{filter_map, flat_map, list_any}
use Rattle.std.specs.Option.{option_map, option_map_or}
use Rattle.std.specs.Str.{bytes_eq}
use Rattle.carry_bindings.specs.declared.filling.Blocked.{Blocked}
use Rattle.carry_bindings.specs.declared.filling.Blocked.TheVariants as blocked
use Rattle.payroll_records.specs.Days.{day_text}
use Rattle.payroll_records.specs.declared.day.Day.{Day}
use Rattle.payroll_records.specs.declared.record.Key.{Key}
use Rattle.plan_calendar.specs.Picking.{pick, plan_of}
use Rattle.pap_plan.specs.Inputs.{carry_named}
use Rattle.book_year.specs.Accepted.{Accepted}
use Rattle.book_year.specs.declared.outcome.State.{State}
use Rattle.book_year.specs.declared.outcome.State.TheVariants as states
use Rattle.recalc_engine.specs.Contents.{Contents}
use Rattle.recalc_engine.specs.MonthRows.{KeyedRow, month_rows}
use Rattle.open_runs.specs.declared.cause.Cause.{Cause}
use Rattle.open_runs.specs.declared.cause.Cause.TheVariants.{NoPlan, Waits, Unknown, Missing, Range}
use Rattle.open_runs.specs.declared.tally.CauseCount.{CauseCount}
use Rattle.open_runs.specs.declared.tally.OpenRuns.{OpenRuns}

-- ---- causes

-- why a run has no inputs, without the day for which it waits
abbrev pub cause_in : Blocked → Cause
cause_in (blocked.Waits day) = Waits
cause_in (blocked.Unknown name) = Unknown name
cause_in (blocked.Missing name) = Missing name
cause_in (blocked.Range name) = Range name

-- why a run in this state has no amounts, where it has none
abbrev pub open_cause : State → Option Cause
open_cause states.NoPlan = Some NoPlan
open_cause (states.Blocked state) = Some (cause_in state)
open_cause (states.Done outputs) = None

-- two causes are the same, with the same name
abbrev pub same_reason : Cause → Cause → Bool
same_reason NoPlan NoPlan = true
same_reason Waits Waits = true
same_reason (Unknown a) (Unknown b) = bytes_eq a b
same_reason (Missing a) (Missing b) = bytes_eq a b
same_reason (Range a) (Range b) = bytes_eq a b
same_reason _ _ = false

-- ---- runs without amounts

-- a run that has no amounts, by its key, and why
pub record OpenRun : Type 0 where
  pub key : Key
  pub cause : Cause

-- the run of a row, where it has no amounts
abbrev pub open_run : KeyedRow → Option OpenRun
open_run row = option_map (λ cause. record { key = row.key; cause = cause }) (open_cause row.state)

-- the runs of these rows that have no amounts, in their order
abbrev pub open_runs : List KeyedRow → List OpenRun
open_runs rows = filter_map open_run rows

-- the run has this cause
abbrev pub has_cause : Cause → OpenRun → Bool
has_cause cause run = same_reason run.cause cause

-- the run has another cause
abbrev pub has_other_cause : Cause → OpenRun → Bool
has_other_cause cause run = not (has_cause cause run)

-- of some runs each whose cause no earlier one has
abbrev pub firsts : List OpenRun → List OpenRun
firsts [] = []
firsts (run ∷ runs) = run ∷ filter (has_other_cause run.cause) (firsts runs)

-- ---- counts

-- at most so many causes are named
abbrev pub most_causes : ℕ
most_causes = 20

-- the cause of a run, how many of these runs have it, and the key of this one, which is the first of them
abbrev pub cause_count : List OpenRun → OpenRun → CauseCount
cause_count runs first =
    record { cause = first.cause; count = count_by (has_cause first.cause) runs; first = first.key }

-- how many runs there are, how many have no amounts, for which causes, and whether there are others
pub record Counted : Type 0 where
  pub runs : ℕ
  pub without : ℕ
  pub causes : List CauseCount
  pub others : Bool

-- of the rows of a book: the causes stand in the order in which they first come, and the first 20 are named
abbrev pub counted_of : List KeyedRow → Counted
counted_of rows = let open_ones = open_runs rows in record {
  runs = length rows;
  without = length open_ones;
  causes = map (cause_count open_ones) (take most_causes (firsts open_ones));
  others = nat_lt most_causes (length (firsts open_ones));
}

-- what a tally says
abbrev pub counted_in : OpenRuns → Counted
counted_in tally = record {
  runs = tally.runs;
  without = tally.without;
  causes = tally.causes.items;
  others = tally.others;
}

-- ---- inputs that are filled

-- the flowchart has an input of this name, and its range file fills it from earlier runs
abbrev pub fills : Accepted → List ℕ → Bool
fills plan name =
    list_any (λ d. bytes_eq d.name name && is_some (carry_named plan.meaning.limits d.name))
    plan.meaning.flowchart.inputs

-- the flowchart that holds on this day has such an input, and its range file fills it
abbrev pub is_filled : Contents → Day → List ℕ → Bool
is_filled book day name = option_map_or (λ e. fills (plan_of e) name) (pick book.plans day) false

-- ---- the line

-- a cause as the report writes it, with its name
abbrev pub cause_words : Cause → List ℕ
cause_words NoPlan = codes "noplan"
cause_words Waits = codes "waits"
cause_words (Unknown name) = codes "unknown " ++ name
cause_words (Missing name) = codes "missing " ++ name
cause_words (Range name) = codes "range " ++ name

-- a day as it is written
abbrev pub day_words : Day → List ℕ
day_words day = day_text day.year day.month day.day

-- CAUSE COUNT, first EMP DAY
abbrev pub count_part : CauseCount → List ℕ
count_part known =
    cause_words known.cause ++ (codes " " ++ (decimal known.count ++ (codes ", first "
    ++ (known.first.employee ++ (codes " " ++ day_words known.first.day)))))

-- which entry fills the input of a name, where one does, and what helps
abbrev pub filling_words : Bool → List ℕ → List ℕ
filling_words true name =
    codes ", where the entry [bind." ++ (name ++ codes "] fills this input from earlier runs: leave the value out")
filling_words false name = []

-- the same of a cause, by the flowchart that holds on this day
abbrev pub filled_words : Contents → Day → Cause → List ℕ
filled_words book day (Unknown name) = filling_words (is_filled book day name) name
filled_words book day _ = []

-- a cause, how many runs have it, which is the first, and whether an entry fills its input there
abbrev pub cause_part : Contents → CauseCount → List ℕ
cause_part book known = count_part known ++ filled_words book known.first.day known.cause

-- a further cause
abbrev pub other_part : Contents → CauseCount → List ℕ
other_part book known = codes "; " ++ cause_part book known

-- the causes behind a colon
abbrev pub causes_part : Contents → List CauseCount → List ℕ
causes_part book [] = []
causes_part book (first ∷ others) =
    codes ": " ++ (cause_part book first ++ flat_map (other_part book) others)

-- what is said where there are further causes
abbrev pub others_part : Bool → List ℕ
others_part others = if others then codes "; and others" else []

-- papcalc: N of M runs have no amounts, or has, where that is one
abbrev pub counts_part : ℕ → ℕ → List ℕ
counts_part without runs =
    codes "papcalc: " ++ (decimal without ++ (codes " of " ++ (decimal runs
    ++ (if without == 1 then codes " runs has no amounts" else codes " runs have no amounts"))))

-- the counts, the causes, and whether there are others; nothing where each run has amounts
abbrev pub counted_line : Contents → Counted → List ℕ
counted_line book counted =
    if counted.without == 0 then []
    else counts_part counted.without counted.runs
    ++ (causes_part book counted.causes ++ (others_part counted.others ++ (10 ∷ [])))

-- the line of a book
abbrev pub open_line : Contents → List ℕ
open_line book = counted_line book (counted_of (month_rows book))
