-- The runs without amounts, counted row by row.
use Rattle.std.specs.Prelude.{ℕ, ◌+◌, ◌-◌, ◌^◌, min, nat_lt, List, [], ◌∷◌, ◌++◌, length, map, fold, Bool, not, ◌||◌, ◌&&◌, if◌then◌else◌, Option, Some, None, false}
use Rattle.std.specs.List.{list_any}
use Rattle.payroll_records.specs.declared.record.Key.{Key}
use Rattle.recalc_engine.specs.MonthRows.{KeyedRow}
use Rattle.open_runs.specs.declared.cause.Cause.{Cause}
use Rattle.open_runs.specs.declared.tally.CauseCount.{CauseCount}
use Rattle.open_runs.specs.OpenRuns.{Counted, most_causes, open_cause, same_reason}

-- one more; a number stands still at the greatest of 64 bits
abbrev pub one_higher : ℕ → ℕ
one_higher n = min (n + 1) (2 ^ 64 - 1)

-- a cause with one run more
abbrev pub one_more : CauseCount → CauseCount
one_more known = record { cause = known.cause; count = one_higher known.count; first = known.first }

-- what is counted is of this cause
abbrev pub is_of : Cause → CauseCount → Bool
is_of cause known = same_reason known.cause cause

-- one more run of this cause is counted where the cause is the same
abbrev pub raised_by : Cause → CauseCount → CauseCount
raised_by cause known = if is_of cause known then one_more known else known

-- the cause stands among these
abbrev pub stands : Cause → List CauseCount → Bool
stands cause causes = list_any (is_of cause) causes

-- the cause isn't among these, and there is no room for it
abbrev pub is_left_out : Cause → List CauseCount → Bool
is_left_out cause causes = not (stands cause causes) && not (nat_lt (length causes) most_causes)

-- the cause of a run of this key, where it comes first
abbrev pub new_count : Cause → Key → CauseCount
new_count cause key = record { cause = cause; count = 1; first = key }

-- the causes with one run more, which has this key: it is counted at its cause, or else its cause stands behind the others,
-- with it as the first, while there are fewer than 20
abbrev pub with_cause : List CauseCount → Cause → Key → List CauseCount
with_cause causes cause key =
    map (raised_by cause) causes
    ++ (if stands cause causes || not (nat_lt (length causes) most_causes) then [] else new_count cause key ∷ [])

-- with one more run, which has no amounts for this cause, or has them
abbrev pub counted_run : Counted → Key → Option Cause → Counted
counted_run counted key None =
    record { runs = one_higher counted.runs; without = counted.without; causes = counted.causes; others = counted.others }
counted_run counted key (Some cause) = record {
  runs = one_higher counted.runs;
  without = one_higher counted.without;
  causes = with_cause counted.causes cause key;
  others = counted.others || is_left_out cause counted.causes;
}

-- the same of a row of the book
abbrev pub counted_row : Counted → KeyedRow → Counted
counted_row counted row = counted_run counted row.key (open_cause row.state)

-- of no runs
abbrev pub none_counted : Counted
none_counted = record { runs = 0; without = 0; causes = []; others = false }

-- what is counted of some rows, one after another
abbrev pub tally_of : List KeyedRow → Counted
tally_of rows = fold counted_row none_counted rows
