-- What an accepted edit leaves at each key: it changes the runs that it means, and nothing else.
use Rattle.std.specs.Prelude.{◌≡◌, ℕ, List, Option, IsSome, Ok}
use Rattle.std.specs.Option.{option_or}
use Rattle.rising_lists.specs.Keyed.{at_key}
use Rattle.payroll_records.specs.declared.day.Day.{Day}
use Rattle.payroll_records.specs.declared.record.Key.{Key}
use Rattle.payroll_records.specs.declared.record.Record.{Record}
use Rattle.payroll_records.specs.declared.when.When.{When}
use Rattle.payroll_records.specs.Orders.{key_cmp}
use Rattle.payroll_records.specs.Tables.{HaveOwnKeys, key_of}
use Rattle.plan_calendar.specs.Picking.{Entry}
use Rattle.book_year.specs.Accepted.{Accepted}
use Rattle.book_edits.specs.declared.in_month.InMonth.TheVariants.{One}
use Rattle.book_edits.specs.Books.{run_at, source_of, withdrawal}
use Rattle.recalc_engine.specs.BookLaws.{IsBook}
use Rattle.recalc_engine.specs.Contents.{Contents}
use Rattle.recalc_engine.specs.EditAnswers.{EditAnswers}
use Rattle.recalc_engine.specs.EditAnswers as edits
use Rattle.recalc_engine.specs.RunMaps.{with_none, with_run}

-- the new book has these runs, and the plans of the old one
pub record HasNewRuns (old new : Contents) (runs : Key → Option Record) : Type 0 where
  pub each : (k : Key) → run_at new.years k ≡ runs k
  pub plans : new.plans ≡ old.plans

-- the run that the change means is taken away from its key, and the record is put at its own
pub record ReplacesOne (old new : Contents) (r : Record) : Type 0 where
  pub from : Key
  pub meant : source_of old.years r ≡ One from
  pub stood : IsSome (run_at old.years from)
  pub left : HasNewRuns old new (with_run r (with_none from (run_at old.years)))

-- the run that the withdrawal means is taken away from its key
pub record TakesMeantRun (old new : Contents) (e : List ℕ) (w : When) : Type 0 where
  pub from : Key
  pub meant : withdrawal old.years e w ≡ One from
  pub stood : IsSome (run_at old.years from)
  pub left : HasNewRuns old new (with_none from (run_at old.years))

-- what each accepted edit of a book leaves
pub record EditsAreMapped : Type 0 where
  pub add : (old new : Contents) (r : Record) → EditAnswers old (edits.add r) (Ok new) →
      HasNewRuns old new (with_run r (run_at old.years))
  pub change : (old new : Contents) (r : Record) → IsBook old →
      EditAnswers old (edits.change r) (Ok new) → ReplacesOne old new r
  pub withdraw : (old new : Contents) (e : List ℕ) (w : When) → IsBook old →
      EditAnswers old (edits.withdraw e w) (Ok new) → TakesMeantRun old new e w
  pub load : (old new : Contents) (rs : List Record) → HaveOwnKeys rs →
      EditAnswers old (edits.load rs) (Ok new) →
      HasNewRuns old new (λ k. option_or (at_key key_cmp key_of rs k) (run_at old.years k))
  pub put : (old new : Contents) (e : Entry Accepted) → EditAnswers old (edits.put e) (Ok new) →
      new.years ≡ old.years
  pub drop : (old new : Contents) (d : Day) → EditAnswers old (edits.drop d) (Ok new) →
      new.years ≡ old.years
