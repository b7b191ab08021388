-- A month filed from what is reported and the sums that are kept.
use Rattle.std.proofs.Common.{◌≡◌, ◌+◌, ◌<◌, ◌≤◌, List, ◌++◌, map, length, Option, Some, None, refl, ap, ◌∙◌, length-append}
use Rattle.std.proofs.lemmas.List.{length-map}
use Rattle.payroll_records.specs.declared.month.Month.{Month}
use Rattle.recalc_engine.specs.MonthRows.{KeyedRow}
use Rattle.correction_ledger.specs.declared.due.Due.{Due}
use Rattle.correction_ledger.specs.declared.due.Entry.{Entry}
use Rattle.correction_ledger.specs.FilingSums.{AreSumsOf}
use Rattle.correction_ledger.specs.Filings.{IsClosed, IsFiling, HasTooMany, IsOwedNow, entry_with}
use Rattle.correction_ledger.specs.Limits.{most_entries}
use Rattle.correction_ledger.specs.Open.{first_open}
use Rattle.correction_ledger.specs.private.RowViews.{AreReported}
use Rattle.correction_ledger.proofs.KeptLemmas.{list_is_kept, list_is_owed, owed_list, settled_list, up_to_now}

-- the entries once these amounts are filed with the month
abbrev pub filed_with : Month → List Entry → List Due → List Entry
filed_with month entries dues = entries ++ map (entry_with month) dues

length_filed : (month : Month) (entries : List Entry) (dues : List Due) →
    length (filed_with month entries dues) ≡ length entries + length dues
length_filed month entries dues = length-append entries (map (entry_with month) dues)
    ∙ ap (λ n. length entries + n) (length-map dues (entry_with month))

module _ (rows : List KeyedRow) (month : Month) (entries : List Entry) (reps sums : List Due) (last : Option Month) (r : AreReported rows month reps) (k : AreSumsOf entries sums last) (closed : IsClosed rows month last) where
  -- there would be too many entries
  pub is_full : most_entries < length entries + length (owed_list reps sums) →
      HasTooMany rows month (record { entries = entries; last = last })
  is_full many = record {
    allowed = closed;
    dues = owed_list reps sums;
    owed = list_is_owed rows entries month reps sums last r k (up_to_now last month sums k.up_to closed.later);
    many = many;
  }

  pub is_filing : length entries + length (owed_list reps sums) ≤ most_entries →
      IsFiling rows month (record { entries = entries; last = last }) (record { entries = filed_with month entries (owed_list reps sums); last = Some month }) (length (owed_list reps sums))
  is_filing few = record {
    allowed = closed;
    dues = owed_list reps sums;
    owed = list_is_owed rows entries month reps sums last r k (up_to_now last month sums k.up_to closed.later);
    entries = refl;
    last = refl;
    counted = refl;
    few = rw (length_filed month entries (owed_list reps sums)) few;
  }

  pub is_kept : length entries + length (owed_list reps sums) ≤ most_entries →
      AreSumsOf (filed_with month entries (owed_list reps sums)) (settled_list reps sums) (Some month)
  is_kept few = list_is_kept rows entries month reps sums last r k (up_to_now last month sums k.up_to closed.later) (rw (length_filed month entries (owed_list reps sums)) few)

-- what is owed up to the last filed month
pub is_owed_now : (rows : List KeyedRow) (month : Month) (entries : List Entry) (reps sums : List Due) →
    AreReported rows month reps → AreSumsOf entries sums (Some month) → first_open month rows ≡ None →
    IsOwedNow rows (record { entries = entries; last = Some month }) (owed_list reps sums)
is_owed_now rows month entries reps sums r k closed = record {
  month = month;
  last = refl;
  closed = closed;
  owed = list_is_owed rows entries month reps sums (Some month) r k k.up_to;
}
