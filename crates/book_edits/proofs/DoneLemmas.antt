-- What the methods promise, from what their parts do.
use Rattle.std.proofs.Common.{◌≡◌, ℕ, ◌+◌, ◌≤◌, List, IsSome, IsNone, sym, ap, subst, ◌∙◌, arith}
use Rattle.payroll_records.specs.declared.record.Key.{Key}
use Rattle.payroll_records.specs.declared.record.Record.{Record}
use Rattle.payroll_records.specs.declared.when.When.{When}
use Rattle.payroll_records.specs.Tables.{key_of}
use Rattle.plan_calendar.specs.Picking.{Entry}
use Rattle.book_year.specs.Accepted.{Accepted}
use Rattle.book_year.specs.declared.outcome.Work.{Work}
use Rattle.book_edits.specs.declared.in_month.InMonth.TheVariants.{One}
use Rattle.book_edits.specs.declared.years.Years.{Years}
use Rattle.book_edits.specs.Books.{added, changed, changed_from, run_at, run_count, source_of, withdrawal, withdrawn, withdrawn_from}
use Rattle.book_edits.specs.Kept.{AreSameYears, AreYears, IsYearsEdit, YearsAreInOrder, years_of}
use Rattle.book_edits.specs.Refusals.{most_records}
use Rattle.book_edits.specs.private.Views.{IsListEdit, IsSameList}
use Rattle.book_edits.proofs.CountLemmas.{count_added, count_changed, count_withdrawn, kept_of, years_from}
use Rattle.book_edits.proofs.MonthLemmas.{source_is, withdrawal_is}
use Rattle.book_edits.proofs.YearsLemmas.{kept_in_order}

pub in_order : YearsAreInOrder
in_order plans ys h = kept_in_order plans ys.list.items (kept_of plans ys h)

module _ (plans : List (Entry Accepted)) (old new : Years) (h : AreYears plans old) where
  pub same_done : IsSameList plans old.list.items new.list.items → new.count ≡ old.count → AreSameYears plans old new
  same_done same count = record {
    kept = years_from plans new same.kept (count ∙ h.count ∙ ap run_count (sym same.years_are)) (omega (arith, count, h.few));
    years_are = same.years_are;
  }

  pub add_done : (item : Record) (w : Work) → IsNone (run_at (years_of old) (key_of item)) → old.count + 1 ≤ most_records → IsListEdit plans old.list.items new.list.items (added item (years_of old)) w → new.count ≡ old.count + 1 →
      IsYearsEdit plans old new (added item (years_of old)) w
  add_done item w free room edit count = record {
    kept = years_from plans new edit.kept (count ∙ ap (λ n. n + 1) h.count ∙ sym (count_added item (years_of old) (in_order plans old h) free) ∙ ap run_count (sym edit.years_are)) (omega (arith, count, room));
    years_are = edit.years_are;
    work_is = edit.work_is;
  }

  pub change_there : (item : Record) (k : Key) → source_of (years_of old) item ≡ One k → run_count (changed k.day item (years_of old)) ≡ run_count (years_of old)
  change_there item k e =
      let order = in_order plans old h in
      count_changed k.day item (years_of old) order (source_is (years_of old) item k order e)

  pub change_done : (item : Record) (k : Key) (w : Work) → source_of (years_of old) item ≡ One k → IsListEdit plans old.list.items new.list.items (changed k.day item (years_of old)) w → new.count ≡ old.count →
      IsYearsEdit plans old new (changed_from (source_of (years_of old) item) item (years_of old)) w
  change_done item k w e edit count = subst (λ t. IsYearsEdit plans old new (changed_from t item (years_of old)) w) (sym e) (record {
    kept = years_from plans new edit.kept (count ∙ h.count ∙ sym (change_there item k e) ∙ ap run_count (sym edit.years_are)) (omega (arith, count, h.few));
    years_are = edit.years_are;
    work_is = edit.work_is;
  })

  pub withdraw_there : (e : List ℕ) (w : When) (k : Key) → withdrawal (years_of old) e w ≡ One k → IsSome (run_at (years_of old) k)
  withdraw_there e w k is = withdrawal_is plans old.list.items e w k (in_order plans old h) h.each is

  pub withdraw_one : (e : List ℕ) (w : When) (k : Key) → withdrawal (years_of old) e w ≡ One k → run_count (withdrawn k (years_of old)) + 1 ≡ old.count
  withdraw_one e w k is = count_withdrawn k (years_of old) (in_order plans old h) (withdraw_there e w k is) ∙ sym h.count

  pub withdraw_done : (e : List ℕ) (when : When) (k : Key) (w : Work) → withdrawal (years_of old) e when ≡ One k → IsListEdit plans old.list.items new.list.items (withdrawn k (years_of old)) w → new.count + 1 ≡ old.count →
      IsYearsEdit plans old new (withdrawn_from (withdrawal (years_of old) e when) (years_of old)) w
  withdraw_done e when k w is edit count =
      let one = withdraw_one e when k is in
      let now : run_count (withdrawn k (years_of old)) ≡ run_count (years_of new) = ap run_count (sym edit.years_are) in
      subst (λ t. IsYearsEdit plans old new (withdrawn_from t (years_of old)) w) (sym is) (record {
        kept = years_from plans new edit.kept (omega (arith, one, now, count)) (omega (arith, count, h.few));
        years_are = edit.years_are;
        work_is = edit.work_is;
      })
