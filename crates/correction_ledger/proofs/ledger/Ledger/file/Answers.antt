use Rattle.std.proofs.Common.{◌≡◌, ◌+◌, ◌<◌, ◌≤◌, ◌++◌, Some, length, map, ap, ap₂, subst, ◌∙◌, arith}
use Rattle.std.specs.List.{filter_map}
use Rattle.recalc_engine.specs.MonthRows.{month_rows}
use Rattle.correction_ledger.specs.private.BalanceViews.{owed_of, balances_of, settled_of}
use Rattle.correction_ledger.specs.Filings.{IsFiling, HasTooMany, entry_with}
use Rattle.correction_ledger.specs.Limits.{most_entries}
use Rattle.correction_ledger.proofs.FileLemmas.{filed_with, is_filing, is_full, is_kept}
use Rattle.correction_ledger.proofs.BalanceLemmas.{balances_bounded}
use Rattle.correction_ledger.proofs.KeptLemmas.{owed_list, settled_list}
use Rattle.correction_ledger.proofs.ledger.Ledger.file.Goals as goal

pub owed-requires : goal.owed-requires
owed-requires c =
    rw (c.of.ensures, c.as_slice.ensures.value, c.as_slice-2.ensures.value)
    (balances_bounded c.in_ok-reported.reported.items c.self.inside.sums.items c.in_ok-reported.ensures.bounded c.self.invariant.bounded)

pub settled-requires : goal.settled-requires
settled-requires c =
    rw (c.of-2.ensures, c.as_slice-3.ensures.value, c.as_slice-4.ensures.value)
    (balances_bounded c.in_ok-reported.reported.items c.self.inside.sums.items c.in_ok-reported.ensures.bounded c.self.invariant.bounded)

pub returns-then-len-gt-MOST_ENTRIES-clause-refused : goal.returns-then-len-gt-MOST_ENTRIES-clause-refused
returns-then-len-gt-MOST_ENTRIES-clause-refused c =
    let reps = c.in_ok-reported.reported.items in
    let sums = c.self.inside.sums.items in
    let entries = c.self.inside.entries.items in
    let dues : c.in_ok-dues.dues.items ≡ owed_list reps sums = c.in_ok-dues.ensures ∙ ap (filter_map owed_of) (c.of.ensures ∙ ap₂ balances_of c.as_slice.ensures.value c.as_slice-2.ensures.value) in
    let size = ap length dues in
    let many : most_entries < length entries + length (owed_list reps sums) = omega arith in
    subst (λ old. HasTooMany (month_rows c.args.book.now) c.args.month old) c.self.view_is
    (is_full (month_rows c.args.book.now) c.args.month entries reps sums c.self.inside.last c.in_ok-reported.ensures c.self.invariant c.in_ok-admit.ensures.ok many)

pub invariant_of-self-2 : goal.invariant_of-self-2
invariant_of-self-2 c =
    let reps = c.in_ok-reported.reported.items in
    let sums = c.self.inside.sums.items in
    let entries = c.self.inside.entries.items in
    let dues : c.in_ok-dues.dues.items ≡ owed_list reps sums = c.in_ok-dues.ensures ∙ ap (filter_map owed_of) (c.of.ensures ∙ ap₂ balances_of c.as_slice.ensures.value c.as_slice-2.ensures.value) in
    let settled : c.in_ok-sums.sums.items ≡ settled_list reps sums = c.in_ok-sums.ensures ∙ ap (map settled_of) (c.of-2.ensures ∙ ap₂ balances_of c.as_slice-3.ensures.value c.as_slice-4.ensures.value) in
    let filed : c.append.new.self.items ≡ filed_with c.args.month entries (owed_list reps sums) = c.in_ok-append.ensures.items ∙ ap (λ l. entries ++ l) (c.in_ok-entries.ensures ∙ ap (map (entry_with c.args.month)) (c.as_slice-5.ensures.value ∙ dues)) in
    let size = ap length dues in
    let few : length entries + length (owed_list reps sums) ≤ most_entries = omega arith in
    rw (filed, settled) (is_kept (month_rows c.args.book.now) c.args.month entries reps sums c.self.inside.last c.in_ok-reported.ensures c.self.invariant c.in_ok-admit.ensures.ok few)

pub returns-clause-ok : goal.returns-clause-ok
returns-clause-ok c =
    let reps = c.in_ok-reported.reported.items in
    let sums = c.self.inside.sums.items in
    let entries = c.self.inside.entries.items in
    let dues : c.in_ok-dues.dues.items ≡ owed_list reps sums = c.in_ok-dues.ensures ∙ ap (filter_map owed_of) (c.of.ensures ∙ ap₂ balances_of c.as_slice.ensures.value c.as_slice-2.ensures.value) in
    let filed : c.append.new.self.items ≡ filed_with c.args.month entries (owed_list reps sums) = c.in_ok-append.ensures.items ∙ ap (λ l. entries ++ l) (c.in_ok-entries.ensures ∙ ap (map (entry_with c.args.month)) (c.as_slice-5.ensures.value ∙ dues)) in
    let size = ap length dues in
    let few : length entries + length (owed_list reps sums) ≤ most_entries = omega arith in
    let count : c.len-3.result ≡ length (owed_list reps sums) = omega arith in
    let filing = is_filing (month_rows c.args.book.now) c.args.month entries reps sums c.self.inside.last c.in_ok-reported.ensures c.self.invariant c.in_ok-admit.ensures.ok few in
    rw (filed, count) (subst (λ old. IsFiling (month_rows c.args.book.now) c.args.month old (record { entries = filed_with c.args.month entries (owed_list reps sums); last = Some c.args.month }) (length (owed_list reps sums))) c.self.view_is filing)
