use Rattle.std.proofs.Common.{◌≡◌, Some, sym, ap, ap₂, subst, ◌∙◌}
use Rattle.std.specs.List.{filter_map}
use Rattle.std.proofs.lemmas.Result.{err_from_is_err_and}
use Rattle.recalc_engine.specs.MonthRows.{month_rows}
use Rattle.correction_ledger.specs.private.BalanceViews.{owed_of, balances_of}
use Rattle.correction_ledger.specs.FilingSums.{AreSumsOf}
use Rattle.correction_ledger.specs.Filings.{Filings, IsOwedNow}
use Rattle.correction_ledger.proofs.FileLemmas.{is_owed_now}
use Rattle.correction_ledger.proofs.BalanceLemmas.{balances_bounded}
use Rattle.correction_ledger.proofs.KeptLemmas.{owed_list}
use Rattle.correction_ledger.proofs.ledger.Ledger.owed.Goals as goal

pub owed-requires : goal.owed-requires
owed-requires c =
    rw (c.of.ensures, c.as_slice.ensures.value, c.as_slice-2.ensures.value)
    (balances_bounded c.in_ok-reported.reported.items c.self.inside.sums.items c.in_ok-reported.ensures.bounded c.self.invariant.bounded)

pub returns-in-Some-first_open-clause-refused : goal.returns-in-Some-first_open-clause-refused
returns-in-Some-first_open-clause-refused c = (
  c.in-Some.last,
  ap (λ (f : Filings). f.last) (sym c.self.view_is) ∙ c.in-Some.is,
  sym c.first_open.ensures ∙ c.in-Some-first_open.is,
)

pub returns-in_err-reported-clause-refused : goal.returns-in_err-reported-clause-refused
returns-in_err-reported-clause-refused c =
    let p = err_from_is_err_and c.from_residual.result c.from_residual.ensures.1 in
    rw (p.1, p.2) (c.in-Some.last, ap (λ (f : Filings). f.last) (sym c.self.view_is) ∙ c.in-Some.is, sym c.first_open.ensures ∙ c.in_default-first_open.is)

pub returns-in_err-dues-clause-refused : goal.returns-in_err-dues-clause-refused
returns-in_err-dues-clause-refused c =
    let p = err_from_is_err_and c.from_residual-in_err-dues.result c.from_residual-in_err-dues.ensures.1 in
    rw (p.1, p.2) (c.in-Some.last, ap (λ (f : Filings). f.last) (sym c.self.view_is) ∙ c.in-Some.is, sym c.first_open.ensures ∙ c.in_default-first_open.is)

pub returns-clause-ok : goal.returns-clause-ok
returns-clause-ok c =
    let rows = month_rows c.args.book.now in
    let reps = c.in_ok-reported.reported.items in
    let sums = c.self.inside.sums.items in
    let entries = c.self.inside.entries.items in
    let dues : c.in_ok-dues.dues.items ≡ owed_list reps sums = c.in_ok-dues.ensures ∙ ap (filter_map owed_of) (c.of.ensures ∙ ap₂ balances_of c.as_slice.ensures.value c.as_slice-2.ensures.value) in
    let kept = subst (AreSumsOf entries sums) c.in-Some.is c.self.invariant in
    let closed = sym c.first_open.ensures ∙ c.in_default-first_open.is in
    let now : record { entries = entries; last = Some c.in-Some.last } ≡ c.args.self.now = ap (λ l. record { entries = entries; last = l }) (sym c.in-Some.is) ∙ c.self.view_is in
    rw dues (subst (λ now. IsOwedNow rows now (owed_list reps sums)) now (is_owed_now rows c.in-Some.last entries reps sums c.in_ok-reported.ensures kept closed))
