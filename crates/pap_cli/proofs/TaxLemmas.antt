-- The LST of a book's runs, added up, is within the limits of decimals.
use Rattle.std.proofs.Common.{◌≡◌, ℕ, ◌+◌, ◌≤◌, List, [], ◌∷◌, length, Option, Some, None, refl, sym, ap, ◌∙◌, arith, subst}
use Rattle.std.specs.Prelude.{fold}
use Rattle.std.specs.List.{AllByRecursion, filter_map, cons_option}
use Rattle.scaled_decimal.specs.Decimals.{Decimal, sum}
use Rattle.limits_file.specs.Limits.{IsWithinBound}
use Rattle.book_year.specs.Rows.{done_outputs}
use Rattle.recalc_engine.specs.MonthRows.{KeyedRow}
use Rattle.recalc_engine.specs.RowLaws.{HasBound}
use Rattle.carry_bindings.specs.Carrying.{total, zero_amount}
use Rattle.carry_bindings.proofs.Laws.{IsPartial, sum_fits, sum_partial, amount_by}
use Rattle.pap_cli.specs.SampleAnswers.{tax_of}
use Rattle.pap_cli.specs.private.SampleViews.{add_if, TaxFits}

-- so much of the rows is added up, and these are left
pub record IsUnderway (rows rest : List KeyedRow) (so_far : Decimal) : Type 0 where
  pub same : fold sum so_far (filter_map tax_of rest) ≡ total (filter_map tax_of rows)
  pub within : AllByRecursion HasBound rest
  pub count : ℕ
  pub few : count + length rest ≤ 50000
  pub partial : IsPartial count so_far

pub begins : (rows : List KeyedRow) (zero_sum : Decimal) → zero_sum ≡ zero_amount → AllByRecursion HasBound rows → length rows ≤ 50000 → IsUnderway rows rows zero_sum
begins rows zero_sum is within few = record {
  same = ap (λ v. fold sum v (filter_map tax_of rows)) is;
  within = within;
  count = 0;
  few = omega arith;
  partial = subst (λ v. IsPartial 0 v) (sym is) (record { places = omega arith; bounded = omega arith });
}

tax_bounded : (row : KeyedRow) (d : Decimal) → HasBound row → tax_of row ≡ Some d → IsWithinBound d
tax_bounded row d h e = amount_by _ (done_outputs row.state) d h e

pub tax_fits : (rows : List KeyedRow) (row : KeyedRow) (rest : List KeyedRow) (so_far : Decimal) → IsUnderway rows (row ∷ rest) so_far → TaxFits so_far row
tax_fits rows row rest so_far h = λ d e. sum_fits h.count (omega (arith, h.few)) so_far d h.partial (tax_bounded row d h.within.0 e)

-- one more run
pub one_more : (rows : List KeyedRow) (row : KeyedRow) (rest : List KeyedRow) (so_far : Decimal) → IsUnderway rows (row ∷ rest) so_far → IsUnderway rows rest (add_if so_far (tax_of row))
one_more rows row rest so_far h = by (tax_of row) h.same (λ d e. tax_bounded row d h.within.0 e)
  where
    by : (o : Option Decimal) → fold sum so_far (cons_option o (filter_map tax_of rest)) ≡ total (filter_map tax_of rows) → ((d : Decimal) → o ≡ Some d → IsWithinBound d) → IsUnderway rows rest (add_if so_far o)
    by None same within = record { same = same; within = h.within.1; count = h.count; few = omega (arith, h.few); partial = h.partial }
    by (Some d) same within = record { same = same; within = h.within.1; count = h.count + 1; few = omega (arith, h.few); partial = sum_partial h.count (omega (arith, h.few)) so_far d h.partial (within d refl) }

pub all_added : (rows rest : List KeyedRow) (so_far : Decimal) → rest ≡ [] → IsUnderway rows rest so_far → so_far ≡ total (filter_map tax_of rows)
all_added rows rest so_far none h = sym (ap (λ r. fold sum so_far (filter_map tax_of r)) none) ∙ h.same

-- the LST of some rows, added up
abbrev pub sum_of : List KeyedRow → Decimal
sum_of rows = total (filter_map tax_of rows)
