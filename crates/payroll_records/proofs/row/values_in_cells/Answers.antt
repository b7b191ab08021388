use Rattle.std.proofs.Common.{◌≡◌, ℕ, List, ◌<◌, ◌++◌, ◌∷◌, [], ◌∙◌, sym, ap, subst, rules, arith, length, length-append, Some, Option}
use Rattle.csv.specs.Records.{fields_of}
use Rattle.scaled_decimal.specs.Decimals.{Decimal}
use Rattle.payroll_records.specs.KeptValues.{named_numbers}
use Rattle.payroll_records.specs.private.CellViews.{AreNumbersOf, number_at}
use Rattle.payroll_records.proofs.CellLemmas.{column_number, value_passed, value_added, values_supplied, supplied_values}
use Rattle.payroll_records.proofs.ValueLemmas.{named_more}
use Rattle.payroll_records.proofs.row.values_in_cells.Goals as goal

same_some : (x y : Decimal) (o : Option Decimal) → o ≡ Some x → o ≡ Some y → x ≡ y
same_some x y o e f = cc

cells_of : {row : List (List ℕ)} {count size : ℕ} {numbers : List (Option Decimal)} → count ≡ size → AreNumbersOf row count numbers →
    AreNumbersOf row size numbers
cells_of {row = row} {numbers = numbers} same are = subst (λ n. AreNumbersOf row n numbers) same are

pub loop-column-preserved-in_default : goal.loop-column-preserved-in_default
loop-column-preserved-in_default c =
    let items = c.deref-column-items.ensures.value in
    let l = c.loop-column in
    let is = rw items at c.column-item.is in
    let within : l.column-index < length c.args.header.now.columns.items = rw items at c.loop-column-test.true in
    let size : c.len.result ≡ length c.args.header.now.names.items = omega (arith, c.len.ensures, c.args.header.now.names.ok.0) in
    let number = column_number _ _ (fields_of c.args.row.now) c.requires.columns _ (cells_of size c.in_ok-cells.ensures.ok) l.column-index c.column-item.result is within in
    let there : c.number_at.result ≡ number_at c.in_ok-cells.cells.items c.column-item.result.place =
    c.number_at.ensures ∙ ap (λ ns. number_at ns c.column-item.result.place) c.as_slice.ensures.value in
    record {
      same = l.invariant.same;
      values = value_passed _ _ (fields_of c.args.row.now) c.requires.columns l.column-index c.column-item.result (named_numbers l.names.items l.numbers.items) is within l.invariant.values
          (λ d t. c.in_default.not-Some d (there ∙ (number.exact d).1 t));
    }

pub loop-column-preserved : goal.loop-column-preserved
loop-column-preserved c =
    let items = c.deref-column-items.ensures.value in
    let l = c.loop-column in
    let is = rw items at c.column-item.is in
    let within : l.column-index < length c.args.header.now.columns.items = rw items at c.loop-column-test.true in
    let size : c.len.result ≡ length c.args.header.now.names.items = omega (arith, c.len.ensures, c.args.header.now.names.ok.0) in
    let number = column_number _ _ (fields_of c.args.row.now) c.requires.columns _ (cells_of size c.in_ok-cells.ensures.ok) l.column-index c.column-item.result is within in
    let there : c.number_at.result ≡ number_at c.in_ok-cells.cells.items c.column-item.result.place =
    c.number_at.ensures ∙ ap (λ ns. number_at ns c.column-item.result.place) c.as_slice.ensures.value in
    let here = sym there ∙ c.in-Some.is in
    let names : c.push.new.self.items ≡ l.names.items ++ (c.column-item.result.name ∷ []) = search rules in
    let numbers : c.push-in-loop-column.new.self.items ≡ l.numbers.items ++ (c.in-Some.value ∷ []) = search rules in
    let more = named_more l.names.items l.numbers.items c.column-item.result.name c.in-Some.value l.invariant.same in
    rw (names, numbers) (record {
      same = omega (arith, l.invariant.same, length-append l.names.items (c.column-item.result.name ∷ []), length-append l.numbers.items (c.in-Some.value ∷ []));
      values = rw more
          (value_added _ _ (fields_of c.args.row.now) c.requires.columns l.column-index c.column-item.result (named_numbers l.names.items l.numbers.items) c.in-Some.value is within l.invariant.values
          ((number.exact c.in-Some.value).0 here) (λ d t. same_some d c.in-Some.value _ ((number.exact d).1 t) here));
    })

pub returns-clause-supplied : goal.returns-clause-supplied
returns-clause-supplied c =
    let items = c.deref-column-items.ensures.value in
    let l = c.loop-column in
    let columns = c.args.header.now.columns.items in
    let values = named_numbers l.names.items l.numbers.items in
    let last : l.column-index ≡ length columns = (let size = ap length items in omega arith) in
    let all = rw last at l.invariant.values in
    rw c.in_ok-values.ensures (λ v. (
      values_supplied _ columns (fields_of c.args.row.now) c.requires.columns values v all,
      supplied_values _ columns (fields_of c.args.row.now) c.requires.columns values v all,
    ))
