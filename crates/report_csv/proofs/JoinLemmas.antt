-- The rows of a book by its years, of a book that is split into two, and of a table that is taken apart.
use Rattle.std.proofs.Common.{◌≡◌, List, [], ◌∷◌, ◌++◌, refl, sym, ap, ◌∙◌, append_assoc}
use Rattle.std.specs.List.{flat_map}
use Rattle.std.proofs.lemmas.Grind.{flat_map-append}
use Rattle.payroll_records.specs.declared.record.Record.{Record}
use Rattle.plan_calendar.specs.Picking.{Entry, pick}
use Rattle.book_year.specs.Accepted.{Accepted}
use Rattle.book_edits.specs.Books.{YearRuns, loaded}
use Rattle.recalc_engine.specs.Contents.{Contents, with_years}
use Rattle.recalc_engine.specs.EditAnswers.{edited_book, load}
use Rattle.recalc_engine.specs.MonthRows.{KeyedRow, keyed_rows, month_rows}
use Rattle.payroll_records.specs.Tables.{Text}
use Rattle.report_csv.specs.Reports.{header, row_line, run_text}
use Rattle.report_csv.specs.ReportTexts.{months_text, report_text}
use Rattle.report_csv.specs.ReportLaws.{table_text, year_text}
use Rattle.report_csv.specs.TableParts.{AreParts}
use Rattle.report_csv.proofs.PartLemmas.{parted_years}

pub months_text_append : (xs ys : List KeyedRow) → months_text (xs ++ ys) ≡ months_text xs ++ months_text ys
months_text_append [] ys = refl
months_text_append (r ∷ rest) ys =
    let text = run_text r.key r.plan r.state in
    ap (λ t. text ++ t) (months_text_append rest ys) ∙ sym (append_assoc text (months_text rest) (months_text ys))

years_text : (plans : List (Entry Accepted)) (years : List YearRuns) → months_text (flat_map (keyed_rows (pick plans)) years) ≡ flat_map (year_text plans) years
years_text plans [] = refl
years_text plans (y ∷ more) =
    months_text_append (keyed_rows (pick plans) y) (flat_map (keyed_rows (pick plans)) more)
    ∙ ap (λ t. year_text plans y ++ t) (years_text plans more)

pub rows_of_years : (book : Contents) → months_text (month_rows book) ≡ flat_map (year_text book.plans) book.years
rows_of_years book = years_text book.plans book.years

pub rows_of_both : (book : Contents) (first rest : List YearRuns) → book.years ≡ first ++ rest → months_text (month_rows book) ≡ months_text (month_rows (with_years first book)) ++ months_text (month_rows (with_years rest book))
rows_of_both book first rest e =
    let rows = keyed_rows (pick book.plans) in
    ap (λ years. months_text (flat_map rows years)) e
    ∙ ap months_text (flat_map-append rows first rest)
    ∙ months_text_append (flat_map rows first) (flat_map rows rest)

-- ---- a table that is taken apart

-- the rows of all parts, each loaded into these years
abbrev parts_text : List (Entry Accepted) → List YearRuns → List (List Record) → Text
parts_text plans years parts =
    flat_map (λ part. months_text (flat_map (keyed_rows (pick plans)) (loaded part years))) parts

text_of_parts : (plans : List (Entry Accepted)) (parts : List (List Record)) →
    months_text (flat_map (keyed_rows (pick plans)) (flat_map (λ part. loaded part []) parts)) ≡
    parts_text plans [] parts
text_of_parts plans [] = refl
text_of_parts plans (p ∷ more) =
    let rows = keyed_rows (pick plans) in
    let rest = flat_map (λ part. loaded part []) more in
    ap months_text (flat_map-append rows (loaded p []) rest)
    ∙ months_text_append (flat_map rows (loaded p [])) (flat_map rows rest)
    ∙ ap (λ t. months_text (flat_map rows (loaded p [])) ++ t) (text_of_parts plans more)

pub rows_of_parts : (book : Contents) (table : List Record) (parts : List (List Record)) → book.years ≡ [] →
    AreParts table parts →
    report_text (edited_book (load table) book) ≡ row_line header ++ flat_map (table_text book) parts
rows_of_parts book table parts none h =
    let rows = keyed_rows (pick book.plans) in
    ap (λ years. row_line header ++ months_text (flat_map rows (loaded table years))) none
    ∙ ap (λ years. row_line header ++ months_text (flat_map rows years)) (parted_years h)
    ∙ ap (λ t. row_line header ++ t) (text_of_parts book.plans parts)
    ∙ ap (λ years. row_line header ++ parts_text book.plans years parts) (sym none)
