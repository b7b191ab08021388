-- The runs that lines and tables give have texts.
use Rattle.std.proofs.Common.{ℕ, zero, suc, ◌+◌, ◌<◌, ◌≤◌, List, [], ◌∷◌, length, refl, sym, subst, arith}
use Rattle.std.specs.Prelude.{IsTrue}
use Rattle.std.specs.List.{All, AllByRecursion, AllZip, Contains}
use Rattle.std.specs.declared.cmp.Ordering.{Ordering}
use Rattle.std.specs.declared.cmp.Ordering.TheVariants.{Less, Equal, Greater}
use Rattle.std.proofs.lemmas.List.Elements.{All-cons, All-nil, recursion_from_All}
use Rattle.std.proofs.lemmas.List.Sorted.{All-permutation}
use Rattle.rising_lists.specs.Keyed.{put, put_by}
use Rattle.pap_tree.specs.Names.{is_name}
use Rattle.payroll_records.specs.Employees.{is_employee}
use Rattle.payroll_records.specs.Tables.{IsRecordOf, IsTable, Supplies, Text, name_at}
use Rattle.payroll_records.specs.ValueWords.{AreValueWords, IsValueWord}
use Rattle.payroll_records.specs.declared.record.Record.{Record}
use Rattle.payroll_records.specs.declared.values.NamedValue.{NamedValue}
use Rattle.saved_items.specs.SavedBooks.{IsRun, IsValue}

-- ---- a list with an element put

module _ {K X : Type 0} (cmp : K → K → Ordering) (key : X → K) where
  pub put_most : (y : X) (xs : List X) → length (put cmp key y xs) ≤ length xs + 1
  put_most y [] = omega arith
  put_most y (x ∷ xs) = elim (cmp (key y) (key x))
      as (λ o. length (put_by o y x xs (put cmp key y xs)) ≤ length (x ∷ xs) + 1) [
        | Less ↦ omega arith
        | Equal ↦ omega arith
        | Greater ↦ omega (arith, put_most y xs)
      ]

-- ---- value words

given_values : (words : List Text) (given : List NamedValue) → AllZip IsValueWord words given → All IsValue given
given_values [] [] h = All-nil IsValue
given_values [] (v ∷ given) h = absurd h
given_values (word ∷ words) [] h = absurd h
given_values (word ∷ words) (v ∷ given) h =
    All-cons IsValue v given (record { named = h.0.named; kept = h.0.kept }) (given_values words given h.1)

-- a run with the values of words
pub words_run : (words : List Text) (r : Record) → IsTrue (is_employee r.employee) → AreValueWords words r.values
    → IsRun r
words_run words r employee h = record {
  employee = employee;
  values = h.are;
  each = recursion_from_All IsValue r.values
      (All-permutation IsValue h.given r.values h.same (given_values words h.given h.give));
}

-- ---- tables

contained_all : (P : NamedValue → Type 0) (vs : List NamedValue) → ((v : NamedValue) → Contains vs v → P v)
    → AllByRecursion P vs
contained_all P [] h = tt
contained_all P (v ∷ vs) h = (
  h v (zero, omega arith, refl),
  contained_all P vs (λ w c. h w (suc c.0, omega (arith, c.1), c.2)),
)

named_at : (names : List Text) → AllByRecursion (λ n. IsTrue (is_name n)) names → (i : ℕ) → i < length names
    → IsTrue (is_name (name_at names i))
named_at [] h i lt = absurd (omega (arith, lt))
named_at (n ∷ names) h zero lt = h.0
named_at (n ∷ names) h (suc i) lt = named_at names h.1 i (omega (arith, lt))

module _ (names : List Text) (named : AllByRecursion (λ n. IsTrue (is_name n)) names) where
  supplied : (row : List Text) (v : NamedValue) → Supplies names row v → IsValue v
  supplied row v h = record {
    named = subst (λ n. IsTrue (is_name n)) h.named (named_at names named h.column h.within);
    kept = h.spelled.1;
  }

  row_run : (row : List Text) (r : Record) → IsRecordOf names row r → IsRun r
  row_run row r h = record {
    employee = subst (λ e. IsTrue (is_employee e)) (sym h.employee) h.has_employee;
    values = h.in_order;
    each = contained_all IsValue r.values (λ v c. supplied row v ((h.values v).0 c));
  }

  rows_runs : (rows : List (List Text)) (rs : List Record) → AllZip (IsRecordOf names) rows rs → AllByRecursion IsRun rs
  rows_runs [] [] h = tt
  rows_runs [] (r ∷ rs) h = absurd h
  rows_runs (row ∷ rows) [] h = absurd h
  rows_runs (row ∷ rows) (r ∷ rs) h = (row_run row r h.0, rows_runs rows rs h.1)

-- the runs of a table
pub table_runs : (bytes : List ℕ) (rs : List Record) → IsTable bytes rs → AllByRecursion IsRun rs
table_runs bytes rs h = rows_runs h.names h.is_header.named h.rows rs h.are_records.each
