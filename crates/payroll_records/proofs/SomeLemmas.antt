-- A table's text has an answer: its records or its first fault.
use Rattle.std.proofs.Common.{◌≡◌, ◌≢◌, ℕ, zero, suc, ◌+◌, ◌<◌, ◌≤◌, List, [], ◌∷◌, ◌++◌, length, get_or, Option, Some, None, Result, Ok, Err, codes, refl, sym, ap, ◌∙◌, subst, arith, ◌⊎◌, inl, inr, add-one, below_more, append_assoc}
use Rattle.std.specs.Prelude.{IsTrue}
use Rattle.std.specs.List.{AllByRecursion, AllPairs, insert}
use Rattle.std.specs.declared.cmp.Ordering.{Ordering}
use Rattle.std.specs.declared.cmp.Ordering.TheVariants.{Less, Equal, Greater}
use Rattle.std.specs.Ordering.{ordering_reverse}
use Rattle.std.specs.Cmp.Lexicographic.{nat_list_cmp_total}
use Rattle.std.proofs.lemmas.Bool.{cases_lt}
use Rattle.std.proofs.lemmas.List.{append-nil, get_or_default}
use Rattle.rising_lists.specs.Keyed.{at_key, IsRising, AreAbove}
use Rattle.rising_lists.specs.Places.{IsGap}
use Rattle.rising_lists.proofs.Laws.{misses, above_all}
use Rattle.pap_tree.specs.Names.{is_name}
use Rattle.payroll_records.specs.CsvRows.{csv_rows}
use Rattle.payroll_records.specs.Employees.{is_employee}
use Rattle.payroll_records.specs.NamedValues.{name_cmp}
use Rattle.payroll_records.specs.Limits.{longest_table, most_values}
use Rattle.payroll_records.specs.Tables.{Text, name_at, field_of, cell_of, IsHeader, IsReadable, FitsHeader, HasEmployee, HasDay, IsRecordOf, key_of, AreRecordsOf, IsFirstFault, BreaksAt, TableSays}
use Rattle.payroll_records.specs.private.TableViews.{AreColumns, IsColumnOf, column_name}
use Rattle.payroll_records.specs.private.CellViews.{AreValuesOf}
use Rattle.payroll_records.specs.declared.header.Column.{Column}
use Rattle.payroll_records.specs.declared.record.Record.{Record}
use Rattle.payroll_records.specs.declared.table.TableFault.{TableFault}
use Rattle.payroll_records.specs.declared.table.TableFault.TheVariants as whole
use Rattle.payroll_records.specs.declared.values.NamedValue.{NamedValue}
use Rattle.payroll_records.proofs.TableLemmas.{records_more}
use Rattle.payroll_records.proofs.ColumnLemmas.{column_added, at_name}
use Rattle.payroll_records.proofs.CellLemmas.{no_values, value_passed, value_added, values_supplied, supplied_values}
use Rattle.payroll_records.proofs.DecidedLemmas.{Decided, both, eq_decided, le_decided, true_decided, text_decided, month_decided, day_decided, readable_decided, number_decided}
use Rattle.payroll_records.proofs.KeyLemmas.{HasKey, key_decided, own_none}
use Rattle.payroll_records.proofs.KindLemmas.{Kind, width, employee, month, day, value, repeat, FaultOf, fault_of}
use Rattle.scaled_decimal.proofs.Laws.{number_once}

-- a name that has no column has a place where one would go
gap_more : (x : Column) (xs : List Column) (k : Text) (i : ℕ) → name_cmp x.name k ≡ Less → IsGap name_cmp column_name xs k i → IsGap name_cmp column_name (x ∷ xs) k (suc i)
gap_more x xs k i less h = record {
  within = omega (arith, h.within);
  before = λ j d l. earlier j d l;
  after = λ j d le l. later j d le l;
} where
  earlier : (j : ℕ) (d : Column) → j < suc i → name_cmp (get_or (x ∷ xs) j d).name k ≡ Less
  earlier zero d l = less
  earlier (suc j) d l = h.before j d (omega arith)

  later : (j : ℕ) (d : Column) → suc i ≤ j → j < length (x ∷ xs) → name_cmp (get_or (x ∷ xs) j d).name k ≡ Greater
  later zero d le l = absurd (omega arith)
  later (suc j) d le l = h.after j d (omega arith) (omega arith)

back : (a b : Text) → name_cmp a b ≡ Greater → name_cmp b a ≡ Less
back a b e = nat_list_cmp_total.antisymm b a ∙ ap ordering_reverse e

forth : (a b : Text) → name_cmp a b ≡ Less → name_cmp b a ≡ Greater
forth a b e = nat_list_cmp_total.antisymm b a ∙ ap ordering_reverse e

gap_first : (x : Column) (xs : List Column) (k : Text) → name_cmp x.name k ≡ Greater → AreAbove name_cmp column_name x.name xs → IsGap name_cmp column_name (x ∷ xs) k 0
gap_first x xs k more h = record {
  within = omega arith;
  before = λ j d l. absurd (omega (arith, l));
  after = λ j d le l. later j d l;
} where
  later : (j : ℕ) (d : Column) → j < length (x ∷ xs) → name_cmp (get_or (x ∷ xs) j d).name k ≡ Greater
  later zero d l = more
  later (suc j) d l = forth k _ (nat_list_cmp_total.trans k x.name _ (back x.name k more) (above_all name_cmp nat_list_cmp_total column_name x.name xs j d h (omega arith)))

gap_place : (xs : List Column) (k : Text) → IsRising name_cmp column_name xs → at_key name_cmp column_name xs k ≡ None → (i : ℕ) × IsGap name_cmp column_name xs k i
gap_place [] k h e = (0, record { within = omega arith; before = λ j d l. absurd (omega (arith, l)); after = λ j d le l. absurd (omega (arith, l)) })
gap_place (x ∷ xs) k h e = by (name_cmp x.name k) refl e (gap_place xs k h.1)
  where
    by : (o : Ordering) → name_cmp x.name k ≡ o → at_key name_cmp column_name (x ∷ xs) k ≡ None → (at_key name_cmp column_name xs k ≡ None → (i : ℕ) × IsGap name_cmp column_name xs k i) →
        (i : ℕ) × IsGap name_cmp column_name (x ∷ xs) k i
    by Less t e more = let g = more (rw t at e) in (suc g.0, gap_more x xs k g.0 t g.1)
    by Equal t e more = absurd (cc (rw t at e))
    by Greater t e more = (0, gap_first x xs k t h.0)

all_append : (names : List Text) (n : Text) → AllByRecursion (λ m. IsTrue (is_name m)) names → IsTrue (is_name n) → AllByRecursion (λ m. IsTrue (is_name m)) (names ++ (n ∷ []))
all_append [] n h t = (t, tt)
all_append (m ∷ ms) n h t = (h.0, all_append ms n h.1 t)

all_back : (names rest : List Text) (n : Text) → AllByRecursion (λ m. IsTrue (is_name m)) (names ++ (n ∷ rest)) → IsTrue (is_name n)
all_back [] rest n h = h.0
all_back (m ∷ ms) rest n h = all_back ms rest n h.1

AllDiffer : List Text → Type 0
AllDiffer names = AllPairs (λ m n. m ≢ n) names

length_more : (names rest : List Text) (n : Text) → length names < length (names ++ (n ∷ rest))
length_more [] rest n = omega arith
length_more (m ∷ ms) rest n = let more = length_more ms rest n in omega arith

at_front : (names rest : List Text) (i : ℕ) → i < length names → name_at (names ++ rest) i ≡ name_at names i
at_front [] rest i l = absurd (omega (arith, l))
at_front (m ∷ ms) rest zero l = refl
at_front (m ∷ ms) rest (suc i) l = at_front ms rest i (omega arith)

at_seam : (names rest : List Text) (n : Text) → name_at (names ++ (n ∷ rest)) (length names) ≡ n
at_seam [] rest n = refl
at_seam (m ∷ ms) rest n = at_seam ms rest n

-- columns of names are of different names
columns_differ : (names : List Text) (columns : List Column) → AreColumns names columns → AllDiffer names
unfolding AllDiffer
columns_differ names columns h i j d less within same =
    let first = h.all i (omega arith) in
    let one : name_at names i ≡ get_or names i d = get_or_default names i [] d (omega arith) in
    let other : name_at names j ≡ get_or names j d = get_or_default names j [] d within in
    let second = rw (sym (one ∙ same ∙ sym other)) at (h.all j within) in
    let places : ◌≡◌ {A = ℕ} i j = ap place_or (sym first ∙ second) in
    absurd (omega arith)
  where
    place_or : Option Column → ℕ
    place_or None = 0
    place_or (Some c) = c.place

-- names, all different, that have columns
record HaveColumns (names : List Text) : Type 0 where
  columns : List Column
  are : AreColumns names columns
  named : AllByRecursion (λ n. IsTrue (is_name n)) names

-- the names, or why there are none
NamesOrNot : List Text → Type 0
NamesOrNot names = HaveColumns names ⊎ (AllByRecursion (λ n. IsTrue (is_name n)) names → AllDiffer names → ⊥)

name_twice : (names rest : List Text) (n : Text) (c : Column) (h : HaveColumns names) → at_key name_cmp column_name h.columns n ≡ Some c → AllDiffer (names ++ (n ∷ rest)) → ⊥
unfolding AllDiffer
name_twice names rest n c h e differ =
    let at = at_name (IsColumnOf names) h.columns n c e h.are.each in
    differ c.place (length names) [] at.1.within (length_more names rest n) (at_front names (n ∷ rest) c.place at.1.within ∙ at.1.named ∙ at.0 ∙ sym (at_seam names rest n))

name_new : (names : List Text) (n : Text) (h : HaveColumns names) → IsTrue (is_name n) → at_key name_cmp column_name h.columns n ≡ None → HaveColumns (names ++ (n ∷ []))
name_new names n h t e =
    let place = gap_place h.columns n h.are.rising e in
    record {
      columns = insert h.columns place.0 (record { name = n; place = length names });
      are = column_added names h.columns n place.0 h.are (misses name_cmp nat_list_cmp_total column_name h.columns n place.0 place.1);
      named = all_append names n h.named t;
    }

names_or_not : (names rest : List Text) → HaveColumns names → NamesOrNot (names ++ rest)
unfolding NamesOrNot
names_or_not names [] h = inl (subst HaveColumns (sym (append-nil names)) h)
names_or_not names (n ∷ rest) h = by (true_decided (is_name n)) (at_key name_cmp column_name h.columns n) refl (λ k. names_or_not (names ++ (n ∷ [])) rest k)
  where
    by : Decided (IsTrue (is_name n)) → (o : Option Column) → at_key name_cmp column_name h.columns n ≡ o → (HaveColumns (names ++ (n ∷ [])) → NamesOrNot ((names ++ (n ∷ [])) ++ rest)) → NamesOrNot (names ++ (n ∷ rest))
    by (inr no_name) o e more = inr (λ named differ. no_name (all_back names rest n named))
    by (inl t) (Some c) e more = inr (λ named differ. name_twice names rest n c h e differ)
    by (inl t) None e more = subst NamesOrNot (append_assoc names (n ∷ []) rest) (more (name_new names n h t e))

-- a first row is a header, or is none
data HeaderOrNot (row : List Text) : Type 0 where
  header_of : (names : List Text) → IsHeader row names → (columns : List Column) → AreColumns names columns → HeaderOrNot row
  no_header : ((names : List Text) → IsHeader row names → ⊥) → HeaderOrNot row

no_columns : HaveColumns []
no_columns = record { columns = []; are = record { same = refl; rising = tt; each = tt; all = λ i l. absurd (omega (arith, l)) }; named = tt }

header_or_not : (row : List Text) → HeaderOrNot row
unfolding NamesOrNot AllDiffer
header_or_not [] = no_header (λ names h. let e = h.fields in cc)
header_or_not (a ∷ []) = no_header (λ names h. let e = h.fields in cc)
header_or_not (a ∷ b ∷ []) = no_header (λ names h. let e = h.fields in cc)
header_or_not (a ∷ b ∷ c ∷ rest) = by (both (both (text_decided a (codes "employee")) (text_decided b (codes "month"))) (both (text_decided c (codes "day")) (le_decided (length rest) most_values))) (names_or_not [] rest no_columns)
  where
    same_rest : (names : List Text) → IsHeader (a ∷ b ∷ c ∷ rest) names → names ≡ rest
    same_rest names h = let e = h.fields in cc

    by : Decided (((a ≡ codes "employee") × (b ≡ codes "month")) × ((c ≡ codes "day") × (length rest ≤ most_values))) → NamesOrNot rest → HeaderOrNot (a ∷ b ∷ c ∷ rest)
    by (inl h) (inl some) = header_of rest (record { fields = same (h.0.0) (h.0.1) (h.1.0); named = some.named; different = columns_differ rest some.columns some.are; few = h.1.1 }) some.columns some.are
      where
        same : a ≡ codes "employee" → b ≡ codes "month" → c ≡ codes "day" → ◌≡◌ {A = List Text} (a ∷ b ∷ c ∷ rest) (codes "employee" ∷ codes "month" ∷ codes "day" ∷ rest)
        same e m d = rw (e, m, d) refl
    by (inl h) (inr none) = no_header (λ names k. let e = same_rest names k in none (subst (AllByRecursion (λ n. IsTrue (is_name n))) e k.named) (subst AllDiffer e k.different))
    by (inr bad) some = no_header (λ names k. let e = k.fields in let few = k.few in let r = same_rest names k in bad ((cc, cc), (cc, rw (← r) few)))

-- the values of a row, column by column
first_column : Column
first_column = record { name = []; place = 0 }

module _ (names : List Text) (columns : List Column) (are : AreColumns names columns) (few : length names ≤ most_values) (row : List Text) where
  ValuesUpTo : ℕ → Type 0
  ValuesUpTo i = (values : List NamedValue) × AreValuesOf names columns row i values

  values_up_to : (i : ℕ) → i ≤ length columns → ValuesUpTo i
  unfolding ValuesUpTo
  values_up_to zero l = ([], no_values names columns row are)
  values_up_to (suc i) l = rw add-one at (by (get_or columns i first_column) (get_or_default columns i first_column _ within) (values_up_to i (omega arith)))
    where
      within : i < length columns
      within = omega arith

      by : (c : Column) → c ≡ get_or columns i c → ValuesUpTo i → ValuesUpTo (i + 1)
      by c is so_far = elim (number_decided (cell_of row c.place)) [
        | inl number ↦ (_, value_added names columns row are i c so_far.0 number.0 is within so_far.1 number.1 (λ d h. number_once _ d number.0 h.0 number.1.0))
        | inr none ↦ (so_far.0, value_passed names columns row are i c so_far.0 is within so_far.1 none)
      ]

  -- the record of a row without a fault
  record_of : FitsHeader names row → HasEmployee row → HasDay row → ((i : ℕ) → i < length names → IsReadable (cell_of row i)) → (r : Record) × IsRecordOf names row r
  unfolding ValuesUpTo
  record_of wide has_employee has_day readable =
      let all = values_up_to (length columns) (omega arith) in
      let same = are.same in
      let most = all.1.few in (
        record { employee = field_of row 0; day = record { year = has_day.0; month = has_day.1; day = has_day.2; exists = has_day.3.0.exists }; values = all.0 },
        record {
          wide = wide;
          has_employee = has_employee;
          employee = refl;
          day = has_day.3;
          readable = readable;
          in_order = record { rising = all.1.rising; few = omega arith };
          values = λ v. (values_supplied names columns row are all.0 v all.1, supplied_values names columns row are all.0 v all.1);
        },
      )

  -- the leftmost cell that isn't readable, or none
  CellsOrBroken : ℕ → Type 0
  CellsOrBroken n = ((i : ℕ) → i < n → IsReadable (cell_of row i)) ⊎ ((k : ℕ) × (k < n) × ((i : ℕ) → i < k → IsReadable (cell_of row i)) × (IsReadable (cell_of row k) → ⊥))

  cells_or_broken : (n : ℕ) → CellsOrBroken n
  unfolding CellsOrBroken
  cells_or_broken zero = inl (λ i l. absurd (omega (arith, l)))
  cells_or_broken (suc n) = by (cells_or_broken n) (readable_decided (cell_of row n))
    where
      by : CellsOrBroken n → Decided (IsReadable (cell_of row n)) → CellsOrBroken (suc n)
      by (inr k) d = inr (k.0, omega (arith, k.1), k.2, k.3)
      by (inl all) (inl good) = inl (λ i l. below_more (λ j. IsReadable (cell_of row j)) n all good i (omega arith))
      by (inl all) (inr bad) = inr (n, omega arith, all, bad)

  -- a row gives a record of a new key, or has a fault
  RowSays : List Record → Type 0
  RowSays before = ((r : Record) × IsRecordOf names row r × (HasKey before (key_of r) → ⊥)) ⊎ ((k : Kind) × FaultOf k names before row)

  row_says : (before : List Record) → RowSays before
  unfolding RowSays CellsOrBroken
  row_says before = elim (eq_decided (length row) (3 + length names)) [
    | inr narrow ↦ inr (width, narrow)
    | inl wide ↦ elim (true_decided (is_employee (field_of row 0))) [
      | inr none ↦ inr (employee, (wide, none))
      | inl has_employee ↦ elim (month_decided (field_of row 1)) [
        | inr none ↦ inr (month, (wide, has_employee, none))
        | inl has_month ↦ elim (day_decided row) [
          | inr none ↦ inr (day, (wide, has_employee, has_month, none))
          | inl has_day ↦ elim (cells_or_broken (length names)) [
            | inr k ↦ inr (value (name_at names k.0), record { wide = wide; employee = has_employee; day = has_day; column = k.0; within = k.1; named = refl; earlier = k.2; broken = k.3 })
            | inl readable ↦
                let r = record_of wide has_employee has_day readable in
                elim (key_decided before (key_of r.0)) [
                  | inl again ↦ inr (repeat, record { of_row = r.0; is_record = r.1; repeated = again })
                  | inr new ↦ inl (r.0, r.1, new)
                ]
          ]
        ]
      ]
    ]
  ]

-- the rows give their records, or a first one has a fault
RowsSay : List Text → List (List Text) → Type 0
RowsSay names rows = ((records : List Record) × AreRecordsOf names rows records) ⊎ ((n : ℕ) × (k : Kind) × IsFirstFault names rows n (FaultOf k))

rows_say : (names : List Text) (columns : List Column) → AreColumns names columns → length names ≤ most_values → (done : List (List Text)) (records : List Record) (rest : List (List Text)) →
    AreRecordsOf names done records → RowsSay names (done ++ rest)
unfolding RowsSay RowSays
rows_say names columns are few done records [] h = inl (records, subst (λ (rows : List (List Text)). AreRecordsOf names rows records) (sym (append-nil done)) h)
rows_say names columns are few done records (row ∷ rest) h =
    by (row_says names columns are few row records) (λ r is new. rows_say names columns are few (done ++ (row ∷ [])) (records ++ (r ∷ [])) rest (records_more names done records row r h is new))
  where
    by : RowSays names columns are few row records →
        ((r : Record) → IsRecordOf names row r → (HasKey records (key_of r) → ⊥) → RowsSay names ((done ++ (row ∷ [])) ++ rest)) →
        RowsSay names (done ++ (row ∷ rest))
    by (inl r) more = subst (RowsSay names) (append_assoc done (row ∷ []) rest) (more r.0 r.1 r.2)
    by (inr f) more = inr (length done + 1, f.0, record { before = done; row = row; after = rest; parts = refl; counted = refl; records = records; are_records = h; faulty = f.1 })

fault_says : (bytes : List ℕ) (n : ℕ) (k : Kind) → BreaksAt bytes n (FaultOf k) → TableSays bytes (Err (fault_of n k))
fault_says bytes n width h = h
fault_says bytes n employee h = h
fault_says bytes n month h = h
fault_says bytes n day h = h
fault_says bytes n (value name) h = h
fault_says bytes n repeat h = h

Answered : List ℕ → Type 0
Answered bytes = (x : Result (List Record) TableFault) × TableSays bytes x

short_some : (bytes : List ℕ) → length bytes ≤ longest_table → (rows : List (List Text)) → csv_rows bytes ≡ rows → Answered bytes
unfolding Answered RowsSay
short_some bytes short [] e = (Err whole.Header, (short, rw e tt))
short_some bytes short (header ∷ rows) e = by (header_or_not header)
  where
    by : HeaderOrNot header → Answered bytes
    by (no_header none) = (Err whole.Header, (short, rw e none))
    by (header_of names is columns are) = elim (rows_say names columns are is.few [] [] rows (record { each = tt; own_keys = own_none })) [
      | inl all ↦ (Ok all.0, record { short = short; header = header; names = names; rows = rows; read = e; is_header = is; are_records = all.1 })
      | inr f ↦ (Err (fault_of f.0 f.1), fault_says bytes f.0 f.1 (record { short = short; header = header; names = names; rows = rows; read = e; is_header = is; first = f.2 }))
    ]

pub table_some : (bytes : List ℕ) → (x : Result (List Record) TableFault) × TableSays bytes x
unfolding Answered
table_some bytes = elim (cases_lt longest_table (length bytes)) [
  | inl long ↦ (Err whole.TableLong, long)
  | inr short ↦ short_some bytes short (csv_rows bytes) refl
]
