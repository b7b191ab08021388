-- The records of a table, row by row.
use Rattle.std.proofs.Common.{Option, Result, Ok, Err, ◌≡◌, ℕ, ◌+◌, ◌≤◌, List, [], ◌∷◌, ◌++◌, length, Bool, true, false, not, ◌||◌, cond, refl, sym, ap, subst, ◌∙◌, arith, length-append, append_assoc}
use Rattle.std.specs.Prelude.{IfErr, MatchResult}
use Rattle.std.specs.BTreeSet.{contains, Updates, BTreeSet}
use Rattle.std.specs.declared.cmp.Ordering.{Ordering}
use Rattle.std.specs.declared.cmp.Ordering.TheVariants.{Less, Equal, Greater}
use Rattle.std.specs.Ordering.{is_eq, ordering_reverse}
use Rattle.std.proofs.lemmas.Bool.{false≢true}
use Rattle.std.proofs.lemmas.List.{append-nil}
use Rattle.std.proofs.lemmas.List.Folds.{list_any-append}
use Rattle.std.proofs.lemmas.Slice.Zip.{all_zipped_more}
use Rattle.csv.specs.declared.reader.Reader.{Reader}
use Rattle.payroll_records.specs.declared.record.Key.{Key}
use Rattle.payroll_records.specs.declared.record.Record.{Record}
use Rattle.payroll_records.specs.declared.row.RowFault.{RowFault}
use Rattle.payroll_records.specs.declared.row.RowFault.TheVariants as fault
use Rattle.payroll_records.specs.declared.table.TableFault.{TableFault}
use Rattle.payroll_records.specs.declared.table.TableFault.TheVariants as whole
use Rattle.payroll_records.specs.CsvRows.{csv_rows}
use Rattle.payroll_records.specs.Limits.{longest_table}
use Rattle.payroll_records.specs.Orders.{key_cmp}
use Rattle.payroll_records.specs.private.RowViews.{IsBetweenRows, rows_left, ReadsRow}
use Rattle.payroll_records.specs.Tables.{AreRecordsOf, BreaksAt, ByItself, IsFirstFault, IsHeader, IsRecordOf, IsTableFaultOrMemory, Repeats, Text, WrongDay, WrongEmployee, WrongMonth, WrongValue, WrongWidth, key_of}
use Rattle.payroll_records.specs.private.TableViews.{BreaksIn, IsRowFault, fault_at}
use Rattle.payroll_records.proofs.KeyLemmas.{HasKey, has_key, key_found, key_there, own_more, own_none}
use Rattle.payroll_records.proofs.OrderLemmas.{key_total}

-- one row more
pub records_more : (names : List Text) (rows : List (List Text)) (records : List Record) (row : List Text) (r : Record) →
    AreRecordsOf names rows records → IsRecordOf names row r → (HasKey records (key_of r) → ⊥) → AreRecordsOf names (rows ++ (row ∷ [])) (records ++ (r ∷ []))
records_more names rows records row r h is new = record {
  each = all_zipped_more (IsRecordOf names) rows records row r h.each is;
  own_keys = own_more records r h.own_keys new;
}

-- the set of keys has the keys of the records
abbrev pub HasKeys : BTreeSet Key → List Record → Type 0
HasKeys keys records = (q : Key) → contains key_cmp keys q ≡ has_key records q

same_back : (a b : Key) → is_eq (key_cmp a b) ≡ is_eq (key_cmp b a)
same_back a b = ap is_eq (key_total.antisymm a b) ∙ by (key_cmp b a)
  where
    by : (o : Ordering) → is_eq (ordering_reverse o) ≡ is_eq o
    by Less = refl
    by Equal = refl
    by Greater = refl

either : (a b c : Bool) → a ≡ c → cond a true b ≡ (b || (c || false))
either true true c e = refl
either true false c e = rw (← e)
either false true c e = refl
either false false c e = rw (← e)

pub keys_more : (old new : BTreeSet Key) (records : List Record) (r : Record) → HasKeys old records → Updates key_cmp old new (key_of r) true → HasKeys new (records ++ (r ∷ []))
keys_more old new records r h u q =
    u.0 q ∙ ap (cond (is_eq (key_cmp (key_of r) q)) true) (h q)
    ∙ either _ _ _ (same_back (key_of r) q) ∙ sym (list_any-append (λ s. is_eq (key_cmp q (key_of s))) records (r ∷ []))

-- how far a reading has come
pub record ReadSoFar {R : Type 0} (rem : R → Option (List ℕ)) (names : List Text) (start now : Reader R) (records : List Record) (keys : BTreeSet Key) (number : ℕ) : Type 0 where
  pub reader : IsBetweenRows rem now
  pub done : List (List Text)
  pub parts : rows_left rem start ≡ done ++ rows_left rem now
  pub are_records : AreRecordsOf names done records
  pub counted : number ≡ length done + 1
  pub known : HasKeys keys records

module _ {R : Type 0} (rem : R → Option (List ℕ)) (names : List Text) (start now : Reader R) (records : List Record) (keys : BTreeSet Key) (number : ℕ)
    (h : ReadSoFar rem names start now records keys number) (next : Reader R) where
  pub all_read : (row : List Text) → ReadsRow rem now next false row → AreRecordsOf names (rows_left rem start) records
  all_read row none = subst (λ (rows : List (List Text)). AreRecordsOf names rows records) (sym (h.parts ∙ ap (λ rows. h.done ++ rows) none ∙ append-nil h.done)) h.are_records

  pub first_fault : (row : List Text) (Fault : List Text → List Record → List Text → Type 0) → ReadsRow rem now next true row → Fault names records row → IsFirstFault names (rows_left rem start) number Fault
  first_fault row Fault taken faulty = record {
    before = h.done;
    row = row;
    after = rows_left rem next;
    parts = h.parts ∙ ap (λ rows. h.done ++ rows) taken.rows;
    counted = h.counted;
    records = records;
    are_records = h.are_records;
    faulty = faulty;
  }

  pub row_broken : (row : List Text) (f : RowFault) → ReadsRow rem now next true row → IsRowFault names row f → BreaksIn names (rows_left rem start) (fault_at number f)
  row_broken row fault.Width taken faulty = first_fault row (ByItself WrongWidth) taken faulty
  row_broken row fault.Employee taken faulty = first_fault row (ByItself WrongEmployee) taken faulty
  row_broken row fault.Month taken faulty = first_fault row (ByItself WrongMonth) taken faulty
  row_broken row fault.Day taken faulty = first_fault row (ByItself WrongDay) taken faulty
  row_broken row (fault.Value name) taken faulty = first_fault row (ByItself (WrongValue name)) taken faulty
  row_broken row (fault.Memory e) taken faulty = tt

  pub row_repeated : (row : List Text) (r : Record) → ReadsRow rem now next true row → IsRecordOf names row r → false ≡ not (contains key_cmp keys (key_of r)) →
      IsFirstFault names (rows_left rem start) number Repeats
  row_repeated row r taken is old = first_fault row Repeats taken (record { of_row = r; is_record = is; repeated = key_there records (key_of r) (sym (h.known (key_of r)) ∙ there (contains key_cmp keys (key_of r)) old) })
    where
      there : (b : Bool) → false ≡ not b → b ≡ true
      there true e = refl
      there false e = absurd (false≢true e)

  pub row_added : (row : List Text) (r : Record) (after : BTreeSet Key) → ReadsRow rem now next true row → IsRecordOf names row r → true ≡ not (contains key_cmp keys (key_of r)) →
      Updates key_cmp keys after (key_of r) true → ReadSoFar rem names start next (records ++ (r ∷ [])) after (number + 1)
  row_added row r after taken is new u = record {
    reader = taken.reader;
    done = h.done ++ (row ∷ []);
    parts = h.parts ∙ ap (λ rows. h.done ++ rows) taken.rows ∙ sym (append_assoc h.done (row ∷ []) (rows_left rem next));
    are_records = records_more names h.done records row r h.are_records is (λ again. absent (contains key_cmp keys (key_of r)) new (h.known (key_of r) ∙ key_found records (key_of r) again));
    counted = omega (arith, h.counted, length-append h.done (row ∷ []));
    known = keys_more keys after records r h.known u;
  } where
    absent : (b : Bool) → true ≡ not b → b ≡ true → ⊥
    absent true e t = false≢true (sym e)
    absent false e t = false≢true t

-- where no row was read no record is there
pub none_read : (names : List Text) (records : List Record) → records ≡ [] → AreRecordsOf names [] records
none_read names records none = subst (AreRecordsOf names []) (sym none) (record { each = tt; own_keys = own_none })

-- the first fault of the rows behind a header is that of the table
module _ (bytes : List ℕ) (header names : List Text) (rows : List (List Text)) (short : length bytes ≤ longest_table) (read : csv_rows bytes ≡ header ∷ rows) (is_header : IsHeader header names) where
  breaks_at : (n : ℕ) (Fault : List Text → List Record → List Text → Type 0) → IsFirstFault names rows n Fault → BreaksAt bytes n Fault
  breaks_at n Fault first =
      record { short = short; header = header; names = names; rows = rows; read = read; is_header = is_header; first = first }

  table_broken : (f : TableFault) → BreaksIn names rows f → IsTableFaultOrMemory bytes f
  table_broken whole.TableLong h = absurd h
  table_broken whole.Header h = absurd h
  table_broken (whole.Width n) h = breaks_at n (ByItself WrongWidth) h
  table_broken (whole.Employee n) h = breaks_at n (ByItself WrongEmployee) h
  table_broken (whole.Month n) h = breaks_at n (ByItself WrongMonth) h
  table_broken (whole.Day n) h = breaks_at n (ByItself WrongDay) h
  table_broken (whole.Value n name) h = breaks_at n (ByItself (WrongValue name)) h
  table_broken (whole.Repeat n) h = breaks_at n Repeats h
  table_broken (whole.Memory e) h = tt

  pub table_refused : {T : Type 0} (P : T → Type 0) (r : Result T TableFault) → MatchResult r P (BreaksIn names rows) → IfErr r (IsTableFaultOrMemory bytes)
  table_refused P (Ok records) h = tt
  table_refused P (Err f) h = table_broken f h
