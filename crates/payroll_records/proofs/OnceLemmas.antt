-- A table's text has one answer at most.
use Rattle.std.proofs.Common.{◌≡◌, ℕ, ◌+◌, ◌≤◌, List, [], ◌∷◌, ◌++◌, length, Result, Ok, Err, refl, sym, ap, ◌∙◌, subst, arith, ◌⊎◌, inl, inr, append_assoc}
use Rattle.std.specs.List.{AllZip}
use Rattle.std.proofs.lemmas.List.{append-nil}
use Rattle.payroll_records.specs.CsvRows.{csv_rows}
use Rattle.payroll_records.specs.Limits.{longest_table}
use Rattle.payroll_records.specs.Tables.{Text, IsHeader, IsNoHeader, IsRecordOf, HaveOwnKeys, IsTable, IsFirstFault, BreaksAt, TableSays, key_of}
use Rattle.payroll_records.specs.declared.record.Record.{Record}
use Rattle.payroll_records.specs.declared.table.TableFault.{TableFault}
use Rattle.payroll_records.specs.declared.table.TableFault.TheVariants as whole
use Rattle.payroll_records.proofs.KeyLemmas.{HasKey, own_new}
use Rattle.payroll_records.proofs.KindLemmas.{Kind, width, employee, month, day, value, repeat, FaultOf, fault_of, no_fault, kind_once, record_once}

records_once : (names : List Text) (rows : List (List Text)) (rs ss : List Record) → AllZip (IsRecordOf names) rows rs → AllZip (IsRecordOf names) rows ss → rs ≡ ss
records_once names [] [] [] h g = refl
records_once names [] [] (s ∷ ss) h g = absurd g
records_once names [] (r ∷ rs) ss h g = absurd h
records_once names (row ∷ rows) [] ss h g = absurd h
records_once names (row ∷ rows) (r ∷ rs) [] h g = absurd g
records_once names (row ∷ rows) (r ∷ rs) (s ∷ ss) h g =
    let first : r ≡ s = record_once names row r s h.0 g.0 in
    let rest : rs ≡ ss = records_once names rows rs ss h.1 g.1 in
    cc

-- the row of this number is the first with a fault, and has this one; row by row
abbrev FaultFrom : Kind → List Text → List Record → List (List Text) → ℕ → Type 0
FaultFrom k names before [] n = ⊥
FaultFrom k names before (row ∷ rows) n =
    ((n ≡ 1) × FaultOf k names before row)
    ⊎ ((r : Record) × (m : ℕ) × (n ≡ m + 1) × IsRecordOf names row r × (HasKey before (key_of r) → ⊥) × FaultFrom k names (before ++ (r ∷ [])) rows m)

from_first : (k : Kind) (names : List Text) (before : List Record) (done : List (List Text)) (records : List Record) (row : List Text) (after : List (List Text)) →
    AllZip (IsRecordOf names) done records → HaveOwnKeys (before ++ records) → FaultOf k names (before ++ records) row → FaultFrom k names before (done ++ (row ∷ after)) (length done + 1)
from_first k names before [] [] row after h own f = inl (refl, subst (λ (rs : List Record). FaultOf k names rs row) (append-nil before) f)
from_first k names before [] (r ∷ rs) row after h own f = absurd h
from_first k names before (x ∷ xs) [] row after h own f = absurd h
from_first k names before (x ∷ xs) (r ∷ rs) row after h own f =
    inr (
      r,
      length xs + 1,
      omega arith,
      h.0,
      own_new before r rs own,
      from_first k names (before ++ (r ∷ [])) xs rs row after h.1 (subst HaveOwnKeys (sym (append_assoc before (r ∷ []) rs)) own) (subst (λ (qs : List Record). FaultOf k names qs row) (sym (append_assoc before (r ∷ []) rs)) f),
    )

fault_from : (k : Kind) (names : List Text) (rows : List (List Text)) (n : ℕ) → IsFirstFault names rows n (FaultOf k) → FaultFrom k names [] rows n
fault_from k names rows n h =
    rw (h.parts, h.counted) (from_first k names [] h.before h.records h.row h.after h.are_records.each h.are_records.own_keys h.faulty)

not_both : (k : Kind) (names : List Text) (before : List Record) (rows : List (List Text)) (rs : List Record) (n : ℕ) → AllZip (IsRecordOf names) rows rs → HaveOwnKeys (before ++ rs) → FaultFrom k names before rows n → ⊥
not_both k names before [] rs n h own f = f
not_both k names before (row ∷ rows) [] n h own f = absurd h
not_both k names before (row ∷ rows) (r ∷ rs) n h own (inl here) = no_fault k names before row r here.1 h.0 (own_new before r rs own)
not_both k names before (row ∷ rows) (r ∷ rs) n h own (inr later) =
    let same : later.0 ≡ r = record_once names row later.0 r later.3 h.0 in
    not_both k names (before ++ (r ∷ [])) rows rs later.1 h.1 (subst HaveOwnKeys (sym (append_assoc before (r ∷ []) rs)) own) (subst (λ (x : Record). FaultFrom k names (before ++ (x ∷ [])) rows later.1) same later.5)

faults_once : (k l : Kind) (names : List Text) (before : List Record) (rows : List (List Text)) (m n : ℕ) → FaultFrom k names before rows m → FaultFrom l names before rows n → (m ≡ n) × (k ≡ l)
faults_once k l names before [] m n f g = absurd f
faults_once k l names before (row ∷ rows) m n (inl f) (inl g) = (f.0 ∙ sym g.0, kind_once names row before k l f.1 g.1)
faults_once k l names before (row ∷ rows) m n (inl f) (inr g) = absurd (no_fault k names before row g.0 f.1 g.3 g.4)
faults_once k l names before (row ∷ rows) m n (inr f) (inl g) = absurd (no_fault l names before row f.0 g.1 f.3 f.4)
faults_once k l names before (row ∷ rows) m n (inr f) (inr g) =
    let same : g.0 ≡ f.0 = record_once names row g.0 f.0 g.3 f.3 in
    let more = faults_once k l names (before ++ (f.0 ∷ [])) rows f.1 g.1 f.5 (subst (λ (x : Record). FaultFrom l names (before ++ (x ∷ [])) rows g.1) same g.5) in
    let fn = f.2 in
    let gn = g.2 in
    let mn = more.0 in
    (omega arith, more.1)

-- a first row is the header of one list of names
same_names : (row names others : List Text) → IsHeader row names → IsHeader row others → others ≡ names
same_names row names others h g = let a = h.fields in let b = g.fields in cc

-- why a text is refused, by the kinds of faults
data Why (bytes : List ℕ) : TableFault → Type 0 where
  too_long : longest_table + 1 ≤ length bytes → Why bytes whole.TableLong
  no_header : length bytes ≤ longest_table → IsNoHeader (csv_rows bytes) → Why bytes whole.Header
  breaks : (n : ℕ) (k : Kind) → BreaksAt bytes n (FaultOf k) → Why bytes (fault_of n k)

why : (bytes : List ℕ) (f : TableFault) → TableSays bytes (Err f) → Why bytes f
why bytes whole.TableLong h = too_long (omega (arith, h))
why bytes whole.Header h = no_header h.0 h.1
why bytes (whole.Width n) h = breaks n width h
why bytes (whole.Employee n) h = breaks n employee h
why bytes (whole.Month n) h = breaks n month h
why bytes (whole.Day n) h = breaks n day h
why bytes (whole.Value n name) h = breaks n (value name) h
why bytes (whole.Repeat n) h = breaks n repeat h
why bytes (whole.Memory e) h = absurd h

no_header_then : (rows : List (List Text)) (header names : List Text) (rest : List (List Text)) → rows ≡ header ∷ rest → IsHeader header names → IsNoHeader rows → ⊥
no_header_then [] header names rest e h none = cc e
no_header_then (row ∷ rows) header names rest e h none = let same : row ≡ header = cc in none names (subst (λ (r : List Text). IsHeader r names) (sym same) h)

module _ (bytes : List ℕ) where
  breaks_once : (m n : ℕ) (k l : Kind) → BreaksAt bytes m (FaultOf k) → BreaksAt bytes n (FaultOf l) → (m ≡ n) × (k ≡ l)
  breaks_once m n k l h g =
      let p = h.read in
      let q = g.read in
      let headers : g.header ≡ h.header = cc in
      let rows : g.rows ≡ h.rows = cc in
      let names : g.names ≡ h.names = same_names h.header h.names g.names h.is_header (subst (λ (r : List Text). IsHeader r g.names) headers g.is_header) in
      faults_once k l h.names [] h.rows m n (fault_from k h.names h.rows m h.first)
      (subst (λ (rs : List (List Text)). FaultFrom l h.names [] rs n) rows (subst (λ (ns : List Text). FaultFrom l ns [] g.rows n) names (fault_from l g.names g.rows n g.first)))

  table_breaks : (records : List Record) (n : ℕ) (k : Kind) → IsTable bytes records → BreaksAt bytes n (FaultOf k) → ⊥
  table_breaks records n k h g =
      let p = h.read in
      let q = g.read in
      let headers : g.header ≡ h.header = cc in
      let rows : g.rows ≡ h.rows = cc in
      let names : g.names ≡ h.names = same_names h.header h.names g.names h.is_header (subst (λ (r : List Text). IsHeader r g.names) headers g.is_header) in
      not_both k h.names [] h.rows records n h.are_records.each h.are_records.own_keys
      (subst (λ (rs : List (List Text)). FaultFrom k h.names [] rs n) rows (subst (λ (ns : List Text). FaultFrom k ns [] g.rows n) names (fault_from k g.names g.rows n g.first)))

  tables_once : (rs ss : List Record) → IsTable bytes rs → IsTable bytes ss → rs ≡ ss
  tables_once rs ss h g =
      let p = h.read in
      let q = g.read in
      let headers : g.header ≡ h.header = cc in
      let rows : g.rows ≡ h.rows = cc in
      let names : g.names ≡ h.names = same_names h.header h.names g.names h.is_header (subst (λ (r : List Text). IsHeader r g.names) headers g.is_header) in
      records_once h.names h.rows rs ss h.are_records.each
      (subst (λ (xs : List (List Text)). AllZip (IsRecordOf h.names) xs ss) rows (subst (λ (ns : List Text). AllZip (IsRecordOf ns) g.rows ss) names g.are_records.each))

  whys_once : (f g : TableFault) → Why bytes f → Why bytes g → f ≡ g
  whys_once f g (too_long l) (too_long m) = refl
  whys_once f g (too_long l) (no_header s n) = absurd (omega arith)
  whys_once f g (too_long l) (breaks n k b) = absurd (let short = b.short in omega arith)
  whys_once f g (no_header s n) (too_long l) = absurd (omega arith)
  whys_once f g (no_header s n) (no_header t m) = refl
  whys_once f g (no_header s n) (breaks m k b) = absurd (no_header_then _ b.header b.names b.rows b.read b.is_header n)
  whys_once f g (breaks n k b) (too_long l) = absurd (let short = b.short in omega arith)
  whys_once f g (breaks m k b) (no_header s n) = absurd (no_header_then _ b.header b.names b.rows b.read b.is_header n)
  whys_once f g (breaks m k b) (breaks n l d) = let same = breaks_once m n k l b d in rw (same.0, same.1) refl

  table_why : (records : List Record) (f : TableFault) → IsTable bytes records → Why bytes f → ⊥
  table_why records f h (too_long l) = let short = h.short in omega arith
  table_why records f h (no_header s n) = no_header_then _ h.header h.names h.rows h.read h.is_header n
  table_why records f h (breaks n k b) = table_breaks records n k h b

  pub table_once : (x y : Result (List Record) TableFault) → TableSays bytes x → TableSays bytes y → x ≡ y
  table_once (Ok rs) (Ok ss) h g = ap Ok (tables_once rs ss h g)
  table_once (Ok rs) (Err f) h g = absurd (table_why rs f h (why bytes f g))
  table_once (Err f) (Ok ss) h g = absurd (table_why ss f g (why bytes f h))
  table_once (Err f) (Err e) h g = ap Err (whys_once f e (why bytes f h) (why bytes e g))
