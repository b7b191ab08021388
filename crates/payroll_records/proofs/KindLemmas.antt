-- The faults of a row by their kind: a row has one fault at most, and none where it gives a record.
use Rattle.std.proofs.Common.{◌≡◌, ℕ, zero, suc, ◌<◌, ◌≤◌, List, [], ◌∷◌, length, refl, sym, ap, ◌∙◌, subst, arith, ◌⊎◌, inl, inr, below_more}
use Rattle.std.specs.List.{Contains}
use Rattle.std.specs.declared.cmp.Ordering.TheVariants.{Less, Greater}
use Rattle.std.specs.Ordering.{ordering_reverse}
use Rattle.std.specs.Cmp.Lexicographic.{nat_list_cmp_total}
use Rattle.std.proofs.lemmas.Bool.{cases_lt}
use Rattle.std.proofs.lemmas.Cmp.{tied_itself}
use Rattle.rising_lists.specs.Keyed.{AreAbove, IsRising}
use Rattle.rising_lists.proofs.Laws.{above_all}
use Rattle.payroll_records.specs.NamedValues.{name_cmp, name_of}
use Rattle.payroll_records.specs.Tables.{Text, FitsHeader, HasEmployee, HasMonth, HasDay, IsReadable, cell_of, field_of, IsRecordOf, key_of, WrongWidth, WrongEmployee, WrongMonth, WrongDay, WrongValue, Repeats, name_at}
use Rattle.payroll_records.specs.declared.day.Day.{Day}
use Rattle.payroll_records.specs.declared.record.Record.{Record}
use Rattle.payroll_records.specs.declared.table.TableFault.{TableFault}
use Rattle.payroll_records.specs.declared.table.TableFault.TheVariants as whole
use Rattle.payroll_records.specs.declared.values.NamedValue.{NamedValue}
use Rattle.payroll_records.proofs.KeyLemmas.{HasKey}
use Rattle.payroll_records.proofs.SpellingLemmas.{days_once}

-- values with rising names are known by what they contain
contained_in : (x : NamedValue) (xs : List NamedValue) (v : NamedValue) → Contains (x ∷ xs) v → (x ≡ v) ⊎ Contains xs v
contained_in x xs v (zero, l, e) = inl e
contained_in x xs v (suc i, l, e) = inr (i, omega (arith, l), e)

above_contained : (x : NamedValue) (xs : List NamedValue) (v : NamedValue) → AreAbove name_cmp name_of x.name xs → Contains xs v → name_cmp x.name v.name ≡ Less
above_contained x xs v h c =
    subst (λ (w : NamedValue). name_cmp x.name w.name ≡ Less) c.2 (above_all name_cmp nat_list_cmp_total name_of x.name xs c.0 v h c.1)

not_itself : (x : NamedValue) (xs : List NamedValue) (v : NamedValue) → AreAbove name_cmp name_of x.name xs → Contains xs v → x ≡ v → ⊥
not_itself x xs v h c e =
    let less = above_contained x xs v h c in
    let tied = tied_itself nat_list_cmp_total v.name in
    let named = ap name_of e in
    cc

SameMembers : List NamedValue → List NamedValue → Type 0
SameMembers xs ys = (v : NamedValue) → (Contains xs v → Contains ys v) × (Contains ys v → Contains xs v)

tails_same : (x y : NamedValue) (xs ys : List NamedValue) → AreAbove name_cmp name_of x.name xs → AreAbove name_cmp name_of y.name ys → x ≡ y → SameMembers (x ∷ xs) (y ∷ ys) → SameMembers xs ys
unfolding SameMembers
tails_same x y xs ys h k e same v = (
  λ c. elim (contained_in y ys v ((same v).0 (suc c.0, omega (arith, c.1), c.2))) [ inl f ↦ absurd (not_itself x xs v h c (e ∙ f)) | inr d ↦ d ],
  λ c. elim (contained_in x xs v ((same v).1 (suc c.0, omega (arith, c.1), c.2))) [ inl f ↦ absurd (not_itself y ys v k c (sym e ∙ f)) | inr d ↦ d ],
)

heads_same : (x y : NamedValue) (xs ys : List NamedValue) → AreAbove name_cmp name_of x.name xs → AreAbove name_cmp name_of y.name ys → SameMembers (x ∷ xs) (y ∷ ys) → x ≡ y
unfolding SameMembers
heads_same x y xs ys h k same = elim (contained_in y ys x ((same x).0 (zero, omega arith, refl))) [
  | inl e ↦ sym e
  | inr c ↦ elim (contained_in x xs y ((same y).1 (zero, omega arith, refl))) [
    | inl e ↦ e
    | inr d ↦ absurd (
        let less = above_contained y ys x k c in
        let more = above_contained x xs y h d in
        let back = nat_list_cmp_total.antisymm x.name y.name in
        let turned : name_cmp x.name y.name ≡ Greater = back ∙ ap ordering_reverse less in
        cc)
  ]
]

rising_once : (xs ys : List NamedValue) → IsRising name_cmp name_of xs → IsRising name_cmp name_of ys → SameMembers xs ys → xs ≡ ys
unfolding SameMembers
rising_once [] [] h k same = refl
rising_once [] (y ∷ ys) h k same = absurd (let c = (same y).1 (zero, omega arith, refl) in omega (arith, c.1))
rising_once (x ∷ xs) [] h k same = absurd (let c = (same x).0 (zero, omega arith, refl) in omega (arith, c.1))
rising_once (x ∷ xs) (y ∷ ys) h k same =
    let first : x ≡ y = heads_same x y xs ys h.0 k.0 same in
    let rest : xs ≡ ys = rising_once xs ys h.1 k.1 (tails_same x y xs ys h.0 k.0 first same) in
    cc

pub members_once : (xs ys : List NamedValue) → IsRising name_cmp name_of xs → IsRising name_cmp name_of ys → ((v : NamedValue) → Contains xs v → Contains ys v) → ((v : NamedValue) → Contains ys v → Contains xs v) → xs ≡ ys
unfolding SameMembers
members_once xs ys h k there back = rising_once xs ys h k (λ v. (there v, back v))

pub same_record : (r s : Record) → r.employee ≡ s.employee → r.day ≡ s.day → r.values ≡ s.values → r ≡ s
same_record r s e d v =
    ap (λ (x : Text). make x r.day r.values) e ∙ ap (λ (x : Day). make s.employee x r.values) d ∙ ap (λ (x : List NamedValue). make s.employee s.day x) v
  where
    make : Text → Day → List NamedValue → Record
    make employee day values = record { employee = employee; day = day; values = values }

-- a row gives one record at most
pub record_once : (names row : List Text) (r s : Record) → IsRecordOf names row r → IsRecordOf names row s → r ≡ s
unfolding SameMembers
record_once names row r s h k = same_record r s (h.employee ∙ sym k.employee)
    (days_once (field_of row 2) r.day s.day h.day.0 k.day.0)
    (rising_once r.values s.values h.in_order.rising k.in_order.rising (λ v. (λ c. (k.values v).1 ((h.values v).0 c), λ c. (h.values v).1 ((k.values v).0 c))))

-- the faults of a row, in the order in which they are tried
pub data Kind : Type 0 where
  width : Kind
  employee : Kind
  month : Kind
  day : Kind
  value : Text → Kind
  repeat : Kind

abbrev pub FaultOf : Kind → List Text → List Record → List Text → Type 0
FaultOf width names before row = WrongWidth names row
FaultOf employee names before row = WrongEmployee names row
FaultOf month names before row = WrongMonth names row
FaultOf day names before row = WrongDay names row
FaultOf (value name) names before row = WrongValue name names row
FaultOf repeat names before row = Repeats names before row

abbrev pub fault_of : ℕ → Kind → TableFault
fault_of n width = whole.Width n
fault_of n employee = whole.Employee n
fault_of n month = whole.Month n
fault_of n day = whole.Day n
fault_of n (value name) = whole.Value n name
fault_of n repeat = whole.Repeat n

month_of_day : (row : List Text) → HasDay row → HasMonth row
month_of_day row h = (h.0, h.1, h.3.1)

-- a row that gives a record of a new key has no fault
pub no_fault : (k : Kind) (names : List Text) (before : List Record) (row : List Text) (r : Record) → FaultOf k names before row → IsRecordOf names row r → (HasKey before (key_of r) → ⊥) → ⊥
no_fault width names before row r h is new = h is.wide
no_fault employee names before row r h is new = h.1 is.has_employee
no_fault month names before row r h is new = h.2 (month_of_day row (_, _, _, is.day))
no_fault day names before row r h is new = h.3 (_, _, _, is.day)
no_fault (value name) names before row r h is new = h.broken (is.readable h.column h.within)
no_fault repeat names before row r h is new = new (subst (λ (s : Record). HasKey before (key_of s)) (record_once names row h.of_row r h.is_record is) h.repeated)

-- what is tried of a row, and the first of it that fails
Passes : List Text → List Text → ℕ → Type 0
Passes names row zero = FitsHeader names row
Passes names row (suc zero) = HasEmployee row
Passes names row (suc (suc zero)) = HasMonth row
Passes names row (suc (suc (suc zero))) = HasDay row
Passes names row (suc (suc (suc (suc n)))) = (i : ℕ) → i < length names → IsReadable (cell_of row i)

rank : Kind → ℕ
rank width = 0
rank employee = 1
rank month = 2
rank day = 3
rank (value name) = 4
rank repeat = 5

record Stops (names row : List Text) (k : ℕ) : Type 0 where
  before : (j : ℕ) → j < k → Passes names row j
  here : k < 5 → Passes names row k → ⊥

module _ (names row : List Text) where
  P : ℕ → Type 0
  P = Passes names row

  to_0 : (j : ℕ) → j < 0 → P j
  to_0 j l = absurd (omega (arith, l))

  to_1 : FitsHeader names row → (j : ℕ) → j < 1 → P j
  unfolding P Passes
  to_1 w = below_more P 0 to_0 w

  to_2 : FitsHeader names row → HasEmployee row → (j : ℕ) → j < 2 → P j
  unfolding P Passes
  to_2 w e = below_more P 1 (to_1 w) e

  to_3 : FitsHeader names row → HasEmployee row → HasMonth row → (j : ℕ) → j < 3 → P j
  unfolding P Passes
  to_3 w e m = below_more P 2 (to_2 w e) m

  to_4 : FitsHeader names row → HasEmployee row → HasDay row → (j : ℕ) → j < 4 → P j
  unfolding P Passes
  to_4 w e d = below_more P 3 (to_3 w e (month_of_day row d)) d

  stops : (k : Kind) (before : List Record) → FaultOf k names before row → Stops names row (rank k)
  unfolding P Passes rank
  stops width before h = record { before = to_0; here = λ _ p. h p }
  stops employee before h = record { before = to_1 h.0; here = λ _ p. h.1 p }
  stops month before h = record { before = to_2 h.0 h.1; here = λ _ p. h.2 p }
  stops day before h = record { before = to_3 h.0 h.1 h.2; here = λ _ p. h.3 p }
  stops (value name) before h = record { before = to_4 h.wide h.employee h.day; here = λ _ p. h.broken (p h.column h.within) }
  stops repeat before h = record {
    before = below_more P 4 (to_4 h.is_record.wide h.is_record.has_employee (_, _, _, h.is_record.day)) h.is_record.readable;
    here = λ l _. omega (arith, l);
  }

rank_least : (k : Kind) → rank k ≤ 5
unfolding rank
rank_least width = omega arith
rank_least employee = omega arith
rank_least month = omega arith
rank_least day = omega arith
rank_least (value name) = omega arith
rank_least repeat = omega arith

not_below : (names row : List Text) (before : List Record) (k l : Kind) → FaultOf k names before row → FaultOf l names before row → rank k < rank l → ⊥
not_below names row before k l h g less =
    (stops names row k before h).here (omega (arith, rank_least l)) ((stops names row l before g).before (rank k) less)

-- the leftmost broken cell is one
value_once : (names row : List Text) (m n : Text) → WrongValue m names row → WrongValue n names row → m ≡ n
value_once names row m n h g = elim (cases_lt h.column g.column) [
  | inl left ↦ absurd (h.broken (g.earlier h.column left))
  | inr not_less ↦ elim (cases_lt g.column h.column) [
    | inl right ↦ absurd (g.broken (h.earlier g.column right))
    | inr not_more ↦ let same : h.column ≡ g.column = omega arith in sym h.named ∙ ap (name_at names) same ∙ g.named
  ]
]

-- a row has one fault at most
pub kind_once : (names row : List Text) (before : List Record) (k l : Kind) → FaultOf k names before row → FaultOf l names before row → k ≡ l
unfolding rank
kind_once names row before k l h g = elim (cases_lt (rank k) (rank l)) [
  | inl less ↦ absurd (not_below names row before k l h g less)
  | inr not_less ↦ elim (cases_lt (rank l) (rank k)) [
    | inl more ↦ absurd (not_below names row before l k g h more)
    | inr not_more ↦ by k l h g (omega arith)
  ]
] where
  by : (k l : Kind) → FaultOf k names before row → FaultOf l names before row → rank k ≡ rank l → k ≡ l
  by width width h g e = refl
  by employee employee h g e = refl
  by month month h g e = refl
  by day day h g e = refl
  by (value m) (value n) h g e = ap value (value_once names row m n h g)
  by repeat repeat h g e = refl
  by k l h g e = absurd (omega (arith, e))
