-- The values of a row, column by column.
use Rattle.std.proofs.Common.{◌≡◌, ℕ, zero, suc, ◌+◌, ◌<◌, ◌≤◌, ◌⊎◌, ◌==◌, Bool, true, false, List, [], ◌∷◌, ◌++◌, Option, length, get_or, refl, sym, ap, subst, ◌∙◌, arith, length-append, inl, inr}
use Rattle.std.specs.Prelude.{◌↔◌, Some, None, Result, Ok, Err}
use Rattle.std.specs.List.{AllByRecursion, Contains}
use Rattle.std.specs.declared.cmp.Ordering.TheVariants.{Less}
use Rattle.std.specs.Cmp.Lexicographic.{nat_list_cmp_total}
use Rattle.std.proofs.lemmas.Bool.{cases_lt}
use Rattle.std.proofs.lemmas.Bool.Decides.{nat_tests}
use Rattle.std.proofs.lemmas.List.{get_or_default}
use Rattle.std.proofs.Math.ListN.{get_or-append}
use Rattle.std.proofs.Math.Seq.{get_or-append_seam}
use Rattle.std.proofs.lemmas.List.Elements.{Contains-append_left, Contains-append_right}
use Rattle.scaled_decimal.specs.Decimals.{Decimal}
use Rattle.scaled_decimal.specs.declared.reading.NumFault.{NumFault}
use Rattle.rising_lists.proofs.Laws.{rising_append, rising_far}
use Rattle.payroll_records.specs.NamedValues.{name_cmp, name_of}
use Rattle.payroll_records.specs.Tables.{Text, Supplies, IsNumberText, IsReadable, cell_of, name_at}
use Rattle.payroll_records.specs.private.TableViews.{AreColumns, IsColumnOf, column_name}
use Rattle.payroll_records.specs.private.CellViews.{AreNumbersOf, AreValuesOf, IsFirstBroken, IsNumberOf, column_at, number_at}
use Rattle.payroll_records.specs.declared.header.Column.{Column}
use Rattle.payroll_records.specs.declared.values.NamedValue.{NamedValue}
use Rattle.payroll_records.proofs.ColumnLemmas.{at_name}

all_append : (P : NamedValue → Type 0) (xs : List NamedValue) (y : NamedValue) → AllByRecursion P xs → P y → AllByRecursion P (xs ++ (y ∷ []))
all_append P [] y h p = (p, tt)
all_append P (x ∷ xs) y h p = (h.0, all_append P xs y h.1 p)

all_contained : (P : NamedValue → Type 0) (xs : List NamedValue) (i : ℕ) (d : NamedValue) → AllByRecursion P xs → i < length xs → P (get_or xs i d)
all_contained P [] i d h l = absurd (omega arith)
all_contained P (x ∷ xs) zero d h l = h.0
all_contained P (x ∷ xs) (suc i) d h l = all_contained P xs i d h.1 (omega arith)

column_of : (names : List Text) (columns : List Column) (i : ℕ) (c : Column) → AllByRecursion (IsColumnOf names) columns → i < length columns → IsColumnOf names (get_or columns i c)
column_of names [] i c h l = absurd (omega arith)
column_of names (x ∷ xs) zero c h l = h.0
column_of names (x ∷ xs) (suc i) c h l = column_of names xs i c h.1 (omega arith)

-- ---- the numbers of the cells

pub no_numbers : (row : List Text) → AreNumbersOf row 0 []
no_numbers row = record { same = refl; each = λ i lt. absurd (omega arith) }

pub numbers_more : (row : List Text) (i : ℕ) (numbers : List (Option Decimal)) (number : Option Decimal) →
    AreNumbersOf row i numbers → IsNumberOf (cell_of row i) number → AreNumbersOf row (i + 1) (numbers ++ (number ∷ []))
numbers_more row i numbers number are is = record {
  same = omega (arith, length-append numbers (number ∷ []), are.same);
  each = λ j lt. by j (cases_lt j i) lt;
} where
  by : (j : ℕ) → (j < i) ⊎ (i ≤ j) → j < i + 1 → IsNumberOf (cell_of row j) (number_at (numbers ++ (number ∷ [])) j)
  by j (inl old) lt =
      subst (λ v. IsNumberOf (cell_of row j) v) (sym (get_or-append numbers (number ∷ []) None j (omega (arith, are.same))))
      (are.each j old)
  by j (inr last) lt =
      let here : i ≡ j = omega arith in
      let there : length numbers ≡ j = are.same ∙ here in
      subst (λ v. IsNumberOf (cell_of row j) v)
      (sym (get_or-append_seam numbers number [] None) ∙ ap (λ k. number_at (numbers ++ (number ∷ [])) k) there)
      (subst (λ k. IsNumberOf (cell_of row k) number) here is)

-- where the first cells are readable and one more isn't, it is the leftmost broken one
pub first_broken : (row : List Text) (count k : ℕ) (numbers : List (Option Decimal)) → k < count →
    AreNumbersOf row k numbers → (IsReadable (cell_of row k) → ⊥) → IsFirstBroken row count k
first_broken row count k numbers within are broken = record {
  within = within;
  earlier = λ i lt. (are.each i lt).readable;
  broken = broken;
}

-- ---- one cell

pub nothing_in : (cell : Text) (is_empty : Bool) → is_empty ≡ (length cell == 0) → is_empty ≡ true → cell ≡ []
nothing_in [] is_empty is test = refl
nothing_in (b ∷ cell) is_empty is test = absurd (some is_empty is test)
  where
    some : (r : Bool) → r ≡ (length (b ∷ cell) == 0) → r ≡ true → ⊥
    some r same holds = grind (arith, nat_tests)

pub something_in : (cell : Text) (is_empty : Bool) → is_empty ≡ (length cell == 0) → is_empty ≡ false → cell ≡ [] → ⊥
something_in cell is_empty is test none = let size : length cell ≡ 0 = omega (arith, ap length none) in grind (arith, nat_tests)

pub spells_number : (cell : Text) (value : Decimal) (read : Result Decimal NumFault) → read ≡ Ok value →
    ((d : Decimal) → (read ≡ Ok d) ↔ IsNumberText cell d) → IsNumberOf cell (Some value)
spells_number cell value read is exact = record {
  readable = inr (value, (exact value).0 is);
  exact = λ d. (λ same. (exact d).0 (is ∙ ok_of same), λ spelled. some_of (sym is ∙ (exact d).1 spelled));
} where
  ok_of : {d : Decimal} → Some value ≡ Some d → ◌≡◌ {A = Result Decimal NumFault} (Ok value) (Ok d)
  ok_of same = cc

  some_of : {d : Decimal} → ◌≡◌ {A = Result Decimal NumFault} (Ok value) (Ok d) → Some value ≡ Some d
  some_of same = cc

spells_nothing : (cell : Text) (fault : NumFault) (read : Result Decimal NumFault) → read ≡ Err fault →
    ((d : Decimal) → (read ≡ Ok d) ↔ IsNumberText cell d) → (d : Decimal) → IsNumberText cell d → ⊥
spells_nothing cell fault read is exact d spelled = let ok : read ≡ Ok d = (exact d).1 spelled in cc

pub is_blank : (cell : Text) (fault : NumFault) (read : Result Decimal NumFault) → read ≡ Err fault →
    ((d : Decimal) → (read ≡ Ok d) ↔ IsNumberText cell d) → cell ≡ [] → IsNumberOf cell None
is_blank cell fault read is exact empty = record {
  readable = inl empty;
  exact = λ d. (λ some. absurd (cc some), λ spelled. absurd (spells_nothing cell fault read is exact d spelled));
}

pub is_broken : (cell : Text) (fault : NumFault) (read : Result Decimal NumFault) → read ≡ Err fault →
    ((d : Decimal) → (read ≡ Ok d) ↔ IsNumberText cell d) → (cell ≡ [] → ⊥) → IsReadable cell → ⊥
is_broken cell fault read is exact filled (inl empty) = filled empty
is_broken cell fault read is exact filled (inr number) = spells_nothing cell fault read is exact number.0 number.1

-- ---- the values of the columns

module _ (names : List Text) (columns : List Column) (row : List Text) (are : AreColumns names columns) where
  -- the number of a column's cell
  pub column_number : (numbers : List (Option Decimal)) → AreNumbersOf row (length names) numbers → (i : ℕ) (c : Column) →
      c ≡ get_or columns i c → i < length columns → IsNumberOf (cell_of row c.place) (number_at numbers c.place)
  column_number numbers cells i c is l =
      let column = subst (IsColumnOf names) (sym is) (column_of names columns i c are.each l) in
      cells.each c.place column.within

  pub no_values : AreValuesOf names columns row 0 []
  no_values = record { few = omega arith; rising = tt; supplied = tt; below = λ j c _ _. tt; all = λ j c d l _. absurd (omega arith) }

  -- a column whose cell spells no number
  pub value_passed : (i : ℕ) (c : Column) (values : List NamedValue) → c ≡ get_or columns i c → i < length columns → AreValuesOf names columns row i values →
      ((d : Decimal) → IsNumberText (cell_of row c.place) d → ⊥) → AreValuesOf names columns row (i + 1) values
  value_passed i c values is l h none = record {
    few = omega (arith, h.few);
    rising = h.rising;
    supplied = h.supplied;
    below = λ j e le lt. h.below j e (omega arith) lt;
    all = λ j e d lt t. by j e d (cases_lt j i) lt t;
  } where
    by : (j : ℕ) (e : Column) (d : Decimal) → (j < i) ⊎ (i ≤ j) → j < i + 1 → IsNumberText (cell_of row (column_at columns j e).place) d →
        Contains values (record { name = (column_at columns j e).name; value = d })
    by j e d (inl old) lt t = h.all j e d old t
    by j e d (inr last) lt t =
        let here : j ≡ i = omega arith in
        let same : column_at columns j e ≡ c = ap (λ k. get_or columns k e) here ∙ get_or_default columns i e c l ∙ sym is in
        absurd (none d (subst (λ (x : Column). IsNumberText (cell_of row x.place) d) same t))

  -- one whose cell spells this number
  pub value_added : (i : ℕ) (c : Column) (values : List NamedValue) (n : Decimal) → c ≡ get_or columns i c → i < length columns → AreValuesOf names columns row i values →
      IsNumberText (cell_of row c.place) n → ((d : Decimal) → IsNumberText (cell_of row c.place) d → d ≡ n) →
      AreValuesOf names columns row (i + 1) (values ++ (record { name = c.name; value = n } ∷ []))
  value_added i c values n is l h spelled only = record {
    few = omega (arith, h.few, length-append values (new ∷ []));
    rising = rising_append name_cmp nat_list_cmp_total name_of values new h.rising below_new;
    supplied = all_append (Supplies names row) values new h.supplied supplies;
    below = λ j e le lt. all_append (λ v. name_cmp v.name (column_at columns j e).name ≡ Less) values new (h.below j e (omega arith) lt) (above j e le lt);
    all = λ j e d lt t. by j e d (cases_lt j i) lt t;
  } where
    new : NamedValue
    new = record { name = c.name; value = n }

    below_new : AllByRecursion (λ v. name_cmp v.name c.name ≡ Less) values
    below_new = subst (λ (x : Column). AllByRecursion (λ v. name_cmp v.name x.name ≡ Less) values) (sym is) (h.below i c (omega arith) l)

    column : IsColumnOf names c
    column = subst (IsColumnOf names) (sym is) (column_of names columns i c are.each l)

    supplies : Supplies names row new
    supplies = record { column = c.place; within = column.within; named = column.named; spelled = spelled }

    above : (j : ℕ) (e : Column) → i + 1 ≤ j → j < length columns → name_cmp c.name (column_at columns j e).name ≡ Less
    above j e le lt =
        subst (λ (x : Column). name_cmp x.name (column_at columns j e).name ≡ Less) (get_or_default columns i e c l ∙ sym is)
        (rising_far name_cmp nat_list_cmp_total column_name columns i j e are.rising (omega arith) lt)

    by : (j : ℕ) (e : Column) (d : Decimal) → (j < i) ⊎ (i ≤ j) → j < i + 1 → IsNumberText (cell_of row (column_at columns j e).place) d →
        Contains (values ++ (new ∷ [])) (record { name = (column_at columns j e).name; value = d })
    by j e d (inl old) lt t = Contains-append_left values (new ∷ []) _ (h.all j e d old t)
    by j e d (inr last) lt t =
        let here : j ≡ i = omega arith in
        let same : column_at columns j e ≡ c = ap (λ k. get_or columns k e) here ∙ get_or_default columns i e c l ∙ sym is in
        let value : d ≡ n = only d (subst (λ (x : Column). IsNumberText (cell_of row x.place) d) same t) in
        rw (same, value) (Contains-append_right values (new ∷ []) new (0, omega arith, refl))

  -- the values of all columns are those that the row supplies
  pub values_supplied : (values : List NamedValue) (v : NamedValue) → AreValuesOf names columns row (length columns) values → Contains values v → Supplies names row v
  values_supplied values v h there = subst (Supplies names row) there.2 (all_contained (Supplies names row) values there.0 v h.supplied there.1)

  pub supplied_values : (values : List NamedValue) (v : NamedValue) → AreValuesOf names columns row (length columns) values → Supplies names row v → Contains values v
  supplied_values values v h s =
      let here = at_name (λ c. c.place ≡ c.place) columns (name_at names s.column) (record { name = name_at names s.column; place = s.column }) (are.all s.column s.within) (all_refl columns) in
      let there = here.2 in
      let found = h.all there.0 (record { name = name_at names s.column; place = s.column }) v.value there.1 (subst (λ (x : Column). IsNumberText (cell_of row x.place) v.value) (sym there.2) s.spelled) in
      rw (there.2, s.named) at found
    where
      all_refl : (cs : List Column) → AllByRecursion (λ c. c.place ≡ c.place) cs
      all_refl [] = tt
      all_refl (c ∷ cs) = (refl, all_refl cs)
