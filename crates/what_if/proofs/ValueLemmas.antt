-- The rows of outputs that stand side by side are those of the names that either state has, in order.
use Rattle.std.proofs.Common.{◌≡◌, ℕ, List, [], ◌∷◌, ◌++◌, map, Bool, true, false, if◌then◌else◌, Option, Some, None, option_map, refl, sym, ap, ap₂, ◌∙◌}
use Rattle.std.specs.Prelude.{option_and_then}
use Rattle.std.specs.List.{filter_map, find}
use Rattle.std.specs.Ordering.{is_eq}
use Rattle.std.specs.Str.{bytes_eq}
use Rattle.std.specs.Cmp.Lexicographic.{nat_list_cmp_total}
use Rattle.std.proofs.lemmas.Map.Text.{is_eq-slice_cmp}
use Rattle.scaled_decimal.specs.Decimals.{Decimal}
use Rattle.rising_lists.specs.Keyed.{at_key, IsRising}
use Rattle.rising_lists.proofs.Laws.{at_key_filter_map, at_key_put, found_in, put_rising, rising_filter_map, some_same, text_same}
use Rattle.payroll_records.specs.declared.record.Key.{Key}
use Rattle.payroll_records.specs.declared.values.NamedValue.{NamedValue}
use Rattle.payroll_records.specs.NamedValues.{name_cmp, name_of, value_at}
use Rattle.carry_bindings.specs.Carrying.{named}
use Rattle.what_if.specs.declared.sides.Side.{Side}
use Rattle.what_if.specs.declared.trial.TrialRow.{TrialRow}
use Rattle.what_if.specs.declared.trial.TrialRow.TheVariants.{Changed, Value}
use Rattle.what_if.specs.Changes.{in_order, same_amount, value_row, value_rows}
use Rattle.what_if.specs.private.SideViews.{AreOrdered, side_row, sides_of}
use Rattle.what_if.proofs.RisingLemmas.{same_at}
use Rattle.what_if.proofs.SideLemmas.{at_sides, met, side_name, sides_rising}

-- ---- what stands under a name

abbrev value_of : NamedValue → Decimal
value_of v = v.value

named_at : (vs : List NamedValue) (n : List ℕ) → option_map value_of (value_at vs n) ≡ named n vs
named_at vs n = ap (option_map value_of) (find_is vs)
  where
    find_is : (vs : List NamedValue) → value_at vs n ≡ find (λ v. bytes_eq v.name n) vs
    find_is [] = refl
    find_is (v ∷ vs) = λ i. if is_eq-slice_cmp v.name n i then Some v else find_is vs i

-- ---- names in order

abbrev itself : List ℕ → List ℕ
itself n = n

abbrev name_at : List (List ℕ) → List ℕ → Option (List ℕ)
name_at ns n = at_key name_cmp itself ns n

names_rising : (ns : List (List ℕ)) → IsRising name_cmp itself (in_order ns)
names_rising [] = tt
names_rising (n ∷ ns) = put_rising name_cmp nat_list_cmp_total itself n (in_order ns) (names_rising ns)

if_none : {X : Type 0} (b : Bool) (x : X) (o : Option X) → (if b then Some x else o) ≡ None → (b ≡ false) × (o ≡ None)
if_none true x o e = absurd (cc e)
if_none false x o e = (refl, e)

-- a name that isn't there is the name of no output
not_named : (vs : List NamedValue) (n : List ℕ) → name_at (in_order (map name_of vs)) n ≡ None → value_at vs n ≡ None
not_named [] n h = refl
not_named (v ∷ vs) n h =
    let both = if_none (is_eq (name_cmp v.name n)) v.name (name_at (in_order (map name_of vs)) n)
    (sym (at_key_put name_cmp nat_list_cmp_total itself v.name (in_order (map name_of vs)) n) ∙ h) in
    ap (λ b. if b then Some v else value_at vs n) both.0 ∙ not_named vs n both.1

none_before : (vs ws : List NamedValue) (n : List ℕ) → value_at (vs ++ ws) n ≡ None → value_at vs n ≡ None
none_before [] ws n h = refl
none_before (v ∷ vs) ws n h =
    let both = if_none (is_eq (name_cmp v.name n)) v (value_at (vs ++ ws) n) h in
    ap (λ b. if b then Some v else value_at vs n) both.0 ∙ none_before vs ws n both.1

none_after : (vs ws : List NamedValue) (n : List ℕ) → value_at (vs ++ ws) n ≡ None → value_at ws n ≡ None
none_after [] ws n h = h
none_after (v ∷ vs) ws n h = none_after vs ws n (if_none (is_eq (name_cmp v.name n)) v (value_at (vs ++ ws) n) h).1

-- ---- the rows

abbrev pub row_name : TrialRow → List ℕ
row_name (Changed k b a) = []
row_name (Value k n b a) = n

-- the row of a name with these two values
abbrev row_with : Key → List ℕ → Option Decimal → Option Decimal → Option TrialRow
row_with k n was is = if same_amount was is then None else Some (Value k n was is)

row_keeps : (k : Key) (n : List ℕ) (was is : Option Decimal) (row : TrialRow) → row_with k n was is ≡ Some row →
    row_name row ≡ n
row_keeps k n was is row e = by (same_amount was is) e
  where
    by : (b : Bool) → (if b then None else Some (Value k n was is)) ≡ Some row → row_name row ≡ n
    by true f = absurd (cc f)
    by false f = sym (ap row_name (some_same (Value k n was is) row f))

module _ (k : Key) (before after : List NamedValue) where
  row_at : List TrialRow → List ℕ → Option TrialRow
  row_at rows n = at_key name_cmp row_name rows n

  abbrev listed : List (List ℕ)
  listed = in_order (map name_of (before ++ after))

  rows_rising : IsRising name_cmp row_name (value_rows k before after)
  rows_rising = rising_filter_map name_cmp nat_list_cmp_total itself row_name (value_row k before after)
      (λ n row e. row_keeps k n (named n before) (named n after) row e) listed
      (names_rising (map name_of (before ++ after)))

  -- the row of a name is that of its two values, whether or not they are there
  pub rows_at : (n : List ℕ) → at_key name_cmp row_name (value_rows k before after) n ≡ value_row k before after n
  rows_at n =
      at_key_filter_map name_cmp nat_list_cmp_total itself row_name (value_row k before after)
      (λ m row e. row_keeps k m (named m before) (named m after) row e) listed n
      (names_rising (map name_of (before ++ after)))
      ∙ by (name_at listed n) refl
    where
      by : (o : Option (List ℕ)) → name_at listed n ≡ o → option_and_then (value_row k before after) o ≡ value_row k
          before after n
      by (Some m) e = ap (value_row k before after) (text_same m n (found_in name_cmp itself listed n m e).1)
      by None e =
          let none = not_named (before ++ after) n e in
          let was : named n before ≡ None = sym (named_at before n)
          ∙ ap (option_map value_of) (none_before before after n none) in
          let is : named n after ≡ None = sym (named_at after n)
          ∙ ap (option_map value_of) (none_after before after n none) in
          sym (ap₂ (row_with k n) was is)

  module _ (vs ws : List NamedValue) (left : AreOrdered before vs) (right : AreOrdered after ws) where
    side_keeps : (s : Side) (row : TrialRow) → side_row k s ≡ Some row → row_name row ≡ side_name s
    side_keeps s row e = row_keeps k s.name s.before s.after row e

    sides_row : (n : List ℕ) (v w : Option NamedValue) → value_at vs n ≡ v → value_at ws n ≡ w →
        option_and_then (side_row k) (met v w) ≡ row_with k n (option_map value_of v) (option_map value_of w)
    sides_row n None None e f = refl
    sides_row n None (Some w) e f = ap (λ m. row_with k m None (Some w.value))
        (text_same w.name n (found_in name_cmp name_of ws n w f).1)
    sides_row n (Some v) None e f = ap (λ m. row_with k m (Some v.value) None)
        (text_same v.name n (found_in name_cmp name_of vs n v e).1)
    sides_row n (Some v) (Some w) e f = ap (λ m. row_with k m (Some v.value) (Some w.value))
        (text_same v.name n (found_in name_cmp name_of vs n v e).1)

    sides_at : (n : List ℕ) → at_key name_cmp row_name (filter_map (side_row k) (sides_of vs ws)) n ≡ value_row k
        before after n
    sides_at n =
        at_key_filter_map name_cmp nat_list_cmp_total side_name row_name (side_row k) side_keeps (sides_of vs ws) n
        (sides_rising vs ws left.rising right.rising)
        ∙ ap (option_and_then (side_row k)) (at_sides n vs ws left.rising right.rising)
        ∙ sides_row n (value_at vs n) (value_at ws n) refl refl
        ∙ ap₂ (row_with k n) (ap (option_map value_of) (left.at n) ∙ named_at before n)
        (ap (option_map value_of) (right.at n) ∙ named_at after n)

    pub side_rows : filter_map (side_row k) (sides_of vs ws) ≡ value_rows k before after
    side_rows = same_at name_cmp nat_list_cmp_total row_name (filter_map (side_row k) (sides_of vs ws))
        (value_rows k before after)
        (rising_filter_map name_cmp nat_list_cmp_total side_name row_name (side_row k) side_keeps (sides_of vs ws)
        (sides_rising vs ws left.rising right.rising))
        rows_rising (λ n. sides_at n ∙ sym (rows_at n))
