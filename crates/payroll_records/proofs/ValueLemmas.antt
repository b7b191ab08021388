-- The list of names and the list of numbers that values are kept as.
use Rattle.std.proofs.Common.{◌≡◌, ℕ, zero, suc, ◌<◌, ◌≤◌, List, [], ◌∷◌, ◌++◌, length, get_or, add-one, refl, sym, ap, subst, ◌∙◌, arith, Result, Ok, Err, inl, inr}
use Rattle.std.specs.Prelude.{drop, map, take, ◌&&◌, option_map, option_and_then, Bool, if◌then◌else◌, IfOk, IfErr, Option, Some, None, true, false, ◌-◌, ◌+◌, ◌⊎◌}
use Rattle.std.specs.List.{slice_get}
use Rattle.std.proofs.lemmas.Option.{slice_get-get_or, slice_get_cases}
use Rattle.std.specs.Str.{bytes_eq}
use Rattle.std.proofs.lemmas.Map.Text.{is_eq-slice_cmp}
use Rattle.std.specs.List.{insert}
use Rattle.std.specs.List.Sorted.{IsBinarySearchResult, IsSearchInRange}
use Rattle.std.specs.declared.cmp.Ordering.{Ordering}
use Rattle.std.specs.declared.cmp.Ordering.TheVariants.{Equal, Less, Greater}
use Rattle.std.specs.Ordering.{ordering_index, ordering_reverse, is_eq, is_lt}
use Rattle.std.specs.Cmp.Lexicographic.{nat_list_cmp_total}
use Rattle.std.proofs.lemmas.Cmp.{tied_itself}
use Rattle.std.proofs.lemmas.List.{get_or-map, get_or_default}
use Rattle.std.proofs.lemmas.List.Edits.{length-insert}
use Rattle.std.proofs.Math.ListN.{get_or-map as map_at, length-map}
use Rattle.std.proofs.lemmas.Slice.Eq.{bytes_eq-Decides}
use Rattle.std.proofs.lemmas.Bool.{false≢true}
use Rattle.scaled_decimal.specs.Decimals.{Decimal}
use Rattle.rising_lists.specs.Keyed.{AreAbove, IsRising}
use Rattle.rising_lists.specs.Places.{IsAt, IsGap, Finds, Misses}
use Rattle.rising_lists.proofs.Laws.{above_all, at_tail, found, gap_first, gap_tail, misses, put_rising, rising_far, searched}
use Rattle.payroll_records.specs.Tables.{Text}
use Rattle.payroll_records.specs.NamedValues.{name_cmp, name_of, place_at, value_at, with_value}
use Rattle.payroll_records.specs.KeptValues.{IsKeptAs, named_numbers}
use Rattle.payroll_records.specs.private.ValueViews.{goes_at, is_before, is_beyond, stands_at}
use Rattle.payroll_records.specs.declared.values.NamedValue.{NamedValue}

-- each of both lists is there whole
pub names_are : (names : List Text) (numbers : List Decimal) → length names ≡ length numbers → map name_of (named_numbers names numbers) ≡ names
names_are [] numbers e = refl
names_are (n ∷ names) [] e = absurd (omega (arith, e))
names_are (n ∷ names) (x ∷ numbers) e = ap (λ t. n ∷ t) (names_are names numbers (omega (arith, e)))

pub numbers_are : (names : List Text) (numbers : List Decimal) → length names ≡ length numbers → map (λ v. v.value) (named_numbers names numbers) ≡ numbers
numbers_are [] [] e = refl
numbers_are [] (x ∷ numbers) e = absurd (omega (arith, e))
numbers_are (n ∷ names) [] e = absurd (omega (arith, e))
numbers_are (n ∷ names) (x ∷ numbers) e = ap (λ t. x ∷ t) (numbers_are names numbers (omega (arith, e)))

pub named_length : (names : List Text) (numbers : List Decimal) → length names ≡ length numbers → length (named_numbers names numbers) ≡ length numbers
named_length [] [] e = refl
named_length [] (x ∷ numbers) e = absurd (omega (arith, e))
named_length (n ∷ names) [] e = absurd (omega (arith, e))
named_length (n ∷ names) (x ∷ numbers) e = ap suc (named_length names numbers (omega (arith, e)))

-- the number at a place
pub number_at : (names : List Text) (numbers : List Decimal) (i : ℕ) (v : NamedValue) → length names ≡ length numbers → (get_or (named_numbers names numbers) i v).value ≡ get_or numbers i v.value
number_at [] [] i v e = refl
number_at [] (x ∷ numbers) i v e = absurd (omega (arith, e))
number_at (n ∷ names) [] i v e = absurd (omega (arith, e))
number_at (n ∷ names) (x ∷ numbers) zero v e = refl
number_at (n ∷ names) (x ∷ numbers) (suc i) v e = number_at names numbers i v (omega (arith, e))

-- one more name and number, behind the others and at a place
pub named_more : (names : List Text) (numbers : List Decimal) (n : Text) (x : Decimal) → length names ≡ length numbers →
    named_numbers (names ++ (n ∷ [])) (numbers ++ (x ∷ [])) ≡ named_numbers names numbers ++ (record { name = n; value = x } ∷ [])
named_more [] [] n x e = refl
named_more [] (y ∷ numbers) n x e = absurd (omega (arith, e))
named_more (m ∷ names) [] n x e = absurd (omega (arith, e))
named_more (m ∷ names) (y ∷ numbers) n x e = ap (λ t. record { name = m; value = y } ∷ t) (named_more names numbers n x (omega (arith, e)))

pub named_inserted : (names : List Text) (numbers : List Decimal) (i : ℕ) (v : NamedValue) → length names ≡ length numbers →
    named_numbers (insert names i v.name) (insert numbers i v.value) ≡ insert (named_numbers names numbers) i v
named_inserted [] [] zero v e = refl
named_inserted [] [] (suc i) v e = refl
named_inserted [] (x ∷ numbers) i v e = absurd (omega (arith, e))
named_inserted (n ∷ names) [] i v e = absurd (omega (arith, e))
named_inserted (n ∷ names) (x ∷ numbers) zero v e = refl
named_inserted (n ∷ names) (x ∷ numbers) (suc i) v e = ap (λ t. record { name = n; value = x } ∷ t) (named_inserted names numbers i v (omega (arith, e)))

-- a binary search of the keys of elements is one of the elements by key
module _ {K X : Type 0} (answer : K → Ordering) (key : X → K) where
  rising : (xs : List X) (i j : ℕ) (k : K) → ((d : X) → ordering_index (answer (key (get_or xs i d))) ≤ ordering_index (answer (key (get_or xs j d)))) → i ≤ j → j < length xs →
      ordering_index (answer (get_or (map key xs) i k)) ≤ ordering_index (answer (get_or (map key xs) j k))
  rising [] i j k h le lt = absurd (omega arith)
  rising (x ∷ xs) i j k h le lt = rw (get_or-map key (x ∷ xs) i x k (omega arith), get_or-map key (x ∷ xs) j x k lt) (h x)

  pub searched_by : (xs : List X) (r : Result ℕ ℕ) → IsBinarySearchResult answer (map key xs) r → IsBinarySearchResult (λ x. answer (key x)) xs r
  searched_by xs (Ok i) h = λ d. subst (λ k. answer k ≡ Equal) (map_at key xs i d) (h (key d))
  searched_by xs (Err i) h = λ sorted.
      let parted = h (λ a b k le lt. rising xs a b k (λ d. sorted a b d le (omega (arith, lt, length-map xs key))) le (omega (arith, lt, length-map xs key))) in (
        λ j d low lt. subst (λ k. answer k ≡ Less) (map_at key xs j d) (parted.0 j (key d) low lt),
        λ j d low lt. subst (λ k. answer k ≡ Greater) (map_at key xs j d) (parted.1 j (key d) low (omega (arith, lt, length-map xs key))),
      )

-- what a binary search of the names finds
pub places : (names : List Text) (numbers : List Decimal) (name : Text) (r : Result ℕ ℕ) → IsKeptAs names numbers → IsSearchInRange r (length names) → IsBinarySearchResult (λ n. name_cmp n name) names r →
    IfOk r (Finds name_cmp name_of (named_numbers names numbers) name) × IfErr r (Misses name_cmp name_of (named_numbers names numbers) name)
places names numbers name r kept bound searched =
    let values = named_numbers names numbers in
    found name_cmp nat_list_cmp_total name_of values name r kept.are.rising
    (subst (IsSearchInRange r) (kept.same ∙ sym (named_length names numbers kept.same)) bound)
    (searched_by (λ n. name_cmp n name) name_of values r (subst (λ ns. IsBinarySearchResult (λ n. name_cmp n name) ns r) (sym (names_are names numbers kept.same)) searched))

-- ---- where the value of a name stands

abbrev pub ok_or_none : Result ℕ ℕ → Option ℕ
ok_or_none (Ok i) = Some i
ok_or_none (Err i) = None

same_name : (a b : Text) (o : Ordering) → name_cmp a b ≡ o → bytes_eq a b ≡ is_eq o
same_name a b o e = sym (is_eq-slice_cmp a b) ∙ ap is_eq e

equal_of : (o : Ordering) → is_eq o ≡ true → o ≡ Equal
equal_of Less h = cc
equal_of Equal h = refl
equal_of Greater h = cc

place_here : (values : List NamedValue) (name : Text) (i : ℕ) → IsAt name_cmp name_of values name i → place_at values name ≡ Some i
place_here [] name i h = absurd (omega (arith, h.within))
place_here (v ∷ values) name zero h = rw (same_name v.name name Equal (h.here v)) refl
place_here (v ∷ values) name (suc i) h =
    rw (same_name v.name name Less (h.before 0 v (omega arith)), place_here values name i (at_tail name_cmp nat_list_cmp_total name_of v values name i h))
    (ap (λ n. Some n) (omega arith))

place_gap : (values : List NamedValue) (name : Text) (i : ℕ) → IsGap name_cmp name_of values name i → place_at values name ≡ None
place_gap [] name i h = refl
place_gap (v ∷ values) name zero h =
    rw (same_name v.name name Greater (h.after 0 v (omega arith) (omega arith)), place_gap values name zero (gap_first name_cmp nat_list_cmp_total name_of v values name h)) refl
place_gap (v ∷ values) name (suc i) h =
    rw (same_name v.name name Less (h.before 0 v (omega arith)), place_gap values name i (gap_tail name_cmp nat_list_cmp_total name_of v values name i h)) refl

-- what a binary search of the names finds
pub placed : (names : List Text) (numbers : List Decimal) (name : Text) (r : Result ℕ ℕ) → IsKeptAs names numbers → IsSearchInRange r (length names) → IsBinarySearchResult (λ n. name_cmp n name) names r →
    place_at (named_numbers names numbers) name ≡ ok_or_none r
placed names numbers name r kept bound found_at =
    let values = named_numbers names numbers in
    by r (searched name_cmp nat_list_cmp_total name_of values name r kept.are.rising
    (subst (IsSearchInRange r) (kept.same ∙ sym (named_length names numbers kept.same)) bound)
    (searched_by (λ n. name_cmp n name) name_of values r (subst (λ ns. IsBinarySearchResult (λ n. name_cmp n name) ns r) (sym (names_are names numbers kept.same)) found_at)))
  where
    by : (r : Result ℕ ℕ) → record { found : IfOk r (IsAt name_cmp name_of (named_numbers names numbers) name); absent : IfErr r (IsGap name_cmp name_of (named_numbers names numbers) name) } →
        place_at (named_numbers names numbers) name ≡ ok_or_none r
    by (Ok i) h = place_here (named_numbers names numbers) name i h.found
    by (Err i) h = place_gap (named_numbers names numbers) name i h.absent

-- a name that stands at a guessed place
guessed_at : (values : List NamedValue) (name n : Text) (i : ℕ) → IsRising name_cmp name_of values → slice_get (map name_of values) i ≡ Some n → bytes_eq n name ≡ true → i < length values → get_or (map name_of values) i n ≡ n →
    IsAt name_cmp name_of values name i
guessed_at values name n i up at same within there = record {
  within = within;
  before = λ j d lt. subst (λ m. name_cmp (get_or values j d).name m ≡ Less) (is_name d) (rising_far name_cmp nat_list_cmp_total name_of values j i d up lt within);
  here = λ d. subst (λ m. name_cmp m name ≡ Equal) (sym (is_name d ∙ sym named)) equal;
}
  where
    equal : name_cmp n name ≡ Equal
    equal = equal_of _ (is_eq-slice_cmp n name ∙ same)

    named : n ≡ name
    named = (bytes_eq-Decides n name).0 same

    is_name : (d : NamedValue) → (get_or values i d).name ≡ name
    is_name d =
        sym (map_at name_of values i d) ∙ get_or_default (map name_of values) i d.name n (omega (arith, within, length-map values name_of)) ∙ there ∙ named

guessed_value : (values : List NamedValue) (name : Text) (i : ℕ) → IsRising name_cmp name_of values → stands_at (map name_of values) i name ≡ true → place_at values name ≡ Some i
guessed_value values name i up h = by (slice_get_cases (map name_of values) i).1
  where
    by : ((n : Text) × (i < length (map name_of values)) × (slice_get (map name_of values) i ≡ Some n) × (get_or (map name_of values) i n ≡ n)) ⊎ ((length (map name_of values) ≤ i) × (slice_get (map name_of values) i ≡ None)) → place_at values name ≡ Some i
    by (inl p) =
        let same : bytes_eq p.0 name ≡ true = rw p.2 at h in
        place_here values name i (guessed_at values name p.0 i up p.2 same (omega (arith, p.1, length-map values name_of)) p.3)
    by (inr p) = absurd (false≢true (rw p.1 at h))

pub guessed : (names : List Text) (numbers : List Decimal) (name : Text) (i : ℕ) → IsKeptAs names numbers → stands_at names i name ≡ true → place_at (named_numbers names numbers) name ≡ Some i
guessed names numbers name i kept h =
    guessed_value (named_numbers names numbers) name i kept.are.rising (subst (λ ns. stands_at ns i name ≡ true) (sym (names_are names numbers kept.same)) h)

-- what stands under a name stands at its place
pub at_place : (values : List NamedValue) (name : Text) → value_at values name ≡ option_and_then (slice_get values) (place_at values name)
at_place [] name = refl
at_place (v ∷ values) name = rw (is_eq-slice_cmp v.name name) (by (bytes_eq v.name name) (place_at values name) (at_place values name))
  where
    by : (b : Bool) (p : Option ℕ) → value_at values name ≡ option_and_then (slice_get values) p →
        (if b then Some v else value_at values name) ≡ option_and_then (slice_get (v ∷ values)) (if b then Some 0 else option_map (λ i. i + 1) p)
    by true p h = refl
    by false None h = h
    by false (Some k) h = rw add-one h

pub place_within : (values : List NamedValue) (name : Text) (i : ℕ) → place_at values name ≡ Some i → i < length values
place_within [] name i h = absurd (cc h)
place_within (v ∷ values) name i h = by (bytes_eq v.name name) (place_at values name) (λ k e. place_within values name k e) h
  where
    by : (b : Bool) (p : Option ℕ) → ((k : ℕ) → p ≡ Some k → k < length values) → (if b then Some 0 else option_map (λ i. i + 1) p) ≡ Some i → i < length (v ∷ values)
    by true p more e = let z : 0 ≡ i = cc e in omega (arith, z)
    by false None more e = absurd (cc e)
    by false (Some k) more e = let z : k + 1 ≡ i = cc e in omega (arith, z, more k refl)

-- ---- a name behind all others

less_of : (o : Ordering) → is_lt o ≡ true → o ≡ Less
less_of Less h = refl
less_of Equal h = cc
less_of Greater h = cc

-- where the last name is below a name, each is
each_below : (values : List NamedValue) (name : Text) (i j : ℕ) (d : NamedValue) → IsRising name_cmp name_of values → suc i ≡ length values → name_cmp (get_or values i d).name name ≡ Less →
    j < length values → name_cmp (get_or values j d).name name ≡ Less
each_below [] name i j d h e l lt = absurd (omega arith)
each_below (v ∷ []) name zero zero d h e l lt = l
each_below (v ∷ []) name zero (suc j) d h e l lt = absurd (omega arith)
each_below (v ∷ []) name (suc i) j d h e l lt = absurd (omega arith)
each_below (v ∷ (w ∷ values)) name zero j d h e l lt = absurd (omega arith)
each_below (v ∷ (w ∷ values)) name (suc i) zero d h e l lt =
    nat_list_cmp_total.trans v.name (get_or (w ∷ values) i d).name name (above_all name_cmp nat_list_cmp_total name_of v.name (w ∷ values) i d h.0 (omega arith)) l
each_below (v ∷ (w ∷ values)) name (suc i) (suc j) d h e l lt = each_below (w ∷ values) name i j d h.1 (omega arith) l (omega arith)

last_below : (values : List NamedValue) (name : Text) (j : ℕ) (d : NamedValue) → IsRising name_cmp name_of values → is_beyond (map name_of values) name ≡ true → j < length values →
    name_cmp (get_or values j d).name name ≡ Less
last_below [] name j d h b lt = absurd (omega arith)
last_below (v ∷ values) name j d h b lt =
    let i = length values in
    let names = map name_of (v ∷ values) in
    let same : length names - 1 ≡ i = omega (arith, length-map (v ∷ values) name_of) in
    let last : slice_get names (length names - 1) ≡ Some (get_or (v ∷ values) i d).name =
    ap (slice_get names) same ∙ slice_get-get_or names i d.name (omega (arith, length-map (v ∷ values) name_of)) ∙ ap (λ n. Some n) (map_at name_of (v ∷ values) i d) in
    let below : is_lt (name_cmp (get_or (v ∷ values) i d).name name) ≡ true = rw last at b in
    each_below (v ∷ values) name i j d h refl (less_of _ below) lt

pub beyond : (names : List Text) (numbers : List Decimal) (name : Text) → IsKeptAs names numbers → is_beyond names name ≡ true →
    Misses name_cmp name_of (named_numbers names numbers) name (length names)
beyond names numbers name kept b =
    let values = named_numbers names numbers in
    let same = named_length names numbers kept.same in
    let b2 : is_beyond (map name_of values) name ≡ true = subst (λ ns. is_beyond ns name ≡ true) (sym (names_are names numbers kept.same)) b in
    misses name_cmp nat_list_cmp_total name_of values name (length names) (record {
      within = omega (arith, same, kept.same);
      before = λ j d lt. last_below values name j d kept.are.rising b2 (omega (arith, lt, same, kept.same));
      after = λ j d le lt. absurd (omega (arith, le, lt, same, kept.same));
    })

-- ---- a name that would go to a place

apart : (m n : Text) → name_cmp n m ≡ Less → bytes_eq m n ≡ false
apart m n l = same_name m n Greater (nat_list_cmp_total.antisymm m n ∙ ap ordering_reverse l)

still_before : (v : NamedValue) (vs : List NamedValue) (name : Text) → AreAbove name_cmp name_of v.name vs →
    name_cmp name v.name ≡ Less → is_before (map name_of vs) name ≡ true
still_before v [] name a l = refl
still_before v (w ∷ ws) name a l = ap is_lt (nat_list_cmp_total.trans name v.name w.name l a.0)

-- where the first name is above a name, it is none of them
none_above : (values : List NamedValue) (name : Text) → IsRising name_cmp name_of values →
    is_before (map name_of values) name ≡ true → place_at values name ≡ None
none_above [] name up h = refl
none_above (v ∷ values) name up h =
    let above = less_of (name_cmp name v.name) h in
    rw (apart v.name name above, none_above values name up.1 (still_before v values name up.0 above)) refl

above_take : (k : Text) (vs : List NamedValue) (i : ℕ) → AreAbove name_cmp name_of k vs → AreAbove name_cmp name_of k (take i vs)
above_take k vs zero a = tt
above_take k [] (suc i) a = tt
above_take k (v ∷ vs) (suc i) a = (a.0, above_take k vs i a.1)

rising_take : (vs : List NamedValue) (i : ℕ) → IsRising name_cmp name_of vs → IsRising name_cmp name_of (take i vs)
rising_take vs zero h = tt
rising_take [] (suc i) h = tt
rising_take (v ∷ vs) (suc i) h = (above_take v.name vs i h.0, rising_take vs i h.1)

names_taken : (vs : List NamedValue) (i : ℕ) → take i (map name_of vs) ≡ map name_of (take i vs)
names_taken vs zero = refl
names_taken [] (suc i) = refl
names_taken (v ∷ vs) (suc i) = ap (λ ns. v.name ∷ ns) (names_taken vs i)

tail_beyond : (v : NamedValue) (vs : List NamedValue) (name : Text) → IsRising name_cmp name_of (v ∷ vs) →
    is_beyond (map name_of (v ∷ vs)) name ≡ true → is_beyond (map name_of vs) name ≡ true
tail_beyond v [] name up b = refl
tail_beyond v (w ∷ ws) name up b =
    let i = length ws in
    let names = map name_of (w ∷ ws) in
    let less = last_below (v ∷ (w ∷ ws)) name (suc i) w up b (omega arith) in
    let same : length names - 1 ≡ i = omega (arith, length-map (w ∷ ws) name_of) in
    let last : slice_get names (length names - 1) ≡ Some (get_or (w ∷ ws) i w).name =
    ap (slice_get names) same ∙ slice_get-get_or names i w.name (omega (arith, length-map (w ∷ ws) name_of)) ∙ ap (λ n. Some n) (map_at name_of (w ∷ ws) i w) in
    rw last (ap is_lt less)

none_here : (values : List NamedValue) (name : Text) (i : ℕ) → IsRising name_cmp name_of values →
    is_beyond (take i (map name_of values)) name ≡ true → is_before (drop i (map name_of values)) name ≡ true → place_at values name ≡ None
none_here values name zero up b a = none_above values name up a
none_here [] name (suc i) up b a = refl
none_here (v ∷ values) name (suc i) up b a =
    let front = v ∷ take i values in
    let rising = rising_take (v ∷ values) (suc i) up in
    let beyond : is_beyond (map name_of front) name ≡ true = subst (λ ns. is_beyond (v.name ∷ ns) name ≡ true) (names_taken values i) b in
    let below = last_below front name zero v rising beyond (omega arith) in
    let more : is_beyond (take i (map name_of values)) name ≡ true =
    subst (λ ns. is_beyond ns name ≡ true) (sym (names_taken values i)) (tail_beyond v (take i values) name rising beyond) in
    rw (same_name v.name name Less below, none_here values name i up.1 more a) refl

both_true : (a b c : Bool) → (a && b && c) ≡ true → (b ≡ true) × (c ≡ true)
both_true true true true e = (refl, refl)
both_true true true false e = absurd (false≢true e)
both_true true false c e = absurd (false≢true e)
both_true false b c e = absurd (false≢true e)

pub would_go : (names : List Text) (numbers : List Decimal) (name : Text) (i : ℕ) → IsKeptAs names numbers → goes_at names i name ≡ true →
    place_at (named_numbers names numbers) name ≡ None
would_go names numbers name i kept h =
    let values = named_numbers names numbers in
    let there : goes_at (map name_of values) i name ≡ true = subst (λ ns. goes_at ns i name ≡ true) (sym (names_are names numbers kept.same)) h in
    let parts = both_true _ _ _ there in
    none_here values name i kept.are.rising parts.0 parts.1

-- a value put where none of its name stands
module _ (names : List Text) (numbers : List Decimal) (i : ℕ) (v : NamedValue) (kept : IsKeptAs names numbers) (gap : Misses name_cmp name_of (named_numbers names numbers) v.name i) where
  pub at_most : i ≤ length names
  at_most = omega (arith, gap.within, named_length names numbers kept.same, kept.same)

  pub value_put : named_numbers (insert names i v.name) (insert numbers i v.value) ≡ with_value v (named_numbers names numbers)
  value_put = named_inserted names numbers i v kept.same ∙ sym (gap.put v (tied_itself nat_list_cmp_total v.name))

  same_put : length (insert names i v.name) ≡ length (insert numbers i v.value)
  same_put =
      let low = at_most in
      omega (arith, kept.same, length-insert names i v.name low, length-insert numbers i v.value (omega (arith, low, kept.same)))

  pub kept_put : length (named_numbers names numbers) < 256 → IsKeptAs (insert names i v.name) (insert numbers i v.value)
  kept_put few = record {
    same = same_put;
    are = record {
      rising = subst (IsRising name_cmp name_of) (sym value_put) (put_rising name_cmp nat_list_cmp_total name_of v (named_numbers names numbers) kept.are.rising);
      few = omega (arith, few, named_length names numbers kept.same, named_length _ _ same_put, length-insert numbers i v.value (omega (arith, at_most, kept.same)));
    };
  }
