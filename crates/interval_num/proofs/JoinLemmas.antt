-- The range of two runs of items together is the join of their ranges.
use Rattle.std.proofs.Common.{◌≡◌, ℕ, suc, ◌-◌, ◌^◌, ◌<◌, ◌≤◌, max, min, ℤ, ◌*ℤ◌, ◌≤ℤ◌, Bool, true, false, ◌||◌, List, [], ◌∷◌, ◌++◌, length, map, fold, All, Some, Ok, Ordering, Less, Equal, Greater, refl, sym, ap, ap₂, ◌∙◌, subst, arith}
use Rattle.std.specs.Prelude.{slice_get}
use Rattle.std.specs.List.{list_any}
use Rattle.std.specs.Int.{int_min, int_max}
use Rattle.std.specs.Ordering.{int_cmp}
use Rattle.std.specs.Cmp.{int_ranks}
use Rattle.std.proofs.lemmas.Int.{ints, clamps}
use Rattle.std.proofs.lemmas.List.Elements.{All-head, All-tail, All-nil, All-cons}
use Rattle.scaled_decimal.specs.laws.IntegerLemmas.{le_times}
use Rattle.scaled_decimal.specs.Decimals.{Decimal, scale_of, numerator_at, ten_to}
use Rattle.scaled_decimal.specs.Limits.{IsWithinLimit}
use Rattle.interval_num.specs.declared.cause.RangeCause.TheVariants.{Wide}
use Rattle.interval_num.specs.Intervals.{Interval, interval}
use Rattle.interval_num.specs.Alignment.{unless, is_beyond, ends_beyond, at_scale, least, greatest, hull}
use Rattle.interval_num.specs.Rows.{RowAnswer, join_of, least_scale, greatest_scale, decimals_row}
use Rattle.interval_num.specs.ItemLevels.{joined_answers}
use Rattle.interval_num.proofs.NumberLemmas.{times_one, within_in, within_out, kept_shorter, kept_between}
use Rattle.interval_num.proofs.AlignmentLemmas.{at_greater}
use Rattle.interval_num.proofs.ItemLemmas.{least_member, greatest_member, greatest_scale_holds}
use Rattle.interval_num.proofs.OrderLemmas.{Ranks}
use Rattle.interval_num.proofs.WholeLemmas.{fold_min_keeps, fold_max_keeps}

-- ---- of two lists, one after the other

map_parts : {A B : Type 0} (f : A → B) (xs ys : List A) → map f (xs ++ ys) ≡ map f xs ++ map f ys
map_parts f [] ys = refl
map_parts f (x ∷ xs) ys = ap (λ zs. f x ∷ zs) (map_parts f xs ys)

any_parts : (p : ℤ → Bool) (ms ns : List ℤ) → list_any p (ms ++ ns) ≡ (list_any p ms || list_any p ns)
any_parts p [] ns = refl
any_parts p (m ∷ ms) ns = ap (λ t. p m || t) (any_parts p ms ns) ∙ either (p m) (list_any p ms) (list_any p ns)
  where
    either : (s t u : Bool) → (s || (t || u)) ≡ ((s || t) || u)
    either true t u = refl
    either false t u = refl

fold_parts : {A : Type 0} (f : A → A → A) (n : A) (xs ys : List A) → fold f n (xs ++ ys) ≡ fold f (fold f n xs) ys
fold_parts f n [] ys = refl
fold_parts f n (x ∷ xs) ys = fold_parts f (f n x) xs ys

fold_from : {A : Type 0} (f : A → A → A) (assoc : (k m n : A) → f (f k m) n ≡ f k (f m n)) (k n : A) (ns : List A) → fold f (f k n) ns ≡ f k (fold f n ns)
fold_from f assoc k n [] = refl
fold_from f assoc k n (m ∷ ms) = ap (λ x. fold f x ms) (assoc k n m) ∙ fold_from f assoc k (f n m) ms

fold_both : {A : Type 0} (f : A → A → A) (assoc : (k m n : A) → f (f k m) n ≡ f k (f m n)) (m n : A) (ms ns : List A) → fold f m (ms ++ (n ∷ ns)) ≡ f (fold f m ms) (fold f n ns)
fold_both f assoc m n ms ns = fold_parts f m ms (n ∷ ns) ∙ fold_from f assoc (fold f m ms) n ns

min_assoc : (k m n : ℤ) → int_min (int_min k m) n ≡ int_min k (int_min m n)
min_assoc k m n = omega (arith, ints, clamps)

max_assoc : (k m n : ℤ) → int_max (int_max k m) n ≡ int_max k (int_max m n)
max_assoc k m n = omega (arith, ints, clamps)

min_scale_assoc : (k m n : ℕ) → min (min k m) n ≡ min k (min m n)
min_scale_assoc k m n = omega arith

max_scale_assoc : (k m n : ℕ) → max (max k m) n ≡ max k (max m n)
max_scale_assoc k m n = omega arith

least_parts : (ms ns : List ℤ) → 0 < length ms → 0 < length ns → least (ms ++ ns) ≡ int_min (least ms) (least ns)
least_parts [] ns some other = absurd (omega arith)
least_parts (m ∷ ms) [] some other = absurd (omega arith)
least_parts (m ∷ ms) (n ∷ ns) some other = fold_both int_min min_assoc m n ms ns

greatest_parts : (ms ns : List ℤ) → 0 < length ms → 0 < length ns → greatest (ms ++ ns) ≡ int_max (greatest ms) (greatest ns)
greatest_parts [] ns some other = absurd (omega arith)
greatest_parts (m ∷ ms) [] some other = absurd (omega arith)
greatest_parts (m ∷ ms) (n ∷ ns) some other = fold_both int_max max_assoc m n ms ns

least_scale_parts : (xs ys : List Decimal) → 0 < length xs → 0 < length ys → least_scale (xs ++ ys) ≡ min (least_scale xs) (least_scale ys)
least_scale_parts [] ys some other = absurd (omega arith)
least_scale_parts (x ∷ xs) [] some other = absurd (omega arith)
least_scale_parts (x ∷ xs) (y ∷ ys) some other = ap (fold min (scale_of x)) (map_parts scale_of xs (y ∷ ys)) ∙ fold_both min min_scale_assoc (scale_of x) (scale_of y) (map scale_of xs) (map scale_of ys)

greatest_scale_parts : (xs ys : List Decimal) → greatest_scale (xs ++ ys) ≡ max (greatest_scale xs) (greatest_scale ys)
greatest_scale_parts xs ys =
    let front = greatest_scale xs in
    let own : front ≡ max front 0 = omega arith in
    ap (fold max 0) (map_parts scale_of xs ys)
    ∙ fold_parts max 0 (map scale_of xs) (map scale_of ys)
    ∙ ap (λ n. fold max n (map scale_of ys)) own
    ∙ fold_from max max_scale_assoc front 0 (map scale_of ys)

-- ---- of numerators at a greater scale

longer_by : ℕ → List ℤ → List ℤ
longer_by k ns = map (λ n. n *ℤ ten_to k) ns

numerators_longer : (ds : List Decimal) (p q : ℕ) → ((k : ℕ) (d : Decimal) → slice_get ds k ≡ Some d → scale_of d ≤ p) → p ≤ q → map (numerator_at q) ds ≡ longer_by (q - p) (map (numerator_at p) ds)
unfolding longer_by
numerators_longer [] p q within le = refl
numerators_longer (d ∷ ds) p q within le = ap₂ (λ n ns. n ∷ ns) (sym (at_greater d p q (within 0 d refl) le)) (numerators_longer ds p q (λ k. within (suc k)) le)

min_longer : (m n : ℤ) (k : ℕ) → int_min (m *ℤ ten_to k) (n *ℤ ten_to k) ≡ int_min m n *ℤ ten_to k
min_longer m n k = by_order (int_cmp m n) (int_ranks m n)
  where
    by_order : (o : Ordering) → Ranks o m n → int_min (m *ℤ ten_to k) (n *ℤ ten_to k) ≡ int_min m n *ℤ ten_to k
    by_order Less lt =
        let le = le_times m n (10 ^ k) (omega (arith, ints)) in
        let least : int_min m n ≡ m = omega (arith, ints, clamps) in
        let same : int_min (m *ℤ ten_to k) (n *ℤ ten_to k) ≡ m *ℤ ten_to k = omega (arith, ints, clamps) in
        same ∙ ap (λ z. z *ℤ ten_to k) (sym least)
    by_order Equal e =
        let least : int_min m n ≡ m = omega (arith, ints, clamps) in
        let le = ap (λ z. z *ℤ ten_to k) e in
        let same : int_min (m *ℤ ten_to k) (n *ℤ ten_to k) ≡ m *ℤ ten_to k = omega (arith, ints, clamps) in
        same ∙ ap (λ z. z *ℤ ten_to k) (sym least)
    by_order Greater gt =
        let le = le_times n m (10 ^ k) (omega (arith, ints)) in
        let least : int_min m n ≡ n = omega (arith, ints, clamps) in
        let same : int_min (m *ℤ ten_to k) (n *ℤ ten_to k) ≡ n *ℤ ten_to k = omega (arith, ints, clamps) in
        same ∙ ap (λ z. z *ℤ ten_to k) (sym least)

max_longer : (m n : ℤ) (k : ℕ) → int_max (m *ℤ ten_to k) (n *ℤ ten_to k) ≡ int_max m n *ℤ ten_to k
max_longer m n k = by_order (int_cmp m n) (int_ranks m n)
  where
    by_order : (o : Ordering) → Ranks o m n → int_max (m *ℤ ten_to k) (n *ℤ ten_to k) ≡ int_max m n *ℤ ten_to k
    by_order Less lt =
        let le = le_times m n (10 ^ k) (omega (arith, ints)) in
        let most : int_max m n ≡ n = omega (arith, ints, clamps) in
        let same : int_max (m *ℤ ten_to k) (n *ℤ ten_to k) ≡ n *ℤ ten_to k = omega (arith, ints, clamps) in
        same ∙ ap (λ z. z *ℤ ten_to k) (sym most)
    by_order Equal e =
        let most : int_max m n ≡ m = omega (arith, ints, clamps) in
        let le = ap (λ z. z *ℤ ten_to k) e in
        let same : int_max (m *ℤ ten_to k) (n *ℤ ten_to k) ≡ m *ℤ ten_to k = omega (arith, ints, clamps) in
        same ∙ ap (λ z. z *ℤ ten_to k) (sym most)
    by_order Greater gt =
        let le = le_times n m (10 ^ k) (omega (arith, ints)) in
        let most : int_max m n ≡ m = omega (arith, ints, clamps) in
        let same : int_max (m *ℤ ten_to k) (n *ℤ ten_to k) ≡ m *ℤ ten_to k = omega (arith, ints, clamps) in
        same ∙ ap (λ z. z *ℤ ten_to k) (sym most)

fold_longer : (f : ℤ → ℤ → ℤ) (k : ℕ) (each : (m n : ℤ) → f (m *ℤ ten_to k) (n *ℤ ten_to k) ≡ f m n *ℤ ten_to k) (n : ℤ) (ns : List ℤ) → fold f (n *ℤ ten_to k) (longer_by k ns) ≡ fold f n ns *ℤ ten_to k
unfolding longer_by
fold_longer f k each n [] = refl
fold_longer f k each n (m ∷ ms) = ap (λ z. fold f z (longer_by k ms)) (each n m) ∙ fold_longer f k each (f n m) ms

least_longer : (k : ℕ) (ns : List ℤ) → 0 < length ns → least (longer_by k ns) ≡ least ns *ℤ ten_to k
unfolding longer_by
least_longer k [] some = absurd (omega arith)
least_longer k (n ∷ ns) some = fold_longer int_min k (λ m n. min_longer m n k) n ns

greatest_longer : (k : ℕ) (ns : List ℤ) → 0 < length ns → greatest (longer_by k ns) ≡ greatest ns *ℤ ten_to k
unfolding longer_by
greatest_longer k [] some = absurd (omega arith)
greatest_longer k (n ∷ ns) some = fold_longer int_max k (λ m n. max_longer m n k) n ns

-- ---- beyond the limit

either_false : (s t : Bool) → (s || t) ≡ false → (s ≡ false) × (t ≡ false)
either_false true t e = absurd (cc)
either_false false t e = (refl, e)

either_true : (s : Bool) → (s || true) ≡ true
either_true true = refl
either_true false = refl

all_kept : (ns : List ℤ) → list_any is_beyond ns ≡ false → All IsWithinLimit ns
all_kept [] e = All-nil IsWithinLimit
all_kept (n ∷ ns) e =
    let both = either_false (is_beyond n) (list_any is_beyond ns) e in
    All-cons IsWithinLimit n ns (within_out n both.0) (all_kept ns both.1)

-- numbers that aren't beyond it at a greater scale aren't at their own
none_shorter : (k : ℕ) (ns : List ℤ) → list_any is_beyond (longer_by k ns) ≡ false → list_any is_beyond ns ≡ false
unfolding longer_by
none_shorter k [] e = refl
none_shorter k (n ∷ ns) e =
    let both = either_false (is_beyond (n *ℤ ten_to k)) (list_any is_beyond (longer_by k ns)) e in
    let own = subst IsWithinLimit (times_one n) (kept_shorter n 0 k (omega arith) (within_out (n *ℤ ten_to k) both.0)) in
    let first = within_in n own in
    let rest = none_shorter k ns both.1 in
    rw (first, rest) refl

any_longer : (k : ℕ) (ns : List ℤ) → list_any is_beyond ns ≡ true → list_any is_beyond (longer_by k ns) ≡ true
any_longer k ns e = by_test (list_any is_beyond (longer_by k ns)) refl
  where
    by_test : (t : Bool) → list_any is_beyond (longer_by k ns) ≡ t → list_any is_beyond (longer_by k ns) ≡ true
    by_test true f = f
    by_test false f = let none = none_shorter k ns f in absurd (cc)

none_between : (ns : List ℤ) (l h : ℤ) → IsWithinLimit l → IsWithinLimit h → ((k : ℕ) (z : ℤ) → slice_get ns k ≡ Some z → (l ≤ℤ z) × (z ≤ℤ h)) → list_any is_beyond ns ≡ false
none_between [] l h p q members = refl
none_between (n ∷ ns) l h p q members =
    let here = members 0 n refl in
    let first = within_in n (kept_between l n h here.0 here.1 p q) in
    let rest = none_between ns l h p q (λ k. members (suc k)) in
    rw (first, rest) refl

ends_none : (ns : List ℤ) → 0 < length ns → list_any is_beyond ns ≡ false → (is_beyond (least ns) || is_beyond (greatest ns)) ≡ false
ends_none [] some e = absurd (omega arith)
ends_none (n ∷ ns) some e =
    let all = all_kept (n ∷ ns) e in
    let one = All-head IsWithinLimit n ns all in
    let rest = All-tail IsWithinLimit n ns all in
    let low = within_in (least (n ∷ ns)) (fold_min_keeps IsWithinLimit n ns one rest) in
    let high = within_in (greatest (n ∷ ns)) (fold_max_keeps IsWithinLimit n ns one rest) in
    rw (low, high) refl

-- some number is beyond it just where the least or the greatest is
ends_any : (ns : List ℤ) → 0 < length ns → (is_beyond (least ns) || is_beyond (greatest ns)) ≡ list_any is_beyond ns
ends_any ns some = by_tests (is_beyond (least ns) || is_beyond (greatest ns)) (list_any is_beyond ns) refl refl
  where
    by_tests : (s t : Bool) → (is_beyond (least ns) || is_beyond (greatest ns)) ≡ s → list_any is_beyond ns ≡ t → (is_beyond (least ns) || is_beyond (greatest ns)) ≡ list_any is_beyond ns
    by_tests true true e f = e ∙ sym f
    by_tests false false e f = e ∙ sym f
    by_tests true false e f = ends_none ns some f ∙ sym f
    by_tests false true e f =
        let both = either_false (is_beyond (least ns)) (is_beyond (greatest ns)) e in
        e ∙ sym (none_between ns (least ns) (greatest ns) (within_out (least ns) both.0) (within_out (greatest ns) both.1) (λ k z is. (least_member ns k z is, greatest_member ns k z is)))

-- ---- the range of a run at a greater scale

length_map : {A B : Type 0} (f : A → B) (xs : List A) → length (map f xs) ≡ length xs
length_map f [] = refl
length_map f (x ∷ xs) = ap suc (length_map f xs)

numerators : List Decimal → ℕ → List ℤ
numerators ds q = map (numerator_at q) ds

row_longer : (ds : List Decimal) (q : ℕ) → 0 < length ds → greatest_scale ds ≤ q → at_scale q (hull (numerators ds (greatest_scale ds)) (least_scale ds) (greatest_scale ds)) ≡ hull (numerators ds q) (least_scale ds) q
unfolding numerators
row_longer ds q some le =
    let p = greatest_scale ds in
    let ns = map (numerator_at p) ds in
    let size = length_map (numerator_at p) ds in
    let same = numerators_longer ds p q (greatest_scale_holds ds) le in
    let low = ap least same ∙ least_longer (q - p) ns (omega arith) in
    let high = ap greatest same ∙ greatest_longer (q - p) ns (omega arith) in
    ap₂ (λ l h. interval l h (least_scale ds) q) (sym low) (sym high)

-- a run with a numerator beyond the limit has one at each greater scale
any_at_greater : (ds : List Decimal) (q : ℕ) → greatest_scale ds ≤ q → list_any is_beyond (numerators ds (greatest_scale ds)) ≡ true → list_any is_beyond (numerators ds q) ≡ true
unfolding numerators
any_at_greater ds q le e =
    let p = greatest_scale ds in
    ap (list_any is_beyond) (numerators_longer ds p q (greatest_scale_holds ds) le) ∙ any_longer (q - p) (map (numerator_at p) ds) e

-- what an aligned join makes of two intervals at one scale
join_at : Interval → Interval → RowAnswer
join_at x y = unless (ends_beyond x || ends_beyond y) Wide (join_of x y)

module _ (xs ys : List Decimal) (some : 0 < length xs) (other : 0 < length ys) where
  abbrev q : ℕ
  q = max (greatest_scale xs) (greatest_scale ys)

  abbrev a : Interval
  a = hull (numerators xs (greatest_scale xs)) (least_scale xs) (greatest_scale xs)

  abbrev b : Interval
  b = hull (numerators ys (greatest_scale ys)) (least_scale ys) (greatest_scale ys)

  abbrev together : Interval
  together = interval (int_min (least (numerators xs q)) (least (numerators ys q))) (int_max (greatest (numerators xs q)) (greatest (numerators ys q))) (min (least_scale xs) (least_scale ys)) q

  abbrev answer : RowAnswer
  answer = unless (list_any is_beyond (numerators xs q) || list_any is_beyond (numerators ys q)) Wide (Ok together)

  whole_row : decimals_row (xs ++ ys) ≡ answer
  unfolding numerators
  whole_row =
      let front = length_map (numerator_at q) xs in
      let back = length_map (numerator_at q) ys in
      let parts = map_parts (numerator_at q) xs ys in
      let low = ap least parts ∙ least_parts (map (numerator_at q) xs) (map (numerator_at q) ys) (omega arith) (omega arith) in
      let high = ap greatest parts ∙ greatest_parts (map (numerator_at q) xs) (map (numerator_at q) ys) (omega arith) (omega arith) in
      let scale = least_scale_parts xs ys some other in
      let test = ap (list_any is_beyond) parts ∙ any_parts is_beyond (map (numerator_at q) xs) (map (numerator_at q) ys) in
      let made = ap₂ (λ l h. interval l h (least_scale (xs ++ ys)) q) low high ∙ ap (λ s. interval (int_min (least (numerators xs q)) (least (numerators ys q))) (int_max (greatest (numerators xs q)) (greatest (numerators ys q))) s q) scale in
      ap (λ k. unless (list_any is_beyond (map (numerator_at k) (xs ++ ys))) Wide (Ok (hull (map (numerator_at k) (xs ++ ys)) (least_scale (xs ++ ys)) k))) (greatest_scale_parts xs ys)
      ∙ ap₂ (λ t r. unless t Wide (Ok r)) test made

  joined_both : joined_answers (Ok a) (Ok b) ≡ answer
  unfolding numerators join_at
  joined_both =
      let front = length_map (numerator_at q) xs in
      let back = length_map (numerator_at q) ys in
      let left = row_longer xs q some (omega arith) in
      let right = row_longer ys q other (omega arith) in
      let first = ends_any (map (numerator_at q) xs) (omega arith) in
      let second = ends_any (map (numerator_at q) ys) (omega arith) in
      ap₂ join_at left right ∙ ap₂ (λ s t. unless (s || t) Wide (Ok together)) first second

  by_tests : (s t : Bool) → list_any is_beyond (numerators xs (greatest_scale xs)) ≡ s → list_any is_beyond (numerators ys (greatest_scale ys)) ≡ t → answer ≡ joined_answers (unless s Wide (Ok a)) (unless t Wide (Ok b))
  by_tests true t e f = let beyond = any_at_greater xs q (omega arith) e in rw beyond refl
  by_tests false true e f = let beyond = any_at_greater ys q (omega arith) f in rw (beyond, either_true (list_any is_beyond (numerators xs q))) refl
  by_tests false false e f = sym joined_both

  pub joined_rows : decimals_row (xs ++ ys) ≡ joined_answers (decimals_row xs) (decimals_row ys)
  unfolding numerators
  joined_rows = whole_row ∙ by_tests (list_any is_beyond (numerators xs (greatest_scale xs))) (list_any is_beyond (numerators ys (greatest_scale ys))) refl refl
