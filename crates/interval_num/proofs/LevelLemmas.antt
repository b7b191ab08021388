-- Levels of ranges, each with the joined_answers ranges of two neighbours of the one before.
use Rattle.std.proofs.Common.{◌≡◌, ℕ, zero, suc, ◌+◌, ◌-◌, ◌*◌, ◌/◌, ◌<◌, ◌≤◌, List, [], ◌∷◌, ◌++◌, length, map, take, drop, get_or, All, Some, refl, sym, ap, ap₂, ◌∙◌, arith, append_assoc}
use Rattle.std.specs.Prelude.{slice_get, slice_range}
use Rattle.std.proofs.lemmas.List.{append-nil, length-append, take_rest, take_more, drop_more, get_or-drop, length-drop, take-map, drop-map}
use Rattle.std.proofs.lemmas.List.Elements.{All-head, All-tail, All-nil, All-cons, All-get_or}
use Rattle.scaled_decimal.specs.Decimals.{Decimal}
use Rattle.interval_num.specs.Rows.{RowAnswer, decimals_row}
use Rattle.interval_num.specs.ItemLevels.{joined_answers, halved, first_level, single_rows, AreLevels}
use Rattle.interval_num.specs.private.Views.{IsSome, items_of}
use Rattle.interval_num.proofs.JoinLemmas.{joined_rows}

-- ---- the loop that halves

pub halved_next : (rs : List RowAnswer) (i : ℕ) (left right : RowAnswer) → slice_get rs (2 * i) ≡ Some left → slice_get rs (2 * i + 1) ≡ Some right → halved (take (2 * (i + 1)) rs) ≡ halved (take (2 * i) rs) ++ (joined_answers left right ∷ [])
halved_next [] zero left right e f = absurd (cc)
halved_next (r ∷ []) zero left right e f = absurd (cc)
halved_next (r ∷ (s ∷ rs)) zero left right e f = let same : r ≡ left = cc in let next : s ≡ right = cc in rw (same, next) refl
halved_next [] (suc i) left right e f = absurd (cc)
halved_next (r ∷ []) (suc i) left right e f =
    let two : 2 * suc i ≡ suc (suc (2 * i)) = omega arith in
    let gone : slice_get (r ∷ []) (suc (suc (2 * i))) ≡ Some left = ap (slice_get (r ∷ [])) (sym two) ∙ e in
    absurd (cc)
halved_next (r ∷ (s ∷ rs)) (suc i) left right e f =
    let two : 2 * suc i ≡ suc (suc (2 * i)) = omega arith in
    let more : 2 * (suc i + 1) ≡ suc (suc (2 * (i + 1))) = omega arith in
    let odd : 2 * suc i + 1 ≡ suc (suc (2 * i + 1)) = omega arith in
    let first : slice_get rs (2 * i) ≡ Some left = ap (slice_get (r ∷ (s ∷ rs))) (sym two) ∙ e in
    let second : slice_get rs (2 * i + 1) ≡ Some right = ap (slice_get (r ∷ (s ∷ rs))) (sym odd) ∙ f in
    rw (two, more) (ap (λ hs. joined_answers r s ∷ hs) (halved_next rs i left right first second))

pub halved_last : (rs : List RowAnswer) (i : ℕ) (last : RowAnswer) → length rs ≡ 2 * i + 1 → slice_get rs (2 * i) ≡ Some last → halved rs ≡ halved (take (2 * i) rs) ++ (last ∷ [])
halved_last [] i last size e = absurd (omega arith)
halved_last (r ∷ []) zero last size e = let same : r ≡ last = cc in rw same refl
halved_last (r ∷ []) (suc i) last size e = absurd (omega arith)
halved_last (r ∷ (s ∷ rs)) zero last size e = absurd (omega arith)
halved_last (r ∷ (s ∷ rs)) (suc i) last size e =
    let two : 2 * suc i ≡ suc (suc (2 * i)) = omega arith in
    let first : slice_get rs (2 * i) ≡ Some last = ap (slice_get (r ∷ (s ∷ rs))) (sym two) ∙ e in
    rw two (ap (λ hs. joined_answers r s ∷ hs) (halved_last rs i last (omega arith) first))

pub halved_length : (rs : List RowAnswer) → length rs ≤ 2 * length (halved rs)
halved_length [] = omega arith
halved_length (r ∷ []) = omega arith
halved_length (r ∷ (s ∷ rs)) = let rest = halved_length rs in omega arith

-- a level of two ranges or more gets shorter
pub halved_shorter : (rs : List RowAnswer) → 2 * length (halved rs) ≤ length rs + 1
halved_shorter [] = omega arith
halved_shorter (r ∷ []) = omega arith
halved_shorter (r ∷ (s ∷ rs)) = let rest = halved_shorter rs in omega arith

-- ---- the runs that a level's ranges stand for

pub pairs : List (List Decimal) → List (List Decimal)
pairs [] = []
pairs (x ∷ []) = x ∷ []
pairs (x ∷ (y ∷ xs)) = (x ++ y) ∷ pairs xs

pub pairs_some : (runs : List (List Decimal)) → All IsSome runs → All IsSome (pairs runs)
unfolding pairs
pairs_some [] all = all
pairs_some (x ∷ []) all = all
pairs_some (x ∷ (y ∷ xs)) all =
    let tail = All-tail IsSome x (y ∷ xs) all in
    let here = All-head IsSome x (y ∷ xs) all in
    All-cons IsSome (x ++ y) (pairs xs) (some_parts x y here) (pairs_some xs (All-tail IsSome y xs tail))
  where
    some_parts : (x y : List Decimal) → 0 < length x → 0 < length (x ++ y)
    some_parts [] y some = absurd (omega arith)
    some_parts (d ∷ x) y some = omega arith

pub halved_rows : (runs : List (List Decimal)) → All IsSome runs → halved (map decimals_row runs) ≡ map decimals_row (pairs runs)
unfolding pairs
halved_rows [] all = refl
halved_rows (x ∷ []) all = refl
halved_rows (x ∷ (y ∷ xs)) all =
    let tail = All-tail IsSome x (y ∷ xs) all in
    let here = All-head IsSome x (y ∷ xs) all in
    let next = All-head IsSome y xs tail in
    ap₂ (λ r rs. r ∷ rs) (sym (joined_rows x y here next)) (halved_rows xs (All-tail IsSome y xs tail))

pairs_drop : (i : ℕ) (runs : List (List Decimal)) → drop i (pairs runs) ≡ pairs (drop (2 * i) runs)
unfolding pairs
pairs_drop zero runs = refl
pairs_drop (suc i) [] = let two : 2 * suc i ≡ suc (suc (2 * i)) = omega arith in rw two refl
pairs_drop (suc i) (x ∷ []) = let two : 2 * suc i ≡ suc (suc (2 * i)) = omega arith in rw two (drop_none i)
  where
    drop_none : (i : ℕ) → ◌≡◌ {A = List (List Decimal)} (drop i []) []
    drop_none zero = refl
    drop_none (suc i) = refl
pairs_drop (suc i) (x ∷ (y ∷ xs)) = let two : 2 * suc i ≡ suc (suc (2 * i)) = omega arith in rw two (pairs_drop i xs)

pairs_take : (i : ℕ) (runs : List (List Decimal)) → take i (pairs runs) ≡ pairs (take (2 * i) runs)
unfolding pairs
pairs_take zero runs = refl
pairs_take (suc i) [] = let two : 2 * suc i ≡ suc (suc (2 * i)) = omega arith in rw two refl
pairs_take (suc i) (x ∷ []) = let two : 2 * suc i ≡ suc (suc (2 * i)) = omega arith in rw two (ap (λ t. x ∷ t) (take_none i))
  where
    take_none : (i : ℕ) → ◌≡◌ {A = List (List Decimal)} (take i []) []
    take_none zero = refl
    take_none (suc i) = refl
pairs_take (suc i) (x ∷ (y ∷ xs)) = let two : 2 * suc i ≡ suc (suc (2 * i)) = omega arith in rw two (ap (λ t. (x ++ y) ∷ t) (pairs_take i xs))

pairs_items : (runs : List (List Decimal)) → items_of (pairs runs) ≡ items_of runs
unfolding pairs
pairs_items [] = refl
pairs_items (x ∷ []) = refl
pairs_items (x ∷ (y ∷ xs)) = append_assoc x y (items_of (pairs xs)) ∙ ap (λ ds. x ++ (y ++ ds)) (pairs_items xs)

pub pairs_range : (runs : List (List Decimal)) (i j : ℕ) → items_of (slice_range (pairs runs) i j) ≡ items_of (slice_range runs (2 * i) (2 * j))
pairs_range runs i j =
    let width : 2 * (j - i) ≡ 2 * j - 2 * i = omega arith in
    ap (λ rs. items_of (take (j - i) rs)) (pairs_drop i runs)
    ∙ ap items_of (pairs_take (j - i) (drop (2 * i) runs))
    ∙ pairs_items (take (2 * (j - i)) (drop (2 * i) runs))
    ∙ ap (λ n. items_of (take n (drop (2 * i) runs))) width

-- ---- the levels above the first

pub record IsHalved (levels above : List (List RowAnswer)) : Type 0 where
  pub halves : AreLevels above
  pub first : first_level above ≡ halved (first_level levels)

pub above_halved : (levels : List (List RowAnswer)) → AreLevels levels → 1 < length (first_level levels) → IsHalved levels (take (length levels - 1) (drop 1 levels))
above_halved [] h more = absurd (omega arith)
above_halved (level ∷ []) h more = absurd (omega (arith, h))
above_halved (level ∷ (next ∷ levels)) h more =
    let whole = take_rest (level ∷ (next ∷ levels)) 1 in
    rw whole (record { halves = h.1; first = h.0 })

pub level_is : (levels : List (List RowAnswer)) (level : List RowAnswer) → 0 < length (first_level levels) → level ≡ get_or levels 0 level → level ≡ first_level levels
level_is [] level some e = absurd (omega arith)
level_is (first ∷ levels) level some e = e

pub first_stays : (levels : List (List RowAnswer)) (level : List RowAnswer) (rest : List (List RowAnswer)) → first_level (levels ++ (level ∷ rest)) ≡ first_level (levels ++ (level ∷ []))
first_stays [] level rest = refl
first_stays (first ∷ levels) level rest = refl

-- ---- the parts of a query

run_at : (runs : List (List Decimal)) (i : ℕ) (r : RowAnswer) → slice_get (map decimals_row runs) i ≡ Some r → r ≡ decimals_row (get_or runs i [])
run_at [] i r e = absurd (cc)
run_at (run ∷ runs) zero r e = cc
run_at (run ∷ runs) (suc i) r e = run_at runs i r e

rows_length : (runs : List (List Decimal)) → length (map decimals_row runs) ≡ length runs
rows_length [] = refl
rows_length (run ∷ runs) = ap suc (rows_length runs)

range_first : (runs : List (List Decimal)) (i j : ℕ) → i < j → i < length runs → slice_range runs i j ≡ get_or runs i [] ∷ slice_range runs (i + 1) j
range_first runs i j h inside =
    let width : j - i ≡ suc (j - (i + 1)) = omega arith in
    ap (take (j - i)) (drop_more runs i [] inside) ∙ ap (λ n. take n (get_or runs i [] ∷ drop (i + 1) runs)) width

range_last : (runs : List (List Decimal)) (i j : ℕ) → i < j → j ≤ length runs → slice_range runs i j ≡ slice_range runs i (j - 1) ++ (get_or runs (j - 1) [] ∷ [])
range_last runs i j h inside =
    let width : j - i ≡ (j - 1 - i) + 1 = omega arith in
    let size = length-drop i runs in
    let place : i + (j - 1 - i) ≡ j - 1 = omega arith in
    ap (λ n. take n (drop i runs)) width
    ∙ take_more (drop i runs) (j - 1 - i) [] (omega arith)
    ∙ ap (λ run. take (j - 1 - i) (drop i runs) ++ (run ∷ [])) (get_or-drop i runs (j - 1 - i) [] ∙ ap (λ n. get_or runs n []) place)

items_parts : (xs ys : List (List Decimal)) → items_of (xs ++ ys) ≡ items_of xs ++ items_of ys
items_parts [] ys = refl
items_parts (x ∷ xs) ys = ap (λ ds. x ++ ds) (items_parts xs ys) ∙ sym (append_assoc x (items_of xs) (items_of ys))

module _ (rs : List RowAnswer) (runs : List (List Decimal)) (all : All IsSome runs) (is : rs ≡ map decimals_row runs) where
  run_of : (i : ℕ) (r : RowAnswer) → slice_get rs i ≡ Some r → r ≡ decimals_row (get_or runs i [])
  run_of i r e = run_at runs i r (ap (λ xs. slice_get xs i) (sym is) ∙ e)

  size : length rs ≡ length runs
  size = ap length is ∙ rows_length runs

  run_some : (i : ℕ) → i < length runs → 0 < length (get_or runs i [])
  run_some i h = All-get_or IsSome runs i [] h all

  range_some : (i j : ℕ) → i < j → j ≤ length runs → 0 < length (items_of (slice_range runs i j))
  range_some i j h inside =
      let first = run_some i (omega arith) in
      let parts = ap (λ xs. length (items_of xs)) (range_first runs i j h (omega arith)) ∙ length-append (get_or runs i []) (items_of (slice_range runs (i + 1) j)) in
      omega arith

  -- a single run
  pub one_run : (i j : ℕ) (r : RowAnswer) → i < j → j ≤ length rs → j - i ≡ 1 → slice_get rs i ≡ Some r → r ≡ decimals_row (items_of (slice_range runs i j))
  one_run i j r h inside one e =
      let here = size in
      let none : j - (i + 1) ≡ 0 = omega arith in
      let rest = ap (λ n. items_of (get_or runs i [] ∷ take n (drop (i + 1) runs))) none ∙ append-nil (get_or runs i []) in
      run_of i r e ∙ ap decimals_row (sym (ap items_of (range_first runs i j h (omega arith)) ∙ rest))

  -- the first run, and the others
  pub first_run : (i j : ℕ) (r s : RowAnswer) → i + 1 < j → j ≤ length rs → slice_get rs i ≡ Some r → s ≡ decimals_row (items_of (slice_range runs (i + 1) j)) → joined_answers r s ≡ decimals_row (items_of (slice_range runs i j))
  first_run i j r s h inside e f =
      let here = size in
      let run = get_or runs i [] in
      let others = items_of (slice_range runs (i + 1) j) in
      ap₂ joined_answers (run_of i r e) f
      ∙ sym (joined_rows run others (run_some i (omega arith)) (range_some (i + 1) j h (omega arith)))
      ∙ ap (λ xs. decimals_row (items_of xs)) (sym (range_first runs i j (omega arith) (omega arith)))

  -- the last run, and those before it
  pub last_run : (i j : ℕ) (r s : RowAnswer) → i + 1 < j → j ≤ length rs → slice_get rs (j - 1) ≡ Some r → s ≡ decimals_row (items_of (slice_range runs i (j - 1))) → joined_answers s r ≡ decimals_row (items_of (slice_range runs i j))
  last_run i j r s h inside e f =
      let here = size in
      let run = get_or runs (j - 1) [] in
      let others = items_of (slice_range runs i (j - 1)) in
      let parts = items_parts (slice_range runs i (j - 1)) (run ∷ []) ∙ ap (λ ds. others ++ ds) (append-nil run) in
      ap₂ joined_answers f (run_of (j - 1) r e)
      ∙ sym (joined_rows others run (range_some i (j - 1) (omega arith) (omega arith)) (run_some (j - 1) (omega arith)))
      ∙ ap decimals_row (sym parts)
      ∙ ap (λ xs. decimals_row (items_of xs)) (sym (range_last runs i j (omega arith) (omega arith)))

  -- the level above stands for the runs in pairs
  pub above_rows : halved rs ≡ map decimals_row (pairs runs)
  above_rows = ap halved is ∙ halved_rows runs all

  pub even_runs : (i j : ℕ) (r : RowAnswer) → 2 * (i / 2) ≡ i → 2 * (j / 2) ≡ j → r ≡ decimals_row (items_of (slice_range (pairs runs) (i / 2) (j / 2))) → r ≡ decimals_row (items_of (slice_range runs i j))
  even_runs i j r e f is =
      is ∙ ap decimals_row (pairs_range runs (i / 2) (j / 2)) ∙ ap₂ (λ m n. decimals_row (items_of (slice_range runs m n))) e f

-- ---- each item alone

pub alone : List Decimal → List (List Decimal)
alone items = map (λ d. d ∷ []) items

pub alone_some : (items : List Decimal) → All IsSome (alone items)
unfolding alone
alone_some [] = All-nil IsSome
alone_some (d ∷ items) = All-cons IsSome (d ∷ []) (map (λ d. d ∷ []) items) (omega arith) (alone_some items)

pub alone_rows : (items : List Decimal) → single_rows items ≡ map decimals_row (alone items)
unfolding alone
alone_rows [] = refl
alone_rows (d ∷ items) = ap (λ rs. decimals_row (d ∷ []) ∷ rs) (alone_rows items)

alone_items : (items : List Decimal) → items_of (alone items) ≡ items
unfolding alone
alone_items [] = refl
alone_items (d ∷ items) = ap (λ ds. d ∷ ds) (alone_items items)

pub alone_range : (items : List Decimal) (i j : ℕ) → items_of (slice_range (alone items) i j) ≡ slice_range items i j
unfolding alone
alone_range items i j =
    ap (λ xs. items_of (take (j - i) xs)) (drop-map (λ d. d ∷ []) i items)
    ∙ ap items_of (take-map (λ d. d ∷ []) (j - i) (drop i items))
    ∙ alone_items (take (j - i) (drop i items))
