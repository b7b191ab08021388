-- The line and the column behind one more byte.
use Rattle.std.proofs.Common.{◌≡◌, ℕ, ◌+◌, ◌-◌, ◌<◌, ◌≤◌, List, [], ◌∷◌, ◌++◌, length, take, drop, get_or, Bool, true, false, cond, sym, ap, ◌∙◌, arith}
use Rattle.std.specs.Prelude.{not}
use Rattle.std.specs.List.{count_by, after_last, suffix_len}
use Rattle.std.proofs.lemmas.List.{take_more, length-take-le, length-drop, drop-append-le, drop_all, take_all}
use Rattle.std.proofs.lemmas.List.Sums.{count_by-le-length, count_by_more_no, count_by_more_yes, sum_by-append, suffix_len-take_yes, suffix_len-take_no, suffix_len-le-length}
use Rattle.plain_words.specs.Positions.{is_line_feed, begins_character, line_number, column_number, line_of, column_of}

pub line_more : (text : List ℕ) (at : ℕ) → at < length text → is_line_feed (get_or text at 0) ≡ true
    → line_of text (at + 1) ≡ line_of text at + 1
line_more text at lt feed = ap (λ n. n + 1) (count_by_more_yes is_line_feed text at 0 lt feed)

pub line_same : (text : List ℕ) (at : ℕ) → at < length text → is_line_feed (get_or text at 0) ≡ false
    → line_of text (at + 1) ≡ line_of text at
line_same text at lt other = ap (λ n. n + 1) (count_by_more_no is_line_feed text at 0 lt other)

pub few_lines : (text : List ℕ) (at : ℕ) → line_of text at ≤ length (take at text) + 1
few_lines text at = let few = count_by-le-length is_line_feed (take at text) in omega (arith, few)

-- ---- columns

abbrev other : ℕ → Bool
other b = not (is_line_feed b)

-- one less than one more
back : (at : ℕ) → at + 1 - 1 ≡ at
back at = omega arith

-- what is known of a byte, by the number of the one behind it
known_back : (text : List ℕ) (at : ℕ) (b : Bool) → other (get_or text at 0) ≡ b → other (get_or text (at + 1 - 1) 0) ≡ b
known_back text at b h = ap (λ k. other (get_or text k 0)) (back at) ∙ h

-- the part behind the last line feed, after a line feed
last_line_first : (text : List ℕ) (at : ℕ) → at < length text → is_line_feed (get_or text at 0) ≡ true
    → after_last is_line_feed (take (at + 1) text) ≡ []
last_line_first text at lt feed =
    let xs = take (at + 1) text in
    let none : suffix_len other xs ≡ 0 =
    suffix_len-take_no other text (at + 1) 0 (omega arith) (omega (arith, lt)) (known_back text at false (ap not feed)) in
    ap (λ n. drop (length xs - n) xs) none ∙ drop_all (length xs - 0) xs (omega arith)

-- and after another byte
last_line_more : (text : List ℕ) (at : ℕ) → at < length text → is_line_feed (get_or text at 0) ≡ false
    → after_last is_line_feed (take (at + 1) text) ≡ after_last is_line_feed (take at text) ++ (get_or text at 0 ∷ [])
last_line_more text at lt feed =
    let xs = take at text in
    let b = get_or text at 0 in
    let more : take (at + 1) text ≡ xs ++ (b ∷ []) = take_more text at 0 lt in
    let one : suffix_len other (take (at + 1) text) ≡ 1 + suffix_len other xs =
    suffix_len-take_yes other text (at + 1) 0 (omega arith) (omega (arith, lt)) (known_back text at true (ap not feed))
    ∙ ap (λ k. 1 + suffix_len other (take k text)) (back at) in
    let few : suffix_len other xs ≤ length xs = suffix_len-le-length other xs in
    let front : length xs ≡ at = length-take-le at text (omega (arith, lt)) in
    let all : length (take (at + 1) text) ≡ at + 1 = length-take-le (at + 1) text (omega (arith, lt)) in
    let left : length (take (at + 1) text) - suffix_len other (take (at + 1) text) ≡ length xs - suffix_len other xs =
    omega (arith, one, few, front, all) in
    ap (λ n. drop n (take (at + 1) text)) left
    ∙ ap (drop (length xs - suffix_len other xs)) more
    ∙ drop-append-le (length xs - suffix_len other xs) xs (b ∷ []) (omega (arith, few))

pub column_first : (text : List ℕ) (at : ℕ) → at < length text → is_line_feed (get_or text at 0) ≡ true
    → column_of text (at + 1) ≡ 1
column_first text at lt feed = ap (λ l. count_by begins_character l + 1) (last_line_first text at lt feed)

column_behind : (text : List ℕ) (at : ℕ) → at < length text → is_line_feed (get_or text at 0) ≡ false
    → column_of text (at + 1) ≡ count_by begins_character (after_last is_line_feed (take at text)) + count_by begins_character (get_or text at 0 ∷ []) + 1
column_behind text at lt feed =
    ap (λ l. count_by begins_character l + 1) (last_line_more text at lt feed)
    ∙ ap (λ n. n + 1) (sum_by-append (λ x. cond (begins_character x) 1 0) (after_last is_line_feed (take at text)) (get_or text at 0 ∷ []))

count_one : (b : ℕ) → begins_character b ≡ true → count_by begins_character (b ∷ []) ≡ 1
count_one b e = ap (λ (t : Bool). 0 + cond {A = ℕ} t 1 0) e

count_none : (b : ℕ) → begins_character b ≡ false → count_by begins_character (b ∷ []) ≡ 0
count_none b e = ap (λ (t : Bool). 0 + cond {A = ℕ} t 1 0) e

pub column_more : (text : List ℕ) (at : ℕ) → at < length text → is_line_feed (get_or text at 0) ≡ false
    → begins_character (get_or text at 0) ≡ true → column_of text (at + 1) ≡ column_of text at + 1
column_more text at lt feed begins =
    let one = count_one (get_or text at 0) begins in
    let all = column_behind text at lt feed in
    omega (arith, all, one)

pub column_same : (text : List ℕ) (at : ℕ) → at < length text → is_line_feed (get_or text at 0) ≡ false
    → begins_character (get_or text at 0) ≡ false → column_of text (at + 1) ≡ column_of text at
column_same text at lt feed goes_on =
    let one = count_none (get_or text at 0) goes_on in
    let all = column_behind text at lt feed in
    omega (arith, all, one)

pub few_columns : (text : List ℕ) (at : ℕ) → column_of text at ≤ length (take at text) + 1
few_columns text at =
    let line = after_last is_line_feed (take at text) in
    let few = count_by-le-length begins_character line in
    let part = length-drop (length (take at text) - suffix_len other (take at text)) (take at text) in
    omega (arith, few, part)

-- ---- beyond the end

whole : (text : List ℕ) (at end : ℕ) → end ≡ length text → end ≤ at → take end text ≡ take at text
whole text at end is le =
    let one : take end text ≡ text = take_all end text (omega (arith, is)) in
    let other_one : take at text ≡ text = take_all at text (omega (arith, is, le)) in
    one ∙ sym other_one

pub line_beyond : (text : List ℕ) (at end : ℕ) → end ≡ length text → end ≤ at → line_of text end ≡ line_of text at
line_beyond text at end is le = ap line_number (whole text at end is le)

pub column_beyond : (text : List ℕ) (at end : ℕ) → end ≡ length text → end ≤ at → column_of text end ≡ column_of text at
column_beyond text at end is le = ap column_number (whole text at end is le)
