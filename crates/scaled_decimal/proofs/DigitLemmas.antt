-- Digits, and the numbers that they spell as they come.
use Rattle.std.proofs.Common.{◌≡◌, ℕ, zero, suc, ◌+◌, ◌*◌, ◌<◌, ◌≤◌, List, [], ◌∷◌, ◌++◌, length, take, drop, get_or, add-one, refl, sym, ap, ◌∙◌, arith}
use Rattle.std.specs.Int.{IsInRange}
use Rattle.std.specs.Char.{digit_value}
use Rattle.std.specs.Str.Parse.{AllDigits, digits_value_after}
use Rattle.std.proofs.lemmas.Str.Parse.{digit_from_value}
use Rattle.std.proofs.lemmas.List.{take-append-drop}

digit_value_at : (bs : List ℕ) (i : ℕ) → AllDigits 10 bs → i < length bs → digit_value (get_or bs i 0) < 10
digit_value_at [] i h l = absurd (omega arith)
digit_value_at (b ∷ bs) zero h l = h.0
digit_value_at (b ∷ bs) (suc i) h l = digit_value_at bs i h.1 (omega arith)

-- each byte of digits is a digit
pub digit_at : (bs : List ℕ) (i : ℕ) → AllDigits 10 bs → i < length bs → IsInRange 48 57 (get_or bs i 0)
digit_at bs i h l = digit_from_value _ (digit_value_at bs i h l)

after_suc : (bs : List ℕ) (i n : ℕ) → i < length bs → digits_value_after 10 n (take (suc i) bs) ≡ digits_value_after 10 n (take i bs) * 10 + digit_value (get_or bs i 0)
after_suc [] i n l = absurd (omega arith)
after_suc (b ∷ bs) zero n l = refl
after_suc (b ∷ bs) (suc i) n l = after_suc bs i (n * 10 + digit_value b) (omega arith)

-- one digit more
pub digits_value_after_more : (bs : List ℕ) (i n : ℕ) → i < length bs → digits_value_after 10 n (take (i + 1) bs) ≡ digits_value_after 10 n (take i bs) * 10 + digit_value (get_or bs i 0)
digits_value_after_more bs i n l = rw add-one (after_suc bs i n l)

-- digits spell no less than those before them
pub grows : (bs : List ℕ) (n : ℕ) → n ≤ digits_value_after 10 n bs
grows [] n = omega arith
grows (b ∷ bs) n = omega (arith, grows bs (n * 10 + digit_value b))

-- a front spells no more than the whole
pub front_le : (bs : List ℕ) (i n : ℕ) → digits_value_after 10 n (take i bs) ≤ digits_value_after 10 n bs
front_le bs zero n = grows bs n
front_le [] (suc i) n = omega arith
front_le (b ∷ bs) (suc i) n = front_le bs i (n * 10 + digit_value b)

-- digits in two parts
pub digits_value_after-append : (xs ys : List ℕ) (n : ℕ) → digits_value_after 10 n (xs ++ ys) ≡ digits_value_after 10 (digits_value_after 10 n xs) ys
digits_value_after-append [] ys n = refl
digits_value_after-append (x ∷ xs) ys n = digits_value_after-append xs ys (n * 10 + digit_value x)

-- from a place on there are digits, which go on from what those before it spell
pub digits_behind : (bs : List ℕ) (i : ℕ) → AllDigits 10 bs → AllDigits 10 (drop i bs)
digits_behind bs zero h = h
digits_behind [] (suc i) h = h
digits_behind (b ∷ bs) (suc i) h = digits_behind bs i h.1

pub goes_on : (bs : List ℕ) (i n : ℕ) → digits_value_after 10 (digits_value_after 10 n (take i bs)) (drop i bs) ≡ digits_value_after 10 n bs
goes_on bs i n = sym (digits_value_after-append (take i bs) (drop i bs) n) ∙ ap (λ ds. digits_value_after 10 n ds) (take-append-drop i bs)
