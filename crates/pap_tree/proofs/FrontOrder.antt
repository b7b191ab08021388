-- The first eight bytes of two texts as numbers: where they differ, they are in the order of the texts.
use Rattle.std.proofs.Common.{◌≡◌, ℕ, zero, suc, ◌+◌, ◌-◌, ◌*◌, ◌<◌, ◌≤◌, List, [], ◌∷◌, ◌++◌, length, take, drop, refl, sym, ap, ap₂, ◌∙◌, subst, arith, Ordering, Less, Equal, Greater}
use Rattle.std.specs.Prelude.{replicate, IsAscii}
use Rattle.std.specs.List.{AllByRecursion}
use Rattle.std.specs.Int.{from_be_bytes, w64}
use Rattle.std.specs.Ordering.{MatchOrdering, nat_cmp, ordering_then}
use Rattle.std.specs.Cmp.Lexicographic.{slice_cmp}
use Rattle.std.specs.Cmp.{nat_cmp_is}
use Rattle.std.proofs.lemmas.Cmp.{ranked}
use Rattle.std.proofs.lemmas.List.{take-append-drop, length-take-le}
use Rattle.pap_tree.specs.ShortText.{IsShortText, longest_text}
use Rattle.pap_tree.specs.Padded.{IsPadded}
use Rattle.pap_tree.proofs.PaddedOrder.{ordered}

-- what the first digit is worth where so many are behind it
abbrev weight : ℕ → ℕ
weight zero = 1
weight (suc n) = weight n * 256

-- the number of some bytes, the first the most significant
abbrev number : List ℕ → ℕ
number [] = 0
number (b ∷ bs) = b * weight (length bs) + number bs

abbrev AreBytes : List ℕ → Type 0
AreBytes bs = AllByRecursion (λ b. b < 256) bs

number_bound : (bs : List ℕ) → AreBytes bs → number bs < weight (length bs)
number_bound [] h = omega arith
number_bound (b ∷ bs) h = below b (weight (length bs)) (number bs) h.0 (number_bound bs h.1)
  where
    below : (b w n : ℕ) → b < 256 → n < w → b * w + n < w * 256
    below b w n h k = omega (arith, times_le b 255 w (omega (arith, h)), k)
      where
        times_le : (a c w : ℕ) → a ≤ c → a * w ≤ c * w
        times_le zero c w h = omega arith
        times_le (suc a) zero w h = absurd (omega (arith, h))
        times_le (suc a) (suc c) w h = omega (arith, times_le a c w (omega (arith, h)))

-- the more significant digit decides, unless it is the same
digits : (w x y r s : ℕ) → r < w → s < w → nat_cmp (x * w + r) (y * w + s) ≡ ordering_then (nat_cmp x y) (nat_cmp r s)
digits w x y r s h k = by (nat_cmp x y) (ranked x y (nat_cmp x y) refl)
  where
    less : (x y r s : ℕ) → x < y → r < w → x * w + r < y * w + s
    less zero zero r s l h = absurd (omega (arith, l))
    less (suc x) zero r s l h = absurd (omega (arith, l))
    less zero (suc y) r s l h = omega (arith, h)
    less (suc x) (suc y) r s l h = omega (arith, less x y r s (omega (arith, l)) h)

    by : (o : Ordering) → MatchOrdering o (x < y) (x ≡ y) (y < x) → nat_cmp (x * w + r) (y * w + s) ≡ ordering_then o (nat_cmp r s)
    by Less m = sym (nat_cmp_is (x * w + r) (y * w + s) Less (less x y r s m h))
    by Greater m = sym (nat_cmp_is (x * w + r) (y * w + s) Greater (less y x s r m k))
    by Equal m = same (nat_cmp r s) (ranked r s (nat_cmp r s) refl)
      where
        same : (o : Ordering) → MatchOrdering o (r < s) (r ≡ s) (s < r) → nat_cmp (x * w + r) (y * w + s) ≡ o
        same Less n = sym (nat_cmp_is (x * w + r) (y * w + s) Less (omega (arith, n, ap (λ z. z * w) m)))
        same Equal n = sym (nat_cmp_is (x * w + r) (y * w + s) Equal (omega (arith, n, ap (λ z. z * w) m)))
        same Greater n = sym (nat_cmp_is (x * w + r) (y * w + s) Greater (omega (arith, n, ap (λ z. z * w) m)))

numbers_ordered : (xs ys : List ℕ) → length xs ≡ length ys → AreBytes xs → AreBytes ys → nat_cmp (number xs) (number ys) ≡ slice_cmp nat_cmp xs ys
numbers_ordered [] [] e h k = refl
numbers_ordered [] (y ∷ ys) e h k = absurd (omega (arith, e))
numbers_ordered (x ∷ xs) [] e h k = absurd (omega (arith, e))
numbers_ordered (x ∷ xs) (y ∷ ys) e h k =
    let same : length xs ≡ length ys = omega (arith, e) in
    let worth = ap weight same in
    let step = digits (weight (length ys)) x y (number xs) (number ys)
    (subst (λ w. number xs < w) worth (number_bound xs h.1)) (number_bound ys k.1) in
    subst (λ w. nat_cmp (x * w + number xs) (number (y ∷ ys)) ≡ ordering_then (nat_cmp x y) (nat_cmp (number xs) (number ys))) (sym worth) step
    ∙ ap (ordering_then (nat_cmp x y)) (numbers_ordered xs ys same h.1 k.1)

-- the order of texts is that of their fronts, then that of what is behind
fronts_ordered : (cs ds us vs : List ℕ) → length cs ≡ length ds →
    slice_cmp nat_cmp (cs ++ us) (ds ++ vs) ≡ ordering_then (slice_cmp nat_cmp cs ds) (slice_cmp nat_cmp us vs)
fronts_ordered [] [] us vs e = refl
fronts_ordered [] (d ∷ ds) us vs e = absurd (omega (arith, e))
fronts_ordered (c ∷ cs) [] us vs e = absurd (omega (arith, e))
fronts_ordered (c ∷ cs) (d ∷ ds) us vs e = by (nat_cmp c d) (slice_cmp nat_cmp (cs ++ us) (ds ++ vs)) (fronts_ordered cs ds us vs (omega (arith, e)))
  where
    by : (o r : Ordering) → r ≡ ordering_then (slice_cmp nat_cmp cs ds) (slice_cmp nat_cmp us vs) →
        ordering_then o r ≡ ordering_then (ordering_then o (slice_cmp nat_cmp cs ds)) (slice_cmp nat_cmp us vs)
    by Less r h = refl
    by Greater r h = refl
    by Equal r h = h

abbrev front : List ℕ → ℕ
front xs = from_be_bytes w64 (take 8 xs)

front_is : (xs : List ℕ) → length xs ≡ 8 → from_be_bytes w64 xs ≡ number xs
front_is (a ∷ b ∷ c ∷ d ∷ e ∷ f ∷ g ∷ h ∷ []) is = omega arith
front_is [] is = absurd (omega (arith, is))
front_is (a ∷ []) is = absurd (omega (arith, is))
front_is (a ∷ b ∷ []) is = absurd (omega (arith, is))
front_is (a ∷ b ∷ c ∷ []) is = absurd (omega (arith, is))
front_is (a ∷ b ∷ c ∷ d ∷ []) is = absurd (omega (arith, is))
front_is (a ∷ b ∷ c ∷ d ∷ e ∷ []) is = absurd (omega (arith, is))
front_is (a ∷ b ∷ c ∷ d ∷ e ∷ f ∷ []) is = absurd (omega (arith, is))
front_is (a ∷ b ∷ c ∷ d ∷ e ∷ f ∷ g ∷ []) is = absurd (omega (arith, is))
front_is (a ∷ b ∷ c ∷ d ∷ e ∷ f ∷ g ∷ h ∷ i ∷ more) is = absurd (omega (arith, is))

-- the bytes of a short text that is filled up with zeros
short_bytes : (bs : List ℕ) → IsAscii bs → AreBytes bs
short_bytes [] h = tt
short_bytes (b ∷ bs) h = (omega (arith, h 0), short_bytes bs (λ i. h (suc i)))

zeros_behind : (bs : List ℕ) (n : ℕ) → AreBytes bs → AreBytes (bs ++ replicate n 0)
zeros_behind [] zero h = tt
zeros_behind [] (suc n) h = (omega arith, zeros_behind [] n h)
zeros_behind (b ∷ bs) n h = (h.0, zeros_behind bs n h.1)

padded_bytes : (xs : List ℕ) (n : ℕ) → IsPadded xs n × IsShortText (take n xs) → AreBytes xs
padded_bytes xs n p = subst AreBytes p.0.full (zeros_behind (take n xs) (longest_text - length (take n xs)) (short_bytes (take n xs) p.1.ascii))

bytes_of_front : (n : ℕ) (bs : List ℕ) → AreBytes bs → AreBytes (take n bs)
bytes_of_front zero bs h = tt
bytes_of_front (suc n) [] h = tt
bytes_of_front (suc n) (b ∷ bs) h = (h.0, bytes_of_front n bs h.1)

-- the first of two comparisons decides unless it finds nothing
first_decides : (a b : Ordering) → (a ≡ Equal → ⊥) → a ≡ ordering_then a b
first_decides Less b h = refl
first_decides Equal b h = absurd (h refl)
first_decides Greater b h = refl

-- where the fronts differ they decide
pub decided : (xs ys : List ℕ) (a b : ℕ) → length xs ≡ 32 → length ys ≡ 32 → IsPadded xs a × IsShortText (take a xs) → IsPadded ys b × IsShortText (take b ys)
    → (nat_cmp (front xs) (front ys) ≡ Equal → ⊥) → nat_cmp (front xs) (front ys) ≡ slice_cmp nat_cmp (take a xs) (take b ys)
decided xs ys a b m n p q differ =
    by_bytes ∙ first_decides (slice_cmp nat_cmp xs ys) (nat_cmp a b) (λ e. differ (by_bytes ∙ e)) ∙ ordered xs ys a b p q
  where
    eight : (zs : List ℕ) → length zs ≡ 32 → length (take 8 zs) ≡ 8
    eight zs is = length-take-le 8 zs (omega (arith, is))

    by_numbers : nat_cmp (front xs) (front ys) ≡ slice_cmp nat_cmp (take 8 xs) (take 8 ys)
    by_numbers =
        ap₂ nat_cmp (front_is (take 8 xs) (eight xs m)) (front_is (take 8 ys) (eight ys n))
        ∙ numbers_ordered (take 8 xs) (take 8 ys) (eight xs m ∙ sym (eight ys n))
        (bytes_of_front 8 xs (padded_bytes xs a p)) (bytes_of_front 8 ys (padded_bytes ys b q))

    behind : Ordering
    behind = slice_cmp nat_cmp (drop 8 xs) (drop 8 ys)

    by_bytes : nat_cmp (front xs) (front ys) ≡ slice_cmp nat_cmp xs ys
    by_bytes =
        first_decides (nat_cmp (front xs) (front ys)) behind differ ∙ ap (λ o. ordering_then o behind) by_numbers
        ∙ sym (fronts_ordered (take 8 xs) (take 8 ys) (drop 8 xs) (drop 8 ys) (eight xs m ∙ sym (eight ys n)))
        ∙ ap₂ (slice_cmp nat_cmp) (take-append-drop 8 xs) (take-append-drop 8 ys)
