-- A text that is gone on with piece by piece.
use Rattle.std.proofs.Common.{◌≡◌, ℕ, List, ◌++◌, ap, ◌∙◌, append_assoc}

-- one piece, and what stands behind it
pub one_before : (a rest old p new : List ℕ) → p ≡ old ++ a → new ≡ p ++ rest → new ≡ old ++ (a ++ rest)
one_before a rest old p new is_p is_new = is_new ∙ ap (λ l. l ++ rest) is_p ∙ append_assoc old a rest

pub three_pieces : (a b c old p q new : List ℕ) → p ≡ old ++ a → q ≡ p ++ b → new ≡ q ++ c → new ≡ old ++ (a ++ (b ++ c))
three_pieces a b c old p q new is_p is_q is_new = one_before a (b ++ c) old p new is_p (one_before b c p q new is_q is_new)

pub four_pieces : (a b c d old p q r new : List ℕ) → p ≡ old ++ a → q ≡ p ++ b → r ≡ q ++ c → new ≡ r ++ d
    → new ≡ old ++ (a ++ (b ++ (c ++ d)))
four_pieces a b c d old p q r new is_p is_q is_r is_new =
    one_before a (b ++ (c ++ d)) old p new is_p (three_pieces b c d p q r new is_q is_r is_new)

pub five_pieces : (a b c d e old p q r s new : List ℕ) → p ≡ old ++ a → q ≡ p ++ b → r ≡ q ++ c → s ≡ r ++ d → new ≡ s ++ e
    → new ≡ old ++ (a ++ (b ++ (c ++ (d ++ e))))
five_pieces a b c d e old p q r s new is_p is_q is_r is_s is_new =
    one_before a (b ++ (c ++ (d ++ e))) old p new is_p (four_pieces b c d e p q r s new is_q is_r is_s is_new)

pub six_pieces : (a b c d e f old p q r s t new : List ℕ) → p ≡ old ++ a → q ≡ p ++ b → r ≡ q ++ c → s ≡ r ++ d → t ≡ s ++ e
    → new ≡ t ++ f → new ≡ old ++ (a ++ (b ++ (c ++ (d ++ (e ++ f)))))
six_pieces a b c d e f old p q r s t new is_p is_q is_r is_s is_t is_new =
    one_before a (b ++ (c ++ (d ++ (e ++ f)))) old p new is_p (five_pieces b c d e f p q r s t new is_q is_r is_s is_t is_new)
