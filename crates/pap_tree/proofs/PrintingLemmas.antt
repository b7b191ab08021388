-- Whole numbers in plain text.
use Rattle.std.proofs.Common.{◌≡◌, ℕ, List, [], ltb, false, arith, pos, ◌++◌, ◌/◌, ◌∙◌, ap}
use Rattle.std.proofs.lemmas.List.{append-nil, append_assoc}
use Rattle.std.proofs.lemmas.Bool.Decides.{nat_tests}
use Rattle.std.proofs.Math.Nat.{div-one}
use Rattle.scaled_decimal.specs.NumberTexts.{sign_text}
use Rattle.scaled_decimal.specs.Decimals.{decimal}
use Rattle.scaled_decimal.specs.PlainTexts.{plain_text, whole_text}

-- a whole number that isn't below 0 is its digits
pub whole_plain : (n : ℕ) → plain_text (decimal (pos n) 0) ≡ whole_text n
whole_plain n =
    let test : ltb n 0 ≡ false = grind (arith, nat_tests) in
    ap (λ negative. sign_text negative ++ (whole_text (n / 1) ++ [])) test
    ∙ append-nil (whole_text (n / 1))
    ∙ ap whole_text (div-one n)

-- pieces that are written one after the other
pub two_pieces : (a x y : List ℕ) {b c : List ℕ} → b ≡ a ++ x → c ≡ b ++ y → c ≡ a ++ (x ++ y)
two_pieces a x y first second = second ∙ ap (λ b. b ++ y) first ∙ append_assoc a x y

pub three_pieces : (a x y z : List ℕ) {b c d : List ℕ} → b ≡ a ++ x → c ≡ b ++ y → d ≡ c ++ z → d ≡ a ++ (x ++ (y ++ z))
three_pieces a x y z first second third =
    third ∙ ap (λ c. c ++ z) (two_pieces a x y first second) ∙ append_assoc a (x ++ y) z ∙ ap (λ t. a ++ t) (append_assoc x y z)
