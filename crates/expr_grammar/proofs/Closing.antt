-- What an expression closes before a token.
use Rattle.std.proofs.Common.{◌≡◌, ℕ, ◌≤◌, true, false, cond, Some, List, [], ◌∷◌, refl, ap, ◌∙◌, arith}
use Rattle.std.specs.Prelude.{nat_le}
use Rattle.std.proofs.lemmas.Bool.{le-leb, lt-leb}
use Rattle.pap_tree.specs.declared.expression.Binary.{Binary}
use Rattle.pap_tree.specs.declared.expression.Binary.TheVariants as binaries
use Rattle.pap_tree.specs.Term.{Term}
use Rattle.pap_tree.specs.Words.{level_of_operator}
use Rattle.pap_tree.specs.Tokens.{Token}
use Rattle.expr_grammar.specs.Machine.{Frame, InBrackets, InCall, InItem, InValue, InNew, Negating, Denying, Left, Chosen, Otherwise, Assigning, Have, binds, made, closes, close, tightness, behind_operand, step, finish, whole_line}
use Rattle.expr_grammar.proofs.Holes.{hole}

pub operator_low : (o : Binary) → 1 ≤ level_of_operator o
operator_low binaries.Mul = omega arith
operator_low _ = omega arith

pub operator_high : (o : Binary) → level_of_operator o ≤ 6
operator_high binaries.Mul = omega arith
operator_high _ = omega arith

-- a frame that isn't closed at n
stopped : (n : ℕ) (x : Term) (f : Frame) (k : List Frame) → closes n (binds f) ≡ false → close n x (f ∷ k) ≡ (x, f ∷ k)
stopped n x f k e = ap (λ c. cond c (close n (made f x) k) (x, f ∷ k)) e

-- Where an operator's own level is due, or that of a condition, nothing is closed.
pub stays : (n : ℕ) (x : Term) (k : List Frame) → hole k ≤ n → 1 ≤ n → n ≤ 6 → close n x k ≡ (x, k)
stays n x [] h low high = refl
stays n x (Negating ∷ k) h low high = absurd (omega (arith, h, high))
stays n x (Denying ∷ k) h low high = absurd (omega (arith, h, high))
stays n x (Left o y ∷ k) h low high = stopped n x (Left o y) k (lt-leb n (level_of_operator o) (omega (arith, h)))
stays n x (Otherwise c a ∷ k) h low high = stopped n x (Otherwise c a) k (lt-leb n 0 (omega (arith, low)))
stays n x (InBrackets ∷ k) h low high = refl
stays n x (InCall c y ∷ k) h low high = refl
stays n x (InItem w ∷ k) h low high = refl
stays n x (InValue ∷ k) h low high = refl
stays n x (InNew ∷ k) h low high = refl
stays n x (Chosen c ∷ k) h low high = refl
stays n x (Assigning w ∷ k) h low high = refl

-- nor before a point
pub stays_whole : (x : Term) (k : List Frame) → close 8 x k ≡ (x, k)
stays_whole x [] = refl
stays_whole x (Left o y ∷ k) = stopped 8 x (Left o y) k (lt-leb 8 (level_of_operator o) (let h = operator_high o in omega (arith, h)))
stays_whole x (f ∷ k) = refl

-- A frame that binds as tightly as the token takes the expression.
pub taking : (f : Frame) (m : ℕ) (x : Term) (k : List Frame) (t : Token) → binds f ≡ Some m → nat_le (tightness t) m ≡ true
    → step (Have x (f ∷ k)) t ≡ step (Have (made f x) k) t
taking f m x k t e h =
    let c : closes (tightness t) (binds f) ≡ true = ap (closes (tightness t)) e ∙ h in
    ap (λ c. behind_operand t (cond c (close (tightness t) (made f x) k) (x, f ∷ k))) c

-- and at the end of the line
pub taking_last : (f : Frame) (m : ℕ) (x : Term) (k : List Frame) → binds f ≡ Some m → finish (Have x (f ∷ k)) ≡ finish (Have (made f x) k)
taking_last f m x k e =
    let c : closes 0 (binds f) ≡ true = ap (closes 0) e ∙ le-leb 0 m (omega arith) in
    ap (λ c. whole_line (cond c (close 0 (made f x) k) (x, f ∷ k))) c
