-- What an expression makes of the frames that it closes.
use Rattle.std.proofs.Common.{◌≡◌, ℕ, suc, ◌≤◌, Bool, true, false, cond, List, [], ◌∷◌, refl, sym, subst, arith}
use Rattle.std.specs.Prelude.{nat_le}
use Rattle.std.proofs.lemmas.Bool.{leb-true, leb-false}
use Rattle.pap_tree.specs.declared.expression.Unary.TheVariants as unaries
use Rattle.pap_tree.specs.Term.{Term, unary, operator, one, two, choice}
use Rattle.pap_tree.specs.Words.{level_of_operator}
use Rattle.pap_tree.specs.Tokens.{Token}
use Rattle.pap_tree.specs.Grammar.{Item, Part, Guard, free, no_number, Line, Level, LineMeaning, tree}
use Rattle.pap_tree.specs.Texts.{forbids}
use Rattle.expr_grammar.specs.Machine.{Frame, InBrackets, InCall, InItem, InValue, InNew, Negating, Denying, Left, Chosen, Otherwise, Assigning, close}
use Rattle.expr_grammar.proofs.Holes.{hole}
use Rattle.expr_grammar.proofs.Begins.{begins, forbids_more}
use Rattle.expr_grammar.proofs.Pending.{Pending, Read, pass_part, finished}
use Rattle.expr_grammar.proofs.Levels.{looser}
use Rattle.expr_grammar.proofs.Stacks.{Stack}

-- Of a whole line these tokens were read, an expression of the level at the end of them.
abbrev pub IsRead : Line → List Frame → ℕ → Term → List Token → Type 0
IsRead whole k n x a = Read (λ p. Stack whole k p) k (Level n) (tree x) a

-- the same, of an expression with what waits for it
abbrev pub IsReadPair : Line → ℕ → List Token → Term × List Frame → Type 0
IsReadPair whole n a r = IsRead whole r.1 n r.0 a

either : (whole : Line) (n : ℕ) (a : List Token) (c : Bool) (r q : Term × List Frame)
    → (c ≡ true → IsReadPair whole n a r) → (c ≡ false → IsReadPair whole n a q) → IsReadPair whole n a (cond c r q)
either whole n a true r q f g = f refl
either whole n a false r q f g = g refl

-- a looser level of the same
pub loosened : (whole : Line) (k : List Frame) (m n : ℕ) (x : Term) (a : List Token) → n ≤ m → hole k ≤ n → IsRead whole k m x a → IsRead whole k n x a
loosened whole k m n x a h e r = record {
  before = r.before;
  own = r.own;
  context = r.context;
  whole = r.whole;
  fits = (e, (let f = r.fits.1 in omega (arith, f, h)));
  clear = r.clear;
  text = looser m n r.own x h r.fits.1 r.text;
}

-- the part that was due was read
pub taken_part : (S : List Token → Type 0) (k j : List Frame) (l : Line) (g : Guard) (m n : ℕ) (x : Term) (more : List Item) (u : ℕ) (z : LineMeaning) (T : List Token → Type 0) (a : List Token)
    → (r : Read T j (Level m) (tree x) a) → n ≤ m → Pending S k l (Part g (Level n) (tree x) ∷ more) u z r.before → forbids g r.own ≡ false → Pending S k l more u z a
taken_part S k j l g m n x more u z T a r h p e =
    subst (λ b. Pending S k l more u z b) (sym r.whole)
    (pass_part S k l g (Level n) (tree x) more u z r.before r.own e (λ c. forbids_more g r.own c (begins m r.own x r.text) e) (looser m n r.own x h r.fits.1 r.text) p)

-- The frames that bind at least as tightly as n take the expression.
pub closing : (whole : Line) (n : ℕ) → n ≤ 7 → (k : List Frame) (m : ℕ) (x : Term) (a : List Token) → n ≤ m → IsRead whole k m x a → IsReadPair whole n a (close n x k)
closing whole n le [] m x a h r = loosened whole [] m n x a h (omega arith) r
closing whole n le (InBrackets ∷ k) m x a h r = loosened whole (InBrackets ∷ k) m n x a h (omega arith) r
closing whole n le (InCall c y ∷ k) m x a h r = loosened whole (InCall c y ∷ k) m n x a h (omega arith) r
closing whole n le (InItem w ∷ k) m x a h r = loosened whole (InItem w ∷ k) m n x a h (omega arith) r
closing whole n le (InValue ∷ k) m x a h r = loosened whole (InValue ∷ k) m n x a h (omega arith) r
closing whole n le (InNew ∷ k) m x a h r = loosened whole (InNew ∷ k) m n x a h (omega arith) r
closing whole n le (Chosen c ∷ k) m x a h r = loosened whole (Chosen c ∷ k) m n x a h (omega arith) r
closing whole n le (Assigning w ∷ k) m x a h r = loosened whole (Assigning w ∷ k) m n x a h (omega arith) r
closing whole n le (Negating ∷ k) m x a h r =
    either whole n a (nat_le n 7) (close n (one (unary unaries.Minus) x) k) (x, Negating ∷ k)
    (λ e. closing whole n le k 7 (one (unary unaries.Minus) x) a le
    (finished _ k (Level 7) 1 _ a (taken_part _ k (Negating ∷ k) (Level 7) no_number m 7 x [] 1 (tree (one (unary unaries.Minus) x)) _ a r r.fits.0 (r.context.0 x) r.clear)))
    (λ e. let f = leb-false n 7 e in absurd (omega (arith, f, le)))
closing whole n le (Denying ∷ k) m x a h r =
    either whole n a (nat_le n 7) (close n (one (unary unaries.Not) x) k) (x, Denying ∷ k)
    (λ e. closing whole n le k 7 (one (unary unaries.Not) x) a le
    (finished _ k (Level 7) 1 _ a (taken_part _ k (Denying ∷ k) (Level 7) free m 7 x [] 1 (tree (one (unary unaries.Not) x)) _ a r r.fits.0 (r.context x) refl)))
    (λ e. let f = leb-false n 7 e in absurd (omega (arith, f, le)))
closing whole n le (Left o y ∷ k) m x a h r =
    either whole n a (nat_le n (level_of_operator o)) (close n (two (operator o) y x) k) (x, Left o y ∷ k)
    (λ e. closing whole n le k (level_of_operator o) (two (operator o) y x) a (leb-true n (level_of_operator o) e)
    (finished _ k (Level (level_of_operator o)) 0 _ a
    (taken_part _ k (Left o y ∷ k) (Level (level_of_operator o)) free m (suc (level_of_operator o)) x [] 0 (tree (two (operator o) y x)) _ a r r.fits.0 (r.context x) refl)))
    (λ e. let f = leb-false n (level_of_operator o) e in loosened whole (Left o y ∷ k) m n x a h (omega (arith, f)) r)
closing whole n le (Otherwise c y ∷ k) m x a h r =
    either whole n a (nat_le n 0) (close n (choice c y x) k) (x, Otherwise c y ∷ k)
    (λ e. closing whole n le k 0 (choice c y x) a (leb-true n 0 e)
    (finished _ k (Level 0) 1 _ a (taken_part _ k (Otherwise c y ∷ k) (Level 0) free m 0 x [] 1 (tree (choice c y x)) _ a r r.fits.0 (r.context x) refl)))
    (λ e. loosened whole (Otherwise c y ∷ k) m n x a h (omega arith) r)
