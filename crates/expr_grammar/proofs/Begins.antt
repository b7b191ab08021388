-- How a text of an expression begins.
use Rattle.std.proofs.Common.{◌≡◌, ℕ, false, Some, None, List, [], ◌∷◌, ◌++◌, refl, sym, ap, ◌∙◌, arith}
use Rattle.pap_tree.specs.declared.expression.Binary.TheVariants as binaries
use Rattle.pap_tree.specs.Term.{Term}
use Rattle.pap_tree.specs.Tokens as tokens
use Rattle.pap_tree.specs.Tokens.{Sign, Token, Literal, Word, Operator, Mark}
use Rattle.pap_tree.specs.Grammar.{Guard, free, no_number, no_point, Level, tree}
use Rattle.pap_tree.specs.Texts.{Derives, begins_number, begins_point, forbids}
use Rattle.expr_grammar.specs.Machine.{Frame, InNew, Negating, State, Want, Have, finish}
use Rattle.expr_grammar.proofs.Holes.{clashes}
use Rattle.expr_grammar.proofs.Handles as handles
use Rattle.expr_grammar.proofs.Forward.{goes, some_is}

-- two tokens at least, or one that is no -
abbrev pub Begins : List Token → Type 0
Begins [] = ⊥
Begins (Operator binaries.Sub ∷ []) = ⊥
Begins a = Unit {0}

no_tree : (s : State) (x : Term) → finish s ≡ None → finish s ≡ finish (Have x []) → ⊥
no_tree s x e f = let g : None ≡ Some (tree x) = sym e ∙ f in cc

-- what the machine finds is enough: after no token, or after a -, the line isn't whole
pub begins : (n : ℕ) (a : List Token) (x : Term) → Derives (Level n) a (tree x) → Begins a
begins n [] x h =
    let g = goes h (Want []) (handles.expression n [] (omega arith)) refl in
    no_tree (Want []) x refl (ap finish (some_is (Want []) g.to g.run) ∙ g.same.end)
begins n (Operator binaries.Sub ∷ []) x h =
    let g = goes h (Want []) (handles.expression n [] (omega arith)) refl in
    no_tree (Want (Negating ∷ [])) x refl (ap finish (some_is (Want (Negating ∷ [])) g.to g.run) ∙ g.same.end)
begins n (t ∷ a) x h = tt

number_more : (a b : List Token) → Begins a → begins_number a ≡ false → begins_number (a ++ b) ≡ false
number_more [] b h e = absurd h
number_more (Literal n ∷ a) b h e = e
number_more (t ∷ a) b h e = refl

point_more : (a b : List Token) → Begins a → begins_point a ≡ false → begins_point (a ++ b) ≡ false
point_more [] b h e = absurd h
point_more (Operator binaries.Sub ∷ []) b h e = absurd h
point_more (Literal (tokens.point d) ∷ a) b h e = e
point_more (Operator binaries.Sub ∷ Literal (tokens.point d) ∷ a) b h e = e
point_more (t ∷ a) b h e = refl

-- What doesn't begin a text doesn't begin what the text begins.
pub forbids_more : (g : Guard) (a b : List Token) → Begins a → forbids g a ≡ false → forbids g (a ++ b) ≡ false
forbids_more free a b h e = refl
forbids_more no_number a b h e = number_more a b h e
forbids_more no_point a b h e = point_more a b h e

pub clash_more : (k : List Frame) (a b : List Token) → Begins a → clashes (Want k) a ≡ false → clashes (Want k) (a ++ b) ≡ false
clash_more [] a b h e = refl
clash_more (Negating ∷ k) a b h e = number_more a b h e
clash_more (InNew ∷ k) a b h e = point_more a b h e
clash_more (f ∷ k) a b h e = refl

-- tokens that clash with no stack
pub word_clear : (k : List Frame) (w : List ℕ) (b : List Token) → clashes (Want k) (Word w ∷ b) ≡ false
word_clear [] w b = refl
word_clear (Negating ∷ k) w b = refl
word_clear (InNew ∷ k) w b = refl
word_clear (f ∷ k) w b = refl

pub mark_clear : (k : List Frame) (s : Sign) (b : List Token) → clashes (Want k) (Mark s ∷ b) ≡ false
mark_clear [] s b = refl
mark_clear (Negating ∷ k) s b = refl
mark_clear (InNew ∷ k) s b = refl
mark_clear (f ∷ k) s b = refl

point_after_minus : (b : List Token) → begins_number b ≡ false → begins_point (Operator binaries.Sub ∷ b) ≡ false
point_after_minus [] e = refl
point_after_minus (Literal n ∷ b) e = absurd cc
point_after_minus (t ∷ b) e = refl

pub minus_clear : (k : List Frame) (b : List Token) → begins_number b ≡ false → clashes (Want k) (Operator binaries.Sub ∷ b) ≡ false
minus_clear [] b e = refl
minus_clear (Negating ∷ k) b e = refl
minus_clear (InNew ∷ k) b e = point_after_minus b e
minus_clear (f ∷ k) b e = refl

pub empty_clear : (k : List Frame) → clashes (Want k) [] ≡ false
empty_clear [] = refl
empty_clear (Negating ∷ k) = refl
empty_clear (InNew ∷ k) = refl
empty_clear (f ∷ k) = refl

pub empty_allowed : (g : Guard) → forbids g [] ≡ false
empty_allowed free = refl
empty_allowed no_number = refl
empty_allowed no_point = refl
