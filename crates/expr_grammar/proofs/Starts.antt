-- How what was read of a way begins.
use Rattle.std.proofs.Common.{◌≡◌, ℕ, false, Option, List, ◌∷◌, ◌++◌, refl}
use Rattle.pap_tree.specs.Term.{Term}
use Rattle.pap_tree.specs.Tokens.{Token}
use Rattle.pap_tree.specs.Grammar.{Item, Line, Level, LineMeaning, tree, at, Way}
use Rattle.pap_tree.specs.Texts as texts
use Rattle.pap_tree.specs.Texts.{Derives, Texts}
use Rattle.pap_tree.specs.Fronts as fronts
use Rattle.pap_tree.specs.Fronts.{Front, Fronts}
use Rattle.expr_grammar.specs.Machine.{Frame, Want}
use Rattle.expr_grammar.proofs.Holes.{clashes}
use Rattle.expr_grammar.proofs.Begins.{begins, clash_more}
use Rattle.expr_grammar.proofs.Pending.{bars, Fits, Pending, Read}

-- the first tokens of a way, all at once
pub begun : (S : List Token → Type 0) (k : List Frame) (l : Line) (more : List Item) (m : ℕ) (x : LineMeaning) (p b a : List Token) → S p → Fits l k
    → ((c : List Token) → bars more c ≡ false → clashes (Want k) (b ++ c) ≡ false)
    → ((c : List Token) (n : ℕ) (i : Option Item) → Fronts m more c n i → Front l (b ++ c) n i)
    → ((c : List Token) → Texts more c → Derives l (b ++ c) x)
    → a ≡ p ++ b → Pending S k l more m x a
begun S k l more m x p b a s fits clear front text e = record { before = p; own = b; context = s; whole = e; fits = fits; clear = clear; fronts = front; texts = text }

-- a way whose first part was read
pub started : (S : List Token → Type 0) (k : List Frame) (l : Line) (n : ℕ) (x : Term) (more : List Item) (z : LineMeaning) (a : List Token)
    → Fits l k → Way l (at n x ∷ more) z → Read S k (Level n) (tree x) a → Pending S k l more 0 z a
started S k l n x more z a fits w r = record {
  before = r.before;
  own = r.own;
  context = r.context;
  whole = r.whole;
  fits = fits;
  clear = λ c e. clash_more k r.own c (begins n r.own x r.text) r.clear;
  fronts = λ c v i f. fronts.by _ w (fronts.past refl r.text f);
  texts = λ c f. texts.by _ w (texts.part refl r.text f);
}
