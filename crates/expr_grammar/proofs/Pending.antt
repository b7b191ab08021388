-- What was read of a way: the tokens of its first items, after what was read before the way.
use Rattle.std.proofs.Common.{◌≡◌, ℕ, suc, ◌+◌, ◌≤◌, Bool, false, Option, Some, None, List, [], ◌∷◌, ◌++◌, refl, sym, ap, subst, ◌∙◌, append_assoc}
use Rattle.std.specs.Prelude.{⊤}
use Rattle.std.proofs.lemmas.List.{append-nil}
use Rattle.pap_tree.specs.Tokens.{Token, Literal, int}
use Rattle.pap_tree.specs.Grammar.{Item, Is, Opens, Scale, Scaling, Part, Guard, Line, Level, LineMeaning}
use Rattle.pap_tree.specs.Texts as texts
use Rattle.pap_tree.specs.Texts.{Derives, Texts, forbids}
use Rattle.pap_tree.specs.Fronts as fronts
use Rattle.pap_tree.specs.Fronts.{Front, Fronts}
use Rattle.expr_grammar.specs.Machine.{Frame, Want}
use Rattle.expr_grammar.proofs.Holes.{hole, clashes}

-- what may not begin the items that are left
abbrev pub bars : List Item → List Token → Bool
bars (Part g l x ∷ more) c = forbids g c
bars _ c = false

-- The line may stand where the stack waits.
abbrev pub Fits : Line → List Frame → Type 0
Fits (Level n) k = (hole k ≤ n) × (n ≤ 9)
Fits l k = ⊤

-- Of the tokens a the first are those of the context S, and the others pass the first items of a way through the line,
-- of which m open a level. These items are left, and the way stands for x.
pub record Pending (S : List Token → Type 0) (k : List Frame) (l : Line) (more : List Item) (m : ℕ) (x : LineMeaning) (a : List Token) : Type 0 where
  pub before : List Token
  pub own : List Token
  pub context : S before
  pub whole : a ≡ before ++ own
  pub fits : Fits l k
  pub clear : (c : List Token) → bars more c ≡ false → clashes (Want k) (own ++ c) ≡ false
  pub fronts : (c : List Token) (n : ℕ) (i : Option Item) → Fronts m more c n i → Front l (own ++ c) n i
  pub texts : (c : List Token) → Texts more c → Derives l (own ++ c) x

-- the tokens that were read, with one more part
pub further : (a p q b : List Token) → a ≡ p ++ q → a ++ b ≡ p ++ (q ++ b)
further a p q b e = ap (λ z. z ++ b) e ∙ append_assoc p q b

front_is : (l : Line) (a b : List Token) (n : ℕ) (i : Option Item) → a ≡ b → Front l a n i → Front l b n i
front_is l a b n i e f = subst (λ z. Front l z n i) e f

text_is : (l : Line) (a b : List Token) (x : LineMeaning) → a ≡ b → Derives l a x → Derives l b x
text_is l a b x e f = subst (λ z. Derives l z x) e f

clash_is : (k : List Frame) (a b : List Token) → a ≡ b → clashes (Want k) a ≡ false → clashes (Want k) b ≡ false
clash_is k a b e f = subst (λ z. clashes (Want k) z ≡ false) e f

-- One more part of the tokens passes the next item.
passing : (S : List Token → Type 0) (k : List Frame) (l : Line) (item : Item) (more : List Item) (m v : ℕ) (x : LineMeaning) (a b : List Token)
    → ((c : List Token) → bars (item ∷ more) (b ++ c) ≡ false)
    → ((c : List Token) (n : ℕ) (i : Option Item) → Fronts v more c n i → Fronts m (item ∷ more) (b ++ c) n i)
    → ((c : List Token) → Texts more c → Texts (item ∷ more) (b ++ c))
    → Pending S k l (item ∷ more) m x a → Pending S k l more v x (a ++ b)
passing S k l item more m v x a b clear front text h = record {
  before = h.before;
  own = h.own ++ b;
  context = h.context;
  whole = further a h.before h.own b h.whole;
  fits = h.fits;
  clear = λ c e. clash_is k (h.own ++ (b ++ c)) ((h.own ++ b) ++ c) (sym (append_assoc h.own b c)) (h.clear (b ++ c) (clear c));
  fronts = λ c n i f. front_is l (h.own ++ (b ++ c)) ((h.own ++ b) ++ c) n i (sym (append_assoc h.own b c)) (h.fronts (b ++ c) n i (front c n i f));
  texts = λ c f. text_is l (h.own ++ (b ++ c)) ((h.own ++ b) ++ c) x (sym (append_assoc h.own b c)) (h.texts (b ++ c) (text c f));
}

pub pass_is : (S : List Token → Type 0) (k : List Frame) (l : Line) (t : Token) (more : List Item) (m : ℕ) (x : LineMeaning) (a : List Token)
    → Pending S k l (Is t ∷ more) m x a → Pending S k l more m x (a ++ (t ∷ []))
pass_is S k l t more m x a h = passing S k l (Is t) more m m x a (t ∷ []) (λ c. refl) (λ c n i f. fronts.is f) (λ c f. texts.is f) h

pub pass_opens : (S : List Token → Type 0) (k : List Frame) (l : Line) (t : Token) (more : List Item) (m : ℕ) (x : LineMeaning) (a : List Token)
    → Pending S k l (Opens t ∷ more) m x a → Pending S k l more (suc m) x (a ++ (t ∷ []))
pass_opens S k l t more m x a h = passing S k l (Opens t) more m (suc m) x a (t ∷ []) (λ c. refl) (λ c n i f. fronts.opens f) (λ c f. texts.opens f) h

pub pass_scale : (S : List Token → Type 0) (k : List Frame) (l : Line) (p : Scaling) (s : ℕ) (more : List Item) (m : ℕ) (x : LineMeaning) (a : List Token)
    → Pending S k l (Scale p s ∷ more) m x a → Pending S k l more m x (a ++ (Literal (int s) ∷ []))
pass_scale S k l p s more m x a h = passing S k l (Scale p s) more m m x a (Literal (int s) ∷ []) (λ c. refl) (λ c n i f. fronts.scale f) (λ c f. texts.scale f) h

pub pass_part : (S : List Token → Type 0) (k : List Frame) (l : Line) (g : Guard) (inner : Line) (y : LineMeaning) (more : List Item) (m : ℕ) (x : LineMeaning) (a b : List Token)
    → forbids g b ≡ false → ((c : List Token) → forbids g (b ++ c) ≡ false) → Derives inner b y
    → Pending S k l (Part g inner y ∷ more) m x a → Pending S k l more m x (a ++ b)
pass_part S k l g inner y more m x a b e clear t h = passing S k l (Part g inner y) more m m x a b clear (λ c n i f. fronts.past e t f) (λ c f. texts.part e t f) h

-- ---- fronts

-- A front of the line makes one of the whole where the context stands before it, and so many more levels are open.
abbrev pub Plugs : (List Token → Type 0) → List Frame → Line → Line → ℕ → Type 0
Plugs S k l whole v = (p b : List Token) (n : ℕ) (i : Option Item) → S p → Front l b n i → clashes (Want k) b ≡ false → Front whole (p ++ b) (n + v) i

-- nothing more was read
pub front_here : (S : List Token → Type 0) (k : List Frame) (l whole : Line) (v : ℕ) (item : Item) (more : List Item) (m : ℕ) (x : LineMeaning) (a : List Token)
    → Plugs S k l whole v → bars (item ∷ more) [] ≡ false → Pending S k l (item ∷ more) m x a → Front whole a (m + v) (Some item)
front_here S k l whole v item more m x a plug e h =
    front_is whole (h.before ++ (h.own ++ [])) a (m + v) (Some item) (ap (λ z. h.before ++ z) (append-nil h.own) ∙ sym h.whole)
    (plug h.before (h.own ++ []) m (Some item) h.context (h.fronts [] m (Some item) fronts.here) (h.clear [] e))

-- a front of the part that comes next was read
pub front_inside : (S : List Token → Type 0) (k : List Frame) (l whole : Line) (v : ℕ) (g : Guard) (inner : Line) (y : LineMeaning) (more : List Item) (m : ℕ) (x : LineMeaning) (a b : List Token)
    (n : ℕ) (i : Option Item)
    → Plugs S k l whole v → forbids g b ≡ false → Front inner b n i → Pending S k l (Part g inner y ∷ more) m x a → Front whole (a ++ b) ((m + n) + v) i
front_inside S k l whole v g inner y more m x a b n i plug e f h =
    front_is whole (h.before ++ (h.own ++ b)) (a ++ b) ((m + n) + v) i (sym (further a h.before h.own b h.whole))
    (plug h.before (h.own ++ b) (m + n) i h.context (h.fronts b (m + n) i (fronts.inside (m + n) refl e f)) (h.clear b e))

-- ---- texts

-- Of the tokens a the first are those of the context, and the others are a text of the line that stands for x.
pub record Read (S : List Token → Type 0) (k : List Frame) (l : Line) (x : LineMeaning) (a : List Token) : Type 0 where
  pub before : List Token
  pub own : List Token
  pub context : S before
  pub whole : a ≡ before ++ own
  pub fits : Fits l k
  pub clear : clashes (Want k) own ≡ false
  pub text : Derives l own x

pub finished : (S : List Token → Type 0) (k : List Frame) (l : Line) (m : ℕ) (x : LineMeaning) (a : List Token) → Pending S k l [] m x a → Read S k l x a
finished S k l m x a h = record {
  before = h.before;
  own = h.own;
  context = h.context;
  whole = h.whole;
  fits = h.fits;
  clear = clash_is k (h.own ++ []) h.own (append-nil h.own) (h.clear [] refl);
  text = text_is l (h.own ++ []) h.own x (append-nil h.own) (h.texts [] texts.done);
}

-- a text is a front with no open level
texts_front : {way : List Item} {a : List Token} → Texts way a → (k : ℕ) → Fronts k way a 0 None
texts_front texts.done k = fronts.done
texts_front (texts.is h) k = fronts.is (texts_front h k)
texts_front (texts.opens h) k = fronts.opens (texts_front h (suc k))
texts_front (texts.scale h) k = fronts.scale (texts_front h k)
texts_front (texts.part e t h) k = fronts.past e t (texts_front h k)

pub text_front : {l : Line} {a : List Token} {x : LineMeaning} → Derives l a x → Front l a 0 None
text_front (texts.by way w h) = fronts.by way w (texts_front h 0)

pub front_read : (S : List Token → Type 0) (k : List Frame) (l whole : Line) (v : ℕ) (x : LineMeaning) (a : List Token) → Plugs S k l whole v → Read S k l x a → Front whole a (0 + v) None
front_read S k l whole v x a plug h =
    front_is whole (h.before ++ h.own) a (0 + v) None (sym h.whole) (plug h.before h.own 0 None h.context (text_front h.text) h.clear)
