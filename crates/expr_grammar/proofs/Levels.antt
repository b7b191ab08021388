-- What stands at a tighter level of an expression stands at each looser one.
use Rattle.std.proofs.Common.{◌≡◌, ℕ, zero, suc, ◌+◌, ◌-◌, ◌≤◌, Option, List, [], refl, subst, arith}
use Rattle.std.proofs.lemmas.List.{append-nil}
use Rattle.pap_tree.specs.Term.{Term, leaf, named}
use Rattle.pap_tree.specs.Tokens.{Token}
use Rattle.pap_tree.specs.Grammar as grammar
use Rattle.pap_tree.specs.Grammar.{Item, Level, tree}
use Rattle.pap_tree.specs.Texts as texts
use Rattle.pap_tree.specs.Texts.{Derives}
use Rattle.pap_tree.specs.Fronts as fronts
use Rattle.pap_tree.specs.Fronts.{Front}

text_down : (d m n : ℕ) (a : List Token) (x : Term) → n + d ≡ m → m ≤ 9 → Derives (Level m) a (tree x) → Derives (Level n) a (tree x)
text_down zero m n a x e le t = let f : m ≡ n = omega (arith, e) in subst (λ k. Derives (Level k) a (tree x)) f t
text_down (suc d) m n a x e le t =
    let f : suc n + d ≡ m = omega (arith, e) in
    subst (λ a. Derives (Level n) a (tree x)) (append-nil a)
    (texts.by _ (grammar.tighter n x (omega (arith, e, le))) (texts.part refl (text_down d m (suc n) a x f le t) texts.done))

pub looser : (m n : ℕ) (a : List Token) (x : Term) → n ≤ m → m ≤ 9 → Derives (Level m) a (tree x) → Derives (Level n) a (tree x)
looser m n a x h le t = text_down (m - n) m n a x (omega (arith, h)) le t

-- any expression at all: a front doesn't tell what its open parts stand for
abbrev pub some_term : Term
some_term = leaf (named [])

front_down : (d m n : ℕ) (a : List Token) (k : ℕ) (i : Option Item) → n + d ≡ m → m ≤ 9 → Front (Level m) a k i → Front (Level n) a k i
front_down zero m n a k i e le t = let f : m ≡ n = omega (arith, e) in subst (λ l. Front (Level l) a k i) f t
front_down (suc d) m n a k i e le t =
    let f : suc n + d ≡ m = omega (arith, e) in
    fronts.by _ (grammar.tighter n some_term (omega (arith, e, le))) (fronts.inside k (omega arith) refl (front_down d m (suc n) a k i f le t))

pub looser_front : (m n : ℕ) (a : List Token) (k : ℕ) (i : Option Item) → n ≤ m → m ≤ 9 → Front (Level m) a k i → Front (Level n) a k i
looser_front m n a k i h le t = front_down (m - n) m n a k i (omega (arith, h)) le t
