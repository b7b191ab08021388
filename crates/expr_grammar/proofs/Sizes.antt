-- A text has a token for each node of its tree, and what is read of a line with limits has at most 1,000.
use Rattle.std.proofs.Common.{◌≡◌, ℕ, zero, suc, ◌+◌, ◌≤◌, ◌⊎◌, inl, inr, List, [], ◌∷◌, ◌++◌, length, refl, ap, arith}
use Rattle.std.specs.Prelude.{IsTrue}
use Rattle.std.proofs.lemmas.List.{length-append}
use Rattle.pap_tree.specs.Tokens.{Token}
use Rattle.pap_tree.specs.Grammar as grammar
use Rattle.pap_tree.specs.Grammar.{Item, Is, Opens, Scale, Part, Line, LineMeaning, Way}
use Rattle.pap_tree.specs.Texts as texts
use Rattle.pap_tree.specs.Texts.{Derives, Texts}
use Rattle.pap_tree.specs.Stopping.{IsRead, has_limits}
use Rattle.expr_grammar.specs.Trees.{size}

abbrev total : List Item → ℕ
total [] = 0
total (Is t ∷ more) = 1 + total more
total (Opens t ∷ more) = 1 + total more
total (Scale p s ∷ more) = 1 + total more
total (Part g l x ∷ more) = size x + total more

within : {l : Line} {way : List Item} {x : LineMeaning} → Way l way x → size x ≤ total way
within (grammar.choose c a b) = omega arith
within _ = omega arith

mutual
  pub sized : {l : Line} {ts : List Token} {x : LineMeaning} → Derives l ts x → size x ≤ length ts
  sized (texts.by way w h) = let a = within w in let b = sizes h in omega (arith, a, b)

  sizes : {way : List Item} {ts : List Token} → Texts way ts → total way ≤ length ts
  sizes texts.done = omega arith
  sizes (texts.is h) = let a = sizes h in omega (arith, a)
  sizes (texts.opens h) = let a = sizes h in omega (arith, a)
  sizes (texts.scale h) = let a = sizes h in omega (arith, a)
  sizes (texts.part {a = c} {ts} e t h) = let a = sized t in let b = sizes h in let d = length-append c ts in omega (arith, a, b, d)

-- ---- what is read

abbrev IsLonger : ℕ → List Token → Type 0
IsLonger n ts = (a : List Token) × (t : Token) × (b : List Token) × (ts ≡ a ++ (t ∷ b)) × (length a ≡ n)

longer : (n : ℕ) (ts : List Token) → (length ts ≤ n) ⊎ IsLonger n ts
longer n [] = inl (omega arith)
longer zero (t ∷ ts) = inr ([], t, ts, refl, refl)
longer (suc n) (t ∷ ts) = elim (longer n ts) as (λ z. (length (t ∷ ts) ≤ suc n) ⊎ IsLonger (suc n) (t ∷ ts)) [
  | inl e ↦ inl (omega (arith, e))
  | inr f ↦ inr (t ∷ f.0, f.1, f.2, ap (λ z. t ∷ z) f.3, (let e = f.4 in omega (arith, e)))
]

few : (l : Line) (ts : List Token) → IsTrue (has_limits l) → IsRead l ts → length ts ≤ 1000
few l ts limits h = elim (longer 1000 ts) as (λ z. length ts ≤ 1000) [
  | inl e ↦ e
  | inr f ↦ absurd (h f.0 f.2 f.1 f.3 (inl (limits, inl (let e = f.4 in omega (arith, e)))))
]

pub bounded : (l : Line) (ts : List Token) (x : LineMeaning) → IsTrue (has_limits l) → Derives l ts x → IsRead l ts → size x ≤ 1000
bounded l ts x limits t h = let a = sized t in let b = few l ts limits h in omega (arith, a, b)
