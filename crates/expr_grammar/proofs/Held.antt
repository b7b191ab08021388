-- The names, scales and literals of a tree that a text of bytes has are within their ranges.
use Rattle.std.proofs.Common.{◌≡◌, ℕ, zero, suc, ◌+◌, ◌≤◌, List, [], ◌∷◌, ◌++◌, length, ℤ, pos, negsuc, ap, arith}
use Rattle.std.specs.Prelude.{⊤, IsTrue, unsigned_abs}
use Rattle.scaled_decimal.specs.Decimals.{Decimal, decimal, numerator_of, scale_of, negated}
use Rattle.scaled_decimal.specs.Limits.{IsKept}
use Rattle.pap_tree.specs.Names.{is_name}
use Rattle.pap_tree.specs.Term as terms
use Rattle.pap_tree.specs.Term.{Leaf, Term, leaf, item, one, two, choice}
use Rattle.pap_tree.specs.Tokens as tokens
use Rattle.pap_tree.specs.Tokens.{Number, Token, Literal, Quoted, greatest_int, greatest_long, Spot, plain, Tokens, IsFirst}
use Rattle.pap_tree.specs.Grammar as grammar
use Rattle.pap_tree.specs.Grammar.{Item, Is, Opens, Scale, Part, Line, LineMeaning, tree, literal, assignment, Way, leaf_of, negative_of}
use Rattle.pap_tree.specs.Texts as texts
use Rattle.pap_tree.specs.Texts.{Derives, Texts}
use Rattle.pap_tree.specs.Scales.{OneKeepsScale, TwoKeepsScale}

abbrev pub IsHeldLeaf : Leaf → Type 0
IsHeldLeaf (terms.whole i) = unsigned_abs i ≤ greatest_int
IsHeldLeaf (terms.long i) = unsigned_abs i ≤ greatest_long
IsHeldLeaf (terms.point d) = (1 ≤ scale_of d) × IsKept (decimal (pos (unsigned_abs (numerator_of d))) (scale_of d))
IsHeldLeaf (terms.text d) = IsKept d
IsHeldLeaf (terms.known k) = ⊤
IsHeldLeaf (terms.named x) = IsTrue (is_name x)

abbrev pub IsHeld : Term → Type 0
IsHeld (leaf l) = IsHeldLeaf l
IsHeld (item x a) = IsTrue (is_name x) × IsHeld a
IsHeld (one op a) = OneKeepsScale op × IsHeld a
IsHeld (two op a b) = TwoKeepsScale op × IsHeld a × IsHeld b
IsHeld (choice c a b) = IsHeld c × IsHeld a × IsHeld b

abbrev IsHeldMeaning : LineMeaning → Type 0
IsHeldMeaning (tree x) = IsHeld x
IsHeldMeaning (literal l) = IsHeldLeaf l
IsHeldMeaning (assignment w x) = IsHeld x
IsHeldMeaning x = ⊤

abbrev IsHeldToken : Token → Type 0
IsHeldToken (Literal (tokens.int n)) = n ≤ greatest_int
IsHeldToken (Literal (tokens.long n)) = n ≤ greatest_long
IsHeldToken (Literal (tokens.point d)) = (1 ≤ scale_of d) × IsKept d
IsHeldToken (Quoted d) = IsKept d
IsHeldToken t = ⊤

abbrev AllTokens : List Token → Type 0
AllTokens [] = ⊤
AllTokens (t ∷ ts) = IsHeldToken t × AllTokens ts

first_tokens : (a b : List Token) → AllTokens (a ++ b) → AllTokens a
first_tokens [] b h = tt
first_tokens (t ∷ a) b h = (h.0, first_tokens a b h.1)

last_tokens : (a b : List Token) → AllTokens (a ++ b) → AllTokens b
last_tokens [] b h = h
last_tokens (t ∷ a) b h = last_tokens a b h.1

abbrev AllHeld : List Item → Type 0
AllHeld [] = ⊤
AllHeld (Is t ∷ more) = IsHeldToken t × AllHeld more
AllHeld (Part g l x ∷ more) = IsHeldMeaning x × AllHeld more
AllHeld (Opens t ∷ more) = AllHeld more
AllHeld (Scale p s ∷ more) = AllHeld more

plain_size : (z : ℤ) (s : ℕ) → IsKept (decimal z s) → IsKept (decimal (pos (unsigned_abs z)) s)
plain_size (pos n) s h = h
plain_size (negsuc n) s h = record { numerator = h.numerator; scale = h.scale }

minus_size : (z : ℤ) (s : ℕ) → IsKept (decimal z s) → IsKept (decimal (pos (unsigned_abs (numerator_of (negated (decimal z s))))) s)
minus_size (pos zero) s h = h
minus_size (pos (suc n)) s h = h
minus_size (negsuc n) s h = record { numerator = h.numerator; scale = h.scale }

plain_held : (n : Number) → IsHeldToken (Literal n) → IsHeldLeaf (leaf_of n)
plain_held (tokens.int n) h = h
plain_held (tokens.long n) h = h
plain_held (tokens.point d) h = (h.0, plain_size (numerator_of d) (scale_of d) h.1)

minus_held : (n : Number) → IsHeldToken (Literal n) → IsHeldLeaf (negative_of n)
minus_held (tokens.int zero) h = h
minus_held (tokens.int (suc n)) h = h
minus_held (tokens.long zero) h = h
minus_held (tokens.long (suc n)) h = h
minus_held (tokens.point d) h = (h.0, minus_size (numerator_of d) (scale_of d) h.1)

way_held : {l : Line} {way : List Item} {x : LineMeaning} → Way l way x → AllHeld way → IsHeldMeaning x
way_held (grammar.choose c a b) h = (h.0, h.1.0, h.1.1.1.0)
way_held (grammar.tighter n x e) h = h.0
way_held (grammar.operation n o x y e) h = (tt, h.0, h.1.1.0)
way_held (grammar.minus x) h = (tt, h.0)
way_held (grammar.negation x) h = (tt, h.0)
way_held (grammar.call c x y) h = (tt, h.0, h.1.1.1.0)
way_held (grammar.divide_to s m x y le) h = (le, h.0, h.1.1.1.0)
way_held (grammar.set_scale_to s m x le) h = (le, h.0)
way_held (grammar.plain_call u w x e) h = (tt, h.0)
way_held (grammar.a_literal f l) h = h.0
way_held (grammar.a_name x e) h = e
way_held (grammar.an_item x i e) h = (e, h.1.0)
way_held (grammar.in_brackets x) h = h.0
way_held (grammar.a_known k) h = tt
way_held (grammar.a_value x) h = (tt, h.1.1.1.0)
way_held (grammar.a_scaled_value s x le) h = (le, h.1.1.1.0)
way_held (grammar.a_new_big x) h = (tt, h.1.1.0)
way_held (grammar.a_new_text d) h = h.1.1.0
way_held (grammar.without_sign f n e) h = plain_held n h.0
way_held (grammar.with_sign f n e) h = minus_held n h.0
way_held (grammar.assign w x e) h = h.1.1.0
way_held (grammar.assign_ended w x e) h = h.1.1.0
way_held w h = tt

mutual
  pub held : {l : Line} {ts : List Token} {x : LineMeaning} → Derives l ts x → AllTokens ts → IsHeldMeaning x
  held (texts.by way w h) p = way_held w (all_held h p)

  all_held : {way : List Item} {ts : List Token} → Texts way ts → AllTokens ts → AllHeld way
  all_held texts.done p = tt
  all_held (texts.is h) p = (p.0, all_held h p.1)
  all_held (texts.opens h) p = all_held h p.1
  all_held (texts.scale h) p = all_held h p.1
  all_held (texts.part {a} {ts} e t h) p = (held t (first_tokens a ts p), all_held h (last_tokens a ts p))

first_held : (text rest : List ℕ) (t : Token) → IsFirst text rest t → IsHeldToken t
first_held text rest (Literal (tokens.int n)) h = h.0.1
first_held text rest (Literal (tokens.long n)) h = h.0.1
first_held text rest (Literal (tokens.point d)) h =
    let p = h.0.0 in
    let e : scale_of d ≡ length p.places = ap (λ (d : Decimal). scale_of d) p.value in
    let some = p.some in (omega (arith, e, some), h.0.1)
first_held text rest (Quoted d) h = h.0.1
first_held text rest t h = tt

spots_held : (at : ℕ) (bytes : List ℕ) (ts : List Spot) → Tokens at bytes ts → AllTokens (plain ts)
spots_held at bytes [] h = tt
spots_held at bytes (t ∷ ts) (white, text, rest, a, b, first, c, more) = (first_held text rest t.token first, spots_held (at + length white + length text) rest ts more)

pub tree_held : (l : Line) (bytes : List ℕ) (spots : List Spot) (x : Term) → Tokens 0 bytes spots → Derives l (plain spots) (tree x) → IsHeld x
tree_held l bytes spots x h t = held t (spots_held 0 bytes spots h)

pub right_held : (bytes : List ℕ) (spots : List Spot) (w : List ℕ) (x : Term) → Tokens 0 bytes spots → Derives grammar.Assignment (plain spots) (assignment w x) → IsHeld x
right_held bytes spots w x h t = held t (spots_held 0 bytes spots h)
