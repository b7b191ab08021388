-- The scales of a tree are at most 30, and its literals with a point have a place.
use Rattle.std.proofs.Common.{◌≡◌, ℕ, ◌+◌, ◌≤◌, List, [], ◌∷◌, ◌++◌, length, ap, arith}
use Rattle.std.specs.Prelude.{⊤}
use Rattle.scaled_decimal.specs.Decimals.{Decimal, scale_of}
use Rattle.pap_tree.specs.Tokens as tokens
use Rattle.pap_tree.specs.Tokens.{Number, Token, Literal, Spot, plain, Tokens, IsFirst}
use Rattle.pap_tree.specs.Grammar as grammar
use Rattle.pap_tree.specs.Grammar.{Item, Is, Opens, Scale, Part, Line, LineMeaning, Way, leaf_of, negative_of}
use Rattle.pap_tree.specs.Texts as texts
use Rattle.pap_tree.specs.Texts.{Derives, Texts}
use Rattle.pap_tree.specs.Expressions.{IsText}
use Rattle.pap_tree.specs.Scales.{HasPlaces}
use Rattle.expr_grammar.specs.Trees.{IsKeeping, ArePlaced}

-- ---- tokens

abbrev IsPlaced : Token → Type 0
IsPlaced (Literal (tokens.point d)) = 1 ≤ scale_of d
IsPlaced t = ⊤

placed_head : (t : Token) (ts : List Token) → ArePlaced (t ∷ ts) → IsPlaced t
placed_head (Literal (tokens.point d)) ts h = h.0
placed_head t ts h = tt

placed_tail : (t : Token) (ts : List Token) → ArePlaced (t ∷ ts) → ArePlaced ts
placed_tail (Literal (tokens.point d)) ts h = h.1
placed_tail t ts h = h

placed_cons : (t : Token) (ts : List Token) → IsPlaced t → ArePlaced ts → ArePlaced (t ∷ ts)
placed_cons (Literal (tokens.point d)) ts h g = (h, g)
placed_cons t ts h g = g

placed_first : (a b : List Token) → ArePlaced (a ++ b) → ArePlaced a
placed_first [] b h = tt
placed_first (t ∷ a) b h = placed_cons t a (placed_head t (a ++ b) h) (placed_first a b (placed_tail t (a ++ b) h))

placed_last : (a b : List Token) → ArePlaced (a ++ b) → ArePlaced b
placed_last [] b h = h
placed_last (t ∷ a) b h = placed_last a b (placed_tail t (a ++ b) h)

-- ---- ways

abbrev AllKeep : List Item → Type 0
AllKeep [] = ⊤
AllKeep (Is t ∷ more) = IsPlaced t × AllKeep more
AllKeep (Opens t ∷ more) = AllKeep more
AllKeep (Scale p s ∷ more) = AllKeep more
AllKeep (Part g l x ∷ more) = IsKeeping x × AllKeep more

plain_place : (n : Number) → IsPlaced (Literal n) → HasPlaces (leaf_of n)
plain_place (tokens.int n) h = tt
plain_place (tokens.long n) h = tt
plain_place (tokens.point d) h = h

minus_place : (n : Number) → IsPlaced (Literal n) → HasPlaces (negative_of n)
minus_place (tokens.int n) h = tt
minus_place (tokens.long n) h = tt
minus_place (tokens.point d) h = h

way_keeps : {l : Line} {way : List Item} {x : LineMeaning} → Way l way x → AllKeep way → IsKeeping x
way_keeps (grammar.choose c a b) h = (h.0, h.1.0, h.1.1.1.0)
way_keeps (grammar.tighter n x e) h = h.0
way_keeps (grammar.operation n o x y e) h = (tt, h.0, h.1.1.0)
way_keeps (grammar.minus x) h = (tt, h.0)
way_keeps (grammar.negation x) h = (tt, h.0)
way_keeps (grammar.call c x y) h = (tt, h.0, h.1.1.1.0)
way_keeps (grammar.divide_to s m x y le) h = (le, h.0, h.1.1.1.0)
way_keeps (grammar.set_scale_to s m x le) h = (le, h.0)
way_keeps (grammar.plain_call u w x e) h = (tt, h.0)
way_keeps (grammar.a_literal f l) h = h.0
way_keeps (grammar.a_name x e) h = tt
way_keeps (grammar.an_item x i e) h = h.1.0
way_keeps (grammar.in_brackets x) h = h.0
way_keeps (grammar.a_known k) h = tt
way_keeps (grammar.a_value x) h = (tt, h.1.1.1.0)
way_keeps (grammar.a_scaled_value s x le) h = (le, h.1.1.1.0)
way_keeps (grammar.a_new_big x) h = (tt, h.1.1.0)
way_keeps (grammar.a_new_text d) h = tt
way_keeps (grammar.without_sign f n e) h = plain_place n h.0
way_keeps (grammar.with_sign f n e) h = minus_place n h.0
way_keeps (grammar.assign x y e) h = h.1.1.0
way_keeps (grammar.assign_ended x y e) h = h.1.1.0
way_keeps (grammar.number_constant f l) h = h.0
way_keeps w h = tt

mutual
  pub keeps : {l : Line} {ts : List Token} {x : LineMeaning} → Derives l ts x → ArePlaced ts → IsKeeping x
  keeps (texts.by way w h) p = way_keeps w (all_keep h p)

  all_keep : {way : List Item} {ts : List Token} → Texts way ts → ArePlaced ts → AllKeep way
  all_keep texts.done p = tt
  all_keep (texts.is {t} {ts} h) p = (placed_head t ts p, all_keep h (placed_tail t ts p))
  all_keep (texts.opens {t} {ts} h) p = all_keep h (placed_tail t ts p)
  all_keep (texts.scale h) p = all_keep h p
  all_keep (texts.part {a} {ts} e t h) p = (keeps t (placed_first a ts p), all_keep h (placed_last a ts p))

-- ---- bytes

spelled_place : (text rest : List ℕ) (t : Token) → IsFirst text rest t → IsPlaced t
spelled_place text rest (Literal (tokens.point d)) h =
    let p = h.0.0 in
    let e : scale_of d ≡ length p.places = ap (λ (d : Decimal). scale_of d) p.value in
    let some = p.some in
    omega (arith, e, some)
spelled_place text rest t h = tt

spelled_places : (at : ℕ) (bytes : List ℕ) (ts : List Spot) → Tokens at bytes ts → ArePlaced (plain ts)
spelled_places at bytes [] h = tt
spelled_places at bytes (t ∷ ts) (white, text, rest, a, b, first, c, more) =
    placed_cons t.token (plain ts) (spelled_place text rest t.token first) (spelled_places (at + length white + length text) rest ts more)

pub bytes_keep : (l : Line) (bytes : List ℕ) (x : LineMeaning) → IsText l bytes x → IsKeeping x
bytes_keep l bytes x h = keeps h.text (spelled_places 0 bytes h.spots h.tokens)
