-- What the numbers of a text's tokens have, and each way of the grammar hands on, what the text stands for has.
use Rattle.std.proofs.Common.{ℕ, ◌+◌, List, [], ◌∷◌, ◌++◌, length}
use Rattle.std.specs.Prelude.{⊤}
use Rattle.pap_tree.specs.Tokens.{Token, Spot, plain, Tokens, IsFirst}
use Rattle.pap_tree.specs.Grammar.{Item, Is, Opens, Scale, Part, Line, LineMeaning, Way}
use Rattle.pap_tree.specs.Texts as texts
use Rattle.pap_tree.specs.Texts.{Derives, Texts}
use Rattle.pap_tree.specs.Expressions.{IsAccepted}

module _ (Meant : LineMeaning → Type 0) (Given : Token → Type 0) where
  abbrev AllTokens : List Token → Type 0
  AllTokens [] = ⊤
  AllTokens (t ∷ ts) = Given t × AllTokens ts

  abbrev pub AllItems : List Item → Type 0
  AllItems [] = ⊤
  AllItems (Is t ∷ more) = Given t × AllItems more
  AllItems (Part g l x ∷ more) = Meant x × AllItems more
  AllItems (Opens t ∷ more) = AllItems more
  AllItems (Scale p s ∷ more) = AllItems more

  first_tokens : (a b : List Token) → AllTokens (a ++ b) → AllTokens a
  first_tokens [] b h = tt
  first_tokens (t ∷ a) b h = (h.0, first_tokens a b h.1)

  last_tokens : (a b : List Token) → AllTokens (a ++ b) → AllTokens b
  last_tokens [] b h = h
  last_tokens (t ∷ a) b h = last_tokens a b h.1

  module _ (by_way : (l : Line) (way : List Item) (x : LineMeaning) → Way l way x → AllItems way → Meant x) (by_text : (text rest : List ℕ) (t : Token) → IsFirst text rest t → Given t) where
    mutual
      text_meant : {l : Line} {ts : List Token} {x : LineMeaning} → Derives l ts x → AllTokens ts → Meant x
      text_meant (texts.by way w h) p = by_way _ way _ w (all_meant h p)

      all_meant : {way : List Item} {ts : List Token} → Texts way ts → AllTokens ts → AllItems way
      all_meant texts.done p = tt
      all_meant (texts.is h) p = (p.0, all_meant h p.1)
      all_meant (texts.opens h) p = all_meant h p.1
      all_meant (texts.scale h) p = all_meant h p.1
      all_meant (texts.part {a} {ts} e t h) p = (text_meant t (first_tokens a ts p), all_meant h (last_tokens a ts p))

    tokens_given : (at : ℕ) (bytes : List ℕ) (ts : List Spot) → Tokens at bytes ts → AllTokens (plain ts)
    tokens_given at bytes [] h = tt
    tokens_given at bytes (t ∷ ts) (white, text, rest, a, b, first, c, more) =
        (by_text text rest t.token first, tokens_given (at + length white + length text) rest ts more)

    pub accepted_meant : (l : Line) (bytes : List ℕ) (x : LineMeaning) → IsAccepted l bytes x → Meant x
    accepted_meant l bytes x h = text_meant h.text (tokens_given 0 bytes h.spots h.tokens)
