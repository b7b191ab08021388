-- The longest of the fronts that are tokens.
use Rattle.std.proofs.Common.{◌≡◌, ℕ, ◌+◌, ◌≤◌, List, ◌++◌, length, sym, ap, ◌∙◌, append_assoc, length-append, arith}
use Rattle.std.proofs.lemmas.List.{nil_from_length}
use Rattle.pap_tree.specs.Tokens.{Token, Literal, Quoted, Beyond, Word, Operator, Mark, Alien, IsToken, TakesMost, IsFirst}
use Rattle.expr_tokens.specs.private.Views.{Begins}

-- where nothing that is left of the bytes after a token is shorter, no more of them spell a token
pub takes_most : (text rest : List ℕ) → ((u left : List ℕ) (t : Token) → text ++ rest ≡ u ++ left → IsToken u t → length rest ≤ length left) → TakesMost text rest
takes_most text rest h more left t e k =
    let whole : text ++ rest ≡ (text ++ more) ++ left = ap (λ r. text ++ r) e ∙ sym (append_assoc text more left) in
    let le = h (text ++ more) left t whole k in
    let lengths : length rest ≡ length more + length left = ap length e ∙ length-append more left in
    nil_from_length more (omega arith)

-- less is left after a longer front
pub less_left : (bytes text rest u left : List ℕ) → bytes ≡ text ++ rest → bytes ≡ u ++ left → length u ≤ length text → length rest ≤ length left
less_left bytes text rest u left e f le =
    let a : length bytes ≡ length text + length rest = ap length e ∙ length-append text rest in
    let b : length bytes ≡ length u + length left = ap length f ∙ length-append u left in
    omega arith

first : (text rest : List ℕ) (t : Token) → IsToken text t → TakesMost text rest → IsFirst text rest t
first text rest (Literal n) h m = (h, m)
first text rest (Quoted d) h m = (h, m)
first text rest Beyond h m = (h, m)
first text rest (Word w) h m = (h, m)
first text rest (Operator o) h m = (h, m)
first text rest (Mark s) h m = (h, m)
first text rest Alien h m = absurd h

pub begins : (bytes text rest : List ℕ) (t : Token) → bytes ≡ text ++ rest → IsToken text t → ((u left : List ℕ) (t : Token) → bytes ≡ u ++ left → IsToken u t → length rest ≤ length left) → Begins bytes t rest
begins bytes text rest t e h longest = record {
  text = text;
  parts = e;
  first = first text rest t h (takes_most text rest (λ u left t f k. longest u left t (e ∙ f) k));
}
