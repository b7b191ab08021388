-- The tokens of a text, one after the other.
use Rattle.std.proofs.Common.{◌≡◌, ℕ, ◌+◌, ◌-◌, ◌<◌, ◌≤◌, true, IsTrue, List, [], ◌∷◌, ◌++◌, length, refl, sym, ap, subst, ◌∙◌, append_assoc, length-append, arith, le-leb}
use Rattle.std.specs.List.{list_all}
use Rattle.std.proofs.lemmas.Bool.{and_from}
use Rattle.std.proofs.lemmas.List.Folds.{list_all-append}
use Rattle.pap_tree.specs.White.{is_white}
use Rattle.pap_tree.specs.Tokens.{Token, Spot, IsFirst, Tokens, Literal, Quoted, Beyond, Word, Operator, Mark, Alien}
use Rattle.expr_tokens.specs.declared.token.Token.{Token as Read}
use Rattle.expr_tokens.specs.declared.token.Token.TheVariants as reads
use Rattle.expr_tokens.specs.declared.token.Placed.{Placed}
use Rattle.expr_tokens.specs.Ranges.{is_in_range}
use Rattle.expr_tokens.specs.Spots.{token_of, spot_of, spots_of}
use Rattle.expr_tokens.specs.private.Views.{Begins, IsLongest}
use Rattle.expr_tokens.proofs.ClassLemmas.{class, some_bytes}

-- ---- one token

first_some : (text rest : List ℕ) (t : Token) → IsFirst text rest t → 0 < length text
first_some text rest (Literal n) h = some_bytes text (class text (Literal n) h.0)
first_some text rest (Quoted d) h = some_bytes text (class text (Quoted d) h.0)
first_some text rest Beyond h = some_bytes text (class text Beyond h.0)
first_some text rest (Word w) h = some_bytes text (class text (Word w) h.0)
first_some text rest (Operator o) h = some_bytes text (class text (Operator o) h.0)
first_some text rest (Mark s) h = some_bytes text (class text (Mark s) h.0)
first_some text rest Alien h = let one = h.0 in omega arith

pub less_after : (bytes rest : List ℕ) (t : Token) → Begins bytes t rest → length rest < length bytes
less_after bytes rest t h =
    let some = first_some h.text rest t h.first in
    omega (arith, ap length h.parts, length-append h.text rest)

pub in_range : (t : Read) (text rest : List ℕ) → IsFirst text rest (token_of t) → IsTrue (is_in_range t)
in_range (reads.Int n) text rest h = le-leb n 2147483647 h.0.1
in_range (reads.Long n) text rest h = le-leb n 9223372036854775807 h.0.1
in_range (reads.Point d) text rest h = refl
in_range (reads.Quoted d) text rest h = refl
in_range reads.Beyond text rest h = refl
in_range (reads.Name x) text rest h = refl
in_range (reads.Keyword k) text rest h = refl
in_range (reads.Operator o) text rest h = refl
in_range (reads.Mark s) text rest h = refl
in_range reads.Alien text rest h = refl

-- ---- white space

-- tokens after white space
after_white : (white rest : List ℕ) (at n : ℕ) (ts : List Spot) → list_all is_white white ≡ true → n ≡ at + length white → Tokens n rest ts → Tokens at (white ++ rest) ts
after_white white rest at n [] w e h = list_all-append is_white white rest ∙ and_from (list_all is_white white) (list_all is_white rest) w h
after_white white rest at n (t ∷ ts) w e (more, text, after, f, v, g, p, k) =
    let len = length-append white more in (
      white ++ more,
      text,
      after,
      ap (λ r. white ++ r) f ∙ sym (append_assoc white more (text ++ after)),
      list_all-append is_white white more ∙ and_from (list_all is_white white) (list_all is_white more) w v,
      g,
      (let q : t.at ≡ at + length (white ++ more) = omega arith in q),
      subst (λ m. Tokens m after ts) (let q : n + length more + length text ≡ at + length (white ++ more) + length text = omega arith in q) k,
    )

pub skips : (bytes white rest : List ℕ) (at n : ℕ) (ts : List Spot) → IsLongest is_white bytes white rest → n ≡ at + length white → Tokens n rest ts → Tokens at bytes ts
skips bytes white rest at n ts s e h = subst (λ b. Tokens at b ts) (sym s.parts) (after_white white rest at n ts s.passes e h)

-- ---- the loop

-- a token and the tokens after it
pub token_more : (bytes after : List ℕ) (t : Spot) (at n : ℕ) (ts : List Spot) → (h : Begins bytes t.token after) → t.at ≡ at → n ≡ at + length h.text → Tokens n after ts → Tokens at bytes (t ∷ ts)
token_more bytes after t at n ts h p e k = (
  [],
  h.text,
  after,
  h.parts,
  refl,
  h.first,
  (let q : t.at ≡ at + 0 = omega arith in q),
  subst (λ m. Tokens m after ts) (let q : n ≡ at + 0 + length h.text = omega arith in q) k,
)

-- where the loop begins
pub starts : (text rest white : List ℕ) (ts : List Spot) → IsLongest is_white text white rest → Tokens (length text - length rest) rest ts → Tokens 0 text ts
starts text rest white ts s h = skips text white rest 0 (length text - length rest) ts s (omega (arith, ap length s.parts, length-append white rest)) h

-- one turn of the loop, in a text of so many bytes
pub proceeds : (all : ℕ) (bytes after rest white : List ℕ) (t : Spot) (ts : List Spot) → length bytes ≤ all → Begins bytes t.token after → t.at ≡ all - length bytes → IsLongest is_white after white rest → Tokens (all - length rest) rest ts → Tokens (all - length bytes) bytes (t ∷ ts)
proceeds all bytes after rest white t ts le h p s k =
    let one : length bytes ≡ length h.text + length after = ap length h.parts ∙ length-append h.text after in
    let two : length after ≡ length white + length rest = ap length s.parts ∙ length-append white rest in
    token_more bytes after t (all - length bytes) (all - length after) ts h p (omega arith)
    (skips after white rest (all - length after) (all - length rest) ts s (omega arith) k)

pub spots_more : (xs : List Placed) (p : Placed) (ts : List Spot) → spots_of (xs ++ (p ∷ [])) ++ ts ≡ spots_of xs ++ (spot_of p ∷ ts)
spots_more [] p ts = refl
spots_more (x ∷ xs) p ts = ap (λ r. spot_of x ∷ r) (spots_more xs p ts)

pub at_end : (at : ℕ) (rest : List ℕ) → rest ≡ [] → Tokens at rest []
at_end at rest e = ap (list_all is_white) e
