-- What a plan's file has beside white space, in its order: comments and tags.
use Rattle.std.specs.Prelude.{◌≡◌, ℕ, ◌-◌, ◌<◌, ◌≤◌, ◌⊎◌, true, List, [], ◌∷◌, ◌++◌, length, map, codes, ⊤}
use Rattle.std.specs.List.{flat_map}
use Rattle.pap_tree.specs.White.{is_white}
use Rattle.pap_reader.specs.declared.tokens.Token.{Token as ReadToken}
use Rattle.pap_reader.specs.declared.tokens.Token.TheVariants as read
use Rattle.pap_reader.specs.declared.tokens.Tokens.{Tokens}
use Rattle.pap_reader.specs.Tags.{IsTag, tag_of}
use Rattle.pap_reader.specs.Skipped.{Past, IsAfterProlog}
use Rattle.pap_reader.specs.Tokens.{PlacedTag, IsAlien}

-- a comment, with the place of its first byte and by the bytes inside it, or a tag
pub data Token : Type 0 where
  remark : ℕ → List ℕ → Token
  tagged : PlacedTag → Token

-- a comment comes first: it ends at the first `-->`
pub record IsComment (bytes inside rest : List ℕ) : Type 0 where
  pub is : bytes ≡ codes "<!--" ++ (inside ++ (codes "-->" ++ rest))
  pub first : Past (codes "-->") (inside ++ (codes "-->" ++ rest)) rest

-- the token comes first, at this place
abbrev pub IsToken : ℕ → List ℕ → Token → List ℕ → Type 0
IsToken at bytes (remark from inside) rest = (from ≡ at) × IsComment bytes inside rest
IsToken at bytes (tagged t) rest = (t.at ≡ at) × IsTag bytes t.tag rest

-- From the bytes these tokens are read, and the rest is left. The text has `end` bytes.
pub data Tells : ℕ → List ℕ → List Token → List ℕ → Type 0 where
  nothing : {end : ℕ} {bytes : List ℕ} → Tells end bytes [] bytes
  white : {end b : ℕ} {next rest : List ℕ} {ts : List Token}
      → is_white b ≡ true → Tells end next ts rest → Tells end (b ∷ next) ts rest
  token : {end : ℕ} {bytes next rest : List ℕ} {ts : List Token} (t : Token)
      → IsToken (end - length bytes) bytes t next → Tells end next ts rest → Tells end bytes (t ∷ ts) rest

-- From the file these tokens are read, and the rest is left.
pub record HasTokens (file : List ℕ) (ts : List Token) (rest : List ℕ) : Type 0 where
  pub body : List ℕ
  pub prolog : IsAfterProlog file body
  pub tells : Tells (length file) body ts rest

-- The file has these tokens up to its end, or to a place where no token begins; the rest is left.
pub record AreTokens (file : List ℕ) (ts : List Token) (rest : List ℕ) : Type 0 where
  pub read : HasTokens file ts rest
  pub ended : (rest ≡ []) ⊎ IsAlien rest

-- the tag of a token
abbrev pub tag_in : Token → List PlacedTag
tag_in (remark at inside) = []
tag_in (tagged t) = t ∷ []

-- the tags among the tokens, in their order
abbrev pub tags_of : List Token → List PlacedTag
tags_of ts = flat_map tag_in ts

-- the byte at which a token begins
abbrev pub token_byte : Token → ℕ
token_byte (remark at inside) = at
token_byte (tagged t) = t.at

-- the bytes stand in their order, from one on and before an end
abbrev pub StandInOrder : ℕ → List ℕ → ℕ → Type 0
StandInOrder from [] end = ⊤
StandInOrder from (at ∷ bytes) end = (from ≤ at) × ((at < end) × StandInOrder at bytes end)

-- ---- as the code has them

-- the token that a read one stands for
abbrev pub token_meant : ReadToken → Token
token_meant (read.Comment at inside) = remark at inside.now
token_meant (read.Tag at tag) = tagged (record { at = at; tag = tag_of tag })

-- the tokens that read ones stand for
abbrev pub tokens_of : Tokens → List Token
tokens_of x = map token_meant x.items.items

-- these are the tokens of the file
abbrev pub AreRead : List ℕ → Tokens → Type 0
AreRead file x = AreTokens file (tokens_of x) x.left.now
