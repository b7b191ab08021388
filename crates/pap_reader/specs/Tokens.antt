-- The tokens of a text: tags with their places, and between them white space and comments.
use Rattle.std.specs.Prelude.{◌≢◌, ℕ, ◌-◌, List, [], ◌∷◌, length}
use Rattle.pap_reader.specs.Tags.{Tag, IsTag}
use Rattle.pap_reader.specs.Skipped.{IsPassed, IsAfterMark, IsAfterDeclaration}

-- a tag and the place of its first byte
pub record PlacedTag : Type 0 where
  pub at : ℕ
  pub tag : Tag

-- the tag that stands where these bytes are left of a text of `end` bytes
abbrev pub placed : ℕ → List ℕ → Tag → PlacedTag
placed end bytes t = record { at = end - length bytes; tag = t }

-- From the bytes these tags are read, and the rest is left. The text has `end` bytes.
pub data Leads : ℕ → List ℕ → List PlacedTag → List ℕ → Type 0 where
  nothing : {end : ℕ} {bytes : List ℕ} → Leads end bytes [] bytes
  passed : {end : ℕ} {bytes next rest : List ℕ} {ts : List PlacedTag}
      → IsPassed bytes next → Leads end next ts rest → Leads end bytes ts rest
  tag : {end : ℕ} {bytes next rest : List ℕ} {ts : List PlacedTag} (t : Tag)
      → IsTag bytes t next → Leads end next ts rest → Leads end bytes (placed end bytes t ∷ ts) rest

-- From the text these tags are read, and the rest is left.
pub record Reads (bytes : List ℕ) (ts : List PlacedTag) (rest : List ℕ) : Type 0 where
  pub unmarked : List ℕ
  pub mark : IsAfterMark bytes unmarked
  pub body : List ℕ
  pub declaration : IsAfterDeclaration unmarked body
  pub leads : Leads (length bytes) body ts rest

-- no token begins there, and it is not the end
pub record IsAlien (bytes : List ℕ) : Type 0 where
  pub some : bytes ≢ []
  pub no_tag : (t : Tag) (rest : List ℕ) → IsTag bytes t rest → ⊥
  pub not_passed : (rest : List ℕ) → IsPassed bytes rest → ⊥
