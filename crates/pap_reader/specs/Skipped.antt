-- What is passed over between the tags, and before them (docs/PROFILE.md, "Tags").
use Rattle.std.specs.Prelude.{◌≡◌, ℕ, ◌⊎◌, true, List, [], ◌∷◌, ◌++◌, codes}
use Rattle.pap_tree.specs.White.{is_white}

-- The rest after the first place where the mark stands.
pub data Past : List ℕ → List ℕ → List ℕ → Type 0 where
  here : {mark rest : List ℕ} → Past mark (mark ++ rest) rest
  later : {mark bytes rest : List ℕ} {b : ℕ}
      → ((left : List ℕ) → b ∷ bytes ≡ mark ++ left → ⊥) → Past mark bytes rest → Past mark (b ∷ bytes) rest

-- The mark stands nowhere in the bytes.
abbrev pub NoPast : List ℕ → List ℕ → Type 0
NoPast mark bytes = (rest : List ℕ) → Past mark bytes rest → ⊥

-- a byte of white space, or a comment, which ends at the first `-->`
pub data IsPassed : List ℕ → List ℕ → Type 0 where
  white : {b : ℕ} {rest : List ℕ} → is_white b ≡ true → IsPassed (b ∷ rest) rest
  comment : {bytes rest : List ℕ} → Past (codes "-->") bytes rest → IsPassed (codes "<!--" ++ bytes) rest

-- ---- before the tokens

-- the byte order mark of UTF-8
abbrev pub byte_order_mark : List ℕ
byte_order_mark = 239 ∷ 187 ∷ 191 ∷ []

-- A byte order mark is passed over.
abbrev pub IsAfterMark : List ℕ → List ℕ → Type 0
IsAfterMark bytes rest =
    (bytes ≡ byte_order_mark ++ rest)
    ⊎ (((r : List ℕ) → bytes ≡ byte_order_mark ++ r → ⊥) × (rest ≡ bytes))

-- An XML declaration is passed over, up to its first `?>`. Where it has no end it isn't one.
abbrev pub IsAfterDeclaration : List ℕ → List ℕ → Type 0
IsAfterDeclaration bytes rest =
    ((inside : List ℕ) × (bytes ≡ codes "<?xml" ++ inside) × Past (codes "?>") inside rest)
    ⊎ (((inside r : List ℕ) → bytes ≡ codes "<?xml" ++ inside → Past (codes "?>") inside r → ⊥) × (rest ≡ bytes))

-- what is left of the text after what may stand before the tokens
abbrev pub IsAfterProlog : List ℕ → List ℕ → Type 0
IsAfterProlog bytes rest =
    (unmarked : List ℕ) × IsAfterMark bytes unmarked × IsAfterDeclaration unmarked rest
