-- What the private functions say of lines and words.
use Rattle.std.specs.Prelude.{◌≡◌, ◌≢◌, ◌==◌, ℕ, Bool, List, ◌∷◌, ◌++◌, map, take}
use Rattle.std.specs.List.{AllByRecursion, slice_split}
use denote.Ref.{Bor}
use Rattle.payroll_records.specs.Tables.{Text}
use Rattle.saved_items.specs.declared.lines.Line.{Line}

abbrev pub texts : List (Bor Text) → List Text
texts words = map (λ word. word.now) words

-- no byte is x
abbrev pub Misses : ℕ → Text → Type 0
Misses x bytes = AllByRecursion (λ b. b ≢ x) bytes

abbrev pub is_space : ℕ → Bool
is_space b = b == 32

-- the bytes begin with this text and a line feed, which is the first one
pub record IsLine (bytes text rest : Text) : Type 0 where
  pub cut : bytes ≡ text ++ (10 ∷ rest)
  pub ends : Misses 10 text

-- more words than a line of a saved book has
abbrev pub too_many_words : ℕ
too_many_words = 260

-- the words are those of the text between its spaces, or as many of them as are too many
abbrev pub AreWordsOf : Text → List (Bor Text) → Type 0
AreWordsOf text words = texts words ≡ take too_many_words (slice_split is_space text)

pub record ReadsLine (bytes : Text) (line : Line) : Type 0 where
  pub is : IsLine bytes line.text.now line.rest.now
  pub words : AreWordsOf line.text.now line.words.items
