-- Lines of words: where a line ends, and where its words do.
use Rattle.std.proofs.Common.{◌≡◌, ℕ, ◌<◌, ◌≤◌, false, List, [], ◌∷◌, ◌++◌, refl, sym, ap, ◌∙◌, arith, ◌⊎◌, inl, inr, append_assoc}
use Rattle.std.specs.Prelude.{◌==◌}
use Rattle.std.specs.List.{AllByRecursion, join_with_byte, slice_split, onto_first}
use Rattle.std.proofs.lemmas.Bool.{cases_eq}
use Rattle.std.proofs.lemmas.Bool.Decides.{nat_tests}
use Rattle.std.proofs.lemmas.List.Splits.{slice_split-cons_no, join_with_byte-slice_split}
use Rattle.payroll_records.specs.Tables.{Text}
use Rattle.saved_items.specs.private.LineViews.{Misses, is_space}
use Rattle.saved_items.specs.SavedBooks.{line_of_words}

-- a byte that stands in a word: no space, no line feed
abbrev pub IsWordByte : ℕ → Type 0
IsWordByte b = 32 < b

-- a text that a line's words may be
abbrev pub IsWord : Text → Type 0
IsWord w = AllByRecursion IsWordByte w

-- what stands before the first x, and behind it
pub cut_once : (x : ℕ) (a c b d : Text) → Misses x a → Misses x c → a ++ (x ∷ b) ≡ c ++ (x ∷ d) → (a ≡ c) × (b ≡ d)
cut_once x [] [] b d m n e = (refl, cc)
cut_once x [] (y ∷ c) b d m n e = let s : x ≡ y = cc in absurd (n.0 (sym s))
cut_once x (y ∷ a) [] b d m n e = let s : y ≡ x = cc in absurd (m.0 s)
cut_once x (y ∷ a) (z ∷ c) b d m n e =
    let s : y ≡ z = cc in
    let rest : a ++ (x ∷ b) ≡ c ++ (x ∷ d) = cc in
    let more = cut_once x a c b d m.1 n.1 rest in
    (ap (λ v. v ∷ a) s ∙ ap (λ v. z ∷ v) more.0, more.1)

-- a text is cut at its first x, or has none
pub cut_at : (x : ℕ) (bytes : Text) → ((a : Text) × (b : Text) × Misses x a × (bytes ≡ a ++ (x ∷ b))) ⊎ Misses x bytes
cut_at x [] = inr tt
cut_at x (y ∷ ys) = elim (cases_eq y x) [
  | inl same ↦ inl ([], ys, tt, ap (λ v. v ∷ ys) same)
  | inr other ↦ elim (cut_at x ys) [
    | inl more ↦ inl (y ∷ more.0, more.1, (other, more.2), ap (λ v. y ∷ v) more.3)
    | inr none ↦ inr (other, none)
  ]
]

pub misses_append : (x : ℕ) (a b : Text) → Misses x a → Misses x b → Misses x (a ++ b)
misses_append x [] b m n = n
misses_append x (y ∷ a) b m n = (m.0, misses_append x a b m.1 n)

pub misses_front : (x : ℕ) (a b : Text) → Misses x (a ++ b) → Misses x a
misses_front x [] b m = tt
misses_front x (y ∷ a) b m = (m.0, misses_front x a b m.1)

-- what has no x is nothing with an x in it
pub missing : (x : ℕ) (bytes a b : Text) → Misses x bytes → bytes ≡ a ++ (x ∷ b) → ⊥
missing x [] [] b m e = cc
missing x [] (y ∷ a) b m e = cc
missing x (z ∷ bytes) [] b m e = let s : z ≡ x = cc in m.0 s
missing x (z ∷ bytes) (y ∷ a) b m e = let r : bytes ≡ a ++ (x ∷ b) = cc in missing x bytes a b m.1 r

pub word_misses : (x : ℕ) (w : Text) → x ≤ 32 → IsWord w → Misses x w
word_misses x [] le h = tt
word_misses x (b ∷ w) le h = ((λ e. omega (arith, h.0)), word_misses x w le h.1)

pub word_append : (a b : Text) → IsWord a → IsWord b → IsWord (a ++ b)
word_append [] b m n = n
word_append (y ∷ a) b m n = (m.0, word_append a b m.1 n)

abbrev pub AreWords : List Text → Type 0
AreWords words = AllByRecursion IsWord words

-- a line's words have no line feed
pub join_misses : (words : List Text) → AreWords words → Misses 10 (join_with_byte 32 words)
join_misses [] h = tt
join_misses (w ∷ []) h = word_misses 10 w (omega arith) h.0
join_misses (w ∷ v ∷ words) h =
    misses_append 10 w _ (word_misses 10 w (omega arith) h.0) ((λ e. omega arith), join_misses (v ∷ words) h.1)

-- the text up to a line's end is its words, and what follows it follows them
pub line_once : (bytes line more : Text) (words : List Text) (rest : Text) → Misses 10 line →
    bytes ≡ line ++ (10 ∷ more) → AreWords words → bytes ≡ line_of_words words ++ rest →
    (line ≡ join_with_byte 32 words) × (more ≡ rest)
line_once bytes line more words rest m cut h e =
    cut_once 10 line (join_with_byte 32 words) more rest m (join_misses words h)
    (sym cut ∙ e ∙ append_assoc (join_with_byte 32 words) (10 ∷ []) rest)

split_word : (w : Text) (rest : Text) → IsWord w → slice_split is_space
    (w ++ (32 ∷ rest)) ≡ w ∷ slice_split is_space rest
split_word [] rest h = refl
split_word (b ∷ w) rest h =
    let other : (b == 32) ≡ false = grind (arith, nat_tests) in
    slice_split-cons_no is_space b (w ++ (32 ∷ rest)) other ∙ ap (onto_first b) (split_word w rest h.1)

split_last : (w : Text) → IsWord w → slice_split is_space w ≡ w ∷ []
split_last [] h = refl
split_last (b ∷ w) h =
    let other : (b == 32) ≡ false = grind (arith, nat_tests) in
    slice_split-cons_no is_space b w other ∙ ap (onto_first b) (split_last w h.1)

-- words are found again between the spaces
pub split_join : (w : Text) (words : List Text) → AreWords (w ∷ words) →
    slice_split is_space (join_with_byte 32 (w ∷ words)) ≡ w ∷ words
split_join w [] h = split_last w h.0
split_join w (v ∷ words) h =
    split_word w (join_with_byte 32 (v ∷ words)) h.0 ∙ ap (λ x. w ∷ x) (split_join v words h.1)

pub join_split : (line : Text) (words : List Text) → slice_split is_space line ≡ words → line ≡ join_with_byte 32 words
join_split line words e = sym (join_with_byte-slice_split 32 line) ∙ ap (join_with_byte 32) e
