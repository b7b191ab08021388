-- How often texts that aren't aligned stand among those of the other side.
use Rattle.std.specs.Prelude.{◌≡◌, ℕ, ◌+◌, ◌-◌, List, [], ◌∷◌, ◌++◌, unwrap_or}
use Rattle.std.specs.Borrow.{Bor}
use Rattle.std.specs.BTreeMap.{BTreeMap, get_by}
use Rattle.std.specs.Cmp.Lexicographic.{slice_cmp}
use Rattle.std.specs.Ordering.{nat_cmp}
use Rattle.flowchart_comparison.specs.Entries.{compared_text}
use Rattle.comment_comparison.specs.declared.change.CommentChange.{CommentChange}
use Rattle.comment_comparison.specs.declared.change.CommentChange.TheVariants.{Gone, New}
use Rattle.comment_comparison.specs.declared.tally.Tally.{Tally}
use Rattle.comment_comparison.specs.CommentChanges.{times, gone_texts, new_texts, AreSome}

-- the number that a map has for a text; 0 where it has none
abbrev pub count_in : BTreeMap (Bor (List ℕ)) ℕ → List ℕ → ℕ
count_in counts text = unwrap_or (get_by (λ key. slice_cmp nat_cmp text key.now) counts) 0

-- the second map counts each text as often more as it stands among these
abbrev pub CountsMore : (before after : BTreeMap (Bor (List ℕ)) ℕ) → List (List ℕ) → Type 0
CountsMore before after texts = (text : List ℕ) → count_in after text ≡ count_in before text + times text texts

-- the second map counts each text as often less
abbrev pub CountsLess : (before after : BTreeMap (Bor (List ℕ)) ℕ) → List (List ℕ) → Type 0
CountsLess before after texts = (text : List ℕ) → count_in after text ≡ count_in before text - times text texts

-- the tally counts the texts of these changes, on both sides
pub record IsTally (old new : List (List ℕ)) (changes : List CommentChange) (tally : Tally) : Type 0 where
  pub gone : (text : List ℕ) → count_in tally.gone_counts text ≡ times text (gone_texts old changes)
  pub new_ones : (text : List ℕ) → count_in tally.new_counts text ≡ times text (new_texts new changes)

-- how often the text of a change stands on the other side
abbrev pub other_count : (old new : List (List ℕ)) → Tally → CommentChange → ℕ
other_count old new tally (Gone i) = count_in tally.new_counts (compared_text old i)
other_count old new tally (New j) = count_in tally.gone_counts (compared_text new j)

-- Of all changes those passed are told, but for what has only moved; what is left of the tally is what of each side may still be
-- found to have moved.
pub record AreUnmoved (old new : List (List ℕ)) (all passed told : List CommentChange) (tally : Tally) : Type 0 where
  pub some : AreSome passed told
  pub gone_left : (text : List ℕ) → count_in tally.gone_counts text ≡ times text (gone_texts old all) - times text (new_texts new passed)
  pub new_left : (text : List ℕ) → count_in tally.new_counts text ≡ times text (new_texts new all) - times text (gone_texts old passed)
  pub gone : (text : List ℕ)
      → times text (gone_texts old told) ≡ times text (gone_texts old passed) - times text (new_texts new all)
  pub new_ones : (text : List ℕ)
      → times text (new_texts new told) ≡ times text (new_texts new passed) - times text (gone_texts old all)

-- one change more is passed
abbrev pub KeepsUnmoved : (old new : List (List ℕ)) → CommentChange → List CommentChange → Tally → List CommentChange → Tally → Type 0
KeepsUnmoved old new c told tally told' tally' =
    (all passed : List CommentChange) → AreUnmoved old new all passed told tally
    → AreUnmoved old new all (passed ++ (c ∷ [])) told' tally'
