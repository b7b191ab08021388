-- Which comments of two files stand in one of them alone.
use Rattle.std.specs.Prelude.{◌≡◌, ℕ, ◌-◌, List, [], ◌∷◌, ◌++◌, count_by}
use Rattle.std.specs.List.{flat_map}
use Rattle.std.specs.Str.{bytes_eq}
use Rattle.flowchart_comparison.specs.declared.entry.Entry.{Entry}
use Rattle.flowchart_comparison.specs.declared.entry.Entry.TheVariants as entries
use Rattle.flowchart_comparison.specs.Entries.{compared_text, IsAlignment}
use Rattle.comment_comparison.specs.declared.change.CommentChange.{CommentChange}
use Rattle.comment_comparison.specs.declared.change.CommentChange.TheVariants.{Gone, New}
use Rattle.comment_comparison.specs.Comments.{LineComment, comment_texts, HasComments}

-- how often a text stands among some
abbrev pub times : List ℕ → List (List ℕ) → ℕ
times text texts = count_by (λ t. bytes_eq t text) texts

-- the old text that is told as gone
abbrev pub gone_text : List (List ℕ) → CommentChange → List (List ℕ)
gone_text old (Gone i) = compared_text old i ∷ []
gone_text old (New j) = []

-- the new text that is told as new
abbrev pub new_text : List (List ℕ) → CommentChange → List (List ℕ)
new_text new (Gone i) = []
new_text new (New j) = compared_text new j ∷ []

-- the texts that are told as gone
abbrev pub gone_texts : List (List ℕ) → List CommentChange → List (List ℕ)
gone_texts old changes = flat_map (gone_text old) changes

-- the texts that are told as new
abbrev pub new_texts : List (List ℕ) → List CommentChange → List (List ℕ)
new_texts new changes = flat_map (new_text new) changes

-- what an entry of an alignment tells of texts that aren't aligned with an equal one
abbrev pub apart : Entry → List CommentChange
apart (entries.Same i j) = []
apart (entries.Changed i j) = Gone i ∷ New j ∷ []
apart (entries.Gone i) = Gone i ∷ []
apart (entries.New j) = New j ∷ []

-- what an alignment tells of them, in its order
abbrev pub all_apart : List Entry → List CommentChange
all_apart es = flat_map apart es

-- the second list has some of the first, in their order
pub data AreSome : List CommentChange → List CommentChange → Type 0 where
  none : AreSome [] []
  told : {all some : List CommentChange} (c : CommentChange) → AreSome all some → AreSome (all ++ (c ∷ [])) (some ++ (c ∷ []))
  untold : {all some : List CommentChange} (c : CommentChange) → AreSome all some → AreSome (all ++ (c ∷ [])) some

-- The two lists are aligned, and told are some that aren't aligned with an equal one. Each text is told as gone as often as it
-- stands more often in the old list, and as new as often as it stands more often in the new one: so what has only moved isn't told.
pub record AreChanges (old new : List (List ℕ)) (changes : List CommentChange) : Type 0 where
  pub entries : List Entry
  pub aligned : IsAlignment old new entries
  pub unaligned : AreSome (all_apart entries) changes
  pub gone : (text : List ℕ) → times text (gone_texts old changes) ≡ times text old - times text new
  pub new_ones : (text : List ℕ) → times text (new_texts new changes) ≡ times text new - times text old

-- the comments of two files, and what is told of them
pub record ComparedComments : Type 0 where
  pub old : List LineComment
  pub new : List LineComment
  pub changes : List CommentChange

-- These are the comments of both files, and those that stand in one file alone are told.
pub record IsCommentComparison (old new : List ℕ) (c : ComparedComments) : Type 0 where
  pub old_read : HasComments old c.old
  pub new_read : HasComments new c.new
  pub told : AreChanges (comment_texts c.old) (comment_texts c.new) c.changes
