-- Texts that end others, words in them, and lines with them.
use Rattle.std.specs.Prelude.{Option, None, Some, IfSome, MatchOption}
use Rattle.std.proofs.Common.{◌≡◌, ◌≢◌, ◌⊎◌, inl, inr, ℕ, List, [], ◌++◌, Bor, refl, sym, ap, ◌∙◌, subst, append_assoc}
use Rattle.plain_words.specs.Lines.{EndsWith}
use Rattle.plain_words.specs.declared.bounds.BoundKey.{BoundKey}
use Rattle.plain_words.specs.EntryPlaces.{HasWord, IsLineWith, IsAtBound, bound_key_name}

pub ends_trans : (a b c : List ℕ) → EndsWith b a → EndsWith c b → EndsWith c a
ends_trans a b c f g = (f.0 ++ g.0, f.1 ∙ ap (λ x. f.0 ++ x) g.1 ∙ sym (append_assoc f.0 g.0 c))

pub has_trans : (a b word : List ℕ) → EndsWith b a → HasWord b word → HasWord a word
has_trans a b word f has = record { rest = has.rest; ends = ends_trans a b (word ++ has.rest) f has.ends }

-- ---- what a function hands out, if anything

pub behind_is : (o : Option (Bor (List ℕ))) (whole text word : List ℕ) → EndsWith text whole
    → MatchOption o ((rest : List ℕ) → text ≢ word ++ rest) (λ rest. text ≡ word ++ rest.now)
    → IfSome o (λ rest. EndsWith rest.now whole)
behind_is None whole text word ends m = tt
behind_is (Some rest) whole text word ends m = ends_trans whole text rest.now ends (word, m)

pub tail_is : (o : Option (Bor (List ℕ))) (whole text : List ℕ) → EndsWith text whole
    → IfSome o (λ rest. EndsWith rest.now text) → IfSome o (λ rest. EndsWith rest.now whole)
tail_is None whole text ends m = tt
tail_is (Some rest) whole text ends m = ends_trans whole text rest.now ends m

pub word_is : (o : Option (Bor (List ℕ))) (whole text word : List ℕ) → EndsWith text whole
    → IfSome o (λ rest. HasWord text word) → IfSome o (λ rest. HasWord whole word)
word_is None whole text word ends m = tt
word_is (Some rest) whole text word ends m = has_trans whole text word ends m

pub has_word : (o : Option (Bor (List ℕ))) (whole word : List ℕ) → HasWord whole word → IfSome o (λ rest. HasWord whole word)
has_word None whole word has = tt
has_word (Some rest) whole word has = has

pub front_is : (whole text word rest : List ℕ) → EndsWith text whole → text ≡ word ++ rest → HasWord whole word
front_is whole text word rest ends is = has_trans whole text word ends (record { rest = rest; ends = ([], is) })

-- ---- a byte, if any

pub some_right : (o : Option ℕ) (P Q : ℕ → Type 0) → IfSome o Q → IfSome o (λ at. P at ⊎ Q at)
some_right None P Q q = tt
some_right (Some at) P Q q = inr q

pub bound_is : (o : Option ℕ) (file entry word : List ℕ) (key : BoundKey) → word ≡ bound_key_name key
    → IfSome o (λ at. IsLineWith file word at ⊎ IsLineWith file entry at) → IfSome o (IsAtBound file entry)
bound_is None file entry word key is m = tt
bound_is (Some at) file entry word key is (inl m) = inl (key, subst (λ k. IsLineWith file k at) is m)
bound_is (Some at) file entry word key is (inr m) = inr m
