-- What the page's own markup has, and what none of it has.
use Rattle.std.specs.Prelude.{ℕ, Bool, true, false, ◌||◌, ◌==◌, if◌then◌else◌, not, List, [], ◌∷◌, codes}
use Rattle.std.specs.List.{list_any, starts_with}

-- where a byte of markup stands: between tags, inside a tag, or in the value of an attribute
pub data Region : Type 0 where
  between : Region
  inside : Region
  quoted : Region

-- Markup that begins at such a spot has whole tags alone, with their values between `"`. Its percent signs stand between tags or in
-- values, so that what stands there, which has no mark of HTML, is text or a part of a value.
abbrev pub has_whole_tags : Region → List ℕ → Bool
has_whole_tags between [] = true
has_whole_tags inside [] = false
has_whole_tags quoted [] = false
has_whole_tags between (byte ∷ bytes) =
    if byte == 0x3C then has_whole_tags inside bytes
    else (if byte == 0x3E || byte == 0x22 then false else has_whole_tags between bytes)
has_whole_tags inside (byte ∷ bytes) =
    if byte == 0x3E then has_whole_tags between bytes
    else (if byte == 0x22 then has_whole_tags quoted bytes
    else (if byte == 0x3C || (byte == 0x25 || byte == 0x27) then false else has_whole_tags inside bytes))
has_whole_tags quoted (byte ∷ bytes) =
    if byte == 0x22 then has_whole_tags inside bytes
    else (if byte == 0x3C || byte == 0x3E then false else has_whole_tags quoted bytes)

-- whether a word stands in a text
abbrev pub has_word : List ℕ → List ℕ → Bool
has_word word [] = false
has_word word (byte ∷ text) = starts_with (λ a b. a == b) (byte ∷ text) word || has_word word text

-- what would say a verdict, hide something, run or fetch something: the element and the classes of verdicts, the class that stands
-- outside the window, the attribute that hides an element, styles, comments, and elements that hide, run or fetch
abbrev pub unwanted_words : List (List ℕ)
unwanted_words =
    codes "<b>" ∷
    codes "\"ok" ∷
    codes "\"no\"" ∷
    codes "\"skip" ∷
    codes " hidden" ∷
    codes "style" ∷
    codes "<!" ∷
    codes "<script" ∷
    codes "<template" ∷
    codes "<details" ∷
    codes "<dialog" ∷
    codes "<iframe" ∷
    codes "<object" ∷
    codes "<img" ∷
    codes "src=" ∷
    codes "url(" ∷
    []

-- markup that has none of these
abbrev pub shows_all : List ℕ → Bool
shows_all html = not (list_any (λ word. has_word word html) unwanted_words)
