-- Comments in a page, with one comment or one tag more.
use Rattle.std.proofs.Common.{◌≡◌, ℕ, zero, suc, ◌+◌, ◌<◌, ◌≤◌, false, List, [], ◌∷◌, ◌++◌, length, take, get_or, map, refl, sym, ap, ◌∙◌, append_assoc, arith, string_bytes, Global}
use Rattle.std.specs.Prelude.{String, ◌==◌, codes}
use Rattle.std.specs.List.{join_with_byte}
use Rattle.std.proofs.lemmas.List.{append-nil, map_push, take_more}
use Rattle.flowchart_markup.specs.Escapes.{escaped}
use Rattle.flowchart_methods.specs.Comments.{comments_text, paragraph}

-- pieces with a byte between two of them, and one piece more
join_push : (byte : ℕ) (piece : List ℕ) (pieces : List (List ℕ)) (last : List ℕ)
    → join_with_byte byte (piece ∷ (pieces ++ last ∷ [])) ≡ join_with_byte byte (piece ∷ pieces) ++ (byte ∷ last)
join_push byte piece [] last = refl
join_push byte piece (next ∷ pieces) last =
    ap (λ t. piece ++ (byte ∷ t)) (join_push byte next pieces last)
    ∙ sym (append_assoc piece (byte ∷ join_with_byte byte (next ∷ pieces)) (byte ∷ last))

-- what stands before a comment behind these
abbrev pub space_behind : List (String Global) → List ℕ
space_behind [] = []
space_behind (comment ∷ comments) = codes " "

text_push : (comments : List (String Global)) (comment : String Global)
    → comments_text (comments ++ comment ∷ [])
    ≡ comments_text comments ++ (space_behind comments ++ escaped (string_bytes comment))
text_push [] comment = refl
text_push (first ∷ comments) comment =
    ap (λ pieces. join_with_byte 0x20 (escaped (string_bytes first) ∷ pieces))
    (map_push (λ c. escaped (string_bytes c)) comments comment)
    ∙ join_push 0x20 (escaped (string_bytes first)) (map (λ c. escaped (string_bytes c)) comments)
    (escaped (string_bytes comment))

-- before the first comment stands nothing, and before a later one a space
pub no_space : (comments : List (String Global)) (i : ℕ) → i ≤ 0 → [] ≡ space_behind (take i comments)
no_space comments zero up = refl
no_space comments (suc i) up = absurd (omega (arith, up))

pub a_space : (comments : List (String Global)) (i : ℕ) → 0 < i → i < length comments
    → codes " " ≡ space_behind (take i comments)
a_space comments zero up some = absurd (omega (arith, up))
a_space [] (suc i) up some = absurd (omega (arith, some))
a_space (comment ∷ comments) (suc i) up some = refl

-- one comment more
pub comments_more : (comments : List (String Global)) (i : ℕ) (comment : String Global) (space old page new : List ℕ)
    → i < length comments → comment ≡ get_or comments i comment → space ≡ space_behind (take i comments)
    → page ≡ old ++ comments_text (take i comments)
    → new ≡ page ++ (space ++ (escaped (string_bytes comment) ++ []))
    → new ≡ old ++ comments_text (take (i + 1) comments)
comments_more comments i comment space old page new some is spaced so_far written =
    let text = escaped (string_bytes comment) in
    let before = take i comments in
    written
    ∙ ap (λ t. page ++ (space ++ t)) (append-nil text)
    ∙ ap (λ s. page ++ (s ++ text)) spaced
    ∙ ap (λ p. p ++ (space_behind before ++ text)) so_far
    ∙ append_assoc old (comments_text before) (space_behind before ++ text)
    ∙ ap (λ t. old ++ t) (sym (text_push before comment))
    ∙ ap (λ c. old ++ comments_text (before ++ c ∷ [])) is
    ∙ ap (λ cs. old ++ comments_text cs) (sym (take_more comments i comment some))

-- ---- paragraphs

-- that of some comments
pub paragraph_of : (comments : List (String Global)) → (length comments == 0) ≡ false
    → codes "<p class=\"com\">" ++ (comments_text comments ++ codes "</p>\n") ≡ paragraph comments
paragraph_of [] none = absurd cc
paragraph_of (comment ∷ comments) some = refl
