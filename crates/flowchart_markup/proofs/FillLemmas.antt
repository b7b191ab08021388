-- A template with one byte more.
use Rattle.std.proofs.Common.{◌≡◌, ℕ, ◌+◌, ◌<◌, ◌≤◌, Bool, true, false, if◌then◌else◌, List, [], ◌∷◌, ◌++◌, length, take, get_or, refl, sym, ap, ◌∙◌, append_assoc, arith}
use Rattle.std.specs.Prelude.{◌==◌, slice_get, unwrap_or}
use Rattle.std.proofs.lemmas.List.{take_more}
use Rattle.flowchart_markup.specs.Fragments.{template_text_from}
use Rattle.flowchart_markup.specs.private.Holes.{holes}

sum_assoc : (a b c : ℕ) → a + (b + c) ≡ (a + b) + c
sum_assoc a b c = omega arith

pub holes_more : (template : List ℕ) (byte : ℕ) → holes (template ++ byte ∷ []) ≡ holes template + holes (byte ∷ [])
holes_more [] byte = omega arith
holes_more (b ∷ bs) byte =
    ap (λ n. (if b == 0x25 then 1 else 0) + n) (holes_more bs byte)
    ∙ sum_assoc (if b == 0x25 then 1 else 0) (holes bs) (holes (byte ∷ []))

at_most_one : (is_hole : Bool) → (if is_hole then 1 else 0) + 0 ≤ 1
at_most_one true = omega arith
at_most_one false = omega arith

pub holes_of_one : (byte : ℕ) → holes (byte ∷ []) ≤ 1
holes_of_one byte = at_most_one (byte == 0x25)

-- before a byte and what stands behind it: the same in front of one byte more
fill_step : (is_hole : Bool) (b byte index count : ℕ) (fills : List (List ℕ)) (more_on on more_same same : List ℕ)
    → more_on ≡ on ++ template_text_from (byte ∷ []) (index + 1 + count) fills
    → more_same ≡ same ++ template_text_from (byte ∷ []) (index + count) fills
    → (if is_hole then unwrap_or (slice_get fills index) [] ++ more_on else b ∷ more_same)
    ≡ (if is_hole then unwrap_or (slice_get fills index) [] ++ on else b ∷ same)
    ++ template_text_from (byte ∷ []) (index + ((if is_hole then 1 else 0) + count)) fills
fill_step true b byte index count fills more_on on more_same same is_on is_same =
    let next : index + 1 + count ≡ index + (1 + count) = omega arith in
    let here = unwrap_or (slice_get fills index) [] in
    ap (λ l. here ++ l) is_on
    ∙ sym (append_assoc here on (template_text_from (byte ∷ []) (index + 1 + count) fills))
    ∙ ap (λ i. (here ++ on) ++ template_text_from (byte ∷ []) i fills) next
fill_step false b byte index count fills more_on on more_same same is_on is_same =
    let next : index + count ≡ index + (0 + count) = omega arith in
    ap (λ l. b ∷ l) is_same ∙ ap (λ i. (b ∷ same) ++ template_text_from (byte ∷ []) i fills) next

filled_more : (template : List ℕ) (byte index : ℕ) (fills : List (List ℕ))
    → template_text_from (template ++ byte ∷ []) index fills
    ≡ template_text_from template index fills ++ template_text_from (byte ∷ []) (index + holes template) fills
filled_more [] byte index fills =
    let same : index ≡ index + 0 = omega arith in ap (λ i. template_text_from (byte ∷ []) i fills) same
filled_more (b ∷ bs) byte index fills =
    fill_step (b == 0x25) b byte index (holes bs) fills (template_text_from (bs ++ byte ∷ []) (index + 1) fills)
    (template_text_from bs (index + 1) fills) (template_text_from (bs ++ byte ∷ []) index fills) (template_text_from bs index fills)
    (filled_more bs byte (index + 1) fills) (filled_more bs byte index fills)

-- one byte more is written
pub fill_more : (template : List ℕ) (fills : List (List ℕ)) (i index : ℕ) (old page new : List ℕ) → i < length template
    → index ≡ holes (take i template) → page ≡ old ++ template_text_from (take i template) 0 fills
    → new ≡ page ++ template_text_from (get_or template i 0 ∷ []) index fills
    → new ≡ old ++ template_text_from (take (i + 1) template) 0 fills
fill_more template fills i index old page new some counted so_far written =
    let before = take i template in
    let byte = get_or template i 0 in
    let from_zero : holes before ≡ 0 + holes before = omega arith in
    written
    ∙ ap (λ p. p ++ template_text_from (byte ∷ []) index fills) so_far
    ∙ ap (λ n. (old ++ template_text_from before 0 fills) ++ template_text_from (byte ∷ []) n fills) counted
    ∙ append_assoc old (template_text_from before 0 fills) (template_text_from (byte ∷ []) (holes before) fills)
    ∙ ap (λ n. old ++ (template_text_from before 0 fills ++ template_text_from (byte ∷ []) n fills)) from_zero
    ∙ ap (λ l. old ++ l)
    (sym (filled_more before byte 0 fills) ∙ ap (λ t. template_text_from t 0 fills) (sym (take_more template i 0 some)))

pub index_more : (template : List ℕ) (i index new : ℕ) → i < length template → index ≡ holes (take i template)
    → new ≡ index + holes (get_or template i 0 ∷ []) → new ≡ holes (take (i + 1) template)
index_more template i index new some counted is =
    is
    ∙ ap (λ n. n + holes (get_or template i 0 ∷ [])) counted
    ∙ sym (holes_more (take i template) (get_or template i 0))
    ∙ ap holes (sym (take_more template i 0 some))

pub index_few : (i index new byte : ℕ) → index ≤ i → new ≡ index + holes (byte ∷ []) → new ≤ i + 1
index_few i index new byte few is = omega (arith, few, is, holes_of_one byte)
