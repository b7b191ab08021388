-- A label is a short text, made byte by byte.
use Rattle.std.proofs.Common.{◌≡◌, ℕ, zero, suc, ◌+◌, ◌<◌, List, [], ◌∷◌, ◌++◌, length, map, take, get_or, slice_set, min, IsAscii, sym, ap, ap₂, ◌∙◌, arith}
use Rattle.std.proofs.lemmas.Bool.Decides.{nat_tests}
use Rattle.std.proofs.lemmas.List.{take_more, take_more_set, take_min, length-take, length-map, map-append}
use Rattle.std.proofs.Math.Seq.{take-length}
use Rattle.pap_tree.specs.ShortText.{IsShortText}
use Rattle.limits_file.specs.Labels.{label_byte, label_of}

shown_below : (b : ℕ) → label_byte b < 128
shown_below b = grind (arith, nat_tests)

shown_ascii : (bs : List ℕ) → IsAscii (map label_byte bs)
shown_ascii [] i = omega arith
shown_ascii (b ∷ bs) zero = shown_below b
shown_ascii (b ∷ bs) (suc i) = shown_ascii bs i

pub label_short : (key : List ℕ) → IsShortText (label_of key)
label_short key = record { short = simp (length-map, length-take) (omega arith); ascii = shown_ascii (take 32 key) }

-- one more byte is label_byte
pub label_step : (label front : List ℕ) (i b : ℕ) → i < length label → i < length front → take i label ≡ map label_byte (take i front) → b ≡ label_byte (get_or front i 0) → take (i + 1) (slice_set label i b) ≡ map label_byte (take (i + 1) front)
label_step label front i b h h' same byte =
    take_more_set label i b h
    ∙ ap₂ (λ xs x. xs ++ x ∷ []) same byte
    ∙ sym (map-append label_byte (take i front) (get_or front i 0 ∷ []))
    ∙ ap (map label_byte) (sym (take_more front i 0 h'))

-- all bytes in front are label_byte
pub label_done : (key label : List ℕ) (n i : ℕ) → n ≡ min (length key) 32 → i ≡ length (take n key) → take i label ≡ map label_byte (take i (take n key)) → take i label ≡ label_of key
label_done key label n i e whole same =
    let most : n ≡ min 32 (length key) = omega arith in
    same ∙ ap (map label_byte) (ap (λ j. take j (take n key)) whole ∙ take-length (take n key) ∙ ap (λ j. take j key) most ∙ take_min 32 key)
