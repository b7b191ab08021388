-- The words of a line, one by one from the left.
use Rattle.std.proofs.Common.{◌≡◌, ℕ, zero, suc, ◌+◌, ◌<◌, ◌==◌, Bool, true, false, List, [], ◌∷◌, ◌++◌, length, take, drop, get_or, add-one, refl, sym, ap, ◌∙◌, arith}
use Rattle.std.specs.Prelude.{Some, None, filter, not}
use Rattle.std.specs.List.{slice_split}
use Rattle.std.proofs.lemmas.Bool.Decides.{nat_tests}
use Rattle.std.proofs.lemmas.List.{append-nil}
use Rattle.memchr.specs.Find.{IsFirstByte}
use Rattle.payroll_records.specs.Tables.{Text}
use Rattle.script_lang.specs.Words.{is_space_or_tab, words_in_line}
use Rattle.script_lang.specs.private.Views.{counted}

fails : (b : Bool) → ¬ (b ≡ true) → b ≡ false
fails true h = absurd (h refl)
fails false h = refl

split_whole : (line : Text) → ((i : ℕ) → i < length line → ¬ (is_space_or_tab (get_or line i 0) ≡ true)) → slice_split is_space_or_tab line ≡ line ∷ []
split_whole [] h = refl
split_whole (b ∷ line) h =
    rw (fails (is_space_or_tab b) (h 0 (omega arith)), split_whole line (λ i lt. h (suc i) (omega (arith, lt)))) refl

split_first : (line : Text) (k : ℕ) → k < length line → ((i : ℕ) → i < k → ¬ (is_space_or_tab (get_or line i 0) ≡ true)) → is_space_or_tab (get_or line k 0) ≡ true →
    slice_split is_space_or_tab line ≡ take k line ∷ slice_split is_space_or_tab (drop (suc k) line)
split_first [] k lt h at = absurd (omega (arith, lt))
split_first (b ∷ line) zero lt h at = rw at refl
split_first (b ∷ line) (suc k) lt h at =
    rw (fails (is_space_or_tab b) (h 0 (omega arith)), split_first line k (omega (arith, lt)) (λ i l. h (suc i) (omega (arith, l))) at) refl

-- one word before others
more_words : (word : Text) (parts : List Text) → filter (λ part. not (length part == 0)) (word ∷ parts) ≡ counted word ++ filter (λ part. not (length part == 0)) parts
more_words [] parts = refl
more_words (b ∷ word) parts =
    let some : (length (b ∷ word) == 0) ≡ false = grind (arith, nat_tests) in
    rw some refl

-- the last word, and the first of several
pub last_word : (line : Text) → IsFirstByte is_space_or_tab line None → words_in_line line ≡ counted line
last_word line h =
    ap (filter (λ part. not (length part == 0))) (split_whole line (λ i lt. h i (omega arith) lt)) ∙ more_words line [] ∙ append-nil (counted line)

pub first_word : (line : Text) (k : ℕ) → IsFirstByte is_space_or_tab line (Some k) → words_in_line line ≡ counted (take k line) ++ words_in_line (drop (k + 1) line)
first_word line k h =
    ap (filter (λ part. not (length part == 0))) (split_first line k h.0.high (λ i lt. h.0.before i (omega arith) lt) h.1)
    ∙ more_words (take k line) (slice_split is_space_or_tab (drop (suc k) line))
    ∙ ap (λ n. counted (take k line) ++ words_in_line (drop n line)) (sym (add-one k))
