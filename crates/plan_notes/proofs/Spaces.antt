-- The words of characters with a space between two of them, one character after the other.
use Rattle.std.proofs.Common.{◌≡◌, ℕ, ◌≤◌, Bool, true, false, cond, not, List, [], ◌∷◌, ◌++◌, length, refl, sym, ap, ◌∙◌, arith, ne_eqb}
use Rattle.std.specs.Prelude.{◌==◌, filter, fold, encode_utf8, encode_utf8_all}
use Rattle.std.specs.List.{flat_map, slice_split, onto_first, join_with_byte}
use Rattle.std.proofs.lemmas.List.{append-nil, append_assoc}
use Rattle.std.proofs.lemmas.List.Sums.{fold_push}
use Rattle.std.proofs.lemmas.Str.{encodes-append, length-le-encodes}
use Rattle.plan_notes.specs.Lines.{is_some_text}
use Rattle.plan_notes.specs.private.LineViews.{gap_text}

-- a line so far, and whether a gap follows it
pub record Line : Type 0 where
  pub letters : List ℕ
  pub gap : Bool

abbrev pub line_with : List ℕ → Bool → Line
line_with letters gap = record { letters = letters; gap = gap }

-- the line with one character more, where p tells the blank ones
abbrev pub line_after : (ℕ → Bool) → Line → ℕ → Line
line_after p line c =
    cond (p c) (line_with line.letters (is_some_text line.letters))
    (line_with (line.letters ++ (gap_text line.gap ++ c ∷ [])) false)

-- the line of these characters
abbrev pub line_of : (ℕ → Bool) → List ℕ → Line
line_of p cs = fold (line_after p) (line_with [] false) cs

after_blank : (p : ℕ → Bool) (line : Line) (c : ℕ) → p c ≡ true → line_after p line c
    ≡ line_with line.letters (is_some_text line.letters)
after_blank p line c e =
    ap (λ b. cond b (line_with line.letters (is_some_text line.letters))
    (line_with (line.letters ++ (gap_text line.gap ++ c ∷ [])) false)) e

after_letter : (p : ℕ → Bool) (line : Line) (c : ℕ) → p c ≡ false → line_after p line c
    ≡ line_with (line.letters ++ (gap_text line.gap ++ c ∷ [])) false
after_letter p line c e =
    ap (λ b. cond b (line_with line.letters (is_some_text line.letters))
    (line_with (line.letters ++ (gap_text line.gap ++ c ∷ [])) false)) e

split_blank : (p : ℕ → Bool) (c : ℕ) (cs : List ℕ) → p c ≡ true → slice_split p (c ∷ cs) ≡ [] ∷ slice_split p cs
split_blank p c cs e = ap (λ b. cond b ([] ∷ slice_split p cs) (onto_first c (slice_split p cs))) e

split_letter : (p : ℕ → Bool) (c : ℕ) (cs : List ℕ) → p c ≡ false → slice_split p (c ∷ cs)
    ≡ onto_first c (slice_split p cs)
split_letter p c cs e = ap (λ b. cond b ([] ∷ slice_split p cs) (onto_first c (slice_split p cs))) e

-- words with a space between two of them
abbrev pub joined : List (List ℕ) → List ℕ
joined words = join_with_byte 0x20 (filter is_some_text words)

-- words with a space before each
abbrev pub behind : List (List ℕ) → List ℕ
behind words = flat_map (λ word. 0x20 ∷ word) (filter is_some_text words)

-- the rest of a word, and the words behind it
abbrev pub continued : List (List ℕ) → List ℕ
continued [] = []
continued (word ∷ words) = word ++ behind words

joined_is : (word : List ℕ) (words : List (List ℕ)) → join_with_byte 0x20 (word ∷ words)
    ≡ word ++ flat_map (λ w. 0x20 ∷ w) words
joined_is word [] = sym (append-nil word)
joined_is word (next ∷ words) = ap (λ z. word ++ (0x20 ∷ z)) (joined_is next words)

joined_letter : (c : ℕ) (words : List (List ℕ)) → joined (onto_first c words) ≡ c ∷ continued words
joined_letter c [] = refl
joined_letter c (word ∷ words) = joined_is (c ∷ word) (filter is_some_text words)

continued_letter : (c : ℕ) (words : List (List ℕ)) → continued (onto_first c words) ≡ c ∷ continued words
continued_letter c [] = refl
continued_letter c (word ∷ words) = refl

behind_letter : (c : ℕ) (words : List (List ℕ)) → behind (onto_first c words) ≡ 0x20 ∷ c ∷ continued words
behind_letter c [] = refl
behind_letter c (word ∷ words) = refl

still_some : (letters more : List ℕ) → is_some_text letters ≡ true → is_some_text (letters ++ more) ≡ true
still_some [] more e = cc
still_some (c ∷ letters) more e = refl

-- what these characters make of a line: of an empty one, of one in a word, and of one with a gap
record Makes (p : ℕ → Bool) (cs : List ℕ) : Type 0 where
  empty : (line_of p cs).letters ≡ joined (slice_split p cs)
  in_word : (letters : List ℕ) → is_some_text letters ≡ true
      → (fold (line_after p) (line_with letters false) cs).letters ≡ letters ++ continued (slice_split p cs)
  in_gap : (letters : List ℕ) → is_some_text letters ≡ true
      → (fold (line_after p) (line_with letters true) cs).letters ≡ letters ++ behind (slice_split p cs)

makes_blank : (p : ℕ → Bool) (c : ℕ) (cs : List ℕ) → p c ≡ true → Makes p cs → Makes p (c ∷ cs)
makes_blank p c cs e m = record {
  empty = ap (λ line. (fold (line_after p) line cs).letters) (after_blank p (line_with [] false) c e) ∙ m.empty
      ∙ sym (ap joined (split_blank p c cs e));
  in_word = λ letters some.
      ap (λ line. (fold (line_after p) line cs).letters)
      (after_blank p (line_with letters false) c e ∙ ap (line_with letters) some)
      ∙ m.in_gap letters some ∙ sym (ap (λ words. letters ++ continued words) (split_blank p c cs e));
  in_gap = λ letters some.
      ap (λ line. (fold (line_after p) line cs).letters)
      (after_blank p (line_with letters true) c e ∙ ap (line_with letters) some)
      ∙ m.in_gap letters some ∙ sym (ap (λ words. letters ++ behind words) (split_blank p c cs e));
}

makes_letter : (p : ℕ → Bool) (c : ℕ) (cs : List ℕ) → p c ≡ false → Makes p cs → Makes p (c ∷ cs)
makes_letter p c cs e m = let words : List (List ℕ) = slice_split p cs in record {
  empty = ap (λ line. (fold (line_after p) line cs).letters) (after_letter p (line_with [] false) c e)
      ∙ m.in_word (c ∷ []) refl
      ∙ sym (ap joined (split_letter p c cs e) ∙ joined_letter c words);
  in_word = λ letters some.
      ap (λ line. (fold (line_after p) line cs).letters) (after_letter p (line_with letters false) c e)
      ∙ m.in_word (letters ++ c ∷ []) (still_some letters (c ∷ []) some)
      ∙ append_assoc letters (c ∷ []) (continued words)
      ∙ sym (ap (λ ws. letters ++ continued ws) (split_letter p c cs e)
      ∙ ap (λ z. letters ++ z) (continued_letter c words));
  in_gap = λ letters some.
      ap (λ line. (fold (line_after p) line cs).letters) (after_letter p (line_with letters true) c e)
      ∙ m.in_word (letters ++ 0x20 ∷ c ∷ []) (still_some letters (0x20 ∷ c ∷ []) some)
      ∙ append_assoc letters (0x20 ∷ c ∷ []) (continued words)
      ∙ sym (ap (λ ws. letters ++ behind ws) (split_letter p c cs e)
      ∙ ap (λ z. letters ++ z) (behind_letter c words));
}

makes_more : (p : ℕ → Bool) (c : ℕ) (cs : List ℕ) (b : Bool) → p c ≡ b → Makes p cs → Makes p (c ∷ cs)
makes_more p c cs true e m = makes_blank p c cs e m
makes_more p c cs false e m = makes_letter p c cs e m

makes : (p : ℕ → Bool) (cs : List ℕ) → Makes p cs
makes p [] = record {
  empty = refl;
  in_word = λ letters some. sym (append-nil letters);
  in_gap = λ letters some. sym (append-nil letters);
}
makes p (c ∷ cs) = makes_more p c cs (p c) refl (makes p cs)

-- the line of characters has their words, with a space between two of them
pub line_is : (p : ℕ → Bool) (cs : List ℕ) → (line_of p cs).letters ≡ joined (slice_split p cs)
line_is p cs = (makes p cs).empty

-- ---- one character more

letters_more : (p : ℕ → Bool) (cs : List ℕ) (c : ℕ) → line_of p (cs ++ c ∷ []) ≡ line_after p (line_of p cs) c
letters_more p cs c = fold_push (line_after p) (line_with [] false) cs c

pub with_blank : (p : ℕ → Bool) (cs : List ℕ) (c : ℕ) → p c ≡ true
    → line_of p (cs ++ c ∷ []) ≡ line_with (line_of p cs).letters (is_some_text (line_of p cs).letters)
with_blank p cs c e = letters_more p cs c ∙ after_blank p (line_of p cs) c e

pub with_letter : (p : ℕ → Bool) (cs : List ℕ) (c : ℕ) → p c ≡ false
    → line_of p (cs ++ c ∷ []) ≡ line_with ((line_of p cs).letters ++ (gap_text (line_of p cs).gap ++ c ∷ [])) false
with_letter p cs c e = letters_more p cs c ∙ after_letter p (line_of p cs) c e

-- the text of a line with one character more
pub text_more : (letters : List ℕ) (gap : Bool) (c : ℕ) (old new : List ℕ) → old ≡ encode_utf8_all letters
    → new ≡ old ++ (encode_utf8_all (gap_text gap) ++ encode_utf8 c)
    → new ≡ encode_utf8_all (letters ++ (gap_text gap ++ c ∷ []))
text_more letters gap c old new is more =
    more ∙ ap (λ z. z ++ (encode_utf8_all (gap_text gap) ++ encode_utf8 c)) is
    ∙ ap (λ z. encode_utf8_all letters ++ (encode_utf8_all (gap_text gap) ++ z)) (sym (append-nil (encode_utf8 c)))
    ∙ ap (λ z. encode_utf8_all letters ++ z) (sym (encodes-append (gap_text gap) (c ∷ [])))
    ∙ sym (encodes-append letters (gap_text gap ++ c ∷ []))

-- a text has no bytes where it has no characters
pub gap_is : (size : ℕ) (bytes letters : List ℕ) → size ≡ length bytes → bytes ≡ encode_utf8_all letters
    → not (size == 0) ≡ is_some_text letters
gap_is size bytes [] e is = ap (λ n. not (n == 0)) (e ∙ ap length is)
gap_is size bytes (c ∷ letters) e is =
    let some : length (c ∷ letters) ≤ length (encode_utf8_all (c ∷ letters)) = length-le-encodes (c ∷ letters) in
    let same : length bytes ≡ length (encode_utf8_all (c ∷ letters)) = ap length is in
    ap not (ne_eqb size 0 (λ none. omega (arith, some, same, e, none)))
