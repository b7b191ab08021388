-- An escape's word is the longest that can be read after its `&`.
use Rattle.std.proofs.Common.{◌≡◌, ℕ, ◌+◌, ◌≤◌, ◌<◌, Bool, true, false, cond, List, [], ◌∷◌, ◌++◌, length, take, drop, refl, sym, ap, ◌∙◌, arith}
use Rattle.std.specs.Char.{digit_value}
use Rattle.std.specs.List.{list_all, prefix_len, take_while}
use Rattle.std.specs.Str.Parse.{AllDigits}
use Rattle.std.proofs.lemmas.Bool.{and_parts, and_from}
use Rattle.std.proofs.lemmas.Bool.Decides.{nat_tests}
use Rattle.std.proofs.lemmas.List.{take-append-drop}
use Rattle.std.proofs.Math.Seq.{take-append_seam, drop-append_seam}
use Rattle.pap_reader.specs.Values.{StandsFor, less_than, greater_than, ampersand, quotation_mark, apostrophe, decimal, hexadecimal, Escape}
use Rattle.pap_reader.specs.private.EscapeDecisions.{byte_named}
use Rattle.pap_reader.specs.private.Views.{is_code, FoundEscape}
use Rattle.pap_reader.proofs.Codes.{named, stands}

-- ---- the word has no byte but letters, digits and `#`

digit_code : (b : ℕ) → digit_value b < 16 → is_code b ≡ true
digit_code b h = grind (arith, nat_tests)

digits_code : (radix : ℕ) (ds : List ℕ) → radix ≤ 16 → AllDigits radix ds → list_all is_code ds ≡ true
digits_code radix [] le h = refl
digits_code radix (b ∷ ds) le h =
    and_from (is_code b) (list_all is_code ds) (digit_code b (omega (arith, h.0))) (digits_code radix ds le h.1)

word_code : {w : List ℕ} {c : ℕ} → StandsFor w c → list_all is_code w ≡ true
word_code less_than = refl
word_code greater_than = refl
word_code ampersand = refl
word_code quotation_mark = refl
word_code apostrophe = refl
word_code (decimal {digits} {code} h) = digits_code 10 digits (omega arith) h.numeral.1
word_code (hexadecimal {digits} {code} h) = digits_code 16 digits (omega arith) h.numeral.1

-- ---- the longest word

run_len : (p : ℕ → Bool) (w : List ℕ) (b : ℕ) (rest : List ℕ) → list_all p w ≡ true → p b ≡ false → prefix_len p (w ++ (b ∷ rest)) ≡ length w
run_len p [] b rest h e = ap (λ x. cond x (1 + prefix_len p rest) 0) e
run_len p (x ∷ w) b rest h e =
    let i = and_parts (p x) (list_all p w) h in
    let r = run_len p w b rest i.1 e in
    ap (λ y. cond y (1 + prefix_len p (w ++ (b ∷ rest))) 0) i.0 ∙ omega arith

pub found : (bytes : List ℕ) (c : ℕ) (rest : List ℕ) → Escape bytes c rest → FoundEscape bytes c rest
found bytes c rest e =
    let n = run_len is_code e.word 59 rest (word_code e.byte) refl in
    let l : take_while is_code (e.word ++ (59 ∷ rest)) ≡ e.word = ap (λ k. take k (e.word ++ (59 ∷ rest))) n ∙ take-append_seam e.word (59 ∷ rest) in
    record {
      inner = e.word ++ (59 ∷ rest);
      amp = e.is;
      byte = ap byte_named l ∙ named e.byte;
      stop = ap (λ k. drop k (e.word ++ (59 ∷ rest))) n ∙ drop-append_seam e.word (59 ∷ rest);
    }

pub escaped : (bytes : List ℕ) (c : ℕ) (rest : List ℕ) → FoundEscape bytes c rest → Escape bytes c rest
escaped bytes c rest f = record {
  word = take_while is_code f.inner;
  is = f.amp ∙ ap (λ z. 38 ∷ z) (sym (take-append-drop (prefix_len is_code f.inner) f.inner) ∙ ap (λ z. take_while is_code f.inner ++ z) f.stop);
  byte = stands (take_while is_code f.inner) c f.byte;
}
