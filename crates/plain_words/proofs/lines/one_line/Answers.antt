use Rattle.std.proofs.Common.{◌≡◌, ℕ, Bool, true, false, cond, not, List, [], ◌∷◌, ◌++◌, refl, sym, ap, ◌∙◌, append-nil}
use Rattle.std.specs.Prelude.{map, encode_utf8, encode_utf8_all}
use Rattle.std.specs.Str.{NonePass}
use Rattle.std.proofs.lemmas.List.{map-append}
use Rattle.std.proofs.lemmas.Str.{encodes-append}
use Rattle.std.proofs.lemmas.Iterator.{YieldsList-from_chars}
use Rattle.std.proofs.lemmas.Iterator.Consumers.{YieldsList-end}
use Rattle.plain_words.specs.Lines.{is_shown, shown_char}
use Rattle.plain_words.proofs.lines.one_line.Goals as goal

-- the text of one character more
text_more : (line cs : List ℕ) (c shown : ℕ) → line ≡ encode_utf8_all (map shown_char cs) → shown ≡ shown_char c
    → line ++ encode_utf8 shown ≡ encode_utf8_all (map shown_char (cs ++ c ∷ []))
text_more line cs c shown so_far is =
    let front : List ℕ = encode_utf8_all (map shown_char cs) in
    ap (λ x. x ++ encode_utf8 shown) so_far ∙ ap (λ x. front ++ encode_utf8 x) is
    ∙ sym (ap encode_utf8_all (map-append shown_char cs (c ∷ [])) ∙ encodes-append (map shown_char cs) (shown_char c ∷ [])
    ∙ ap (λ x. front ++ x) (append-nil (encode_utf8 (shown_char c))))

-- what is shown of a character is a character that is shown
kept : (c : ℕ) (b space : Bool) → is_shown c ≡ b → is_shown (cond b c (cond space 0x20 0x3F)) ≡ true
kept c true space is = is
kept c false true is = refl
kept c false false is = refl

none_hidden : (cs : List ℕ) → NonePass (λ c. not (is_shown c)) (map shown_char cs)
none_hidden [] = tt
none_hidden (c ∷ cs) = (ap not (kept c (is_shown c) _ refl), none_hidden cs)

same_items : (cs : List ℕ) → map (λ c. c) cs ≡ cs
same_items [] = refl
same_items (c ∷ cs) = ap (λ rest. c ∷ rest) (same_items cs)

pub loop-c-preserved : goal.loop-c-preserved
loop-c-preserved c =
    rw c.in_ok-push.ensures.bytes (text_more _ _ _ _ c.loop-c.invariant c.shown.ensures)

pub returns-clause-text : goal.returns-clause-text
returns-clause-text c =
    let all = YieldsList-end (YieldsList-from_chars c.args.text.now c.utf8.text cc) c.loop-c.yielded _ c.loop-c.yielded_by _ _ c.in-None.is c.next.ensures.steps in
    c.loop-c.invariant ∙ ap (λ cs. encode_utf8_all (map shown_char cs)) (sym (same_items c.loop-c.yielded) ∙ all.0)

pub returns-clause-shown : goal.returns-clause-shown
returns-clause-shown c =
    (map shown_char c.loop-c.yielded, sym c.loop-c.invariant, none_hidden c.loop-c.yielded)
