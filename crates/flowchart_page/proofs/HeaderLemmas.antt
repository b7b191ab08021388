-- What is said of a plan, from its parts.
use Rattle.std.proofs.Common.{◌≡◌, ℕ, ◌-◌, Bool, true, false, not, Result, Ok, Err, List, [], ◌∷◌, ◌++◌, length, codes, refl, sym, ap, ◌∙◌, append_assoc, length-append, arith, Global}
use Rattle.std.specs.Prelude.{OnOk, take, String, ◌==◌}
use Rattle.std.proofs.Math.Seq.{take-append_seam}
use Rattle.pap_plan.specs.declared.refusal.PlanRefusal.{PlanRefusal}
use Rattle.plan_answers.specs.Answers.{Answer, IsRefusal}
use Rattle.flowchart_markup.specs.Escapes.{escaped}
use Rattle.flowchart_methods.specs.Comments.{comments_text}
use Rattle.flowchart_page.specs.Heads.{lead_text}
use Rattle.flowchart_page.specs.Pages.{shown_parts, IsRefusalLine}

pub on_ok : {A E : Type 0} (r : Result A E) (P Q : Type 0) → OnOk r P → (P → Q) → OnOk r Q
on_ok (Ok v) P Q h f = f h
on_ok (Err e) P Q h f = h

-- a text that is gone on with by three pieces, by six, and by seven
pub three_pieces : (a b c old p q new : List ℕ) → p ≡ old ++ a → q ≡ p ++ b → new ≡ q ++ c → new ≡ old ++ (a ++ (b ++ c))
three_pieces a b c old p q new is_p is_q is_new =
    is_new
    ∙ ap (λ l. l ++ c) (is_q ∙ ap (λ l. l ++ b) is_p ∙ append_assoc old a b)
    ∙ append_assoc old (a ++ b) c
    ∙ ap (λ l. old ++ l) (append_assoc a b c)

one_before : (a rest old p new : List ℕ) → p ≡ old ++ a → new ≡ p ++ rest → new ≡ old ++ (a ++ rest)
one_before a rest old p new is_p is_new = is_new ∙ ap (λ l. l ++ rest) is_p ∙ append_assoc old a rest

pub six_pieces : (a b c d e f old p q r s t new : List ℕ) → p ≡ old ++ a → q ≡ p ++ b → r ≡ q ++ c → s ≡ r ++ d → t ≡ s ++ e
    → new ≡ t ++ f → new ≡ old ++ (a ++ (b ++ (c ++ (d ++ (e ++ f)))))
six_pieces a b c d e f old p q r s t new is_p is_q is_r is_s is_t is_new =
    one_before a (b ++ (c ++ (d ++ (e ++ f)))) old p new is_p
    (one_before b (c ++ (d ++ (e ++ f))) p q new is_q
    (one_before c (d ++ (e ++ f)) q r new is_r (three_pieces d e f r s t new is_s is_t is_new)))

pub seven_pieces : (a b c d e f g old p q r s t u new : List ℕ) → p ≡ old ++ a → q ≡ p ++ b → r ≡ q ++ c → s ≡ r ++ d
    → t ≡ s ++ e → u ≡ t ++ f → new ≡ u ++ g → new ≡ old ++ (a ++ (b ++ (c ++ (d ++ (e ++ (f ++ g))))))
seven_pieces a b c d e f g old p q r s t u new is_p is_q is_r is_s is_t is_u is_new =
    one_before a (b ++ (c ++ (d ++ (e ++ (f ++ g))))) old p new is_p
    (six_pieces b c d e f g p q r s t u new is_q is_r is_s is_t is_u is_new)

-- the comments before a plan, where there are some
pub lead_of : (comments : List (String Global)) → (length comments == 0) ≡ false
    → codes "<p class=\"lead\">" ++ (comments_text comments ++ codes "</p>\n") ≡ lead_text comments
lead_of [] none = absurd cc
lead_of (comment ∷ comments) some = refl

-- ---- words, part by part

-- whether the part behind these is code
abbrev pub is_code_behind : Bool → List (List ℕ) → Bool
is_code_behind is_code [] = is_code
is_code_behind is_code (part ∷ parts) = is_code_behind (not is_code) parts

shown-append : (is_code : Bool) (parts others : List (List ℕ))
    → shown_parts is_code (parts ++ others)
    ≡ shown_parts is_code parts ++ shown_parts (is_code_behind is_code parts) others
shown-append is_code [] others = refl
shown-append false (part ∷ parts) others =
    ap (λ z. escaped part ++ z) (shown-append true parts others)
    ∙ sym (append_assoc (escaped part) (shown_parts true parts)
    (shown_parts (is_code_behind true parts) others))
shown-append true (part ∷ parts) others =
    let rest = shown_parts (is_code_behind false parts) others in
    ap (λ z. codes "<code>" ++ (escaped part ++ (codes "</code>" ++ z))) (shown-append false parts others)
    ∙ ap (λ z. codes "<code>" ++ (escaped part ++ z))
    (sym (append_assoc (codes "</code>") (shown_parts false parts) rest))
    ∙ ap (λ z. codes "<code>" ++ z)
    (sym (append_assoc (escaped part) (codes "</code>" ++ shown_parts false parts) rest))
    ∙ sym (append_assoc (codes "<code>") (escaped part ++ (codes "</code>" ++ shown_parts false parts)) rest)

behind-append : (is_code : Bool) (parts others : List (List ℕ))
    → is_code_behind is_code (parts ++ others) ≡ is_code_behind (is_code_behind is_code parts) others
behind-append is_code [] others = refl
behind-append is_code (part ∷ parts) others = behind-append (not is_code) parts others

-- one part more
pub words_more : (old page new : List ℕ) (parts : List (List ℕ)) (part : List ℕ) (is_code : Bool)
    → page ≡ old ++ shown_parts false parts → is_code ≡ is_code_behind false parts
    → new ≡ page ++ shown_parts is_code (part ∷ []) → new ≡ old ++ shown_parts false (parts ++ part ∷ [])
words_more old page new parts part is_code so_far code written =
    written
    ∙ ap (λ z. z ++ shown_parts is_code (part ∷ [])) so_far
    ∙ append_assoc old (shown_parts false parts) (shown_parts is_code (part ∷ []))
    ∙ ap (λ b. old ++ (shown_parts false parts ++ shown_parts b (part ∷ []))) code
    ∙ ap (λ z. old ++ z) (sym (shown-append false parts (part ∷ [])))

pub code_more : (parts : List (List ℕ)) (part : List ℕ) (is_code : Bool) → is_code ≡ is_code_behind false parts
    → not is_code ≡ is_code_behind false (parts ++ part ∷ [])
code_more parts part is_code code = ap not code ∙ sym (behind-append false parts (part ∷ []))

-- ---- the line

take_front : (xs : List ℕ) (b : ℕ) → take (length (xs ++ b ∷ []) - 1) (xs ++ b ∷ []) ≡ xs
take_front xs b =
    let shorter : length (xs ++ b ∷ []) - 1 ≡ length xs = omega (arith, length-append xs (b ∷ [])) in
    ap (λ n. take n (xs ++ b ∷ [])) shorter ∙ take-append_seam xs (b ∷ [])

-- the text of a refusal without its last byte
pub line_written : (plan : List ℕ) (refusal : PlanRefusal) (answer : Answer) (text line : List ℕ) (n : ℕ)
    → IsRefusal plan refusal answer → text ≡ answer.text → n ≡ length text → line ≡ take (n - 1) text
    → IsRefusalLine plan refusal line
line_written plan refusal answer text line n refused same counted front =
    let inside = codes "refused " ++ refused.detail in
    let whole : answer.text ≡ inside ++ 10 ∷ [] = ap (λ a. a.text) refused.is in
    let is : line ≡ inside =
    front
    ∙ ap (λ k. take (k - 1) text) counted
    ∙ ap (λ t. take (length t - 1) t) (same ∙ whole)
    ∙ take_front inside 10 in
    record { answer = answer; refused = refused; is = whole ∙ ap (λ l. l ++ 10 ∷ []) (sym is) }
