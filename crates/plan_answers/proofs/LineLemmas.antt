-- The lines of outputs' ranges, one after the other.
use Rattle.std.proofs.Common.{◌≡◌, ℕ, ◌+◌, ◌<◌, List, [], ◌∷◌, ◌++◌, length, take, map, get_or, sym, ap, ◌∙◌, append_assoc}
use Rattle.std.proofs.lemmas.List.{append-nil, map-append, take_more}
use Rattle.std.specs.Fmt.{decimal as number}
use Rattle.scaled_decimal.specs.Decimals.{Decimal, decimal}
use Rattle.scaled_decimal.specs.PlainTexts.{plain_text}
use Rattle.interval_walk.specs.Ranges.{NamedRange, Ranges}
use Rattle.interval_analysis.specs.declared.verdict.OutputRange.{OutputRange}
use Rattle.interval_analysis.specs.Answers.{named_range}
use Rattle.plan_answers.specs.Lines.{range_line, range_lines}

range_lines-append : (os : Ranges) (o : NamedRange) → range_lines (os ++ o ∷ []) ≡ range_lines os ++ range_line o
range_lines-append [] o = append-nil (range_line o)
range_lines-append (x ∷ os) o = ap (λ t. range_line x ++ t) (range_lines-append os o) ∙ sym (append_assoc (range_line x) (range_lines os) (range_line o))

-- the line of one output more
pub ranges_more : (outputs : List OutputRange) (i : ℕ) (o : OutputRange) → o ≡ get_or outputs i o → i < length outputs →
    range_lines (map named_range (take (i + 1) outputs)) ≡ range_lines (map named_range (take i outputs)) ++ range_line (named_range o)
ranges_more outputs i o is lt =
    ap (λ l. range_lines (map named_range l)) (take_more outputs i o lt)
    ∙ ap range_lines (map-append named_range (take i outputs) (get_or outputs i o ∷ []))
    ∙ range_lines-append (map named_range (take i outputs)) (named_range (get_or outputs i o))
    ∙ ap (λ x. range_lines (map named_range (take i outputs)) ++ range_line (named_range x)) (sym is)

ended : (a b c d e : List ℕ) → a ++ (32 ∷ (b ++ (32 ∷ (c ++ (32 ∷ (d ++ (32 ∷ (e ++ (10 ∷ []))))))))) ≡ (a ++ (32 ∷ (b ++ (32 ∷ (c ++ (32 ∷ (d ++ (32 ∷ e)))))))) ++ (10 ∷ [])
ended a b c d e = simp append_assoc

abbrev line_of : (a b c d e : List ℕ) → List ℕ
line_of a b c d e = (a ++ (32 ∷ (b ++ (32 ∷ (c ++ (32 ∷ (d ++ (32 ∷ e)))))))) ++ (10 ∷ [])

-- the line of an output, from its parts
pub range_text : (t name : List ℕ) (low high : Decimal) (least greatest : ℕ) (o : OutputRange) → name ≡ o.name → low ≡ decimal o.range.lo o.range.s_hi → high ≡ decimal o.range.hi o.range.s_hi → least ≡ o.range.s_lo → greatest ≡ o.range.s_hi →
    t ≡ name ++ (32 ∷ (plain_text low ++ (32 ∷ (plain_text high ++ (32 ∷ (number least ++ (32 ∷ (number greatest ++ (10 ∷ []))))))))) → t ≡ range_line (named_range o)
range_text t name low high least greatest o is_name is_low is_high is_least is_greatest e =
    e ∙ ended name (plain_text low) (plain_text high) (number least) (number greatest)
    ∙ ap (λ n. line_of n (plain_text low) (plain_text high) (number least) (number greatest)) is_name
    ∙ ap (λ d. line_of o.name (plain_text d) (plain_text high) (number least) (number greatest)) is_low
    ∙ ap (λ d. line_of o.name (plain_text (decimal o.range.lo o.range.s_hi)) (plain_text d) (number least) (number greatest)) is_high
    ∙ ap (λ n. line_of o.name (plain_text (decimal o.range.lo o.range.s_hi)) (plain_text (decimal o.range.hi o.range.s_hi)) (number n) (number greatest)) is_least
    ∙ ap (λ n. line_of o.name (plain_text (decimal o.range.lo o.range.s_hi)) (plain_text (decimal o.range.hi o.range.s_hi)) (number o.range.s_lo) (number n)) is_greatest

-- a text that was appended to a text
pub text_more : (after before text first lines line : List ℕ) → after ≡ before ++ text → before ≡ first ++ lines → text ≡ line → after ≡ first ++ (lines ++ line)
text_more after before text first lines line e f g = e ∙ ap (λ x. x ++ text) f ∙ append_assoc first lines text ∙ ap (λ x. first ++ (lines ++ x)) g
