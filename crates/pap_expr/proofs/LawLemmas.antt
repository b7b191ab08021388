-- A refused text has a limit that it breaks.
use Rattle.std.proofs.Common.{◌≡◌, ℕ, inl, inr, List, [], ◌∷◌, ◌++◌, length, refl, sym, ◌∙◌, subst, arith, append_assoc}
use Rattle.std.proofs.lemmas.List.{append-nil, map-append}
use Rattle.pap_tree.specs.Tokens.{Token, Spot, plain}
use Rattle.pap_tree.specs.Grammar.{Line, LineMeaning}
use Rattle.pap_tree.specs.Texts.{Derives}
use Rattle.pap_tree.specs.Stopping.{Cause, syntax, unsupported, binary_fraction, number, deep, Stops, StopsBefore, HasStopCause, IsDeep}
use Rattle.pap_tree.specs.Expressions.{IsText, IsWrong}
use Rattle.expr_grammar.specs.GrammarLaws.{BeginsTexts}
use Rattle.expr_tokens.proofs.Laws.{one_reading}

-- the first of the causes of a token that is too deep
too_deep : (l : Line) (before : List Token) (t : Token) (c : Cause) → HasStopCause l before t c → IsDeep l before t → c ≡ deep
too_deep l before t syntax h d = absurd (h.first deep (omega arith) d)
too_deep l before t unsupported h d = absurd (h.first deep (omega arith) d)
too_deep l before t binary_fraction h d = absurd (h.first deep (omega arith) d)
too_deep l before t number h d = absurd (h.first deep (omega arith) d)
too_deep l before t deep h d = refl

-- the token goes on with the text, so it is too deep
stopped : (l : Line) (before after : List Token) (t : Token) (x : LineMeaning) → BeginsTexts l → Derives l (before ++ (t ∷ after)) x → Stops l before t → IsDeep l before t
stopped l before after t x fronts h (inl d) = d
stopped l before after t x fronts h (inr off) =
    absurd (off (fronts (before ++ (t ∷ [])) after x (subst (λ ts. Derives l ts x) (sym (append_assoc before (t ∷ []) after)) h)))

by_stop : (l : Line) (end : ℕ) (before after : List Spot) (c : Cause) (at : ℕ) (x : LineMeaning) → BeginsTexts l → Derives l (plain (before ++ after)) x
    → StopsBefore l end (plain before) after c at → c ≡ deep
by_stop l end before [] c at x fronts h s = absurd (s.2 x (subst (λ ts. Derives l (plain ts) x) (append-nil before) h))
by_stop l end before (t ∷ after) c at x fronts h s =
    let whole : plain (before ++ (t ∷ after)) ≡ plain before ++ (t.token ∷ plain after) = map-append (λ (t : Spot). t.token) before (t ∷ after) in
    too_deep l (plain before) t.token c s.2 (stopped l (plain before) (plain after) t.token x fronts (subst (λ ts. Derives l ts x) whole h) s.1)

-- what has a text is refused for its depth or its length
pub only_deep : (l : Line) (bytes : List ℕ) (x : LineMeaning) (c : Cause) (at : ℕ) → BeginsTexts l → IsText l bytes x → IsWrong l bytes c at → c ≡ deep
only_deep l bytes x c at fronts h w =
    let same : h.spots ≡ w.spots = one_reading 0 bytes h.spots w.spots h.tokens w.tokens in
    let r = w.refused in
    let whole = same ∙ r.whole in
    by_stop l (length bytes) r.before r.after c at x fronts (subst (λ ts. Derives l (plain ts) x) whole h.text) r.stop
