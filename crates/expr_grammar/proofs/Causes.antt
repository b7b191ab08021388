-- The cause that the machine gives is the first that the token earns.
use Rattle.std.proofs.Common.{◌≡◌, ℕ, ◌≤◌, ◌<◌, ◌⊎◌, inl, inr, Bool, true, false, cond, Option, Some, None, List, [], ◌∷◌, ◌++◌, refl, sym, subst, ◌∙◌, append_assoc, arith}
use Rattle.std.specs.Prelude.{nat_le, IsTrue}
use Rattle.std.proofs.lemmas.Bool.{leb-false}
use Rattle.scaled_decimal.specs.Decimals.{Decimal}
use Rattle.scaled_decimal.specs.Limits.{most_places}
use Rattle.pap_tree.specs.Names.{is_name}
use Rattle.pap_tree.specs.declared.expression.Binary.TheVariants as binaries
use Rattle.pap_tree.specs.Tokens.{Token, Literal, Beyond, Word, Operator, Mark, Dot, Close, int, point}
use Rattle.pap_tree.specs.Grammar as grammar
use Rattle.pap_tree.specs.Grammar.{Line, of_quotient, of_setting}
use Rattle.pap_tree.specs.Stopping as stopping
use Rattle.pap_tree.specs.Stopping.{IsDeep, WantsScale, IsGreat, IsFraction, IsForeign, new_big_decimal, Cause, syntax, unsupported, binary_fraction, number, deep, rank, Earns, HasStopCause}
use Rattle.expr_grammar.specs.Lines.{IsWholeLine}
use Rattle.expr_grammar.specs.Machine.{InNew, Negating, dividing, setting, rounding, OfNew, Holder, the_decimal, the_mode, holder_word, holder_of, State, Want, Member, Static, ScaleDue, Parting, Moded, Signed, Minus, Settling, level_of_job, scaled, step, steps, first_state}
use Rattle.expr_grammar.specs.Run.{int_cause, point_cause, class_cause, word_cause, close_cause, cause_of}
use Rattle.expr_grammar.proofs.Handles.{wants}
use Rattle.expr_grammar.proofs.Words.{picked}
use Rattle.expr_grammar.proofs.Pending.{further}
use Rattle.expr_grammar.proofs.Spelled.{awaits}
use Rattle.expr_grammar.proofs.SpelledFronts.{scale_front, place_of}
use Rattle.expr_grammar.proofs.Reading.{spelled}
use Rattle.expr_grammar.proofs.Standing.{wants_state, dot_state, fraction_state, setting_state}

-- ---- what a cause needs

low : (c : Cause) → 1 ≤ rank c
low syntax = omega arith
low c = omega arith

-- no greater cause is earned
none_greater : (line : Line) (a : List Token) (t : Token) (c : Cause) → (IsDeep line a t → ⊥) → Earns line a t c
    → (rank c < rank number → IsGreat line a t → ⊥) → (rank c < rank binary_fraction → IsFraction a t → ⊥) → (rank c < rank unsupported → IsForeign line a t → ⊥) → HasStopCause line a t c
none_greater line a t c no_deep earned no_great no_fraction no_foreign = record { earned = earned; first = first }
  where
    first : (d : Cause) → rank c < rank d → Earns line a t d → ⊥
    first deep lt h = no_deep h
    first number lt h = no_great lt h
    first binary_fraction lt h = no_fraction lt h
    first unsupported lt h = no_foreign lt h
    first syntax lt h = let g = low c in absurd (omega (arith, lt, g))

great_right : (line : Line) (a : List Token) (t : Token) → (IsDeep line a t → ⊥) → IsGreat line a t → HasStopCause line a t number
great_right line a t no_deep h = none_greater line a t number no_deep h (λ lt g. absurd (omega (arith, lt))) (λ lt g. absurd (omega (arith, lt))) (λ lt g. absurd (omega (arith, lt)))

syntax_right : (line : Line) (a : List Token) (t : Token) → (IsDeep line a t → ⊥) → (IsGreat line a t → ⊥) → (IsFraction a t → ⊥) → (IsForeign line a t → ⊥) → HasStopCause line a t syntax
syntax_right line a t no_deep no_great no_fraction no_foreign = none_greater line a t syntax no_deep tt (λ lt h. no_great h) (λ lt h. no_fraction h) (λ lt h. no_foreign h)

-- ---- ints

great_place : (line : Line) (a : List Token) (n : ℕ) → IsGreat line a (Literal (int n)) → (p : grammar.Scaling) × WantsScale line a p
great_place line a n (stopping.great_scale m p lt h) = (p, h)

past_most : (n : ℕ) (c : Bool) (s : State) → nat_le n most_places ≡ c → cond c (Some s) None ≡ None → most_places < n
past_most n true s e f = absurd cc
past_most n false s e f = leb-false n most_places e

int_right : (line : Line) → IsWholeLine line → (s : State) (n : ℕ) (a : List Token) → steps (first_state line) a ≡ Some s → step s (Literal (int n)) ≡ None → (IsDeep line a (Literal (int n)) → ⊥)
    → HasStopCause line a (Literal (int n)) (int_cause s)
int_right line w (ScaleDue j) n a e f no_deep =
    great_right line a (Literal (int n)) no_deep
    (stopping.great_scale n (place_of j) (past_most n (nat_le n most_places) (scaled j n) refl f) (level_of_job j, 0, scale_front line j a (spelled line w a (ScaleDue j) e)))
int_right line w s n a e f no_deep =
    syntax_right line a (Literal (int n)) no_deep (λ h. let g = great_place line a n h in let q = wants_state line w a s g.0 e g.1 in absurd cc) (λ h. elim h [ ]) (λ h. elim h [ ])

-- ---- literals with a point

fraction_right : (line : Line) (a : List Token) (d : Decimal) → (IsDeep line a (Literal (point d)) → ⊥) → IsFraction a (Literal (point d)) → HasStopCause line a (Literal (point d)) binary_fraction
fraction_right line a d no_deep h =
    none_greater line a (Literal (point d)) binary_fraction no_deep h (λ lt g. elim g [ ]) (λ lt g. absurd (omega (arith, lt))) (λ lt g. absurd (omega (arith, lt)))

signed_is : (a p q : List Token) → a ≡ p ++ (Operator binaries.Sub ∷ []) → p ≡ q ++ new_big_decimal → a ≡ q ++ (new_big_decimal ++ (Operator binaries.Sub ∷ []))
signed_is a p q e f = e ∙ further p q new_big_decimal (Operator binaries.Sub ∷ []) f

point_right : (line : Line) → IsWholeLine line → (s : State) (d : Decimal) (a : List Token) → steps (first_state line) a ≡ Some s → (IsDeep line a (Literal (point d)) → ⊥) → HasStopCause line a (Literal (point d)) (point_cause s)
point_right line w (Want (InNew ∷ k)) d a e no_deep =
    let h = spelled line w a (Want (InNew ∷ k)) e in
    fraction_right line a d no_deep (stopping.plain_fraction h.2.0 d h.2.1)
point_right line w (Want (Negating ∷ InNew ∷ k)) d a e no_deep =
    let h = spelled line w a (Want (Negating ∷ InNew ∷ k)) e in
    fraction_right line a d no_deep (stopping.signed_fraction h.1.1.2.0 d (signed_is a h.1.0 h.1.1.2.0 h.1.2 h.1.1.2.1))
point_right line w (Signed (OfNew r)) d a e no_deep =
    let h = spelled line w a (Signed (OfNew r)) e in
    fraction_right line a d no_deep (stopping.plain_fraction h.0 d h.2)
point_right line w (Minus (OfNew r)) d a e no_deep =
    let h = spelled line w a (Minus (OfNew r)) e in
    fraction_right line a d no_deep (stopping.signed_fraction h.1.0 d (signed_is a h.0 h.1.0 h.2 h.1.2))
point_right line w s d a e no_deep =
    syntax_right line a (Literal (point d)) no_deep (λ h. elim h [ ]) (λ h. let q = fraction_state line w a d s e h in absurd cc) (λ h. elim h [ ])

-- ---- words

abbrev IsMember : List Token → List ℕ → Type 0
IsMember a v = (b : List Token) × (a ≡ b ++ (Mark Dot ∷ [])) × IsTrue (is_name v)

abbrev IsMode : Line → List Token → List ℕ → Type 0
IsMode line a v = WantsScale line a of_quotient × ((h : Holder) × (holder_of v ≡ Some h))

foreign_word : (line : Line) (a : List Token) (v : List ℕ) → IsForeign line a (Word v) → IsMember a v ⊎ IsMode line a v
foreign_word line a v (stopping.a_member b u e h) = inl (b, e, h)
foreign_word line a v (stopping.an_old_mode h) = inr (h, (the_decimal, refl))
foreign_word line a v (stopping.a_new_mode h) = inr (h, (the_mode, refl))

foreign_right : (line : Line) (a : List Token) (v : List ℕ) → (IsDeep line a (Word v) → ⊥) → IsForeign line a (Word v) → HasStopCause line a (Word v) unsupported
foreign_right line a v no_deep h =
    none_greater line a (Word v) unsupported no_deep h (λ lt g. elim g [ ]) (λ lt g. elim g [ ]) (λ lt g. absurd (omega (arith, lt)))

by_name : (line : Line) → IsWholeLine line → (s : State) (v : List ℕ) (a b : List Token) (c : Bool) → is_name v ≡ c → steps (first_state line) a ≡ Some s → wants s ≡ None → a ≡ b ++ (Mark Dot ∷ [])
    → (IsDeep line a (Word v) → ⊥) → HasStopCause line a (Word v) (cond c unsupported syntax)
by_name line w s v a b true g e f h no_deep = foreign_right line a v no_deep (stopping.a_member b v h g)
by_name line w s v a b false g e f h no_deep =
    syntax_right line a (Word v) no_deep (λ h. elim h [ ]) (λ h. elim h [ ]) (λ h. elim (foreign_word line a v h) as (λ z. ⊥) [
      | inl m ↦ (let q : false ≡ true = sym g ∙ m.2 in absurd cc)
      | inr m ↦ (let q : None ≡ Some of_quotient = sym f ∙ wants_state line w a s of_quotient e m.0 in absurd cc)
    ])

mode_earns : (line : Line) (a : List Token) (h : Holder) → WantsScale line a of_quotient → IsForeign line a (Word (holder_word h))
mode_earns line a the_decimal g = stopping.an_old_mode g
mode_earns line a the_mode g = stopping.a_new_mode g

by_class : (line : Line) → IsWholeLine line → (s : State) (v : List ℕ) (a : List Token) (o : Option Holder) → holder_of v ≡ o → steps (first_state line) a ≡ Some s → awaits s ≡ false → WantsScale line a of_quotient
    → (IsDeep line a (Word v) → ⊥) → HasStopCause line a (Word v) (class_cause o)
by_class line w s v a (Some h) g e f want no_deep =
    foreign_right line a v no_deep (subst (λ v. IsForeign line a (Word v)) (sym (picked holder_word v (the_decimal ∷ the_mode ∷ []) h g)) (mode_earns line a h want))
by_class line w s v a None g e f want no_deep =
    syntax_right line a (Word v) no_deep (λ h. elim h [ ]) (λ h. elim h [ ]) (λ h. elim (foreign_word line a v h) as (λ z. ⊥) [
      | inl m ↦ (let q : false ≡ true = sym f ∙ dot_state line w a m.0 s e m.1 in absurd cc)
      | inr m ↦ (let q : None ≡ Some m.1.0 = sym g ∙ m.1.1 in absurd cc)
    ])

by_none : (line : Line) → IsWholeLine line → (s : State) (v : List ℕ) (a : List Token) → steps (first_state line) a ≡ Some s → awaits s ≡ false → (wants s ≡ Some of_quotient → ⊥) → (IsDeep line a (Word v) → ⊥)
    → HasStopCause line a (Word v) syntax
by_none line w s v a e f none no_deep =
    syntax_right line a (Word v) no_deep (λ h. elim h [ ]) (λ h. elim h [ ]) (λ h. elim (foreign_word line a v h) as (λ z. ⊥) [
      | inl m ↦ (let q : false ≡ true = sym f ∙ dot_state line w a m.0 s e m.1 in absurd cc)
      | inr m ↦ none (wants_state line w a s of_quotient e m.0)
    ])

-- the point after a word
point_last : (a p : List Token) (t : Token) → a ≡ p ++ (t ∷ Mark Dot ∷ []) → a ≡ (p ++ (t ∷ [])) ++ (Mark Dot ∷ [])
point_last a p t e = e ∙ sym (append_assoc p (t ∷ []) (Mark Dot ∷ []))

word_right : (line : Line) → IsWholeLine line → (s : State) (v : List ℕ) (a : List Token) → steps (first_state line) a ≡ Some s → (IsDeep line a (Word v) → ⊥) → HasStopCause line a (Word v) (word_cause s v)
word_right line w (Member x k) v a e no_deep = let h = spelled line w a (Member x k) e in by_name line w (Member x k) v a h.0 (is_name v) refl e refl h.2 no_deep
word_right line w (Static k) v a e no_deep = let h = spelled line w a (Static k) e in by_name line w (Static k) v a _ (is_name v) refl e refl (point_last a h.0 _ h.2) no_deep
word_right line w (Moded o r n k) v a e no_deep = let h = spelled line w a (Moded o r n k) e in by_name line w (Moded o r n k) v a _ (is_name v) refl e refl (point_last a h.0 _ h.2) no_deep
word_right line w (Settling r) v a e no_deep = let h = spelled line w a (Settling r) e in by_name line w (Settling r) v a _ (is_name v) refl e refl (point_last a h.0 _ h.2) no_deep
word_right line w (ScaleDue (rounding (dividing x y) k)) v a e no_deep =
    let h = scale_front line (rounding (dividing x y) k) a (spelled line w a (ScaleDue (rounding (dividing x y) k)) e) in
    by_class line w (ScaleDue (rounding (dividing x y) k)) v a (holder_of v) refl e refl (_, 0, h) no_deep
word_right line w s v a e no_deep = by_none line w s v a e refl (λ h. absurd cc) no_deep

-- ---- closing brackets

foreign_close : (line : Line) (a : List Token) → IsForeign line a (Mark Close) → (b : List Token) × (n : ℕ) × (a ≡ b ++ (Literal (int n) ∷ [])) × WantsScale line b of_setting
foreign_close line a (stopping.no_mode b n e h) = (b, n, e, h)

close_right : (line : Line) → IsWholeLine line → (s : State) (a : List Token) → steps (first_state line) a ≡ Some s → (IsDeep line a (Mark Close) → ⊥) → HasStopCause line a (Mark Close) (close_cause s)
close_right line w (Parting (setting x) n k) a e no_deep =
    let h = spelled line w a (Parting (setting x) n k) e in
    none_greater line a (Mark Close) unsupported no_deep (stopping.no_mode h.1.0 n h.1.1 h.1.2) (λ lt g. elim g [ ]) (λ lt g. elim g [ ]) (λ lt g. absurd (omega (arith, lt)))
close_right line w s a e no_deep =
    syntax_right line a (Mark Close) no_deep (λ h. elim h [ ]) (λ h. elim h [ ])
    (λ h. let g = foreign_close line a h in let q = setting_state line w a g.0 g.1 s e g.2 g.3 in absurd cc)

-- ---- all of them

pub cause_right : (line : Line) → IsWholeLine line → (s : State) (t : Token) (a : List Token) → steps (first_state line) a ≡ Some s → step s t ≡ None → (IsDeep line a t → ⊥) → HasStopCause line a t (cause_of s t)
cause_right line w s Beyond a e f no_deep = great_right line a Beyond no_deep stopping.beyond
cause_right line w s (Literal (int n)) a e f no_deep = int_right line w s n a e f no_deep
cause_right line w s (Literal (point d)) a e f no_deep = point_right line w s d a e no_deep
cause_right line w s (Word v) a e f no_deep = word_right line w s v a e no_deep
cause_right line w s (Mark Close) a e f no_deep = close_right line w s a e no_deep
cause_right line w s t a e f no_deep = syntax_right line a t no_deep (λ h. elim h [ ]) (λ h. elim h [ ]) (λ h. elim h [ ])
