-- What the run answers is what the tokens stand for, or why they are refused.
use Rattle.std.proofs.Common.{◌≡◌, ℕ, suc, ◌+◌, ◌≤◌, ◌<◌, ◌⊎◌, inl, inr, Bool, true, false, cond, Option, Some, None, Result, Ok, Err, List, [], ◌∷◌, ◌++◌, length, refl, sym, ap, subst, ◌∙◌, append_assoc, arith}
use Rattle.std.specs.Prelude.{IsTrue, nat_lt, ◌&&◌, option_and_then}
use Rattle.std.proofs.lemmas.Bool.{ltb-true, ltb-false}
use Rattle.std.proofs.lemmas.List.{append-nil, length-append}
use Rattle.pap_tree.specs.Tokens.{Token, Spot, plain}
use Rattle.pap_tree.specs.Grammar.{Line, LineMeaning}
use Rattle.pap_tree.specs.Texts.{Derives}
use Rattle.pap_tree.specs.Fronts.{IsFront}
use Rattle.pap_tree.specs.Limits.{most_tokens, most_levels}
use Rattle.pap_tree.specs.Stopping.{IsDeep, Stops, IsRead, HasStopCause, Cause, syntax, unsupported, binary_fraction, number, deep, rank, Earns, has_limits}
use Rattle.expr_grammar.specs.Lines.{IsWholeLine}
use Rattle.expr_grammar.specs.Machine.{State, level_of, step, finish, steps, first_state}
use Rattle.expr_grammar.specs.Run.{Refusal, refusal_at, cause_of, or_refusal, is_over, next, run}
use Rattle.expr_grammar.proofs.Forward.{some_is, steps_then}
use Rattle.expr_grammar.proofs.SpelledFronts.{is_front}
use Rattle.expr_grammar.proofs.Reading.{finish_text, text_ends, spelled, step_last, machine_front, front_reaches}
use Rattle.expr_grammar.proofs.Causes.{cause_right}

pub plain_append : (p q : List Spot) → plain (p ++ q) ≡ plain p ++ plain q
plain_append [] q = refl
plain_append (t ∷ p) q = ap (λ a. t.token ∷ a) (plain_append p q)

pub length_plain : (p : List Spot) → length (plain p) ≡ length p
length_plain [] = refl
length_plain (t ∷ p) = ap suc (length_plain p)

-- ---- levels

over : (b : Bool) (n : ℕ) → (b && nat_lt most_levels n) ≡ true → IsTrue b × (most_levels < n)
over true n e = (refl, ltb-true most_levels n e)
over false n e = absurd cc

within : (b : Bool) (n : ℕ) → (b && nat_lt most_levels n) ≡ false → IsTrue b → n ≤ most_levels
within true n e h = ltb-false most_levels n e
within false n e h = absurd cc

-- ---- what is read stays read

snoc_cut : (a b c : List Token) (t u : Token) → a ++ (t ∷ []) ≡ b ++ (u ∷ c) → ((b ≡ a) × (u ≡ t)) ⊎ ((d : List Token) × (a ≡ b ++ (u ∷ d)))
snoc_cut [] [] c t u e = inl (refl, cc)
snoc_cut [] (v ∷ []) c t u e = absurd cc
snoc_cut [] (v ∷ x ∷ b) c t u e = absurd cc
snoc_cut (v ∷ a) [] c t u e = let head : v ≡ u = cc in inr (a, ap (λ z. z ∷ a) head)
snoc_cut (v ∷ a) (x ∷ b) c t u e =
    let head : v ≡ x = cc in
    let tail : a ++ (t ∷ []) ≡ b ++ (u ∷ c) = cc in
    elim (snoc_cut a b c t u tail) as (λ z. ((x ∷ b ≡ v ∷ a) × (u ≡ t)) ⊎ ((d : List Token) × (v ∷ a ≡ (x ∷ b) ++ (u ∷ d)))) [
      | inl f ↦ inl (ap (λ z. x ∷ z) f.0 ∙ ap (λ z. z ∷ a) (sym head), f.1)
      | inr f ↦ inr (f.0, ap (λ z. v ∷ z) f.1 ∙ ap (λ z. z ∷ (b ++ (u ∷ f.0))) head)
    ]

-- a step within the limits stops nothing
goes_on : (line : Line) → IsWholeLine line → (a : List Token) (t : Token) (s r : State) → steps (first_state line) a ≡ Some s → step s t ≡ Some r → is_over line r ≡ false
    → (IsTrue (has_limits line) → length a < most_tokens) → Stops line a t → ⊥
goes_on line w a t s r e f low few (inr none) = none (machine_front line w (a ++ (t ∷ [])) r (step_last line a t s r e f))
goes_on line w a t s r e f low few (inl (h, inl many)) = let g = few h in absurd (omega (arith, g, many))
goes_on line w a t s r e f low few (inl (h, inr (n, i, front, lt))) =
    let g = front_reaches line w (a ++ (t ∷ [])) n i front in
    let same : g.to ≡ r = some_is g.to r (sym g.run ∙ step_last line a t s r e f) in
    let le : level_of r ≤ most_levels = within (has_limits line) (level_of r) low h in
    let d : n + level_of (first_state line) ≤ level_of r = subst (λ q. n + level_of (first_state line) ≤ level_of q) same g.deep in
    absurd (omega (arith, le, d, lt))

read_more : (line : Line) → IsWholeLine line → (a : List Token) (t : Token) (s r : State) → steps (first_state line) a ≡ Some s → step s t ≡ Some r → is_over line r ≡ false
    → (IsTrue (has_limits line) → length a < most_tokens) → IsRead line a → IsRead line (a ++ (t ∷ []))
read_more line w a t s r e f low few h b c u g stops = elim (snoc_cut a b c t u g) as (λ z. ⊥) [
  | inl k ↦ goes_on line w a t s r e f low few (subst (λ u. Stops line a u) k.1 (subst (λ b. Stops line b u) k.0 stops))
  | inr k ↦ h b k.0 u k.1 stops
]

-- ---- the answer

-- what stops the machine, with f at the end
abbrev pub Halts : Line → Refusal → List Token → List Spot → Refusal → Type 0
Halts line f before [] e = (e ≡ f) × ((x : LineMeaning) → Derives line before x → ⊥)
Halts line f before (t ∷ ts) e = (e.at ≡ t.at) × Stops line before t.token × HasStopCause line before t.token e.cause

pub record Halted (line : Line) (f : Refusal) (all : List Spot) (e : Refusal) : Type 0 where
  pub before : List Spot
  pub after : List Spot
  pub whole : all ≡ before ++ after
  pub read : IsRead line (plain before)
  pub stop : Halts line f (plain before) after e

abbrev pub Answers : Line → Refusal → List Spot → Result LineMeaning Refusal → Type 0
Answers line f all (Ok x) = Derives line (plain all) x × IsRead line (plain all)
Answers line f all (Err e) = Halted line f all e

no_text : (x : LineMeaning) → None ≡ Some x → ⊥
no_text x e = cc

at_end : (line : Line) → IsWholeLine line → (f : Refusal) (all p : List Spot) (s : State) (o : Option LineMeaning) → all ≡ p → steps (first_state line) (plain p) ≡ Some s → IsRead line (plain p) → finish s ≡ o
    → Answers line f all (or_refusal f o)
at_end line w f all p s (Some x) g e h k = subst (λ all. Answers line f all (Ok x)) (sym g) (finish_text line s x (plain p) (spelled line w (plain p) s e) k, h)
at_end line w f all p s None g e h k = record {
  before = p;
  after = [];
  whole = g ∙ sym (append-nil p);
  read = h;
  stop = (refl, λ x t. no_text x (sym k ∙ text_ends line w (plain p) x s t e));
}

no_front : (line : Line) → IsWholeLine line → (s : State) (a : List Token) (t : Token) → steps (first_state line) a ≡ Some s → step s t ≡ None → IsFront line (a ++ (t ∷ [])) → ⊥
no_front line w s a t e f (n, i, h) =
    let g = front_reaches line w (a ++ (t ∷ [])) n i h in
    let none : steps (first_state line) (a ++ (t ∷ [])) ≡ None = steps_then (first_state line) a (t ∷ []) s e ∙ ap (λ o. option_and_then (λ x. steps x []) o) f in
    let both : None ≡ Some g.to = sym none ∙ g.run in
    absurd cc

not_deep : (line : Line) (a : List Token) (t : Token) → (IsTrue (has_limits line) → length a < most_tokens) → (IsFront line (a ++ (t ∷ [])) → ⊥) → IsDeep line a t → ⊥
not_deep line a t few none (h, inl many) = let g = few h in absurd (omega (arith, g, many))
not_deep line a t few none (h, inr (n, i, front, lt)) = none (n, i, front)

-- so many tokens are left
room : (line : Line) (all p : List Spot) (t : Spot) (ts : List Spot) → all ≡ p ++ (t ∷ ts) → (IsTrue (has_limits line) → length all ≤ most_tokens) → IsTrue (has_limits line) → length (plain p) < most_tokens
room line all p t ts g few h =
    let a = few h in
    let b : length all ≡ length p + suc (length ts) = ap length g ∙ length-append p (t ∷ ts) in
    let c = length_plain p in
    omega (arith, a, b, c)

stuck : (line : Line) → IsWholeLine line → (f : Refusal) (all p : List Spot) (t : Spot) (ts : List Spot) (s : State) → all ≡ p ++ (t ∷ ts) → (IsTrue (has_limits line) → length all ≤ most_tokens)
    → steps (first_state line) (plain p) ≡ Some s → IsRead line (plain p) → step s t.token ≡ None → Answers line f all (Err (refusal_at (cause_of s t.token) t.at))
stuck line w f all p t ts s g few e h k =
    let none = no_front line w s (plain p) t.token e k in
    record {
      before = p;
      after = t ∷ ts;
      whole = g;
      read = h;
      stop = (refl, inr none, cause_right line w s t.token (plain p) e k (not_deep line (plain p) t.token (room line all p t ts g few) none));
    }

deep_last : (line : Line) (a : List Token) (t : Token) → IsDeep line a t → HasStopCause line a t deep
deep_last line a t h = record { earned = h; first = first }
  where
    first : (d : Cause) → rank deep < rank d → Earns line a t d → ⊥
    first syntax lt g = absurd (omega (arith, lt))
    first unsupported lt g = absurd (omega (arith, lt))
    first binary_fraction lt g = absurd (omega (arith, lt))
    first number lt g = absurd (omega (arith, lt))
    first deep lt g = absurd (omega (arith, lt))

pub stopped_deep : (line : Line) (f : Refusal) (all p : List Spot) (t : Spot) (ts : List Spot) → all ≡ p ++ (t ∷ ts) → IsRead line (plain p) → IsDeep line (plain p) t.token → Halted line f all (refusal_at deep t.at)
stopped_deep line f all p t ts g h d = record { before = p; after = t ∷ ts; whole = g; read = h; stop = (refl, inl d, deep_last line (plain p) t.token d) }

too_deep : (line : Line) → IsWholeLine line → (f : Refusal) (all p : List Spot) (t : Spot) (ts : List Spot) (s r : State) → all ≡ p ++ (t ∷ ts) → steps (first_state line) (plain p) ≡ Some s → IsRead line (plain p)
    → step s t.token ≡ Some r → is_over line r ≡ true → Answers line f all (Err (refusal_at deep t.at))
too_deep line w f all p t ts s r g e h k o =
    let (limits, lt) = over (has_limits line) (level_of r) o in
    let front = is_front line r (plain p ++ (t.token ∷ [])) (spelled line w (plain p ++ (t.token ∷ [])) r (step_last line (plain p) t.token s r e k)) in
    stopped_deep line f all p t ts g h (limits, inr (level_of r, front.0, front.1, lt))

by_level : (line : Line) → IsWholeLine line → (f : Refusal) (all p : List Spot) (t : Spot) (ts : List Spot) (s r : State) (c : Bool) → is_over line r ≡ c → all ≡ p ++ (t ∷ ts)
    → steps (first_state line) (plain p) ≡ Some s → IsRead line (plain p) → step s t.token ≡ Some r → (is_over line r ≡ false → Answers line f all (run line f r ts))
    → Answers line f all (cond c (Err (refusal_at deep t.at)) (run line f r ts))
by_level line w f all p t ts s r true c g e h k go = too_deep line w f all p t ts s r g e h k c
by_level line w f all p t ts s r false c g e h k go = go c

by_step : (line : Line) → IsWholeLine line → (f : Refusal) (all p : List Spot) (t : Spot) (ts : List Spot) (s : State) (o : Option State) → step s t.token ≡ o → all ≡ p ++ (t ∷ ts)
    → (IsTrue (has_limits line) → length all ≤ most_tokens) → steps (first_state line) (plain p) ≡ Some s → IsRead line (plain p)
    → ((r : State) → step s t.token ≡ Some r → is_over line r ≡ false → Answers line f all (run line f r ts))
    → Answers line f all (next line t (refusal_at (cause_of s t.token) t.at) o (λ r. run line f r ts))
by_step line w f all p t ts s None k g few e h go = stuck line w f all p t ts s g few e h k
by_step line w f all p t ts s (Some r) k g few e h go = by_level line w f all p t ts s r (is_over line r) refl g e h k (go r k)

pub runs : (line : Line) → IsWholeLine line → (ts : List Spot) (f : Refusal) (all p : List Spot) (s : State) → all ≡ p ++ ts → (IsTrue (has_limits line) → length all ≤ most_tokens)
    → steps (first_state line) (plain p) ≡ Some s → IsRead line (plain p) → Answers line f all (run line f s ts)
runs line w [] f all p s g few e h = at_end line w f all p s (finish s) (g ∙ append-nil p) e h refl
runs line w (t ∷ ts) f all p s g few e h = by_step line w f all p t ts s (step s t.token) refl g few e h (λ r k low.
    let one : plain (p ++ (t ∷ [])) ≡ plain p ++ (t.token ∷ []) = plain_append p (t ∷ []) in
    runs line w ts f all (p ++ (t ∷ [])) r (g ∙ sym (append_assoc p (t ∷ []) ts)) few (ap (steps (first_state line)) one ∙ step_last line (plain p) t.token s r e k)
    (subst (λ a. IsRead line a) (sym one) (read_more line w (plain p) t.token s r e k low (room line all p t ts g few) h)))
