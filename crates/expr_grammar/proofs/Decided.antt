-- The machine's answer decides what a line's tokens are.
use Rattle.std.proofs.Common.{◌≡◌, ℕ, ◌≤◌, ◌<◌, ◌⊎◌, inl, inr, Bool, true, false, cond, Some, Result, Ok, Err, List, [], ◌∷◌, ◌++◌, length, take, drop, refl, sym, ap, subst, ◌∙◌, append_assoc, arith}
use Rattle.std.specs.Prelude.{IsTrue}
use Rattle.std.proofs.lemmas.List.{append-nil, take-append-drop, length-take, length-drop}
use Rattle.pap_tree.specs.Tokens.{Token, Spot, plain}
use Rattle.pap_tree.specs.Grammar.{Line, LineMeaning}
use Rattle.pap_tree.specs.Texts.{Derives}
use Rattle.pap_tree.specs.Limits.{most_tokens}
use Rattle.pap_tree.specs.Stopping.{IsRead, HasStopCause, StopsBefore, IsRefusedAt, Cause, syntax, unsupported, binary_fraction, number, deep, rank, has_limits}
use Rattle.expr_grammar.specs.Lines.{IsWholeLine}
use Rattle.expr_grammar.specs.Machine.{first_state}
use Rattle.expr_grammar.specs.Run.{Refusal, refusal_at, run, never, cut_answer, answer}
use Rattle.expr_grammar.specs.GrammarLaws.{IsTakenAs}
use Rattle.expr_grammar.proofs.Reading.{text_ends, text_runs}
use Rattle.expr_grammar.proofs.Exact.{plain_append, length_plain, Halts, Answers, stopped_deep, runs}

-- ---- a text has one meaning

meaning_is : (x y : LineMeaning) → Some x ≡ Some y → x ≡ y
meaning_is x y e = cc

pub one_meaning : (line : Line) → IsWholeLine line → (a : List Token) (x y : LineMeaning) → Derives line a x → Derives line a y → x ≡ y
one_meaning line w a x y h k =
    let (s, e) = text_runs line w a x h in
    meaning_is x y (sym (text_ends line w a x s h e) ∙ text_ends line w a y s k e)

-- ---- a line within the limits isn't refused

stops_after : (line : Line) (ts : List Spot) (end : ℕ) (x : LineMeaning) (c : Cause) (at : ℕ) (before after : List Spot) → Derives line (plain ts) x → IsRead line (plain ts) → ts ≡ before ++ after
    → StopsBefore line end (plain before) after c at → ⊥
stops_after line ts end x c at before [] t r e s = s.2 x (subst (λ p. Derives line (plain p) x) (e ∙ append-nil before) t)
stops_after line ts end x c at before (u ∷ after) t r e s = r (plain before) (plain after) u.token (ap plain e ∙ plain_append before (u ∷ after)) s.1

pub text_or_refusal : (line : Line) (ts : List Spot) (end : ℕ) (x : LineMeaning) (c : Cause) (at : ℕ) → Derives line (plain ts) x → IsRead line (plain ts) → IsRefusedAt line ts end c at → ⊥
text_or_refusal line ts end x c at t r h = stops_after line ts end x c at h.before h.after t r h.whole h.stop

-- ---- one refusal_at

same_rank : (c d : Cause) → rank c ≡ rank d → c ≡ d
same_rank syntax syntax e = refl
same_rank unsupported unsupported e = refl
same_rank binary_fraction binary_fraction e = refl
same_rank number number e = refl
same_rank deep deep e = refl
same_rank c d e = absurd (omega (arith, e))

compared : (m n : ℕ) → (m < n) ⊎ ((n < m) ⊎ (m ≡ n))
compared m n = grind arith

one_cause : (line : Line) (a : List Token) (t : Token) (c d : Cause) → HasStopCause line a t c → HasStopCause line a t d → c ≡ d
one_cause line a t c d h k = elim (compared (rank c) (rank d)) as (λ z. c ≡ d) [
  | inl f ↦ absurd (h.first d f k.earned)
  | inr f ↦ elim f as (λ z. c ≡ d) [
    | inl g ↦ absurd (k.first c g h.earned)
    | inr g ↦ same_rank c d g
  ]
]

-- the same cause at the same place
abbrev pub IsSame : Cause → ℕ → Cause → ℕ → Type 0
IsSame c m d n = (c ≡ d) × (m ≡ n)

same_stop : (line : Line) (end : ℕ) (before : List Token) (after : List Spot) (c d : Cause) (m n : ℕ) → StopsBefore line end before after c m → StopsBefore line end before after d n → IsSame c m d n
same_stop line end before [] c d m n h k = (h.1 ∙ sym k.1, h.0 ∙ sym k.0)
same_stop line end before (t ∷ after) c d m n h k = (one_cause line before t.token c d h.2 k.2, h.0 ∙ sym k.0)

head_is : (t u : Spot) (x y : List Spot) → t ∷ x ≡ u ∷ y → t ≡ u
head_is t u x y e = cc

tail_is : (t u : Spot) (x y : List Spot) → t ∷ x ≡ u ∷ y → x ≡ y
tail_is t u x y e = cc

abbrev Cuts : List Spot → List Spot → List Spot → List Spot → Type 0
Cuts a b x y = ((d : List Spot) × (b ≡ a ++ d) × (x ≡ d ++ y)) ⊎ ((d : List Spot) × (a ≡ b ++ d) × (y ≡ d ++ x))

-- of two cuts of one list, one is no later than the other
cuts : (a b x y : List Spot) → a ++ x ≡ b ++ y → Cuts a b x y
cuts [] b x y e = inl (b, refl, e)
cuts (u ∷ a) [] x y e = inr (u ∷ a, refl, sym e)
cuts (u ∷ a) (v ∷ b) x y e =
    let h : u ≡ v = head_is u v (a ++ x) (b ++ y) e in
    elim (cuts a b x y (tail_is u v (a ++ x) (b ++ y) e)) as (λ z. Cuts (u ∷ a) (v ∷ b) x y) [
      | inl k ↦ inl (k.0, ap (λ z. z ∷ b) (sym h) ∙ ap (λ z. u ∷ z) k.1, k.2)
      | inr k ↦ inr (k.0, ap (λ z. z ∷ a) h ∙ ap (λ z. v ∷ z) k.1, k.2)
    ]

ordered : (line : Line) (end : ℕ) (a x b y d : List Spot) (c e : Cause) (m n : ℕ) → b ≡ a ++ d → x ≡ d ++ y → StopsBefore line end (plain a) x c m → StopsBefore line end (plain b) y e n
    → IsRead line (plain b) → IsSame c m e n
ordered line end a x b y [] c e m n p q h k r =
    let same : b ≡ a = p ∙ append-nil a in
    same_stop line end (plain a) y c e m n (subst (λ x. StopsBefore line end (plain a) x c m) q h) (subst (λ b. StopsBefore line end (plain b) y e n) same k)
ordered line end a x b y (t ∷ d) c e m n p q h k r =
    let s : StopsBefore line end (plain a) (t ∷ (d ++ y)) c m = subst (λ x. StopsBefore line end (plain a) x c m) q h in
    absurd (r (plain a) (plain d) t.token (ap plain p ∙ plain_append a (t ∷ d)) s.1)

turned : (c d : Cause) (m n : ℕ) → IsSame c m d n → IsSame d n c m
turned c d m n h = (sym h.0, sym h.1)

pub one_refusal : (line : Line) (ts : List Spot) (end : ℕ) (c d : Cause) (m n : ℕ) → IsRefusedAt line ts end c m → IsRefusedAt line ts end d n → IsSame c m d n
one_refusal line ts end c d m n h k = elim (cuts h.before k.before h.after k.after (sym h.whole ∙ k.whole)) as (λ z. IsSame c m d n) [
  | inl f ↦ ordered line end h.before h.after k.before k.after f.0 c d m n f.1 f.2 h.stop k.stop k.read
  | inr f ↦ turned d c n m (ordered line end k.before k.after h.before h.after f.0 d c n m f.1 f.2 k.stop h.stop h.read)
]

-- ---- the answer

-- what the answer says of the tokens
abbrev pub Says : Line → ℕ → List Spot → Result LineMeaning Refusal → Type 0
Says line end ts (Ok x) = Derives line (plain ts) x × IsRead line (plain ts)
Says line end ts (Err e) = IsRefusedAt line ts end e.cause e.at

ended : (line : Line) (end : ℕ) (before : List Token) (after : List Spot) (e : Refusal) → Halts line (refusal_at syntax end) before after e → StopsBefore line end before after e.cause e.at
ended line end before [] e h = (ap (λ f. f.at) h.0, ap (λ f. f.cause) h.0, h.1)
ended line end before (t ∷ ts) e h = h

says : (line : Line) (end : ℕ) (ts : List Spot) (r : Result LineMeaning Refusal) → Answers line (refusal_at syntax end) ts r → Says line end ts r
says line end ts (Ok x) h = h
says line end ts (Err e) h = record { before = h.before; after = h.after; whole = h.whole; read = h.read; stop = ended line end (plain h.before) h.after e h.stop }

no_more : (line : Line) (all : List Spot) → (IsTrue (has_limits line) → length all ≤ most_tokens) → IsRead line []
no_more line all few b c u e stops = absurd (no_front b c u e)
  where
    no_front : (b c : List Token) (u : Token) → [] ≡ b ++ (u ∷ c) → ⊥
    no_front [] c u e = cc
    no_front (v ∷ b) c u e = cc

from_start : (line : Line) → IsWholeLine line → (f : Refusal) (ts : List Spot) → (IsTrue (has_limits line) → length ts ≤ most_tokens) → Answers line f ts (run line f (first_state line) ts)
from_start line w f ts few = runs line w ts f ts [] (first_state line) refl few refl (no_more line ts few)

-- where a token too many follows
cut_refused : (line : Line) (end : ℕ) (front : List Spot) (t : Spot) (rest : List Spot) → IsTrue (has_limits line) → most_tokens ≤ length front → IsRead line (plain front)
    → IsRefusedAt line (front ++ (t ∷ rest)) end deep t.at
cut_refused line end front t rest limits many read =
    let l = length_plain front in
    let h = stopped_deep line (refusal_at syntax end) (front ++ (t ∷ rest)) front t rest refl read (limits, inl (omega (arith, l, many))) in
    record { before = h.before; after = h.after; whole = h.whole; read = h.read; stop = ended line end (plain h.before) h.after (refusal_at deep t.at) h.stop }

refused_is : (line : Line) (ts : List Spot) (end : ℕ) (e f : Refusal) → f ≡ e → IsRefusedAt line ts end f.cause f.at → IsRefusedAt line ts end e.cause e.at
refused_is line ts end e f g h = subst (λ e. IsRefusedAt line ts end e.cause e.at) g h

early : (line : Line) (end : ℕ) (front : List Spot) (t : Spot) (rest : List Spot) (e : Refusal) (before after : List Spot) → IsTrue (has_limits line) → most_tokens ≤ length front
    → front ≡ before ++ after → IsRead line (plain before) → Halts line (refusal_at deep t.at) (plain before) after e → IsRefusedAt line (front ++ (t ∷ rest)) end e.cause e.at
early line end front t rest e before [] limits many g read h =
    let same : before ≡ front = sym (append-nil before) ∙ sym g in
    refused_is line (front ++ (t ∷ rest)) end e (refusal_at deep t.at) (sym h.0) (cut_refused line end front t rest limits many (subst (λ p. IsRead line (plain p)) same read))
early line end front t rest e before (u ∷ after) limits many g read h = record {
  before = before;
  after = u ∷ (after ++ (t ∷ rest));
  whole = ap (λ p. p ++ (t ∷ rest)) g ∙ append_assoc before (u ∷ after) (t ∷ rest);
  read = read;
  stop = h;
}

cut_says : (line : Line) (end : ℕ) (front : List Spot) (t : Spot) (rest : List Spot) (r : Result LineMeaning Refusal) → IsTrue (has_limits line) → most_tokens ≤ length front
    → Answers line (refusal_at deep t.at) front r → Says line end (front ++ (t ∷ rest)) (never (refusal_at deep t.at) r)
cut_says line end front t rest (Ok x) limits many h = cut_refused line end front t rest limits many h.1
cut_says line end front t rest (Err e) limits many h = early line end front t rest e h.before h.after limits many h.whole h.read h.stop

-- the first tokens are as many as may be, or all
by_rest : (line : Line) → IsWholeLine line → (end : ℕ) (front rest : List Spot) → (IsTrue (has_limits line) → length front ≤ most_tokens)
    → (0 < length rest → IsTrue (has_limits line) × (most_tokens ≤ length front)) → Says line end (front ++ rest) (cut_answer line end front rest)
by_rest line w end front [] few many =
    subst (λ ts. Says line end ts (run line (refusal_at syntax end) (first_state line) front)) (sym (append-nil front)) (says line end front _ (from_start line w (refusal_at syntax end) front few))
by_rest line w end front (t ∷ rest) few many =
    let (limits, full) = many (omega arith) in
    cut_says line end front t rest (run line (refusal_at deep t.at) (first_state line) front) limits full (from_start line w (refusal_at deep t.at) front few)

few_taken : (ts : List Spot) → length (take most_tokens ts) ≤ most_tokens
few_taken ts = let e = length-take most_tokens ts in omega (arith, e)

all_taken : (ts : List Spot) → 0 < length (drop most_tokens ts) → most_tokens ≤ length (take most_tokens ts)
all_taken ts h = let e = length-take most_tokens ts in let f = length-drop most_tokens ts in omega (arith, e, f, h)

by_limits : (line : Line) → IsWholeLine line → (end : ℕ) (ts : List Spot) (c : Bool) → has_limits line ≡ c
    → Says line end ts (cond c (cut_answer line end (take most_tokens ts) (drop most_tokens ts)) (cut_answer line end ts []))
by_limits line w end ts true e =
    subst (λ ts'. Says line end ts' (cut_answer line end (take most_tokens ts) (drop most_tokens ts))) (take-append-drop most_tokens ts)
    (by_rest line w end (take most_tokens ts) (drop most_tokens ts) (λ h. few_taken ts) (λ h. (e, all_taken ts h)))
by_limits line w end ts false e =
    subst (λ ts'. Says line end ts' (cut_answer line end ts [])) (append-nil ts)
    (by_rest line w end ts [] (λ h. let f : false ≡ true = sym e ∙ h in absurd cc) (λ h. absurd (omega (arith, h))))

pub answered : (line : Line) → IsWholeLine line → (end : ℕ) (ts : List Spot) → Says line end ts (answer line end ts)
answered line w end ts = by_limits line w end ts (has_limits line) refl

-- ---- both directions

ok_says : (line : Line) (end : ℕ) (ts : List Spot) (x : LineMeaning) (r : Result LineMeaning Refusal) → r ≡ Ok x → Says line end ts r → Derives line (plain ts) x × IsRead line (plain ts)
ok_says line end ts x r e h = subst (λ r. Says line end ts r) e h

err_says : (line : Line) (end : ℕ) (ts : List Spot) (f : Refusal) (r : Result LineMeaning Refusal) → r ≡ Err f → Says line end ts r → IsRefusedAt line ts end f.cause f.at
err_says line end ts f r e h = subst (λ r. Says line end ts r) e h

says_ok : (line : Line) → IsWholeLine line → (end : ℕ) (ts : List Spot) (x : LineMeaning) (r : Result LineMeaning Refusal) → Says line end ts r → Derives line (plain ts) x → IsRead line (plain ts) → r ≡ Ok x
says_ok line w end ts x (Ok y) h t read = ap Ok (one_meaning line w (plain ts) y x h.0 t)
says_ok line w end ts x (Err e) h t read = absurd (text_or_refusal line ts end x e.cause e.at t read h)

refusal_is : (e f : Refusal) → IsSame e.cause e.at f.cause f.at → e ≡ f
refusal_is e f h = ap (λ c. refusal_at c e.at) h.0 ∙ ap (λ n. refusal_at f.cause n) h.1

says_err : (line : Line) (end : ℕ) (ts : List Spot) (f : Refusal) (r : Result LineMeaning Refusal) → Says line end ts r → IsRefusedAt line ts end f.cause f.at → r ≡ Err f
says_err line end ts f (Ok x) h k = absurd (text_or_refusal line ts end x f.cause f.at h.0 h.1 k)
says_err line end ts f (Err e) h k = ap Err (refusal_is e f (one_refusal line ts end e.cause f.cause e.at f.at h k))

pub answer_ok : (line : Line) → IsWholeLine line → (end : ℕ) (ts : List Spot) (x : LineMeaning) → answer line end ts ≡ Ok x → Derives line (plain ts) x × IsRead line (plain ts)
answer_ok line w end ts x e = ok_says line end ts x (answer line end ts) e (answered line w end ts)

pub ok_answer : (line : Line) → IsWholeLine line → (end : ℕ) (ts : List Spot) (x : LineMeaning) → Derives line (plain ts) x → IsRead line (plain ts) → answer line end ts ≡ Ok x
ok_answer line w end ts x t read = says_ok line w end ts x (answer line end ts) (answered line w end ts) t read

pub answer_err : (line : Line) → IsWholeLine line → (end : ℕ) (ts : List Spot) (f : Refusal) → answer line end ts ≡ Err f → IsRefusedAt line ts end f.cause f.at
answer_err line w end ts f e = err_says line end ts f (answer line end ts) e (answered line w end ts)

pub err_answer : (line : Line) → IsWholeLine line → (end : ℕ) (ts : List Spot) (f : Refusal) → IsRefusedAt line ts end f.cause f.at → answer line end ts ≡ Err f
err_answer line w end ts f h = says_err line end ts f (answer line end ts) (answered line w end ts) h

said : (line : Line) (end : ℕ) (ts : List Spot) (r : Result LineMeaning Refusal) → Says line end ts r → ((x : LineMeaning) × IsTakenAs line ts x) ⊎ ((c : Cause) × (at : ℕ) × IsRefusedAt line ts end c at)
said line end ts (Ok x) h = inl (x, h)
said line end ts (Err e) h = inr (e.cause, e.at, h)

pub one_of_two : (line : Line) → IsWholeLine line → (end : ℕ) (ts : List Spot) → ((x : LineMeaning) × IsTakenAs line ts x) ⊎ ((c : Cause) × (at : ℕ) × IsRefusedAt line ts end c at)
one_of_two line w end ts = said line end ts (answer line end ts) (answered line w end ts)
