-- The run over the tokens that are left.
use Rattle.std.proofs.Common.{◌≡◌, ℕ, ◌+◌, ◌<◌, ◌≤◌, Bool, true, false, cond, Some, None, Result, Err, List, [], ◌∷◌, length, take, drop, get_or, refl, sym, ap, ◌∙◌}
use Rattle.std.specs.Prelude.{nat_lt, ◌&&◌}
use Rattle.std.proofs.lemmas.List.{drop_more, drop_all, take_all, take-map, drop-map}
use Rattle.pap_tree.specs.Tokens as tokens
use Rattle.pap_tree.specs.Tokens.{Spot, Token, Literal, Mark, Equals, Close}
use Rattle.pap_tree.specs.Grammar.{Line, Assignment, LineMeaning}
use Rattle.pap_tree.specs.Limits.{most_levels}
use Rattle.pap_tree.specs.Stopping.{syntax, deep, has_limits}
use Rattle.expr_tokens.specs.declared.token.Placed.{Placed}
use Rattle.expr_tokens.specs.Spots.{spot_of, spots_of}
use Rattle.expr_grammar.specs.Machine.{State, Due, Want, Naming, Assigning, same_token, naming_step, level_of, step, first_state}
use Rattle.expr_grammar.specs.Run.{Refusal, refusal_at, cause_of, is_over, run, cut_answer, answer, never}
use Rattle.pap_expr.specs.declared.expression.Kind.{Kind}
use Rattle.pap_expr.specs.declared.expression.Kind.TheVariants as kinds
use Rattle.pap_expr.specs.declared.fault.ExprFault.{ExprFault}
use Rattle.pap_expr.specs.declared.fault.ExprFault.TheVariants as faults
use Rattle.pap_expr.specs.private.Views.{refusal_of, plain_cause}
use Rattle.pap_expr.specs.private.Answers.{line_of, Fails}
use Rattle.expr_grammar.proofs.Laws.{stepped, stuck, too_deep, no_limits}

-- the tokens from here on
pub left : (ts : List Placed) (i : ℕ) (x : Placed) → i < length ts → x ≡ get_or ts i x → spots_of (drop i ts) ≡ spot_of x ∷ spots_of (drop (i + 1) ts)
left ts i x lt e = ap spots_of (drop_more ts i x lt) ∙ ap (λ y. spot_of y ∷ spots_of (drop (i + 1) ts)) (sym e)

limited : (l : Line) (s : State) (b : Bool) → has_limits l ≡ true → nat_lt most_levels (level_of s) ≡ b → is_over l s ≡ b
limited l s b h e = ap (λ c. c && nat_lt most_levels (level_of s)) h ∙ e

pub goes_over : (l : Line) (f : Refusal) (s r : State) (ts rest : List Placed) (x : Placed) → has_limits l ≡ true → ts ≡ x ∷ rest
    → step s (spot_of x).token ≡ Some r → nat_lt most_levels (level_of r) ≡ false → run l f s (spots_of ts) ≡ run l f r (spots_of rest)
goes_over l f s r ts rest x h e go o = ap (λ us. run l f s (spots_of us)) e ∙ stepped l f s r (spot_of x) (spots_of rest) go (limited l r false h o)

-- where levels don't count
pub goes_on : (l : Line) (f : Refusal) (s r : State) (ts : List Placed) (i : ℕ) (x : Placed) → has_limits l ≡ false → i < length ts → x ≡ get_or ts i x
    → step s (spot_of x).token ≡ Some r → run l f s (spots_of (drop i ts)) ≡ run l f r (spots_of (drop (i + 1) ts))
goes_on l f s r ts i x h lt e go = ap (run l f s) (left ts i x lt e) ∙ stepped l f s r (spot_of x) (spots_of (drop (i + 1) ts)) go (no_limits l r h)

pub sinks : (l : Line) (f : Refusal) (s r : State) (ts rest : List Placed) (x : Placed) → has_limits l ≡ true → ts ≡ x ∷ rest
    → step s (spot_of x).token ≡ Some r → nat_lt most_levels (level_of r) ≡ true → run l f s (spots_of ts) ≡ Err (refusal_at deep x.at)
sinks l f s r ts rest x h e go o = ap (λ us. run l f s (spots_of us)) e ∙ too_deep l f s r (spot_of x) (spots_of rest) go (limited l r true h o)

pub sticks_over : (l : Line) (f : Refusal) (s : State) (ts rest : List Placed) (x : Placed) → ts ≡ x ∷ rest
    → step s (spot_of x).token ≡ None → run l f s (spots_of ts) ≡ Err (refusal_at (cause_of s (spot_of x).token) x.at)
sticks_over l f s ts rest x e go = ap (λ us. run l f s (spots_of us)) e ∙ stuck l f s (spot_of x) (spots_of rest) go

pub sticks : (l : Line) (f : Refusal) (s : State) (ts : List Placed) (i : ℕ) (x : Placed) → i < length ts → x ≡ get_or ts i x
    → step s (spot_of x).token ≡ None → run l f s (spots_of (drop i ts)) ≡ Err (refusal_at (cause_of s (spot_of x).token) x.at)
sticks l f s ts i x lt e go = ap (run l f s) (left ts i x lt e) ∙ stuck l f s (spot_of x) (spots_of (drop (i + 1) ts)) go

-- ---- the target of an assignment

abbrev pub due : List ℕ → State
due w = Due 0 (Mark Equals) (Want (Assigning w ∷ []))

pub targeted : (f : Refusal) (t : Spot) (ts : List Spot) (w : List ℕ) → naming_step t.token ≡ Some (due w) → run Assignment f Naming (t ∷ ts) ≡ run Assignment f (due w) ts
targeted f t ts w e = stepped Assignment f Naming (due w) t ts e refl

pub assigned : (f : Refusal) (t : Spot) (ts : List Spot) (w : List ℕ) → same_token (Mark Equals) t.token ≡ true → run Assignment f (due w) (t ∷ ts) ≡ run Assignment f (Want (Assigning w ∷ [])) ts
assigned f t ts w e = stepped Assignment f (due w) (Want (Assigning w ∷ [])) t ts (ap (λ c. cond c (Some (Want (Assigning w ∷ []))) None) e) refl

pub unassigned : (f : Refusal) (t : Spot) (ts : List Spot) (w : List ℕ) → same_token (Mark Equals) t.token ≡ false → run Assignment f (due w) (t ∷ ts) ≡ Err (refusal_at (cause_of (due w) t.token) t.at)
unassigned f t ts w e = stuck Assignment f (due w) t ts (ap (λ c. cond c (Some (Want (Assigning w ∷ []))) None) e)

pub due_cause : (w : List ℕ) (t : Token) → cause_of (due w) t ≡ plain_cause t
due_cause w (Literal (tokens.int n)) = refl
due_cause w (Literal (tokens.point d)) = refl
due_cause w (Mark Close) = refl
due_cause w t = refl

-- ---- faults

pub fails : (r : Result LineMeaning Refusal) (e : ExprFault) (g : Refusal) → r ≡ Err g → refusal_of e ≡ g → Fails r e
fails r faults.Memory g h k = tt
fails r (faults.Syntax n) g h k = h ∙ ap Err (sym k)
fails r (faults.Unsupported n) g h k = h ∙ ap Err (sym k)
fails r (faults.BinaryFraction n) g h k = h ∙ ap Err (sym k)
fails r (faults.Number n) g h k = h ∙ ap Err (sym k)
fails r (faults.Deep n) g h k = h ∙ ap Err (sym k)

-- ---- at most 1,000 tokens

limits : (k : Kind) → has_limits (line_of k) ≡ true
limits kinds.Test = refl
limits kinds.Assignment = refl

cut : (k : Kind) (end : ℕ) (ts : List Spot) → answer (line_of k) end ts ≡ cut_answer (line_of k) end (take 1000 ts) (drop 1000 ts)
cut k end ts = ap (λ c. cond c (cut_answer (line_of k) end (take 1000 ts) (drop 1000 ts)) (cut_answer (line_of k) end ts [])) (limits k)

pub short_answer : (k : Kind) (end : ℕ) (ts : List Placed) → length ts ≤ 1000
    → answer (line_of k) end (spots_of ts) ≡ run (line_of k) (refusal_at syntax end) (first_state (line_of k)) (spots_of ts)
short_answer k end ts few =
    let front : take 1000 (spots_of ts) ≡ spots_of ts = take-map spot_of 1000 ts ∙ ap spots_of (take_all 1000 ts few) in
    let back : drop 1000 (spots_of ts) ≡ [] = drop-map spot_of 1000 ts ∙ ap spots_of (drop_all 1000 ts few) in
    cut k end (spots_of ts) ∙ ap (λ us. cut_answer (line_of k) end us (drop 1000 (spots_of ts))) front ∙ ap (cut_answer (line_of k) end (spots_of ts)) back

pub long_answer : (k : Kind) (end : ℕ) (ts : List Placed) (d : Placed) → 1000 < length ts
    → answer (line_of k) end (spots_of ts) ≡ never (refusal_at deep (get_or ts 1000 d).at) (run (line_of k) (refusal_at deep (get_or ts 1000 d).at) (first_state (line_of k)) (spots_of (take 1000 ts)))
long_answer k end ts d many =
    let back : drop 1000 (spots_of ts) ≡ spot_of (get_or ts 1000 d) ∷ spots_of (drop 1001 ts) = drop-map spot_of 1000 ts ∙ ap spots_of (drop_more ts 1000 d many) in
    cut k end (spots_of ts) ∙ ap (λ us. cut_answer (line_of k) end us (drop 1000 (spots_of ts))) (take-map spot_of 1000 ts)
    ∙ ap (cut_answer (line_of k) end (spots_of (take 1000 ts))) back
