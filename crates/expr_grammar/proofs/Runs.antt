-- What a parser needs of the machine's run: one step, and the frames that an expression closes.
use Rattle.std.proofs.Common.{◌≡◌, ℕ, ◌≤◌, ◌<◌, Bool, true, false, cond, Some, None, Err, List, [], ◌∷◌, refl, ap, ◌∙◌}
use Rattle.std.specs.Prelude.{⊤, IsTrue, nat_lt, ◌&&◌}
use Rattle.std.proofs.lemmas.Bool.{lt-ltb, le-ltb}
use Rattle.pap_tree.specs.Term.{Term, leaf, named}
use Rattle.pap_tree.specs.Tokens as tokens
use Rattle.pap_tree.specs.Tokens.{Token, Literal, Mark, Close, Spot}
use Rattle.pap_tree.specs.Grammar.{Line, Level}
use Rattle.pap_tree.specs.Limits.{most_levels}
use Rattle.pap_tree.specs.Stopping.{deep, has_limits}
use Rattle.expr_grammar.specs.Machine.{Frame, State, Have, Named, binds, made, level_of, step}
use Rattle.expr_grammar.proofs.Holes.{follows}
use Rattle.expr_grammar.specs.Run.{Refusal, refusal_at, cause_of, or_refusal, is_over, next, run}
use Rattle.expr_grammar.proofs.Closing.{taking, taking_last}

-- ---- one step

-- so many levels may be open
by_limits : (b : Bool) (n : ℕ) → n ≤ most_levels → (b && nat_lt most_levels n) ≡ false
by_limits true n h = le-ltb most_levels n h
by_limits false n h = refl

pub not_over : (l : Line) (s : State) → level_of s ≤ most_levels → is_over l s ≡ false
not_over l s h = by_limits (has_limits l) (level_of s) h

pub no_limits : (l : Line) (s : State) → has_limits l ≡ false → is_over l s ≡ false
no_limits l s e = ap (λ b. b && nat_lt most_levels (level_of s)) e

pub over : (l : Line) (s : State) → IsTrue (has_limits l) → most_levels < level_of s → is_over l s ≡ true
over l s h lt = ap (λ b. b && nat_lt most_levels (level_of s)) h ∙ lt-ltb most_levels (level_of s) lt

pub stepped : (l : Line) (f : Refusal) (s r : State) (t : Spot) (ts : List Spot) → step s t.token ≡ Some r → is_over l r ≡ false → run l f s (t ∷ ts) ≡ run l f r ts
stepped l f s r t ts e o =
    ap (λ o. next l t (refusal_at (cause_of s t.token) t.at) o (λ r. run l f r ts)) e ∙ ap (λ c. cond c (Err (refusal_at deep t.at)) (run l f r ts)) o

pub stuck : (l : Line) (f : Refusal) (s : State) (t : Spot) (ts : List Spot) → step s t.token ≡ None → run l f s (t ∷ ts) ≡ Err (refusal_at (cause_of s t.token) t.at)
stuck l f s t ts e = ap (λ o. next l t (refusal_at (cause_of s t.token) t.at) o (λ r. run l f r ts)) e

pub too_deep : (l : Line) (f : Refusal) (s r : State) (t : Spot) (ts : List Spot) → step s t.token ≡ Some r → is_over l r ≡ true → run l f s (t ∷ ts) ≡ Err (refusal_at deep t.at)
too_deep l f s r t ts e o =
    ap (λ o. next l t (refusal_at (cause_of s t.token) t.at) o (λ r. run l f r ts)) e ∙ ap (λ c. cond c (Err (refusal_at deep t.at)) (run l f r ts)) o

-- ---- what follows an expression

-- the first of the tokens that are left doesn't go on with what was read of the line
abbrev pub Rests : Line → List Spot → Type 0
Rests l [] = ⊤
Rests l (t ∷ ts) = follows l t.token ≡ true

-- two states that step alike, with like causes, run alike
pub alike : (l : Line) (f : Refusal) (s r : State) (t : Spot) (ts : List Spot) → step s t.token ≡ step r t.token → cause_of s t.token ≡ cause_of r t.token → run l f s (t ∷ ts) ≡ run l f r (t ∷ ts)
alike l f s r t ts e g =
    ap (λ o. next l t (refusal_at (cause_of s t.token) t.at) o (λ r. run l f r ts)) e ∙ ap (λ c. next l t (refusal_at c t.at) (step r t.token) (λ r. run l f r ts)) g

have_cause : (x y : Term) (k j : List Frame) (t : Token) → cause_of (Have x k) t ≡ cause_of (Have y j) t
have_cause x y k j (Literal (tokens.point d)) = refl
have_cause x y k j (Literal (tokens.int n)) = refl
have_cause x y k j (Mark Close) = refl
have_cause x y k j t = refl

-- A frame that binds as tightly as the line takes the expression.
pub taken : (l : Line) (f : Refusal) (g : Frame) (m : ℕ) (x : Term) (k : List Frame) (ts : List Spot) → binds g ≡ Some m → Rests (Level m) ts
    → run l f (Have x (g ∷ k)) ts ≡ run l f (Have (made g x) k) ts
taken l f g m x k [] e h = ap (or_refusal f) (taking_last g m x k e)
taken l f g m x k (t ∷ ts) e h = alike l f (Have x (g ∷ k)) (Have (made g x) k) t ts (taking g m x k t.token e h) (have_cause x (made g x) (g ∷ k) k t.token)

named_cause : (w : List ℕ) (k : List Frame) (t : Token) → cause_of (Named w k) t ≡ cause_of (Have (leaf (named w)) k) t
named_cause w k (Literal (tokens.point d)) = refl
named_cause w k (Literal (tokens.int n)) = refl
named_cause w k (Mark Close) = refl
named_cause w k t = refl

named_step : (w : List ℕ) (k : List Frame) (t : Token) → follows (Level 9) t ≡ true → step (Named w k) t ≡ step (Have (leaf (named w)) k) t
named_step w k (Mark tokens.OpenItem) e = absurd cc
named_step w k t e = refl

-- A name that no item follows is an expression.
pub named_alone : (l : Line) (f : Refusal) (w : List ℕ) (k : List Frame) (ts : List Spot) → Rests (Level 9) ts → run l f (Named w k) ts ≡ run l f (Have (leaf (named w)) k) ts
named_alone l f w k [] h = refl
named_alone l f w k (t ∷ ts) h = alike l f (Named w k) (Have (leaf (named w)) k) t ts (named_step w k t.token h) (named_cause w k t.token)
