-- The machine's run over a line's tokens, with its answer: what the line stands for, or why it is refused, and where.
use Rattle.std.specs.Prelude.{ℕ, Bool, ◌&&◌, nat_lt, if◌then◌else◌, Option, Some, None, List, [], ◌∷◌, take, drop, Result, Ok, Err}
use Rattle.pap_tree.specs.Names.{is_name}
use Rattle.pap_tree.specs.Tokens.{Token, Literal, Beyond, Word, Mark, Close, int, point, Spot}
use Rattle.pap_tree.specs.Grammar.{Line, LineMeaning}
use Rattle.pap_tree.specs.Limits.{most_tokens, most_levels}
use Rattle.pap_tree.specs.Stopping.{Cause, syntax, unsupported, binary_fraction, number, deep, has_limits}
use Rattle.expr_grammar.specs.Machine.{InNew, Negating, dividing, setting, rounding, OfNew, Holder, State, Want, Member, Static, ScaleDue, Parting, Moded, Settling, Signed, Minus, holder_of, level_of, step, finish, first_state}

-- why a line is refused, and at which byte
pub record Refusal : Type 0 where
  pub cause : Cause
  pub at : ℕ

-- a refusal_at for this cause at this token
abbrev pub refusal_at : Cause → ℕ → Refusal
refusal_at c n = record { cause = c; at = n }

-- why a whole number can't come next
abbrev pub int_cause : State → Cause
int_cause (ScaleDue j) = number
int_cause _ = syntax

-- why a number with a point can't come next: a `double` where a decimal is made, or else syntax
abbrev pub point_cause : State → Cause
point_cause (Want (InNew ∷ k)) = binary_fraction
point_cause (Want (Negating ∷ InNew ∷ k)) = binary_fraction
point_cause (Signed (OfNew r)) = binary_fraction
point_cause (Minus (OfNew r)) = binary_fraction
point_cause _ = syntax

-- why a word can't be a method's or a constant's name
abbrev pub name_cause : List ℕ → Cause
name_cause w = if is_name w then unsupported else syntax

-- why a class can't stand where a scale is due
abbrev pub class_cause : Option Holder → Cause
class_cause (Some h) = unsupported
class_cause None = syntax

-- why a word can't come next
abbrev pub word_cause : State → List ℕ → Cause
word_cause (Member x k) w = name_cause w
word_cause (Static k) w = name_cause w
word_cause (Moded h r s k) w = name_cause w
word_cause (Settling r) w = name_cause w
word_cause (ScaleDue (rounding (dividing x y) k)) w = class_cause (holder_of w)
word_cause _ w = syntax

-- why a closing bracket can't come next
abbrev pub close_cause : State → Cause
close_cause (Parting (setting x) s k) = unsupported
close_cause _ = syntax

-- why a token can't come next in a state
abbrev pub cause_of : State → Token → Cause
cause_of s Beyond = number
cause_of s (Literal (int n)) = int_cause s
cause_of s (Literal (point d)) = point_cause s
cause_of s (Word w) = word_cause s w
cause_of s (Mark Close) = close_cause s
cause_of s _ = syntax

-- what there is, or else this refusal_at
abbrev pub or_refusal : {A : Type 0} → Refusal → Option A → Result A Refusal
or_refusal f None = Err f
or_refusal f (Some x) = Ok x

-- more levels are open than the line may open
abbrev pub is_over : Line → State → Bool
is_over l s = has_limits l && nat_lt most_levels (level_of s)

-- the run goes on behind a token, unless it can't come next or too many levels are open
abbrev pub next : Line → Spot → Refusal → Option State → (State → Result LineMeaning Refusal) → Result LineMeaning Refusal
next l t f None go = Err f
next l t f (Some s) go = if is_over l s then Err (refusal_at deep t.at) else go s

-- the run from a state, with f where the tokens end too early
abbrev pub run : Line → Refusal → State → List Spot → Result LineMeaning Refusal
run l f s [] = or_refusal f (finish s)
run l f s (t ∷ ts) = next l t (refusal_at (cause_of s t.token) t.at) (step s t.token) (λ r. run l f r ts)

-- f in place of what a line stands for
abbrev pub never : Refusal → Result LineMeaning Refusal → Result LineMeaning Refusal
never f (Ok x) = Err f
never f (Err e) = Err e

-- the answer to the first tokens, as many as are allowed, and to those after them
abbrev pub cut_answer : Line → ℕ → List Spot → List Spot → Result LineMeaning Refusal
cut_answer l end front [] = run l (refusal_at syntax end) (first_state l) front
cut_answer l end front (t ∷ rest) = never (refusal_at deep t.at) (run l (refusal_at deep t.at) (first_state l) front)

-- the answer to a line's tokens in a text of so many bytes
abbrev pub answer : Line → ℕ → List Spot → Result LineMeaning Refusal
answer l end ts = if has_limits l then cut_answer l end (take most_tokens ts) (drop most_tokens ts) else cut_answer l end ts []
