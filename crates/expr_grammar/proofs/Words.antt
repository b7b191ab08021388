-- The words that the machine knows.
use Rattle.std.proofs.Common.{◌≡◌, ℕ, Bool, true, false, cond, ◌⊎◌, inl, inr, Option, Some, None, List, [], ◌∷◌, refl, ap, ◌∙◌}
use Rattle.std.specs.Prelude.{option_map}
use Rattle.std.specs.Str.{bytes_eq}
use Rattle.std.proofs.lemmas.Slice.Eq.{bytes_eq-Decides}
use Rattle.scaled_decimal.specs.declared.rounding.Mode.{Mode}
use Rattle.scaled_decimal.specs.declared.rounding.Mode.TheVariants as modes
use Rattle.pap_tree.specs.declared.expression.Known.{Known}
use Rattle.pap_tree.specs.declared.expression.Known.TheVariants as knowns
use Rattle.pap_tree.specs.declared.expression.Call.{Call}
use Rattle.pap_tree.specs.declared.expression.Call.TheVariants as calls
use Rattle.pap_tree.specs.Words.{call_word, known_word, mode_word, round_word}
use Rattle.pap_tree.specs.Tokens as tokens
use Rattle.pap_tree.specs.Tokens.{Sign, Token, Word, Mark, sign_text}
use Rattle.expr_grammar.specs.Machine.{State, same_token, first_with_word, applied, method_of, constant, constancy_of, the_decimal, the_mode, mode_of}

pub call_is : (c : Call) → method_of (call_word c) ≡ Some (applied c)
call_is calls.Add = refl
call_is calls.Subtract = refl
call_is calls.Multiply = refl
call_is calls.DivideExact = refl
call_is calls.CompareTo = refl
call_is calls.Min = refl
call_is calls.Max = refl

pub known_is : (k : Known) → constancy_of (known_word k) ≡ Some (constant k)
known_is knowns.Zero = refl
known_is knowns.One = refl
known_is knowns.Ten = refl

pub old_mode_is : (m : Mode) → mode_of the_decimal (round_word m) ≡ Some m
old_mode_is modes.Down = refl
old_mode_is modes.Up = refl
old_mode_is modes.Floor = refl
old_mode_is modes.Ceiling = refl
old_mode_is modes.HalfUp = refl
old_mode_is modes.HalfDown = refl
old_mode_is modes.HalfEven = refl

pub new_mode_is : (m : Mode) → mode_of the_mode (mode_word m) ≡ Some m
new_mode_is modes.Down = refl
new_mode_is modes.Up = refl
new_mode_is modes.Floor = refl
new_mode_is modes.Ceiling = refl
new_mode_is modes.HalfUp = refl
new_mode_is modes.HalfDown = refl
new_mode_is modes.HalfEven = refl

-- ---- what a word that was found is

word_cases : {A : Type 0} (c : Bool) (a b : A) (o : Option A) → cond c (Some a) o ≡ Some b → ((c ≡ true) × (a ≡ b)) ⊎ ((c ≡ false) × (o ≡ Some b))
word_cases true a b o e = inl (refl, cc)
word_cases false a b o e = inr (refl, e)

none_is : {A : Type 0} (a : A) → None ≡ Some a → ⊥
none_is a e = cc

pub bytes_are : (v w : List ℕ) → bytes_eq v w ≡ true → v ≡ w
bytes_are v w e = (bytes_eq-Decides v w).0 e

pub picked : {A : Type 0} (word : A → List ℕ) (w : List ℕ) (all : List A) (a : A) → first_with_word word w all ≡ Some a → w ≡ word a
picked word w [] a e = absurd (none_is a e)
picked word w (b ∷ more) a e = elim (word_cases (bytes_eq w (word b)) b a (first_with_word word w more) e) as (λ z. w ≡ word a) [
  | inl f ↦ bytes_are w (word b) f.0 ∙ ap word f.1
  | inr f ↦ picked word w more a f.1
]

sign_is : (a b : Sign) → bytes_eq (sign_text a) (sign_text b) ≡ true → a ≡ b
sign_is tokens.Equals tokens.Equals e = refl
sign_is tokens.Bang tokens.Bang e = refl
sign_is tokens.Question tokens.Question e = refl
sign_is tokens.Colon tokens.Colon e = refl
sign_is tokens.Dot tokens.Dot e = refl
sign_is tokens.Comma tokens.Comma e = refl
sign_is tokens.Semicolon tokens.Semicolon e = refl
sign_is tokens.Open tokens.Open e = refl
sign_is tokens.Close tokens.Close e = refl
sign_is tokens.OpenItem tokens.OpenItem e = refl
sign_is tokens.CloseItem tokens.CloseItem e = refl
sign_is tokens.OpenTable tokens.OpenTable e = refl
sign_is tokens.CloseTable tokens.CloseTable e = refl
sign_is a b e = absurd cc

pub token_is : (t u : Token) → same_token t u ≡ true → t ≡ u
token_is (Mark a) (Mark b) e = ap (λ s. Mark s) (sign_is a b e)
token_is (Word v) (Word w) e = ap (λ w. Word w) (bytes_are v w e)
token_is t u e = absurd cc

-- what is made of a found word
pub mapped : {A : Type 0} (f : A → State) (o : Option A) (r : State) → option_map f o ≡ Some r → (a : A) × (o ≡ Some a) × (f a ≡ r)
mapped f None r e = absurd cc
mapped f (Some a) r e = (a, refl, cc)

pub if_some : (c : Bool) (s r : State) → cond c (Some s) None ≡ Some r → (c ≡ true) × (s ≡ r)
if_some true s r e = (refl, cc)
if_some false s r e = absurd cc

pub either_some : (c : Bool) (s r : State) (o : Option State) → cond c (Some s) o ≡ Some r → ((c ≡ true) × (s ≡ r)) ⊎ ((c ≡ false) × (o ≡ Some r))
either_some c s r o e = word_cases c s r o e
