-- The token that stops the reading of a line, and why. Source: docs/PROFILE.md, "Expressions".
use Rattle.std.specs.Prelude.{◌≡◌, ℕ, ◌≤◌, ◌<◌, ◌⊎◌, Bool, true, false, IsTrue, Option, Some, List, [], ◌∷◌, ◌++◌, length, codes, ⊤}
use Rattle.scaled_decimal.specs.Decimals.{Decimal}
use Rattle.scaled_decimal.specs.Limits.{most_places}
use Rattle.pap_tree.specs.Limits.{most_tokens, most_levels}
use Rattle.pap_tree.specs.Names.{is_name}
use Rattle.pap_tree.specs.declared.expression.Binary.TheVariants.{Sub}
use Rattle.pap_tree.specs.Tokens.{Token, Literal, Beyond, Word, Operator, Mark, Dot, Open, Close, int, point, Spot, plain}
use Rattle.pap_tree.specs.Grammar.{Item, Scale, Line, Constant, LineMeaning, Scaling, of_quotient, of_setting}
use Rattle.pap_tree.specs.Texts.{Derives}
use Rattle.pap_tree.specs.Fronts.{Front, IsFront}

-- a declared literal may be of any length
abbrev pub has_limits : Line → Bool
has_limits Constant = false
has_limits _ = true

-- one token more than there may be
abbrev pub IsOneTooMany : List Token → Type 0
IsOneTooMany before = most_tokens ≤ length before

-- with the token too many levels are open
abbrev pub OpensTooMany : Line → List Token → Token → Type 0
OpensTooMany l before t =
    (n : ℕ) × (i : Option Item) × Front l (before ++ (t ∷ [])) n i × (most_levels < n)

-- the token is one too many, or opens a level too many, where the line has limits
abbrev pub IsDeep : Line → List Token → Token → Type 0
IsDeep l before t = IsTrue (has_limits l) × (IsOneTooMany before ⊎ OpensTooMany l before t)

-- The token stops the reading: it is beyond a limit, or no text of the line begins so.
abbrev pub Stops : Line → List Token → Token → Type 0
Stops l before t = IsDeep l before t ⊎ (IsFront l (before ++ (t ∷ [])) → ⊥)

-- no token of these stops the reading
abbrev pub IsRead : Line → List Token → Type 0
IsRead l ts = (before after : List Token) (t : Token) → ts ≡ before ++ (t ∷ after) → Stops l before t → ⊥

-- a scale comes next
abbrev pub WantsScale : Line → List Token → Scaling → Type 0
WantsScale l before p = (n : ℕ) × (s : ℕ) × Front l before n (Some (Scale p s))

-- a literal or a string beyond its range, or an int beyond that of a scale
pub data IsGreat : Line → List Token → Token → Type 0 where
  beyond : {l : Line} {before : List Token} → IsGreat l before Beyond
  great_scale : {l : Line} {before : List Token} (n : ℕ) (p : Scaling)
      → most_places < n → WantsScale l before p → IsGreat l before (Literal (int n))

-- `new BigDecimal (`
abbrev pub new_big_decimal : List Token
new_big_decimal = Word (codes "new") ∷ Word (codes "BigDecimal") ∷ Mark Open ∷ []

-- a literal with a point right after `new BigDecimal (`, with or without a sign
pub data IsFraction : List Token → Token → Type 0 where
  plain_fraction : {before : List Token} (a : List Token) (d : Decimal)
      → before ≡ a ++ new_big_decimal → IsFraction before (Literal (point d))
  signed_fraction : {before : List Token} (a : List Token) (d : Decimal)
      → before ≡ a ++ (new_big_decimal ++ (Operator Sub ∷ [])) → IsFraction before (Literal (point d))

-- what Java has here and the profile doesn't
pub data IsForeign : Line → List Token → Token → Type 0 where
  -- another name after a point
  a_member : {l : Line} {before : List Token} (a : List Token) (w : List ℕ)
      → before ≡ a ++ (Mark Dot ∷ []) → IsTrue (is_name w) → IsForeign l before (Word w)
  -- divide(d, mode)
  an_old_mode : {l : Line} {before : List Token}
      → WantsScale l before of_quotient → IsForeign l before (Word (codes "BigDecimal"))
  a_new_mode : {l : Line} {before : List Token}
      → WantsScale l before of_quotient → IsForeign l before (Word (codes "RoundingMode"))
  -- setScale(s)
  no_mode : {l : Line} {before : List Token} (a : List Token) (s : ℕ)
      → before ≡ a ++ (Literal (int s) ∷ []) → WantsScale l a of_setting → IsForeign l before (Mark Close)

-- the causes; the last is tried first
pub data Cause : Type 0 where
  syntax : Cause
  unsupported : Cause
  binary_fraction : Cause
  number : Cause
  deep : Cause

-- the causes by number: that of the greater number is tried before the others
abbrev pub rank : Cause → ℕ
rank syntax = 1
rank unsupported = 2
rank binary_fraction = 3
rank number = 4
rank deep = 5

-- The cause fits the token; that the text is no text of the line fits each token that stops the reading.
abbrev pub Earns : Line → List Token → Token → Cause → Type 0
Earns l before t syntax = ⊤
Earns l before t unsupported = IsForeign l before t
Earns l before t binary_fraction = IsFraction before t
Earns l before t number = IsGreat l before t
Earns l before t deep = IsDeep l before t

-- the first of the causes that the token earns
pub record HasStopCause (l : Line) (before : List Token) (t : Token) (c : Cause) : Type 0 where
  pub earned : Earns l before t c
  pub first : (d : Cause) → rank c < rank d → Earns l before t d → ⊥

-- what stops the reading: the next token, or the end of the text
abbrev pub StopsBefore : Line → ℕ → List Token → List Spot → Cause → ℕ → Type 0
StopsBefore l end before [] c at = (at ≡ end) × (c ≡ syntax) × ((x : LineMeaning) → Derives l before x → ⊥)
StopsBefore l end before (t ∷ ts) c at = (at ≡ t.at) × Stops l before t.token × HasStopCause l before t.token c

-- the tokens of a text of so many bytes are refused for this cause at this place
pub record IsRefusedAt (l : Line) (ts : List Spot) (end : ℕ) (c : Cause) (at : ℕ) : Type 0 where
  pub before : List Spot
  pub after : List Spot
  pub whole : ts ≡ before ++ after
  pub read : IsRead l (plain before)
  pub stop : StopsBefore l end (plain before) after c at
