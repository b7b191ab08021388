-- The laws of the expression grammar, as statements on lists of tokens.
use Rattle.std.specs.Prelude.{◌≡◌, ℕ, ◌≤◌, ◌⊎◌, ◌↔◌, IsTrue, Option, Some, List, ◌++◌, length, Ok, Err}
use Rattle.pap_tree.specs.Tokens.{Token, Spot, plain}
use Rattle.pap_tree.specs.Term.{Term}
use Rattle.pap_tree.specs.Grammar.{Item, Line, Level, LineMeaning, tree}
use Rattle.pap_tree.specs.Texts.{Derives}
use Rattle.pap_tree.specs.Fronts.{Front, IsFront}
use Rattle.pap_tree.specs.Limits.{most_tokens}
use Rattle.pap_tree.specs.Stopping.{Cause, IsRead, IsRefusedAt, has_limits}
use Rattle.pap_tree.specs.Expressions.{IsText}
use Rattle.expr_grammar.specs.Machine.{State, level_of, first_state, steps}
use Rattle.expr_grammar.specs.Run.{Refusal, answer}
use Rattle.expr_grammar.specs.SpelledTokens.{spelled_tokens}
use Rattle.expr_grammar.specs.Trees.{size, IsKeeping, ArePlaced}

-- the tokens are a text of the line that stands for this, and none of them stops the reading
abbrev pub IsTakenAs : Line → List Spot → LineMeaning → Type 0
IsTakenAs l ts x = Derives l (plain ts) x × IsRead l (plain ts)

-- a text of the line stands for one thing
abbrev pub HasOneMeaning : Line → Type 0
HasOneMeaning l = (ts : List Token) (x y : LineMeaning) → Derives l ts x → Derives l ts y → x ≡ y

-- what is taken isn't refused
abbrev pub TakesOrRefuses : Line → Type 0
TakesOrRefuses l = (ts : List Spot) (end : ℕ) (x : LineMeaning) (c : Cause) (at : ℕ) → IsTakenAs l ts x → IsRefusedAt l ts end c at → ⊥

-- tokens are refused for one cause, at one place
abbrev pub HasOneRefusal : Line → Type 0
HasOneRefusal l = (ts : List Spot) (end : ℕ) (c d : Cause) (m n : ℕ) → IsRefusedAt l ts end c m → IsRefusedAt l ts end d n → (c ≡ d) × (m ≡ n)

-- all tokens are taken or refused
abbrev pub HasAnswer : Line → Type 0
HasAnswer l = (ts : List Spot) (end : ℕ) → ((x : LineMeaning) × IsTakenAs l ts x) ⊎ ((c : Cause) × (at : ℕ) × IsRefusedAt l ts end c at)

-- the machine reads exactly the prefixes of texts
abbrev pub ReadsFronts : Line → Type 0
ReadsFronts l = (ts : List Token) → ((s : State) × (steps (first_state l) ts ≡ Some s)) ↔ IsFront l ts

-- the machine's levels are the most that are open in a prefix
abbrev pub CountsLevels : Line → Type 0
CountsLevels l = (ts : List Token) (s : State) → steps (first_state l) ts ≡ Some s
    → ((i : Option Item) × Front l ts (level_of s) i) × ((n : ℕ) (i : Option Item) → Front l ts n i → n ≤ level_of s)

-- each beginning of a prefix of a text is one too
abbrev pub BeginsFronts : Line → Type 0
BeginsFronts l = (a b : List Token) → IsFront l (a ++ b) → IsFront l a

-- each beginning of a text is a prefix of a text
abbrev pub BeginsTexts : Line → Type 0
BeginsTexts l = (a b : List Token) (x : LineMeaning) → Derives l (a ++ b) x → IsFront l a

-- the machine gives what the tokens stand for, exactly where they are taken
abbrev pub GivesMeaning : Line → Type 0
GivesMeaning l = (ts : List Spot) (end : ℕ) (x : LineMeaning) → (answer l end ts ≡ Ok x) ↔ IsTakenAs l ts x

-- the machine gives the cause and the place, exactly where the tokens are refused
abbrev pub GivesRefusal : Line → Type 0
GivesRefusal l = (ts : List Spot) (end : ℕ) (r : Refusal) → (answer l end ts ≡ Err r) ↔ IsRefusedAt l ts end r.cause r.at

-- a tree has no more nodes than its text has tokens
abbrev pub IsSized : Line → Type 0
IsSized l = (ts : List Token) (x : LineMeaning) → Derives l ts x → size x ≤ length ts

-- a tree has at most 1,000 nodes where the reading of a line with limits isn't stopped
abbrev pub BoundsNodes : Line → Type 0
BoundsNodes l = (ts : List Token) (x : LineMeaning) → IsTrue (has_limits l) → Derives l ts x → IsRead l ts → size x ≤ most_tokens

-- the scales of a tree are at most 30, and its literals with a point have a place where its text's have one
abbrev pub KeepsPlaces : Line → Type 0
KeepsPlaces l = (ts : List Token) (x : LineMeaning) → ArePlaced ts → Derives l ts x → IsKeeping x

-- in each text of bytes the literals with a point have a place, so that trees read from bytes keep their
-- places
abbrev pub KeepsPlacesOfBytes : Line → Type 0
KeepsPlacesOfBytes l = (bytes : List ℕ) (x : LineMeaning) → IsText l bytes x → IsKeeping x

-- the tokens of a tree's spelling are a text of it, for a tree that some text has
abbrev pub SpellsItself : Type 0
SpellsItself = (l : Line) (ts : List Token) (x : Term) → Derives l ts (tree x) → Derives (Level 0) (spelled_tokens x) (tree x)
