-- The laws of element texts, for crates above.
use Rattle.std.proofs.Common.{◌≡◌, ℕ, ◌+◌, ◌<◌, ◌≤◌, ◌⊎◌, List, [], ◌∷◌, ◌++◌, length, take, drop, get_or, map}
use Rattle.pap_reader.specs.declared.fault.ReadFault.{ReadFault}
use Rattle.pap_reader.specs.Trees.{ElementTree}
use Rattle.pap_reader.specs.Elements.{IsElementText, IsElements, IsFault}
use Rattle.pap_reader.specs.Tokens.{PlacedTag, Reads, IsAlien}
use Rattle.pap_reader.specs.declared.tokens.Token.{Token as ReadToken}
use Rattle.pap_reader.specs.Contents.{Token, HasTokens, AreTokens, tags_of, token_byte, StandInOrder, token_meant}
use Rattle.pap_reader.proofs.OneReading as reading
use Rattle.pap_reader.proofs.TokenLemmas as told
use Rattle.pap_reader.proofs.OrderLemmas as order
use Rattle.pap_reader.proofs.Total as total
use Rattle.pap_reader.proofs.SmallTrees as small
pub use Rattle.pap_reader.proofs.Closings.{raw_stmt_then-If}
use Rattle.pap_reader.specs.TreeLimits.{IsSmallTree}

-- A text has at most one tree.
pub one_tree : (bytes : List ℕ) (x y : ElementTree) → IsElementText bytes x → IsElementText bytes y → x ≡ y
one_tree = reading.one_tree

-- Bytes have at most one fault.
pub one_fault : (bytes : List ℕ) (f g : ReadFault) → IsFault bytes f → IsFault bytes g → f ≡ g
one_fault = reading.one_fault

-- They have never a tree within the limits and a fault.
pub never_both : (bytes : List ℕ) (x : ElementTree) (f : ReadFault) → IsElements bytes x → IsFault bytes f → ⊥
never_both = reading.never_both

-- They have always one of the two.
pub always_one : (bytes : List ℕ) → ((x : ElementTree) × IsElements bytes x) ⊎ ((f : ReadFault) × IsFault bytes f)
always_one = total.always_one

-- The tree of a text within the limits is within them.
pub small_tree : (bytes : List ℕ) (x : ElementTree) → IsElements bytes x → IsSmallTree x
small_tree = small.small_tree

-- A text has one list of tags, up to its end or to a place where no token begins.
pub one_list : (bytes x y : List ℕ) (ts us : List PlacedTag) → Reads bytes ts x → (x ≡ []) ⊎ IsAlien x
    → Reads bytes us y → (y ≡ []) ⊎ IsAlien y → ts ≡ us
one_list = reading.one_list

-- ---- its tokens

-- The tags among the tokens that are read are read.
pub reads_told : (file rest : List ℕ) (ts : List Token) → HasTokens file ts rest → Reads file (tags_of ts) rest
reads_told = told.reads_told

-- The tags of a file stand at one list of places, with one list of attributes.
pub one_tags : (file x y : List ℕ) (ts us : List Token) → AreTokens file ts x → AreTokens file us y → tags_of ts ≡ tags_of us
one_tags file x y ts us h k =
    one_list file x y (tags_of ts) (tags_of us) (reads_told file x ts h.read) h.ended (reads_told file y us k.read) k.ended

-- The tokens of a file stand in its order, within it.
pub tokens_in_order : (file rest : List ℕ) (ts : List Token) → AreTokens file ts rest
    → StandInOrder 0 (map token_byte ts) (length file)
tokens_in_order = order.tokens_in_order

-- What stands in order from a byte on does so from an earlier one on.
pub order_from : (from at end : ℕ) (bytes : List ℕ) → from ≤ at → StandInOrder at bytes end → StandInOrder from bytes end
order_from = order.order_from

-- The first tokens of a list with one more; a slice `ys` has it.
pub one_token_more : (xs ys : List ReadToken) (i : ℕ) (t : ReadToken) → ys ≡ xs → i < length ys → t ≡ get_or ys i t
    → map token_meant (take (i + 1) xs) ≡ map token_meant (take i xs) ++ (token_meant t ∷ [])
one_token_more = told.one_token_more

-- Those from a number on, of which the first is this one.
pub tokens_left : (xs ys : List ReadToken) (i : ℕ) (t u : ReadToken) → ys ≡ xs → i < length ys → t ≡ get_or ys i t → t ≡ u
    → map token_meant (drop i xs) ≡ token_meant u ∷ map token_meant (drop (i + 1) xs)
tokens_left = told.tokens_left
