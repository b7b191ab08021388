-- The bytes on which the nodes of an expression stand. Source: docs/PROFILE.md, "Places".
use Rattle.std.specs.Prelude.{◌≡◌, ℕ, zero, suc, Bool, true, false, if◌then◌else◌, List, [], ◌∷◌, ◌++◌, length, slice_get}
use Rattle.std.specs.Option.{option_map_or}
use Rattle.pap_tree.specs.White.{is_white}
use Rattle.pap_tree.specs.Tokens.{Token, Literal, int, Spot, Tokens}
use Rattle.pap_tree.specs.Grammar.{Item, Is, Opens, Scale, Part, Scaling, Guard, Line, LineMeaning, Way, tighter, in_brackets, without_sign, with_sign, old_mode, new_mode, assign, assign_ended, big_constant, number_constant, table_constant, last_big, more_bigs, big_known, big_of_int, big_of_scaled, big_of_point, big_new, big_new_text}
use Rattle.pap_expr.specs.declared.stretch.Stretch.{Stretch}

-- the bytes from the first place up to the one before the second
abbrev pub stretch : ℕ → ℕ → Stretch
stretch first end = record { first = first; end = end }

-- a token and the bytes on which it stands
pub record PlacedToken : Type 0 where
  pub token : Token
  pub on : Stretch

-- white space stands at this place
abbrev pub is_white_at : List ℕ → ℕ → Bool
is_white_at bytes place = option_map_or is_white (slice_get bytes place) false

-- the place behind the last byte before this place that isn't white space
abbrev pub black_end : List ℕ → ℕ → ℕ
black_end bytes zero = 0
black_end bytes (suc place) = if is_white_at bytes place then black_end bytes place else suc place

-- where the next token begins, or the text ends
abbrev pub next_place : ℕ → List Spot → ℕ
next_place end [] = end
next_place end (t ∷ ts) = t.at

-- the tokens of a text, each with the bytes from its first up to the white space before the next one
abbrev pub placed_tokens : List ℕ → List Spot → List PlacedToken
placed_tokens bytes [] = []
placed_tokens bytes (t ∷ ts) =
    record { token = t.token; on = stretch t.at (black_end bytes (next_place (length bytes) ts)) } ∷ placed_tokens bytes ts

-- the first byte of the first of these tokens
abbrev pub first_byte : List PlacedToken → ℕ
first_byte [] = 0
first_byte (t ∷ ts) = t.on.first

-- the place behind the last byte of the last of these tokens
abbrev pub end_byte : List PlacedToken → ℕ
end_byte [] = 0
end_byte (t ∷ []) = t.on.end
end_byte (t ∷ u ∷ ts) = end_byte (u ∷ ts)

-- the bytes from the first token to the last
abbrev pub bytes_of : List PlacedToken → Stretch
bytes_of ts = stretch (first_byte ts) (end_byte ts)

-- A text by this way is a node of its own. Brackets and a line that is also the next one pass on the node of what stands
-- in them, and only an expression is a node.
abbrev pub makes_node : {l : Line} {way : List Item} {x : LineMeaning} → Way l way x → Bool
makes_node (tighter n x h) = false
makes_node (in_brackets x) = false
makes_node (without_sign f n e) = false
makes_node (with_sign f n e) = false
makes_node (old_mode m) = false
makes_node (new_mode m) = false
makes_node (assign x e h) = false
makes_node (assign_ended x e h) = false
makes_node (big_constant d) = false
makes_node (number_constant f l) = false
makes_node (table_constant ds) = false
makes_node (last_big d) = false
makes_node (more_bigs d ds) = false
makes_node (big_known k) = false
makes_node (big_of_int i) = false
makes_node (big_of_scaled i s h) = false
makes_node (big_of_point d e h) = false
makes_node (big_new i) = false
makes_node (big_new_text d) = false
makes_node _ = true

-- the node of a text's own, where it makes one
abbrev pub own_node : Bool → List PlacedToken → List Stretch
own_node true ts = bytes_of ts ∷ []
own_node false ts = []

mutual
  -- The tokens stand for this, and its nodes stand on these bytes, in the order of their numbers: those of each part, and
  -- then the node itself. Which operator binds tighter isn't asked, since what they stand for says it.
  pub data StandsOn : List PlacedToken → LineMeaning → List Stretch → Type 0 where
    by : {l : Line} {ts : List PlacedToken} {x : LineMeaning} {nodes : List Stretch} (way : List Item) (w : Way l way x)
        → ItemsStandOn way ts nodes → StandsOn ts x (nodes ++ own_node (makes_node w) ts)

  -- The tokens are those of these items, one after the other, and the nodes of the parts stand on these bytes.
  pub data ItemsStandOn : List Item → List PlacedToken → List Stretch → Type 0 where
    done : ItemsStandOn [] [] []
    is : {u : Token} {more : List Item} {ts : List PlacedToken} {nodes : List Stretch} (t : PlacedToken)
        → t.token ≡ u → ItemsStandOn more ts nodes → ItemsStandOn (Is u ∷ more) (t ∷ ts) nodes
    opens : {u : Token} {more : List Item} {ts : List PlacedToken} {nodes : List Stretch} (t : PlacedToken)
        → t.token ≡ u → ItemsStandOn more ts nodes → ItemsStandOn (Opens u ∷ more) (t ∷ ts) nodes
    scale : {p : Scaling} {s : ℕ} {more : List Item} {ts : List PlacedToken} {nodes : List Stretch} (t : PlacedToken)
        → t.token ≡ Literal (int s) → ItemsStandOn more ts nodes → ItemsStandOn (Scale p s ∷ more) (t ∷ ts) nodes
    part : {g : Guard} {l : Line} {x : LineMeaning} {more : List Item} {front ts : List PlacedToken} {inside nodes : List Stretch}
        → StandsOn front x inside → ItemsStandOn more ts nodes → ItemsStandOn (Part g l x ∷ more) (front ++ ts) (inside ++ nodes)

-- The text's tokens stand for this, and its nodes stand on these bytes, in the order of their numbers.
pub record HaveBytes (bytes : List ℕ) (x : LineMeaning) (nodes : List Stretch) : Type 0 where
  pub spots : List Spot
  pub tokens : Tokens 0 bytes spots
  pub stands : StandsOn (placed_tokens bytes spots) x nodes
