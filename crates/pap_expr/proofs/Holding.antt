-- What a state has read, with where its nodes stand.
use Rattle.std.proofs.Common.{◌≡◌, ℕ, suc, ◌≤◌, true, false, List, [], ◌∷◌, ◌++◌}
use Rattle.std.specs.Prelude.{IsTrue, codes}
use Rattle.scaled_decimal.specs.Decimals.{Decimal}
use Rattle.scaled_decimal.specs.Limits.{most_places}
use Rattle.scaled_decimal.specs.declared.rounding.Mode.{Mode}
use Rattle.pap_tree.specs.Names.{is_name}
use Rattle.pap_tree.specs.Words.{level_of_operator}
use Rattle.pap_tree.specs.declared.expression.Unary.TheVariants as unaries
use Rattle.pap_tree.specs.declared.expression.Binary.TheVariants as binaries
use Rattle.pap_tree.specs.declared.expression.Call.TheVariants as calls
use Rattle.pap_tree.specs.Term.{Term, text, unary, value_of, value_of_scaled, new_big, operator, method, divide, leaf, item, one, two, choice}
use Rattle.pap_tree.specs.Tokens.{Quoted, Word, Operator, Mark, Equals, Colon, Comma, Dot, Close, CloseItem}
use Rattle.pap_tree.specs.Grammar as grammar
use Rattle.pap_tree.specs.Grammar.{Item, Is, Scale, Part, free, no_number, no_point, of_value, of_quotient, of_setting, Level, LineMeaning, tree, at, sign, rounding}
use Rattle.expr_grammar.specs.Machine as machine
use Rattle.expr_grammar.specs.Machine.{Frame, InBrackets, InCall, InItem, InValue, InNew, Negating, Denying, Left, Chosen, Otherwise, Assigning, Rounded, dividing, setting, valuing, holder_word, State, Want, Have, Named, Due, Member, Static, ScaleDue, Parting, Moding, Moded, Done, rounded}
use Rattle.pap_expr.specs.declared.stretch.Stretch.{Stretch}
use Rattle.pap_expr.specs.NodeBytes.{PlacedToken, end_byte, StandsOn}
use Rattle.pap_expr.specs.private.Tracks.{Track, due_track}
use Rattle.pap_expr.proofs.Lacking.{Lacks, Behind}

abbrev pub scaling_of : Rounded → grammar.Scaling
scaling_of (dividing x y) = of_quotient
scaling_of (setting x) = of_setting

-- the tokens of a frame itself, with the nodes of the expressions in it
abbrev pub IsFrame : Frame → List PlacedToken → List Stretch → Type 0
IsFrame InBrackets own i = (y : Term) → Lacks false (at 0 y ∷ sign Close ∷ []) (tree y) own i
IsFrame (InCall c x) own i =
    ((y : Term) → Lacks true (at 0 y ∷ sign Close ∷ []) (tree (two (method c) x y)) own i)
    × ((y : Term) (s : ℕ) (m : Mode) → c ≡ calls.DivideExact → s ≤ most_places
    → Lacks true (at 0 y ∷ sign Comma ∷ Scale of_quotient s ∷ sign Comma ∷ rounding m ∷ sign Close ∷ []) (tree (two (divide s m) x y)) own i)
IsFrame (InItem w) own i = (y : Term) → Lacks true (at 0 y ∷ sign CloseItem ∷ []) (tree (item w y)) own i
IsFrame InValue own i =
    ((y : Term) → Lacks true (at 0 y ∷ sign Close ∷ []) (tree (one value_of y)) own i)
    × ((y : Term) (s : ℕ) → s ≤ most_places → Lacks true (at 0 y ∷ sign Comma ∷ Scale of_value s ∷ sign Close ∷ []) (tree (one (value_of_scaled s) y)) own i)
IsFrame InNew own i =
    ((y : Term) → Lacks true (Part no_point (Level 0) (tree y) ∷ sign Close ∷ []) (tree (one new_big y)) own i)
    × ((d : Decimal) → Lacks true (Is (Quoted d) ∷ sign Close ∷ []) (tree (leaf (text d))) own i)
IsFrame Negating own i =
    ((y : Term) → Lacks true (Part no_number (Level 7) (tree y) ∷ []) (tree (one (unary unaries.Minus) y)) own i)
    × ((t : PlacedToken) × (own ≡ t ∷ []) × (t.token ≡ Operator binaries.Sub) × (i ≡ []))
IsFrame Denying own i = (y : Term) → Lacks true (at 7 y ∷ []) (tree (one (unary unaries.Not) y)) own i
IsFrame (Left o x) own i = (y : Term) → Lacks true (at (suc (level_of_operator o)) y ∷ []) (tree (two (operator o) x y)) own i
IsFrame (Chosen c) own i = (x y : Term) → Lacks true (at 0 x ∷ sign Colon ∷ at 0 y ∷ []) (tree (choice c x y)) own i
IsFrame (Otherwise c x) own i = (y : Term) → Lacks true (at 0 y ∷ []) (tree (choice c x y)) own i
IsFrame (Assigning w) own i = ⊥

-- what the frames have read, each from the byte at which it begins
abbrev pub Waits : List Frame → List ℕ → List PlacedToken → List Stretch → Type 0
Waits [] bs a m = (bs ≡ []) × (a ≡ []) × (m ≡ [])
Waits (Assigning w ∷ k) bs a m =
    (bs ≡ []) × (k ≡ []) × IsTrue (is_name w) × (m ≡ [])
    × ((t : PlacedToken) × (u : PlacedToken) × (a ≡ t ∷ u ∷ []) × (t.token ≡ Word w) × (u.token ≡ Mark Equals))
Waits (f ∷ k) [] a m = ⊥
Waits (f ∷ k) (b ∷ bs) a m = Behind (λ p q. Waits k bs p q) (IsFrame f) b a m

-- behind the frames stands this
abbrev pub Reads : (List PlacedToken → List Stretch → Type 0) → List Frame → Track → List PlacedToken → Type 0
Reads P k r a = Behind (λ p q. Waits k r.begins p q) P r.first a r.made

abbrev pub IsRead : Term → List PlacedToken → List Stretch → Type 0
IsRead x own i = StandsOn own (tree x) i

abbrev pub IsNamed : List ℕ → List PlacedToken → List Stretch → Type 0
IsNamed w own i = (t : PlacedToken) × (own ≡ t ∷ []) × (t.token ≡ Word w) × IsTrue (is_name w) × (i ≡ [])

abbrev pub IsDotted : Term → List PlacedToken → List Stretch → Type 0
IsDotted x own i = (b : List PlacedToken) × (t : PlacedToken) × (own ≡ b ++ (t ∷ [])) × (t.token ≡ Mark Dot) × StandsOn b (tree x) i

abbrev pub IsClass : List PlacedToken → List Stretch → Type 0
IsClass own i = (t : PlacedToken) × (u : PlacedToken) × (own ≡ t ∷ u ∷ []) × (t.token ≡ Word (codes "BigDecimal")) × (u.token ≡ Mark Dot) × (i ≡ [])

abbrev pub IsModed : (Mode → List PlacedToken → List Stretch → Type 0) → List ℕ → List PlacedToken → List Stretch → Type 0
IsModed P w own i = (b : List PlacedToken) × (t : PlacedToken) × (u : PlacedToken) × (own ≡ b ++ (t ∷ u ∷ [])) × (t.token ≡ Word w) × (u.token ≡ Mark Dot) × ((m : Mode) → P m b i)

-- the track's end is that of the tokens
abbrev pub Ends : Track → List PlacedToken → Type 0
Ends r a = r.end ≡ end_byte a

-- a token on these bytes is read
abbrev pub ended_at : ℕ → Track → Track
ended_at e r = record r { end = e }

abbrev pub Holds : State → Track → List PlacedToken → Type 0
Holds (Want k) r a = Waits k r.begins a r.made
Holds (Have x k) r a = Reads (IsRead x) k r a × Ends r a
Holds (Named w k) r a = Reads (IsNamed w) k r a × Ends r a
Holds (Due n u s) r a = (t : PlacedToken) → t.token ≡ u → Holds s (ended_at t.on.end (due_track s t.on.end r)) (a ++ (t ∷ []))
Holds (Member x k) r a = Reads (IsDotted x) k r a
Holds (Static k) r a = Reads IsClass k r a
Holds (ScaleDue (valuing x k)) r a =
    Reads (λ own i. (s : ℕ) → s ≤ most_places → Lacks true (Scale of_value s ∷ sign Close ∷ []) (tree (one (value_of_scaled s) x)) own i) k r a
Holds (ScaleDue (machine.rounding q k)) r a =
    Reads (λ own i. (s : ℕ) (m : Mode) → s ≤ most_places → Lacks true (Scale (scaling_of q) s ∷ sign Comma ∷ rounding m ∷ sign Close ∷ []) (tree (rounded q s m)) own i) k r a
Holds (Parting q s k) r a = Reads (λ own i. (m : Mode) → Lacks true (sign Comma ∷ rounding m ∷ sign Close ∷ []) (tree (rounded q s m)) own i) k r a
Holds (Moding q s k) r a = Reads (λ own i. (m : Mode) → Lacks true (rounding m ∷ sign Close ∷ []) (tree (rounded q s m)) own i) k r a
Holds (Moded h q s k) r a = Reads (IsModed (λ m own i. Lacks true (rounding m ∷ sign Close ∷ []) (tree (rounded q s m)) own i) (holder_word h)) k r a
Holds (Done x) r a = StandsOn a x r.made
Holds s r a = ⊥
