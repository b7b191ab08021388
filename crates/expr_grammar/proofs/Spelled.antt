-- What a state has read.
use Rattle.std.proofs.Common.{◌≡◌, ℕ, ◌≤◌, Bool, true, false, Option, List, [], ◌∷◌, ◌++◌}
use Rattle.std.specs.Prelude.{⊤, IsTrue, codes}
use Rattle.scaled_decimal.specs.Decimals.{Decimal, decimal}
use Rattle.scaled_decimal.specs.Limits.{most_places}
use Rattle.scaled_decimal.specs.Shortening.{IsShortened}
use Rattle.scaled_decimal.specs.declared.rounding.Mode.{Mode}
use Rattle.pap_tree.specs.Names.{is_name}
use Rattle.pap_tree.specs.declared.expression.Binary.TheVariants as binaries
use Rattle.pap_tree.specs.Term.{Term, value_of_scaled, one}
use Rattle.pap_tree.specs.Declarations.{big, table}
use Rattle.pap_tree.specs.Tokens.{Token, Literal, Word, Operator, Mark, Dot, Comma, Open, Close, CloseTable, int}
use Rattle.pap_tree.specs.Grammar as grammar
use Rattle.pap_tree.specs.Grammar.{Item, Scale, of_value, of_quotient, of_setting, Line, Level, Assignment, Constant, Big, Bigs, tree, declared, decimals, sign, rounding}
use Rattle.pap_tree.specs.Texts.{Derives}
use Rattle.pap_tree.specs.Fronts.{Front}
use Rattle.pap_tree.specs.Stopping.{WantsScale, new_big_decimal}
use Rattle.expr_grammar.specs.Machine.{Frame, Rounded, dividing, setting, Room, Alone, InTable, valuing, declaring, Slot, OfLine, OfValue, OfNew, holder_word, State, Want, Have, Named, Due, Member, Static, ScaleDue, Parting, Moding, Moded, Naming, Signed, Minus, ValuedInt, ValuedPoint, Settling, Listing, Listed, Done, rounded}
use Rattle.expr_grammar.specs.Machine as machine
use Rattle.expr_grammar.proofs.Pending.{Pending}
use Rattle.expr_grammar.proofs.Stacks.{Stack}
use Rattle.expr_grammar.proofs.Closed.{IsRead}

-- a table with these decimals was read, up to a comma or the opening bracket
pub record IsTabled (whole : Line) (ds : List Decimal) (a : List Token) : Type 0 where
  pub line : whole ≡ Constant
  pub fronts : (b : List Token) (n : ℕ) (i : Option Item) → Front Bigs b n i → Front Constant (a ++ b) n i
  pub texts : (b : List Token) (es : List Decimal) → Derives Bigs b (decimals es) → Derives Constant (a ++ (b ++ (Mark CloseTable ∷ []))) (declared (table (ds ++ es)))

-- a table with these decimals was read, up to the last of them
pub record IsListed (whole : Line) (ds : List Decimal) (a : List Token) : Type 0 where
  pub line : whole ≡ Constant
  pub next : Option Item
  pub front : Front Constant a 0 next
  pub text : Derives Constant (a ++ (Mark CloseTable ∷ [])) (declared (table ds))
  pub more : IsTabled whole ds (a ++ (Mark Comma ∷ []))

-- before a decimal of a constant these tokens were read
abbrev pub Place : Line → Room → List Token → Type 0
Place whole Alone a = (whole ≡ Constant) × (a ≡ [])
Place whole (InTable ds) a = IsTabled whole ds a

-- some items of a decimal of a constant were read
abbrev pub PendingBig : Line → Room → List Item → ℕ → Decimal → List Token → Type 0
PendingBig whole r more m d a = Pending (λ p. Place whole r p) [] Big more m (declared (big d)) a

abbrev pub value_tokens : List Token
value_tokens = Word (codes "BigDecimal") ∷ Mark Dot ∷ Word (codes "valueOf") ∷ Mark Open ∷ []

abbrev pub class_tokens : List Token
class_tokens = Word (codes "BigDecimal") ∷ Mark Dot ∷ []

abbrev pub IsSlot : Line → Slot → List Token → Type 0
IsSlot whole OfLine a = (whole ≡ Constant) × (a ≡ [])
IsSlot whole (OfValue r) a = (p : List Token) × Place whole r p × (a ≡ p ++ value_tokens)
IsSlot whole (OfNew r) a = (p : List Token) × Place whole r p × (a ≡ p ++ new_big_decimal)

abbrev pub scaling_of : Rounded → grammar.Scaling
scaling_of (dividing x y) = of_quotient
scaling_of (setting x) = of_setting

-- some items of a call with a scale and a mode were read
abbrev pub PendingCall : Line → List Frame → List Item → Term → List Token → Type 0
PendingCall whole k more x a = Pending (λ p. Stack whole k p) k (Level 8) more 1 (tree x) a

-- the states in which a word is due after a point
abbrev pub awaits : State → Bool
awaits (Member x k) = true
awaits (Static k) = true
awaits (Moded h r s k) = true
awaits (Settling r) = true
awaits s = false

-- what the state is after a token that was due
abbrev pub Tells : Token → State → Type 0
Tells (Mark Dot) s = awaits s ≡ true
Tells (Word w) s = w ≡ codes "BigDecimal"
Tells t s = ⊤

-- of a whole line, the state has read these tokens
abbrev pub Spelled : Line → State → List Token → Type 0
Spelled whole (Want k) a = Stack whole k a
Spelled whole (Have x k) a = IsRead whole k 8 x a
Spelled whole (Named w k) a = (p : List Token) × Stack whole k p × IsTrue (is_name w) × (a ≡ p ++ (Word w ∷ []))
Spelled whole (Due n t s) a = ((i : Option Item) × Front whole a n i) × Spelled whole s (a ++ (t ∷ [])) × Tells t s
Spelled whole (Member x k) a = (p : List Token) × IsRead whole k 8 x p × (a ≡ p ++ (Mark Dot ∷ []))
Spelled whole (Static k) a = (p : List Token) × Stack whole k p × (a ≡ p ++ class_tokens)
Spelled whole (ScaleDue (valuing x k)) a = (s : ℕ) → s ≤ most_places
    → Pending (λ p. Stack whole k p) k (Level 9) (Scale of_value s ∷ sign Close ∷ []) 1 (tree (one (value_of_scaled s) x)) a
Spelled whole (ScaleDue (machine.rounding r k)) a = (s : ℕ) (m : Mode) → s ≤ most_places
    → PendingCall whole k (Scale (scaling_of r) s ∷ sign Comma ∷ rounding m ∷ sign Close ∷ []) (rounded r s m) a
Spelled whole (ScaleDue (declaring i r)) a = (s : ℕ) → s ≤ most_places → PendingBig whole r (Scale of_value s ∷ sign Close ∷ []) 1 (decimal i s) a
Spelled whole (Parting r s k) a =
    ((m : Mode) → PendingCall whole k (sign Comma ∷ rounding m ∷ sign Close ∷ []) (rounded r s m) a)
    × ((p : List Token) × (a ≡ p ++ (Literal (int s) ∷ [])) × WantsScale whole p (scaling_of r))
Spelled whole (Moding r s k) a = (m : Mode) → PendingCall whole k (rounding m ∷ sign Close ∷ []) (rounded r s m) a
Spelled whole (Moded h r s k) a = (p : List Token) × ((m : Mode) → PendingCall whole k (rounding m ∷ sign Close ∷ []) (rounded r s m) p)
    × (a ≡ p ++ (Word (holder_word h) ∷ Mark Dot ∷ []))
Spelled whole Naming a = (whole ≡ Assignment) × (a ≡ [])
Spelled whole (Signed s) a = IsSlot whole s a
Spelled whole (Minus s) a = (p : List Token) × IsSlot whole s p × (a ≡ p ++ (Operator binaries.Sub ∷ []))
Spelled whole (ValuedInt i r) a = PendingBig whole r (sign Close ∷ []) 1 (decimal i 0) a
    × ((s : ℕ) → s ≤ most_places → PendingBig whole r (sign Comma ∷ Scale of_value s ∷ sign Close ∷ []) 1 (decimal i s) a)
Spelled whole (ValuedPoint d r) a = ((i : Option Item) × Front whole a 1 i) × ((e : Decimal) → IsShortened d 1 e → PendingBig whole r (sign Close ∷ []) 1 e a)
Spelled whole (Settling r) a = (p : List Token) × Place whole r p × (a ≡ p ++ class_tokens)
Spelled whole (Listing ds) a = IsTabled whole ds a
Spelled whole (Listed ds) a = IsListed whole ds a
Spelled whole (Done x) a = Derives whole a x
