-- How the machine goes through the items of a way.
use Rattle.std.proofs.Common.{◌≡◌, ℕ, suc, ◌≤◌, Bool, true, false, Option, Some, None, List, [], ◌∷◌, ◌++◌}
use Rattle.scaled_decimal.specs.Decimals.{Decimal, decimal}
use Rattle.pap_tree.specs.Term.{whole, point, leaf}
use Rattle.pap_tree.specs.Declarations.{number, big}
use Rattle.pap_tree.specs.Tokens.{Token, Literal, Mark, Close, int}
use Rattle.pap_tree.specs.Grammar as grammar
use Rattle.pap_tree.specs.Grammar.{LiteralForm, an_int, a_point, Line, Level, Rounding, Assignment, Constant, Big, Bigs, LineMeaning, tree, literal, mode, assignment, declared, decimals, Guard, Item, Is, Opens, Scale, Part}
use Rattle.pap_tree.specs.Texts.{forbids}
use Rattle.expr_grammar.specs.Machine.{Frame, Rounded, dividing, setting, Room, Alone, InTable, valuing, rounding, declaring, OfLine, OfValue, OfNew, State, Want, Have, Due, ScaleDue, Moding, Naming, Signed, ValuedInt, ValuedPoint, Listing, Listed, Done, level_of, settled, moded, step, finish}
use Rattle.expr_grammar.proofs.Holes.{hole, clashes, follows}

-- where the decimal of a constant is due
abbrev pub opening : Room → State
opening Alone = Signed OfLine
opening (InTable ds) = Listing ds

-- The line may begin in the state.
pub data Suits : Line → State → Type 0 where
  expression : (n : ℕ) (k : List Frame) → hole k ≤ n → Suits (Level n) (Want k)
  operand : (f : LiteralForm) (k : List Frame) → Suits (grammar.Signed f) (Want k)
  lone : (f : LiteralForm) → Suits (grammar.Signed f) (Signed OfLine)
  int_value : (r : Room) → Suits (grammar.Signed an_int) (Signed (OfValue r))
  point_value : (r : Room) → Suits (grammar.Signed a_point) (Signed (OfValue r))
  int_new : (r : Room) → Suits (grammar.Signed an_int) (Signed (OfNew r))
  a_mode : (r : Rounded) (s : ℕ) (k : List Frame) → Suits Rounding (Moding r s k)
  an_assignment : Suits Assignment Naming
  a_constant : Suits Constant (Signed OfLine)
  a_decimal : (r : Room) → Suits Big (opening r)
  the_items : (ds : List Decimal) → Suits Bigs (Listing ds)

-- the state after a text of the line that stands for this
abbrev pub after : State → LineMeaning → State
after (Want k) (tree x) = Have x k
after (Want k) (literal l) = Have (leaf l) k
after (Moding r s k) (mode m) = moded r s k m
after Naming (assignment x e) = Done (assignment x e)
after (Signed OfLine) (literal l) = Done (declared (number l))
after (Signed OfLine) (declared d) = Done (declared d)
after (Signed (OfValue r)) (literal (whole i)) = ValuedInt i r
after (Signed (OfValue r)) (literal (point d)) = ValuedPoint d r
after (Signed (OfNew r)) (literal (whole i)) = Due 1 (Mark Close) (settled r (decimal i 0))
after (Listing ds) (declared (big d)) = Listed (ds ++ (d ∷ []))
after (Listing ds) (decimals es) = Listed (ds ++ es)
after s x = s

-- before what may follow the line, one state is as good as the other
pub record Same (l : Line) (s r : State) : Type 0 where
  pub next : (t : Token) → follows l t ≡ true → step s t ≡ step r t
  pub end : finish s ≡ finish r

-- what may follow the one line may follow the other
pub record Follows (inner outer : Line) (s r : State) : Type 0 where
  pub looser : (t : Token) → follows outer t ≡ true → follows inner t ≡ true
  pub same : Same outer s r

-- the place of a scale that the state waits for
abbrev pub wants : State → Option grammar.Scaling
wants (ScaleDue (valuing x k)) = Some grammar.of_value
wants (ScaleDue (rounding (dividing x y) k)) = Some grammar.of_quotient
wants (ScaleDue (rounding (setting x) k)) = Some grammar.of_setting
wants (ScaleDue (declaring i r)) = Some grammar.of_value
wants _ = None

abbrev pub never : List Token → Bool
never a = false

-- what the guard lets begin a part doesn't clash with the state
abbrev pub Clear : (List Token → Bool) → Guard → State → Type 0
Clear c g s = (a : List Token) → forbids g a ≡ false → c a ≡ false → clashes s a ≡ false

-- The machine goes through the items, from one state to what is as good as the other; c says of the tokens that are
-- left of the line whether they clash with its beginning, and at least m levels are open.
pub data Handles : (List Token → Bool) → Line → ℕ → List Item → State → State → Type 0 where
  done : {c : List Token → Bool} {l : Line} {m : ℕ} {s f : State} → Same l s f → level_of f ≤ level_of s → Handles c l m [] s f
  is : {c : List Token → Bool} {l : Line} {m : ℕ} {t : Token} {more : List Item} {s f : State}
      (r : State) → m ≤ level_of s → (c (t ∷ []) ≡ false → step s t ≡ Some r) → Handles (λ a. c (t ∷ a)) l m more r f
      → Handles c l m (Is t ∷ more) s f
  opens : {c : List Token → Bool} {l : Line} {m : ℕ} {t : Token} {more : List Item} {s f : State}
      (r : State) → m ≤ level_of s → (c (t ∷ []) ≡ false → step s t ≡ Some r) → Handles (λ a. c (t ∷ a)) l (suc m) more r f
      → Handles c l m (Opens t ∷ more) s f
  scale : {c : List Token → Bool} {l : Line} {m n : ℕ} {p : grammar.Scaling} {more : List Item} {s f : State}
      (r : State) → m ≤ level_of s → wants s ≡ Some p → step s (Literal (int n)) ≡ Some r → Handles never l m more r f
      → Handles c l m (Scale p n ∷ more) s f
  last : {c : List Token → Bool} {l inner : Line} {m : ℕ} {g : Guard} {x : LineMeaning} {s f : State}
      → Suits inner s → m ≤ level_of s → Clear c g s → Follows inner l (after s x) f → level_of f ≤ level_of s
      → Handles c l m (Part g inner x ∷ []) s f
  then_is : {c : List Token → Bool} {l inner : Line} {m : ℕ} {g : Guard} {x : LineMeaning} {t : Token} {more : List Item} {s f : State}
      (r : State) → Suits inner s → m ≤ level_of s → Clear c g s → follows inner t ≡ true → step (after s x) t ≡ Some r
      → Handles never l m more r f → Handles c l m (Part g inner x ∷ Is t ∷ more) s f
  then_opens : {c : List Token → Bool} {l inner : Line} {m : ℕ} {g : Guard} {x : LineMeaning} {t : Token} {more : List Item} {s f : State}
      (r : State) → Suits inner s → m ≤ level_of s → Clear c g s → follows inner t ≡ true → step (after s x) t ≡ Some r
      → Handles never l (suc m) more r f → Handles c l m (Part g inner x ∷ Opens t ∷ more) s f
