-- A machine that reads a line a token at a time, with what waits on a stack of partial trees. It never looks back.
use Rattle.std.specs.Prelude.{ℕ, suc, Bool, false, nat_le, if◌then◌else◌, Option, Some, None, option_map, option_and_then, List, [], ◌∷◌, ◌++◌, ℤ, codes}
use Rattle.std.specs.Str.{bytes_eq}
use Rattle.scaled_decimal.specs.Decimals.{Decimal, decimal}
use Rattle.scaled_decimal.specs.Limits.{most_places}
use Rattle.scaled_decimal.specs.declared.rounding.Mode.{Mode}
use Rattle.scaled_decimal.specs.declared.rounding.Mode.TheVariants as modes
use Rattle.pap_tree.specs.Names.{is_name}
use Rattle.pap_tree.specs.declared.expression.Known.{Known}
use Rattle.pap_tree.specs.declared.expression.Known.TheVariants as knowns
use Rattle.pap_tree.specs.declared.expression.Unary.TheVariants as unaries
use Rattle.pap_tree.specs.declared.expression.Binary.{Binary}
use Rattle.pap_tree.specs.declared.expression.Binary.TheVariants as binaries
use Rattle.pap_tree.specs.declared.expression.Call.{Call}
use Rattle.pap_tree.specs.declared.expression.Call.TheVariants as calls
use Rattle.pap_tree.specs.Term.{Leaf, whole, point, text, known, named, unary, value_of, value_of_scaled, new_big, set_scale, operator, method, divide, Term, leaf, item, one, two, choice}
use Rattle.pap_tree.specs.Declarations.{number, big, table}
use Rattle.pap_tree.specs.Words.{level_of_operator, call_word, known_word, mode_word, round_word}
use Rattle.pap_tree.specs.Tokens as tokens
use Rattle.pap_tree.specs.Tokens.{Sign, Number, Token, Literal, Quoted, Word, Operator, Mark, Equals, Bang, Question, Colon, Dot, Comma, Semicolon, Open, Close, OpenItem, CloseItem, OpenTable, CloseTable, sign_text}
use Rattle.pap_tree.specs.Grammar.{Line, Assignment, Constant, LineMeaning, tree, assignment, declared, leaf_of, negative_of, known_value}
use Rattle.expr_grammar.specs.Shortened.{shortened_places}

-- what waits for the expression that is read
pub data Frame : Type 0 where
  -- in round brackets
  InBrackets : Frame
  -- the argument of a method
  InCall : Call → Term → Frame
  -- the index of a table's item
  InItem : List ℕ → Frame
  -- the argument of BigDecimal.valueOf
  InValue : Frame
  -- the argument of new BigDecimal
  InNew : Frame
  -- the operand of a prefix -
  Negating : Frame
  -- the operand of !
  Denying : Frame
  -- the right operand of an operator
  Left : Binary → Term → Frame
  -- after c ?
  Chosen : Term → Frame
  -- after c ? a :
  Otherwise : Term → Term → Frame
  -- after a name and =
  Assigning : List ℕ → Frame

-- what a scale and a mode are given to
pub data Rounded : Type 0 where
  dividing : Term → Term → Rounded
  setting : Term → Rounded

-- where the decimal of a constant stands: alone, or after these in a table
pub data Room : Type 0 where
  Alone : Room
  InTable : List Decimal → Room

-- what a scale is given to
pub data ScaleUse : Type 0 where
  valuing : Term → List Frame → ScaleUse
  rounding : Rounded → List Frame → ScaleUse
  declaring : ℤ → Room → ScaleUse

-- where a literal of a constant stands, with a - before it or without: as the line, in valueOf, in new BigDecimal
pub data Slot : Type 0 where
  OfLine : Slot
  OfValue : Room → Slot
  OfNew : Room → Slot

-- the class that a mode's word is taken from
pub data Holder : Type 0 where
  the_decimal : Holder
  the_mode : Holder

-- what the machine waits for between two tokens, with the stack of partial trees
pub data State : Type 0 where
  -- an expression is due
  Want : List Frame → State
  -- an expression is read, and what goes on with it may follow
  Have : Term → List Frame → State
  -- a name is read, and its item may follow too
  Named : List ℕ → List Frame → State
  -- the token is due, with so many levels open, and then this
  Due : ℕ → Token → State → State
  -- a method's word is due
  Member : Term → List Frame → State
  -- a word is due after BigDecimal and a point
  Static : List Frame → State
  -- a scale is due
  ScaleDue : ScaleUse → State
  -- after a scale a comma is due
  Parting : Rounded → ℕ → List Frame → State
  -- a mode is due
  Moding : Rounded → ℕ → List Frame → State
  -- a mode's word is due
  Moded : Holder → Rounded → ℕ → List Frame → State
  -- the name of an assignment is due
  Naming : State
  -- what may stand in the slot is due
  Signed : Slot → State
  -- after a - a literal is due
  Minus : Slot → State
  -- a comma or a closing bracket is due after the literal of valueOf
  ValuedInt : ℤ → Room → State
  -- a closing bracket is due there
  ValuedPoint : Decimal → Room → State
  -- a word is due after BigDecimal and a point, in a constant
  Settling : Room → State
  -- the next decimal of a table is due
  Listing : List Decimal → State
  -- a decimal of a table is read
  Listed : List Decimal → State
  -- the line is read
  Done : LineMeaning → State

-- the levels that are open
abbrev pub level : List Frame → ℕ
level [] = 0
level (Left o x ∷ k) = level k
level (Assigning w ∷ k) = level k
level (f ∷ k) = suc (level k)

-- the levels that are open while a scale is due
abbrev pub level_of_job : ScaleUse → ℕ
level_of_job (valuing x k) = suc (level k)
level_of_job (rounding r k) = suc (level k)
level_of_job (declaring i r) = 1

-- the levels that are open while a literal of a constant is due
abbrev pub level_of_slot : Slot → ℕ
level_of_slot OfLine = 0
level_of_slot (OfValue r) = 1
level_of_slot (OfNew r) = 1

-- the levels that are open in a state
abbrev pub level_of : State → ℕ
level_of (Want k) = level k
level_of (Have x k) = level k
level_of (Named w k) = level k
level_of (Due n t s) = n
level_of (Member x k) = level k
level_of (Static k) = level k
level_of (ScaleDue j) = level_of_job j
level_of (Parting r s k) = suc (level k)
level_of (Moding r s k) = suc (level k)
level_of (Moded h r s k) = suc (level k)
level_of Naming = 0
level_of (Signed s) = level_of_slot s
level_of (Minus s) = suc (level_of_slot s)
level_of (ValuedInt i r) = 1
level_of (ValuedPoint d r) = 1
level_of (Settling r) = 0
level_of (Listing ds) = 0
level_of (Listed ds) = 0
level_of (Done x) = 0

-- ---- words

-- the first of these that has the word
abbrev pub first_with_word : {A : Type 0} → (A → List ℕ) → List ℕ → List A → Option A
first_with_word word w [] = None
first_with_word word w (a ∷ more) = if bytes_eq w (word a) then Some a else first_with_word word w more

-- what follows a point after an expression
pub data Method : Type 0 where
  applied : Call → Method
  opposite : Method
  magnitude : Method
  rescaled : Method

-- the word of a method on a decimal
abbrev pub method_word : Method → List ℕ
method_word (applied c) = call_word c
method_word opposite = codes "negate"
method_word magnitude = codes "abs"
method_word rescaled = codes "setScale"

-- the method on a decimal that a word names
abbrev pub method_of : List ℕ → Option Method
method_of w = first_with_word method_word w
    (applied calls.Add ∷ applied calls.Subtract ∷ applied calls.Multiply ∷ applied calls.DivideExact ∷ applied calls.CompareTo
    ∷ applied calls.Min ∷ applied calls.Max ∷ opposite ∷ magnitude ∷ rescaled ∷ [])

-- what follows BigDecimal and a point
pub data Constancy : Type 0 where
  constant : Known → Constancy
  of_number : Constancy

-- the word of what may follow `BigDecimal.`
abbrev pub constancy_word : Constancy → List ℕ
constancy_word (constant k) = known_word k
constancy_word of_number = codes "valueOf"

-- what may follow `BigDecimal.`, by its word
abbrev pub constancy_of : List ℕ → Option Constancy
constancy_of w = first_with_word constancy_word w (constant knowns.Zero ∷ constant knowns.One ∷ constant knowns.Ten ∷ of_number ∷ [])

-- the word of a class that holds rounding modes
abbrev pub holder_word : Holder → List ℕ
holder_word the_decimal = codes "BigDecimal"
holder_word the_mode = codes "RoundingMode"

-- the class that holds rounding modes, by its word
abbrev pub holder_of : List ℕ → Option Holder
holder_of w = first_with_word holder_word w (the_decimal ∷ the_mode ∷ [])

-- the word of a rounding mode in one of the two classes
abbrev pub held_word : Holder → Mode → List ℕ
held_word the_decimal m = round_word m
held_word the_mode m = mode_word m

-- the rounding mode of a word in one of the two classes
abbrev pub mode_of : Holder → List ℕ → Option Mode
mode_of h w = first_with_word (held_word h) w
    (modes.Down ∷ modes.Up ∷ modes.Floor ∷ modes.Ceiling ∷ modes.HalfUp ∷ modes.HalfDown ∷ modes.HalfEven ∷ [])

-- the words that a decimal begins with
pub data Head : Type 0 where
  the_class : Head
  a_new : Head

-- the word with which a decimal's constant begins
abbrev pub head_word : Head → List ℕ
head_word the_class = codes "BigDecimal"
head_word a_new = codes "new"

-- what begins with a word: a name of the class, or `new`
abbrev pub head_of : List ℕ → Option Head
head_of w = first_with_word head_word w (the_class ∷ a_new ∷ [])

-- both are the same mark or the same word
abbrev pub same_token : Token → Token → Bool
same_token (Mark a) (Mark b) = bytes_eq (sign_text a) (sign_text b)
same_token (Word v) (Word w) = bytes_eq v w
same_token _ _ = false

-- ---- what an expression closes

-- how tightly a frame binds what it waits for, where no token ends it
abbrev pub binds : Frame → Option ℕ
binds Negating = Some 7
binds Denying = Some 7
binds (Left o x) = Some (level_of_operator o)
binds (Otherwise c a) = Some 0
binds _ = None

-- what such a frame makes of what it waits for
abbrev pub made : Frame → Term → Term
made Negating x = one (unary unaries.Minus) x
made Denying x = one (unary unaries.Not) x
made (Left o y) x = two (operator o) y x
made (Otherwise c a) x = choice c a x
made _ x = x

-- a frame of this level is closed by a token that binds so tightly, if it binds at all
abbrev pub closes : ℕ → Option ℕ → Bool
closes n None = false
closes n (Some m) = nat_le n m

-- The frames that bind at least as tightly as n take the expression. This is what they make, and what waits then.
abbrev pub close : ℕ → Term → List Frame → Term × List Frame
close n x [] = (x, [])
close n x (f ∷ k) = if closes n (binds f) then close n (made f x) k else (x, f ∷ k)

-- how tightly a token binds the expression before it
abbrev pub tightness : Token → ℕ
tightness (Operator o) = level_of_operator o
tightness (Mark Question) = 1
tightness (Mark Dot) = 8
tightness (Mark OpenItem) = 10
tightness _ = 0

-- ---- steps

-- a sign that ends what a frame waits for
abbrev pub ended : Frame → Sign → Term → List Frame → Option State
ended InBrackets Close x k = Some (Have x k)
ended (InCall c y) Close x k = Some (Have (two (method c) y x) k)
ended (InCall calls.DivideExact y) Comma x k = Some (ScaleDue (rounding (dividing y x) k))
ended (InItem w) CloseItem x k = Some (Have (item w x) k)
ended InValue Close x k = Some (Have (one value_of x) k)
ended InValue Comma x k = Some (ScaleDue (valuing x k))
ended InNew Close x k = Some (Have (one new_big x) k)
ended (Chosen c) Colon x k = Some (Want (Otherwise c x ∷ k))
ended (Assigning w) Semicolon x k = Some (Done (assignment w x))
ended _ _ _ _ = None

-- a bracket or comma ends what the innermost frame waits for
abbrev pub ended_in : List Frame → Sign → Term → Option State
ended_in [] s x = None
ended_in (f ∷ k) s x = ended f s x k

-- a mark behind an expression: a dot, a question mark, or one that ends a frame
abbrev pub after_mark : Sign → Term → List Frame → Option State
after_mark Dot x k = Some (Member x k)
after_mark Question x k = Some (Want (Chosen x ∷ k))
after_mark s x k = ended_in k s x

-- a token behind an expression whose tighter frames are closed
abbrev pub behind_operand : Token → Term × List Frame → Option State
behind_operand (Operator o) r = Some (Want (Left o r.0 ∷ r.1))
behind_operand (Mark s) r = after_mark s r.0 r.1
behind_operand _ r = None

-- the step behind an expression
abbrev pub have_step : Term → List Frame → Token → Option State
have_step x k t = behind_operand t (close (tightness t) x k)

-- the step behind a name: its item begins, or it is an expression
abbrev pub named_step : List ℕ → List Frame → Token → Option State
named_step w k (Mark OpenItem) = Some (Want (InItem w ∷ k))
named_step w k t = have_step (leaf (named w)) k t

-- no point right after new BigDecimal
abbrev pub taken : List Frame → Number → Leaf → Option State
taken (InNew ∷ k) (tokens.point d) l = None
taken k n l = Some (Have (leaf l) k)

-- a literal right after a prefix - has that sign
abbrev pub literal_step : List Frame → Number → Option State
literal_step (Negating ∷ k) n = taken k n (negative_of n)
literal_step k n = taken k n (leaf_of n)

-- the step of a quoted decimal, which stands behind `new BigDecimal(` alone
abbrev pub quoted_step : List Frame → Decimal → Option State
quoted_step (InNew ∷ k) d = Some (Due (suc (level k)) (Mark Close) (Have (leaf (text d)) k))
quoted_step k d = None

-- the step of a word that begins a constant of the class
abbrev pub begun : List Frame → Option Head → Option State
begun k (Some the_class) = Some (Due (level k) (Mark Dot) (Static k))
begun k (Some a_new) = Some (Due (level k) (Word (codes "BigDecimal")) (Due (level k) (Mark Open) (Want (InNew ∷ k))))
begun k None = None

-- the step of a word where an expression is due
abbrev pub word_step : List Frame → List ℕ → Option State
word_step k w = if is_name w then Some (Named w k) else begun k (head_of w)

-- the step where an expression is due
abbrev pub want_step : List Frame → Token → Option State
want_step k (Literal n) = literal_step k n
want_step k (Quoted d) = quoted_step k d
want_step k (Word w) = word_step k w
want_step k (Operator binaries.Sub) = Some (Want (Negating ∷ k))
want_step k (Mark Bang) = Some (Want (Denying ∷ k))
want_step k (Mark Open) = Some (Want (InBrackets ∷ k))
want_step k _ = None

-- a method's call is due behind its dot
abbrev pub called : Term → List Frame → Method → State
called x k (applied c) = Due (level k) (Mark Open) (Want (InCall c x ∷ k))
called x k opposite = Due (level k) (Mark Open) (Due (suc (level k)) (Mark Close) (Have (one (unary unaries.Negate) x) k))
called x k magnitude = Due (level k) (Mark Open) (Due (suc (level k)) (Mark Close) (Have (one (unary unaries.Abs) x) k))
called x k rescaled = Due (level k) (Mark Open) (ScaleDue (rounding (setting x) k))

-- the step behind the dot of an expression
abbrev pub member_step : Term → List Frame → Token → Option State
member_step x k (Word w) = option_map (called x k) (method_of w)
member_step x k _ = None

-- what is due behind a constant's word
abbrev pub of_class : List Frame → Constancy → State
of_class k (constant c) = Have (leaf (known c)) k
of_class k of_number = Due (level k) (Mark Open) (Want (InValue ∷ k))

-- the step behind `BigDecimal.`
abbrev pub static_step : List Frame → Token → Option State
static_step k (Word w) = option_map (of_class k) (constancy_of w)
static_step k _ = None

-- a decimal of a constant is read
abbrev pub settled : Room → Decimal → State
settled Alone d = Done (declared (big d))
settled (InTable ds) d = Listed (ds ++ (d ∷ []))

-- a scale is read, and what is due behind it
abbrev pub scaled : ScaleUse → ℕ → State
scaled (valuing x k) s = Due (suc (level k)) (Mark Close) (Have (one (value_of_scaled s) x) k)
scaled (rounding r k) s = Parting r s k
scaled (declaring i r) s = Due 1 (Mark Close) (settled r (decimal i s))

-- the step where a scale is due
abbrev pub scale_step : ScaleUse → Token → Option State
scale_step j (Literal (tokens.int s)) = if nat_le s most_places then Some (scaled j s) else None
scale_step j _ = None

-- the step where the comma before a rounding mode is due
abbrev pub comma_step : Rounded → ℕ → List Frame → Token → Option State
comma_step r s k (Mark Comma) = Some (Moding r s k)
comma_step r s k _ = None

-- a class of rounding modes is read, and its dot is due
abbrev pub class_held : Rounded → ℕ → List Frame → Holder → State
class_held r s k h = Due (suc (level k)) (Mark Dot) (Moded h r s k)

-- the step where a class of rounding modes is due
abbrev pub mode_step : Rounded → ℕ → List Frame → Token → Option State
mode_step r s k (Word w) = option_map (class_held r s k) (holder_of w)
mode_step r s k _ = None

-- the rounded division or the set scale with its scale and mode
abbrev pub rounded : Rounded → ℕ → Mode → Term
rounded (dividing x y) s m = two (divide s m) x y
rounded (setting x) s m = one (set_scale s m) x

-- a rounding mode is read, and its closing bracket is due
abbrev pub moded : Rounded → ℕ → List Frame → Mode → State
moded r s k m = Due (suc (level k)) (Mark Close) (Have (rounded r s m) k)

-- the step where a rounding mode is due
abbrev pub moded_step : Holder → Rounded → ℕ → List Frame → Token → Option State
moded_step h r s k (Word w) = option_map (moded r s k) (mode_of h w)
moded_step h r s k _ = None

-- the step where an assignment's name is due
abbrev pub naming_step : Token → Option State
naming_step (Word w) = if is_name w then Some (Due 0 (Mark Equals) (Want (Assigning w ∷ []))) else None
naming_step _ = None

-- ---- constants

-- a literal of a constant is read, in the slot that it fills
abbrev pub filled : Slot → Leaf → Option State
filled OfLine l = Some (Done (declared (number l)))
filled (OfValue r) (whole i) = Some (ValuedInt i r)
filled (OfValue r) (point d) = Some (ValuedPoint d r)
filled (OfNew r) (whole i) = Some (Due 1 (Mark Close) (settled r (decimal i 0)))
filled _ _ = None

-- a decimal's constant begins with the class, or with `new`
abbrev pub big_begun : Room → Head → State
big_begun r the_class = Due 0 (Mark Dot) (Settling r)
big_begun r a_new = Due 0 (Word (codes "BigDecimal")) (Due 0 (Mark Open) (Signed (OfNew r)))

-- the step of the word with which a decimal's constant begins
abbrev pub big_step : Room → List ℕ → Option State
big_step r w = option_map (big_begun r) (head_of w)

-- the step where a declared decimal or a table is due
abbrev pub line_step : Token → Option State
line_step (Word w) = big_step Alone w
line_step (Mark OpenTable) = Some (Listing [])
line_step _ = None

-- the step where the quoted decimal of `new BigDecimal(` is due
abbrev pub new_step : Room → Token → Option State
new_step r (Quoted d) = Some (Due 1 (Mark Close) (settled r d))
new_step r _ = None

-- what may stand in a slot in place of a literal
abbrev pub other_step : Slot → Token → Option State
other_step OfLine t = line_step t
other_step (OfValue r) t = None
other_step (OfNew r) t = new_step r t

-- the step where a literal is due that may have a sign
abbrev pub signed_step : Slot → Token → Option State
signed_step s (Literal n) = filled s (leaf_of n)
signed_step s (Operator binaries.Sub) = Some (Minus s)
signed_step s t = other_step s t

-- the step behind a literal's sign
abbrev pub minus_step : Slot → Token → Option State
minus_step s (Literal n) = filled s (negative_of n)
minus_step s _ = None

-- the step behind the whole number of `valueOf(`
abbrev pub int_step : ℤ → Room → Token → Option State
int_step i r (Mark Close) = Some (settled r (decimal i 0))
int_step i r (Mark Comma) = Some (ScaleDue (declaring i r))
int_step i r _ = None

-- the step behind the number with a point of `valueOf(`
abbrev pub point_step : Decimal → Room → Token → Option State
point_step d r (Mark Close) = option_map (settled r) (shortened_places d)
point_step d r _ = None

-- what is due behind a constant's word in a declared decimal
abbrev pub settling : Room → Constancy → State
settling r (constant c) = settled r (known_value c)
settling r of_number = Due 0 (Mark Open) (Signed (OfValue r))

-- the step behind `BigDecimal.` in a declared decimal
abbrev pub settling_step : Room → Token → Option State
settling_step r (Word w) = option_map (settling r) (constancy_of w)
settling_step r _ = None

-- the step where an item of a table is due
abbrev pub listing_step : List Decimal → Token → Option State
listing_step ds (Word w) = big_step (InTable ds) w
listing_step ds _ = None

-- the step behind an item of a table
abbrev pub listed_step : List Decimal → Token → Option State
listed_step ds (Mark Comma) = Some (Listing ds)
listed_step ds (Mark CloseTable) = Some (Done (declared (table ds)))
listed_step ds _ = None

-- ---- the machine

-- the machine's step from a state by a token, or none where the token can't come next
abbrev pub step : State → Token → Option State
step (Want k) t = want_step k t
step (Have x k) t = have_step x k t
step (Named w k) t = named_step w k t
step (Due n u s) t = if same_token u t then Some s else None
step (Member x k) t = member_step x k t
step (Static k) t = static_step k t
step (ScaleDue j) t = scale_step j t
step (Parting r s k) t = comma_step r s k t
step (Moding r s k) t = mode_step r s k t
step (Moded h r s k) t = moded_step h r s k t
step Naming t = naming_step t
step (Signed s) t = signed_step s t
step (Minus s) t = minus_step s t
step (ValuedInt i r) t = int_step i r t
step (ValuedPoint d r) t = point_step d r t
step (Settling r) t = settling_step r t
step (Listing ds) t = listing_step ds t
step (Listed ds) t = listed_step ds t
step (Done x) t = None

-- what a line stands for whose frames are all closed
abbrev pub whole_of : Term → List Frame → Option LineMeaning
whole_of x [] = Some (tree x)
whole_of x (Assigning w ∷ k) = Some (assignment w x)
whole_of x _ = None

-- what a line stands for that ends with this expression, where nothing waits on the stack
abbrev pub whole_line : Term × List Frame → Option LineMeaning
whole_line r = whole_of r.0 r.1

-- what the line stands for, where it ends here
abbrev pub finish : State → Option LineMeaning
finish (Have x k) = whole_line (close 0 x k)
finish (Named w k) = whole_line (close 0 (leaf (named w)) k)
finish (Done x) = Some x
finish _ = None

-- all of the tokens, where none of them stops the machine
abbrev pub steps : State → List Token → Option State
steps s [] = Some s
steps s (t ∷ ts) = option_and_then (λ r. steps r ts) (step s t)

-- where a line begins: a test, an assignment or a declared literal
abbrev pub first_state : Line → State
first_state Assignment = Naming
first_state Constant = Signed OfLine
first_state _ = Want []
