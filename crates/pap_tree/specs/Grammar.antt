-- The grammar as one table: each way through a line, with what it means. Source: docs/PROFILE.md, "Expressions":
-- the part of Java's expressions that the published flowcharts (Programmablaufplan Lohnsteuer) use.
use Rattle.std.specs.Prelude.{◌≡◌, ℕ, suc, ◌≤◌, ◌<◌, List, [], ◌∷◌, ℤ, pos, neg_ℤ, codes, IsTrue}
use Rattle.scaled_decimal.specs.Decimals.{Decimal, decimal, negated}
use Rattle.scaled_decimal.specs.Limits.{most_places}
use Rattle.scaled_decimal.specs.Shortening.{IsShortened}
use Rattle.scaled_decimal.specs.declared.rounding.Mode.{Mode}
use Rattle.pap_tree.specs.Names.{is_name}
use Rattle.pap_tree.specs.declared.expression.Known.{Known}
use Rattle.pap_tree.specs.declared.expression.Known.TheVariants as knowns
use Rattle.pap_tree.specs.declared.expression.Unary.{Unary}
use Rattle.pap_tree.specs.declared.expression.Unary.TheVariants.{Minus, Not, Negate, Abs}
use Rattle.pap_tree.specs.declared.expression.Binary.{Binary}
use Rattle.pap_tree.specs.declared.expression.Binary.TheVariants.{Sub}
use Rattle.pap_tree.specs.declared.expression.Call.{Call}
use Rattle.pap_tree.specs.Term.{Leaf, whole, long, point, text, known, named, unary, value_of, value_of_scaled, new_big, set_scale, operator, method, divide, Term, leaf, item, one, two, choice}
use Rattle.pap_tree.specs.Declarations.{DeclaredLiteral, number, big, table}
use Rattle.pap_tree.specs.Words.{level_of_operator, call_word, known_word, mode_word, round_word}
use Rattle.pap_tree.specs.Tokens as tokens
use Rattle.pap_tree.specs.Tokens.{Sign, Number, Token, Literal, Quoted, Word, Operator, Mark, Question, Colon, Dot, Comma, Open, Close}

-- the form of a literal: that of an `int`, that of a `long`, or one with a point
pub data LiteralForm : Type 0 where
  an_int : LiteralForm
  a_long : LiteralForm
  a_point : LiteralForm

-- The lines of the grammar.
pub data Line : Type 0 where
  -- an expression: 0 is all of it, 1 to 6 the operators from `||` to `*`, 7 unary, 8 post, 9 prim
  Level : ℕ → Line
  -- a literal of this form, with a - before it or without
  Signed : LiteralForm → Line
  -- mode
  Rounding : Line
  Assignment : Line
  Constant : Line
  Big : Line
  -- one or more of them, with commas between
  Bigs : Line

-- what a text of a line stands for
pub data LineMeaning : Type 0 where
  tree : Term → LineMeaning
  literal : Leaf → LineMeaning
  mode : Mode → LineMeaning
  assignment : List ℕ → Term → LineMeaning
  declared : DeclaredLiteral → LineMeaning
  decimals : List Decimal → LineMeaning

-- a place that holds a scale
pub data Scaling : Type 0 where
  of_value : Scaling
  of_quotient : Scaling
  of_setting : Scaling

-- how a part may not begin
pub data Guard : Type 0 where
  free : Guard
  no_number : Guard
  no_point : Guard

-- what stands at a place of a way
pub data Item : Type 0 where
  -- this token
  Is : Token → Item
  -- this token, which opens a level until the way ends
  Opens : Token → Item
  -- the int of a scale
  Scale : Scaling → ℕ → Item
  -- a text of a line that stands for this
  Part : Guard → Line → LineMeaning → Item

-- the item that is an expression of a level
abbrev pub at : ℕ → Term → Item
at n x = Part free (Level n) (tree x)

-- the item that is this word
abbrev pub word : List ℕ → Item
word w = Is (Word w)

-- the item that is this sign
abbrev pub sign : Sign → Item
sign s = Is (Mark s)

-- the item that is this sign and opens a level
abbrev pub opens : Sign → Item
opens s = Opens (Mark s)

-- the item that is a rounding mode of either class
abbrev pub rounding : Mode → Item
rounding m = Part free Rounding (mode m)

-- the item that is a literal with or without a sign
abbrev pub signed : LiteralForm → Leaf → Item
signed f l = Part free (Signed f) (literal l)

-- the item that is a declared decimal
abbrev pub a_big : Decimal → Item
a_big d = Part free Big (declared (big d))

-- the form of a literal
abbrev pub form_of : Number → LiteralForm
form_of (tokens.int n) = an_int
form_of (tokens.long n) = a_long
form_of (tokens.point d) = a_point

-- the literal of a number
abbrev pub leaf_of : Number → Leaf
leaf_of (tokens.int n) = whole (pos n)
leaf_of (tokens.long n) = long (pos n)
leaf_of (tokens.point d) = point d

-- the literal of a number behind a minus sign
abbrev pub negative_of : Number → Leaf
negative_of (tokens.int n) = whole (neg_ℤ (pos n))
negative_of (tokens.long n) = long (neg_ℤ (pos n))
negative_of (tokens.point d) = point (negated d)

-- the value of a constant of `BigDecimal`
abbrev pub known_value : Known → Decimal
known_value knowns.Zero = decimal (pos 0) 0
known_value knowns.One = decimal (pos 1) 0
known_value knowns.Ten = decimal (pos 10) 0

-- a method that takes no argument
pub data Plain : Unary → List ℕ → Type 0 where
  negate : Plain Negate (codes "negate")
  abs : Plain Abs (codes "abs")

-- The ways through each line: the items, one after the other, and what a text of the line by this way stands for.
pub data Way : Line → List Item → LineMeaning → Type 0 where
  -- expr, and each line of it is also the next one
  choose : (c a b : Term) → Way (Level 0) (at 1 c ∷ opens Question ∷ at 0 a ∷ sign Colon ∷ at 0 b ∷ []) (tree (choice c a b))
  tighter : (n : ℕ) (x : Term) → n < 9 → Way (Level n) (at (suc n) x ∷ []) (tree x)
  -- or, and, eq, rel, sum, term
  operation : (n : ℕ) (o : Binary) (x y : Term) → level_of_operator o ≡ n
      → Way (Level n) (at n x ∷ Is (Operator o) ∷ at (suc n) y ∷ []) (tree (two (operator o) x y))
  -- unary
  minus : (x : Term) → Way (Level 7) (Opens (Operator Sub) ∷ Part no_number (Level 7) (tree x) ∷ []) (tree (one (unary Minus) x))
  negation : (x : Term) → Way (Level 7) (opens tokens.Bang ∷ at 7 x ∷ []) (tree (one (unary Not) x))
  -- post
  call : (c : Call) (x y : Term) → Way (Level 8)
      (at 8 x ∷ sign Dot ∷ word (call_word c) ∷ opens Open ∷ at 0 y ∷ sign Close ∷ []) (tree (two (method c) x y))
  divide_to : (s : ℕ) (m : Mode) (x y : Term) → s ≤ most_places → Way (Level 8)
      (at 8 x ∷ sign Dot ∷ word (codes "divide") ∷ opens Open ∷ at 0 y ∷ sign Comma ∷ Scale of_quotient s ∷ sign Comma ∷ rounding m ∷ sign Close ∷ [])
      (tree (two (divide s m) x y))
  set_scale_to : (s : ℕ) (m : Mode) (x : Term) → s ≤ most_places → Way (Level 8)
      (at 8 x ∷ sign Dot ∷ word (codes "setScale") ∷ opens Open ∷ Scale of_setting s ∷ sign Comma ∷ rounding m ∷ sign Close ∷ [])
      (tree (one (set_scale s m) x))
  plain_call : (u : Unary) (w : List ℕ) (x : Term) → Plain u w → Way (Level 8)
      (at 8 x ∷ sign Dot ∷ word w ∷ opens Open ∷ sign Close ∷ []) (tree (one (unary u) x))
  -- prim
  a_literal : (f : LiteralForm) (l : Leaf) → Way (Level 9) (signed f l ∷ []) (tree (leaf l))
  a_name : (x : List ℕ) → IsTrue (is_name x) → Way (Level 9) (word x ∷ []) (tree (leaf (named x)))
  an_item : (x : List ℕ) (i : Term) → IsTrue (is_name x)
      → Way (Level 9) (word x ∷ opens tokens.OpenItem ∷ at 0 i ∷ sign tokens.CloseItem ∷ []) (tree (item x i))
  in_brackets : (x : Term) → Way (Level 9) (opens Open ∷ at 0 x ∷ sign Close ∷ []) (tree x)
  a_known : (k : Known) → Way (Level 9) (word (codes "BigDecimal") ∷ sign Dot ∷ word (known_word k) ∷ []) (tree (leaf (known k)))
  a_value : (x : Term) → Way (Level 9)
      (word (codes "BigDecimal") ∷ sign Dot ∷ word (codes "valueOf") ∷ opens Open ∷ at 0 x ∷ sign Close ∷ [])
      (tree (one value_of x))
  a_scaled_value : (s : ℕ) (x : Term) → s ≤ most_places → Way (Level 9)
      (word (codes "BigDecimal") ∷ sign Dot ∷ word (codes "valueOf") ∷ opens Open ∷ at 0 x ∷ sign Comma ∷ Scale of_value s ∷ sign Close ∷ [])
      (tree (one (value_of_scaled s) x))
  a_new_big : (x : Term) → Way (Level 9)
      (word (codes "new") ∷ word (codes "BigDecimal") ∷ opens Open ∷ Part no_point (Level 0) (tree x) ∷ sign Close ∷ [])
      (tree (one new_big x))
  a_new_text : (d : Decimal) → Way (Level 9)
      (word (codes "new") ∷ word (codes "BigDecimal") ∷ opens Open ∷ Is (Quoted d) ∷ sign Close ∷ []) (tree (leaf (text d)))
  -- a literal, with a - before it or without
  without_sign : (f : LiteralForm) (n : Number) → form_of n ≡ f → Way (Signed f) (Is (Literal n) ∷ []) (literal (leaf_of n))
  with_sign : (f : LiteralForm) (n : Number) → form_of n ≡ f → Way (Signed f) (Opens (Operator Sub) ∷ Is (Literal n) ∷ []) (literal (negative_of n))
  -- mode
  old_mode : (m : Mode) → Way Rounding (word (codes "BigDecimal") ∷ sign Dot ∷ word (round_word m) ∷ []) (mode m)
  new_mode : (m : Mode) → Way Rounding (word (codes "RoundingMode") ∷ sign Dot ∷ word (mode_word m) ∷ []) (mode m)
  -- assign
  assign : (x : List ℕ) (e : Term) → IsTrue (is_name x)
      → Way Assignment (word x ∷ sign tokens.Equals ∷ at 0 e ∷ []) (assignment x e)
  assign_ended : (x : List ℕ) (e : Term) → IsTrue (is_name x)
      → Way Assignment (word x ∷ sign tokens.Equals ∷ at 0 e ∷ sign tokens.Semicolon ∷ []) (assignment x e)
  -- constant
  big_constant : (d : Decimal) → Way Constant (a_big d ∷ []) (declared (big d))
  number_constant : (f : LiteralForm) (l : Leaf) → Way Constant (signed f l ∷ []) (declared (number l))
  table_constant : (ds : List Decimal) → Way Constant
      (sign tokens.OpenTable ∷ Part free Bigs (decimals ds) ∷ sign tokens.CloseTable ∷ []) (declared (table ds))
  last_big : (d : Decimal) → Way Bigs (a_big d ∷ []) (decimals (d ∷ []))
  more_bigs : (d : Decimal) (ds : List Decimal)
      → Way Bigs (a_big d ∷ sign Comma ∷ Part free Bigs (decimals ds) ∷ []) (decimals (d ∷ ds))
  -- big
  big_known : (k : Known) → Way Big (word (codes "BigDecimal") ∷ sign Dot ∷ word (known_word k) ∷ []) (declared (big (known_value k)))
  big_of_int : (i : ℤ) → Way Big
      (word (codes "BigDecimal") ∷ sign Dot ∷ word (codes "valueOf") ∷ opens Open ∷ signed an_int (whole i) ∷ sign Close ∷ [])
      (declared (big (decimal i 0)))
  big_of_scaled : (i : ℤ) (s : ℕ) → s ≤ most_places → Way Big
      (word (codes "BigDecimal") ∷ sign Dot ∷ word (codes "valueOf") ∷ opens Open ∷ signed an_int (whole i) ∷ sign Comma ∷ Scale of_value s ∷ sign Close ∷ [])
      (declared (big (decimal i s)))
  big_of_point : (d e : Decimal) → IsShortened d 1 e → Way Big
      (word (codes "BigDecimal") ∷ sign Dot ∷ word (codes "valueOf") ∷ opens Open ∷ signed a_point (point d) ∷ sign Close ∷ [])
      (declared (big e))
  big_new : (i : ℤ) → Way Big
      (word (codes "new") ∷ word (codes "BigDecimal") ∷ opens Open ∷ signed an_int (whole i) ∷ sign Close ∷ [])
      (declared (big (decimal i 0)))
  big_new_text : (d : Decimal) → Way Big
      (word (codes "new") ∷ word (codes "BigDecimal") ∷ opens Open ∷ Is (Quoted d) ∷ sign Close ∷ []) (declared (big d))
