-- The tokens of an expression's canonical spelling (`Spelling` of pap_tree gives its bytes).
use Rattle.std.specs.Prelude.{ℕ, suc, ◌+◌, Bool, true, false, ◌||◌, nat_lt, if◌then◌else◌, List, [], ◌∷◌, ◌++◌, ℤ, pos, negsuc, codes}
use Rattle.scaled_decimal.specs.Decimals.{decimal, numerator_of, scale_of}
use Rattle.scaled_decimal.specs.declared.rounding.Mode.{Mode}
use Rattle.pap_tree.specs.declared.expression.Unary.TheVariants.{Minus, Not, Negate, Abs}
use Rattle.pap_tree.specs.declared.expression.Binary.TheVariants.{Sub}
use Rattle.pap_tree.specs.Term as terms
use Rattle.pap_tree.specs.Term.{Leaf, One, unary, value_of, value_of_scaled, new_big, set_scale, Two, operator, method, divide, Term, leaf, item, one, two, choice}
use Rattle.pap_tree.specs.Words.{level_of_operator, call_word, known_word, round_word}
use Rattle.pap_tree.specs.Spelling.{binding_level}
use Rattle.pap_tree.specs.Tokens.{Token, Literal, Quoted, Word, Operator, Mark, Bang, Question, Colon, Dot, Comma, Open, Close, OpenItem, CloseItem, int, long, point}
use Rattle.pap_tree.specs.Texts.{begins_point}

-- in round brackets where they are needed
abbrev pub bracketed_tokens : Bool → List Token → List Token
bracketed_tokens needed ts = if needed then Mark Open ∷ (ts ++ (Mark Close ∷ [])) else ts

-- the tokens of an operand, in brackets where it binds less tightly than is wanted
abbrev pub tokens_at_level : ℕ → ℕ → List Token → List Token
tokens_at_level wanted own ts = bracketed_tokens (nat_lt own wanted) ts

-- a number, or a -
abbrev pub begins_signed : List Token → Bool
begins_signed (Literal n ∷ ts) = true
begins_signed (Operator Sub ∷ ts) = true
begins_signed _ = false

-- the tokens of an `int`, of which a sign is one
abbrev pub int_tokens : ℤ → List Token
int_tokens (pos n) = Literal (int n) ∷ []
int_tokens (negsuc n) = Operator Sub ∷ Literal (int (suc n)) ∷ []

-- the tokens of a `long`, of which a sign is one
abbrev pub long_tokens : ℤ → List Token
long_tokens (pos n) = Literal (long n) ∷ []
long_tokens (negsuc n) = Operator Sub ∷ Literal (long (suc n)) ∷ []

-- the tokens of a number with a point, of which a sign is one
abbrev pub point_tokens : ℤ → ℕ → List Token
point_tokens (pos n) s = Literal (point (decimal (pos n) s)) ∷ []
point_tokens (negsuc n) s = Operator Sub ∷ Literal (point (decimal (pos (suc n)) s)) ∷ []

-- the tokens of a literal, a constant of `BigDecimal` or a name
abbrev pub leaf_tokens : Leaf → List Token
leaf_tokens (terms.whole i) = int_tokens i
leaf_tokens (terms.long i) = long_tokens i
leaf_tokens (terms.point d) = point_tokens (numerator_of d) (scale_of d)
leaf_tokens (terms.text d) = Word (codes "new") ∷ Word (codes "BigDecimal") ∷ Mark Open ∷ Quoted d ∷ Mark Close ∷ []
leaf_tokens (terms.known k) = Word (codes "BigDecimal") ∷ Mark Dot ∷ Word (known_word k) ∷ []
leaf_tokens (terms.named x) = Word x ∷ []

-- a scale, a mode and the closing bracket
abbrev pub rounding_tokens : ℕ → Mode → List Token
rounding_tokens s m = Literal (int s) ∷ Mark Comma ∷ Word (codes "BigDecimal") ∷ Mark Dot ∷ Word (round_word m) ∷ Mark Close ∷ []

-- the tokens of a method's call, up to its bracket, before what stands in it
abbrev pub method_tokens : List ℕ → List Token → List Token
method_tokens w more = Mark Dot ∷ Word w ∷ Mark Open ∷ more

-- the tokens of `BigDecimal.valueOf(`, before what stands in it
abbrev pub value_of_tokens : List Token → List Token
value_of_tokens more = Word (codes "BigDecimal") ∷ Mark Dot ∷ Word (codes "valueOf") ∷ Mark Open ∷ more

-- an operation round its operand, which binds at a level and has these tokens
abbrev pub one_tokens : One → ℕ → List Token → List Token
one_tokens (unary Minus) n a = Operator Sub ∷ bracketed_tokens (nat_lt n 7 || begins_signed a) a
one_tokens (unary Not) n a = Mark Bang ∷ tokens_at_level 7 n a
one_tokens (unary Negate) n a = tokens_at_level 8 n a ++ method_tokens (codes "negate") (Mark Close ∷ [])
one_tokens (unary Abs) n a = tokens_at_level 8 n a ++ method_tokens (codes "abs") (Mark Close ∷ [])
one_tokens value_of n a = value_of_tokens (a ++ (Mark Close ∷ []))
one_tokens (value_of_scaled s) n a = value_of_tokens (a ++ (Mark Comma ∷ Literal (int s) ∷ Mark Close ∷ []))
one_tokens new_big n a = Word (codes "new") ∷ Word (codes "BigDecimal") ∷ Mark Open ∷ (bracketed_tokens (begins_point a) a ++ (Mark Close ∷ []))
one_tokens (set_scale s m) n a = tokens_at_level 8 n a ++ method_tokens (codes "setScale") (rounding_tokens s m)

-- the tokens of an operation on two operands, of which each has its level and its tokens
abbrev pub two_tokens : Two → ℕ → List Token → ℕ → List Token → List Token
two_tokens (operator o) m a n b = tokens_at_level (level_of_operator o) m a ++ (Operator o ∷ tokens_at_level (level_of_operator o + 1) n b)
two_tokens (method c) m a n b = tokens_at_level 8 m a ++ method_tokens (call_word c) (b ++ (Mark Close ∷ []))
two_tokens (divide s r) m a n b = tokens_at_level 8 m a ++ method_tokens (codes "divide") (b ++ (Mark Comma ∷ rounding_tokens s r))

-- the tokens of a tree's canonical spelling
abbrev pub spelled_tokens : Term → List Token
spelled_tokens (leaf l) = leaf_tokens l
spelled_tokens (item x a) = Word x ∷ Mark OpenItem ∷ (spelled_tokens a ++ (Mark CloseItem ∷ []))
spelled_tokens (one op a) = one_tokens op (binding_level a) (spelled_tokens a)
spelled_tokens (two op a b) = two_tokens op (binding_level a) (spelled_tokens a) (binding_level b) (spelled_tokens b)
spelled_tokens (choice c a b) = tokens_at_level 1 (binding_level c) (spelled_tokens c) ++ (Mark Question ∷ (spelled_tokens a ++ (Mark Colon ∷ spelled_tokens b)))
