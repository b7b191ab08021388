-- Lines that a reader can check by hand.
use Rattle.std.proofs.Common.{◌≡◌, ℕ, suc, List, [], ◌∷◌, Ok, Err, pos, negsuc, refl}
use Rattle.std.specs.Prelude.{codes, replicate}
use Rattle.scaled_decimal.specs.Decimals.{decimal}
use Rattle.scaled_decimal.specs.declared.rounding.Mode.TheVariants as modes
use Rattle.pap_tree.specs.declared.expression.Unary.TheVariants as unaries
use Rattle.pap_tree.specs.declared.expression.Binary.TheVariants as binaries
use Rattle.pap_tree.specs.Term.{Term, whole, point, named, unary, new_big, operator, divide, leaf, item, one, two, choice}
use Rattle.pap_tree.specs.Declarations.{table}
use Rattle.pap_tree.specs.Tokens as tokens
use Rattle.pap_tree.specs.Tokens.{Token, Literal, Quoted, Word, Operator, Mark, Equals, Bang, Question, Colon, Dot, Comma, Semicolon, Open, Close, OpenItem, CloseItem, OpenTable, CloseTable, Spot}
use Rattle.pap_tree.specs.Grammar.{Level, Assignment, Constant, tree, assignment, declared}
use Rattle.pap_tree.specs.Stopping as stopping
use Rattle.expr_grammar.specs.Run.{answer, refusal_at}

-- each token at its number
abbrev spots_from : ℕ → List Token → List Spot
spots_from n [] = []
spots_from n (t ∷ ts) = record { token = t; at = n } ∷ spots_from (suc n) ts

abbrev int : ℕ → Token
int n = Literal (tokens.int n)

abbrev name : List ℕ → Token
name w = Word w

abbrev x : Term
x = leaf (named (codes "x"))

abbrev n : ℕ → Term
n i = leaf (whole (pos i))

-- 1 - 2 - 3 * 4
pub left : answer (Level 0) 9 (spots_from 0 (int 1 ∷ Operator binaries.Sub ∷ int 2 ∷ Operator binaries.Sub ∷ int 3 ∷ Operator binaries.Mul ∷ int 4 ∷ []))
    ≡ Ok (tree (two (operator binaries.Sub) (two (operator binaries.Sub) (n 1) (n 2)) (two (operator binaries.Mul) (n 3) (n 4))))
left = refl

-- A = x < 1 ? - x : x [ 2 ] . divide ( - 5 , 3 , BigDecimal . ROUND_UP ) ;
assigned : answer Assignment 99 (spots_from 0 (name (codes "A") ∷ Mark Equals ∷ name (codes "x") ∷ Operator binaries.Less ∷ int 1 ∷ Mark Question ∷ Operator binaries.Sub ∷ name (codes "x") ∷ Mark Colon
    ∷ name (codes "x") ∷ Mark OpenItem ∷ int 2 ∷ Mark CloseItem ∷ Mark Dot ∷ Word (codes "divide") ∷ Mark Open ∷ Operator binaries.Sub ∷ int 5 ∷ Mark Comma ∷ int 3 ∷ Mark Comma ∷ Word (codes "BigDecimal") ∷ Mark Dot ∷ Word (codes "ROUND_UP") ∷ Mark Close ∷ Mark Semicolon ∷ []))
    ≡ Ok (assignment (codes "A") (choice (two (operator binaries.Less) x (n 1)) (one (unary unaries.Minus) x) (two (divide 3 modes.Up) (item (codes "x") (n 2)) (leaf (whole (negsuc 4))))))
assigned = refl

-- { BigDecimal . valueOf ( - 5 , 2 ) , new BigDecimal ( "0.10" ) , BigDecimal . valueOf ( 1.500 ) }
declared_table : answer Constant 99 (spots_from 0 (Mark OpenTable ∷ Word (codes "BigDecimal") ∷ Mark Dot ∷ Word (codes "valueOf") ∷ Mark Open ∷ Operator binaries.Sub ∷ int 5 ∷ Mark Comma ∷ int 2 ∷ Mark Close ∷ Mark Comma
    ∷ Word (codes "new") ∷ Word (codes "BigDecimal") ∷ Mark Open ∷ Quoted (decimal (pos 10) 2) ∷ Mark Close ∷ Mark Comma
    ∷ Word (codes "BigDecimal") ∷ Mark Dot ∷ Word (codes "valueOf") ∷ Mark Open ∷ Literal (tokens.point (decimal (pos 1500) 3)) ∷ Mark Close ∷ Mark CloseTable ∷ []))
    ≡ Ok (declared (table (decimal (negsuc 4) 2 ∷ decimal (pos 10) 2 ∷ decimal (pos 15) 1 ∷ [])))
declared_table = refl

-- A = B . pow ( .. : the pow isn't supported
pow : answer Assignment 99 (spots_from 0 (name (codes "A") ∷ Mark Equals ∷ name (codes "B") ∷ Mark Dot ∷ name (codes "pow") ∷ Mark Open ∷ []))
    ≡ Err (refusal_at stopping.unsupported 4)
pow = refl

-- new BigDecimal ( - 0.4
fraction : answer (Level 0) 99 (spots_from 0 (Word (codes "new") ∷ Word (codes "BigDecimal") ∷ Mark Open ∷ Operator binaries.Sub ∷ Literal (tokens.point (decimal (pos 4) 1)) ∷ []))
    ≡ Err (refusal_at stopping.binary_fraction 4)
fraction = refl

-- x . setScale ( 31 and x . setScale ( 3 )
great_scale : answer (Level 0) 99 (spots_from 0 (name (codes "x") ∷ Mark Dot ∷ Word (codes "setScale") ∷ Mark Open ∷ int 31 ∷ [])) ≡ Err (refusal_at stopping.number 4)
great_scale = refl

no_mode : answer (Level 0) 99 (spots_from 0 (name (codes "x") ∷ Mark Dot ∷ Word (codes "setScale") ∷ Mark Open ∷ int 3 ∷ Mark Close ∷ [])) ≡ Err (refusal_at stopping.unsupported 5)
no_mode = refl

-- the end of the text
early : answer (Level 0) 99 (spots_from 0 (int 3 ∷ Operator binaries.Plus ∷ [])) ≡ Err (refusal_at stopping.syntax 99)
early = refl

-- 64 brackets and one more
deep : answer (Level 0) 99 (spots_from 0 (replicate 65 (Mark Open))) ≡ Err (refusal_at stopping.deep 64)
deep = refl

flat : answer (Level 0) 99 (spots_from 0 (replicate 64 (Mark Open))) ≡ Err (refusal_at stopping.syntax 99)
flat = refl

-- ! a && b == 1 || c is ((!a) && (b == 1)) || c
logic : answer (Level 0) 99 (spots_from 0 (Mark Bang ∷ name (codes "x") ∷ Operator binaries.And ∷ name (codes "x") ∷ Operator binaries.Same ∷ int 1 ∷ Operator binaries.Or ∷ name (codes "x") ∷ []))
    ≡ Ok (tree (two (operator binaries.Or) (two (operator binaries.And) (one (unary unaries.Not) x) (two (operator binaries.Same) x (n 1))) x))
logic = refl

-- - 5 . abs ( ) is a call whose receiver is the literal, and new BigDecimal ( ( 0.4 ) ) is none of a fraction
receiver : answer (Level 0) 99 (spots_from 0 (Operator binaries.Sub ∷ int 5 ∷ Mark Dot ∷ Word (codes "abs") ∷ Mark Open ∷ Mark Close ∷ []))
    ≡ Ok (tree (one (unary unaries.Abs) (leaf (whole (negsuc 4)))))
receiver = refl

bracketed_point : answer (Level 0) 99 (spots_from 0 (Word (codes "new") ∷ Word (codes "BigDecimal") ∷ Mark Open ∷ Mark Open ∷ Literal (tokens.point (decimal (pos 4) 1)) ∷ Mark Close ∷ Mark Close ∷ []))
    ≡ Ok (tree (one new_big (leaf (point (decimal (pos 4) 1)))))
bracketed_point = refl

-- x ? 1 : x ? 2 : 3
choices : answer (Level 0) 99 (spots_from 0 (name (codes "x") ∷ Mark Question ∷ int 1 ∷ Mark Colon ∷ name (codes "x") ∷ Mark Question ∷ int 2 ∷ Mark Colon ∷ int 3 ∷ []))
    ≡ Ok (tree (choice x (n 1) (choice x (n 2) (n 3))))
choices = refl
