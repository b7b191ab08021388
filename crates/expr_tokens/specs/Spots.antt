-- The tokens that those of the program stand for.
use Rattle.std.specs.Prelude.{ℕ, List, map, codes}
use Rattle.pap_tree.specs.Tokens as pure
use Rattle.pap_tree.specs.Tokens.{Spot}
use Rattle.expr_tokens.specs.declared.token.Keyword.{Keyword}
use Rattle.expr_tokens.specs.declared.token.Keyword.TheVariants as keywords
use Rattle.expr_tokens.specs.declared.token.Sign.{Sign}
use Rattle.expr_tokens.specs.declared.token.Sign.TheVariants as signs
use Rattle.expr_tokens.specs.declared.token.Token.{Token}
use Rattle.expr_tokens.specs.declared.token.Token.TheVariants as tokens
use Rattle.expr_tokens.specs.declared.token.Placed.{Placed}

-- how a keyword is written
abbrev pub keyword_text : Keyword → List ℕ
keyword_text keywords.New = codes "new"
keyword_text keywords.BigDecimal = codes "BigDecimal"
keyword_text keywords.RoundingMode = codes "RoundingMode"

-- the sign that one of the program stands for
abbrev pub sign_of : Sign → pure.Sign
sign_of signs.Equals = pure.Equals
sign_of signs.Bang = pure.Bang
sign_of signs.Question = pure.Question
sign_of signs.Colon = pure.Colon
sign_of signs.Dot = pure.Dot
sign_of signs.Comma = pure.Comma
sign_of signs.Semicolon = pure.Semicolon
sign_of signs.Open = pure.Open
sign_of signs.Close = pure.Close
sign_of signs.OpenItem = pure.OpenItem
sign_of signs.CloseItem = pure.CloseItem
sign_of signs.OpenTable = pure.OpenTable
sign_of signs.CloseTable = pure.CloseTable

-- the token that one of the program stands for
abbrev pub token_of : Token → pure.Token
token_of (tokens.Int n) = pure.Literal (pure.int n)
token_of (tokens.Long n) = pure.Literal (pure.long n)
token_of (tokens.Point d) = pure.Literal (pure.point d)
token_of (tokens.Quoted d) = pure.Quoted d
token_of tokens.Beyond = pure.Beyond
token_of (tokens.Name x) = pure.Word x
token_of (tokens.Keyword k) = pure.Word (keyword_text k)
token_of (tokens.Operator o) = pure.Operator o
token_of (tokens.Mark s) = pure.Mark (sign_of s)
token_of tokens.Alien = pure.Alien

-- the token that one of the program's stands for, with its place
abbrev pub spot_of : Placed → Spot
spot_of p = record { token = token_of p.token; at = p.at }

-- the tokens that a list of the program's stands for, each with its place
abbrev pub spots_of : List Placed → List Spot
spots_of ps = map spot_of ps
