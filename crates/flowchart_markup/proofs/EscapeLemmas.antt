-- Texts in a page have no marks of HTML.
use Rattle.std.proofs.Common.{ℕ, List, [], ◌∷◌, All, IsTrue, arith}
use Rattle.std.proofs.lemmas.List.Elements.{All-append}
use Rattle.flowchart_markup.specs.Escapes.{escaped_byte, escaped, is_inert}

byte_inert : (byte : ℕ) → All (λ c. IsTrue (is_inert c)) (escaped_byte byte)
byte_inert byte = grind arith

pub text_inert : (text : List ℕ) → All (λ c. IsTrue (is_inert c)) (escaped text)
text_inert [] = grind arith
text_inert (byte ∷ rest) = All-append (λ c. IsTrue (is_inert c)) (escaped_byte byte) (escaped rest) (byte_inert byte) (text_inert rest)
