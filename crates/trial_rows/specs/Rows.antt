-- What a row says of an answer.
use Rattle.std.specs.Prelude.{◌≡◌, ℕ, Result, Ok, List, [], ◌++◌, codes, string_bytes, String, ⊤}
use Rattle.std.specs.Str.{trim_end}
use Rattle.std.specs.Fn.{Shared}
use denote.Ref.{Bor, MutBor}

-- the row is a text, ` => ` and what is wanted: what a call of `answer`, at some text, wrote into an empty one, but for white
-- space at its end
pub record IsRightRow {F A E : Type 0}
    (g : Shared F (Bor (List ℕ) × (MutBor (String A) × Unit {0})) (Result ⊤ E × (MutBor (String A) × Unit {0})))
    (answer : F) (row : List ℕ) : Type 0 where
  pub asked : Bor (List ℕ)
  pub empty : MutBor (String A)
  pub written : MutBor (String A)
  pub called : g.post answer (asked, (empty, tt)) (Ok tt, (written, tt))
  pub begins_empty : string_bytes empty.now ≡ []
  pub front : List ℕ
  pub is : row ≡ front ++ (codes " => " ++ trim_end (string_bytes written.now))
