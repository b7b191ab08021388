-- What a search for the statement of a number found.
use Rattle.std.specs.Prelude.{◌≡◌, ℕ, ◌+◌, ◌<◌, Option, Some, None}
use Rattle.pap_tree.specs.declared.plan.Stmt.{Stmt}
use Rattle.pap_tree.specs.Term.{Term, term_of}
use Rattle.pap_tree.specs.Flowchart.{Body, stmt_then}
use Rattle.pap_tree.specs.Statements.{written, term_at}
use Rattle.plan_answers.specs.declared.places.Search.{Search}
use Rattle.plan_answers.specs.declared.places.Search.TheVariants.{Found, Executes, Left}

-- the statement of that number is one of these, and this is its expression
pub record IsThere (body : Body) (number : ℕ) (t : Option Term) : Type 0 where
  pub within : number < written body
  pub is : term_at body number ≡ t

-- the statement of that number is one of the rest, where it has another number
pub record GoesOn (body rest : Body) (number left : ℕ) : Type 0 where
  pub same : term_at body number ≡ term_at rest left
  pub counted : number + written rest ≡ left + written body

abbrev pub IsSearched : Body → ℕ → Search → Type 0
IsSearched body number (Found e) = IsThere body number (Some (term_of e.now))
IsSearched body number Executes = IsThere body number None
IsSearched body number (Left left) = number ≡ left + written body

abbrev pub IsSearchedIn : Stmt → ℕ → Search → Type 0
IsSearchedIn s number (Found e) = (rest : Body) → IsThere (stmt_then s rest) number (Some (term_of e.now))
IsSearchedIn s number Executes = (rest : Body) → IsThere (stmt_then s rest) number None
IsSearchedIn s number (Left left) = (rest : Body) → GoesOn (stmt_then s rest) rest number left
