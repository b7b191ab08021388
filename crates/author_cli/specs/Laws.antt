-- What holds of the definitions of words.
use Rattle.std.specs.Prelude.{◌≡◌, ℕ, List}
use Rattle.author_cli.specs.Words.{Form, HasForm}

-- words have at most one form
abbrev pub HaveOneForm : Type 0
HaveOneForm = (words : List (List ℕ)) (a b : Form) → HasForm words a → HasForm words b → a ≡ b
