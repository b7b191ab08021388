-- What the forms of words ask for.
use Rattle.std.specs.Prelude.{ℕ, List, ⊤}
use Rattle.pap_cli.specs.declared.words.Request.TheVariants as requests
use Rattle.pap_cli.specs.Words.{Form, check, once, run, sample, save, HasForm}

-- the source's script is read
abbrev pub ReadsScript : Form → Type 0
ReadsScript (check plan limits) = ⊥
ReadsScript (once plan limits values) = ⊥
ReadsScript run = ⊤
ReadsScript (sample employees) = ⊥
ReadsScript save = ⊤

-- an answer on a plan's file and a range file is asked for
abbrev pub AsksOfFiles : Form → Type 0
AsksOfFiles (check plan limits) = ⊤
AsksOfFiles (once plan limits values) = ⊤
AsksOfFiles run = ⊥
AsksOfFiles (sample employees) = ⊥
AsksOfFiles save = ⊥

-- the words ask for a script to be carried out, by `run` or by `save`
pub record AskForScript (words : List (List ℕ)) : Type 0 where
  pub form : Form
  pub has : HasForm words form
  pub reads : ReadsScript form
