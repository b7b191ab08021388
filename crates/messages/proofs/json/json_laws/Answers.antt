use Rattle.messages.proofs.ControlLemmas.{message_shows}
use Rattle.messages.proofs.json.json_laws.Goals as goal

pub returns : goal.returns
returns c = record { line = message_shows }
