use Rattle.messages.proofs.OnceLemmas.{one_reading}
use Rattle.messages.proofs.reading.reading_laws.Goals as goal

pub returns : goal.returns
returns c = record { once = one_reading }
