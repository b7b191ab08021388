use Rattle.flowchart_markup.proofs.EscapeLemmas.{text_inert}
use Rattle.flowchart_markup.proofs.escape.escape_laws.Goals as goal

pub returns : goal.returns
returns c = record { inert = text_inert }
