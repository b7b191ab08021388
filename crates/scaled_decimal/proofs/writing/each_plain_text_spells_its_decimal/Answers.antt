use Rattle.scaled_decimal.proofs.SpellingLemmas.{plain_text_spells}
use Rattle.scaled_decimal.proofs.writing.each_plain_text_spells_its_decimal.Goals as goal

pub returns : goal.returns
returns c = plain_text_spells
