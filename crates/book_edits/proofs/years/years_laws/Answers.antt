use Rattle.book_edits.proofs.DoneLemmas.{in_order}
use Rattle.book_edits.proofs.years.years_laws.Goals as goal

pub returns : goal.returns
returns c = in_order
