use Rattle.book_file.proofs.WriteLemmas.{saved_some}
use Rattle.book_file.proofs.write.saving_laws.Goals as goal

pub returns-clause-some : goal.returns-clause-some
returns-clause-some c = saved_some
