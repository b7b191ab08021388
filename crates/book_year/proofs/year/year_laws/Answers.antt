use Rattle.std.proofs.Common.{[]}
use Rattle.book_year.proofs.QuietLemmas.{year_quiet, rows_agree}
use Rattle.book_year.proofs.year.year_laws.Goals as goal

pub returns : goal.returns
returns c = record { stay = year_quiet; follow = λ p q records h. rows_agree p q [] records h }
