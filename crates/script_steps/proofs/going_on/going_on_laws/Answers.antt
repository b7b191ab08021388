use Rattle.script_steps.proofs.Laws.{follow, follow_files, go_on, make_books, make_safe}
use Rattle.script_steps.proofs.going_on.going_on_laws.Goals as goal

pub returns-clause-made : goal.returns-clause-made
returns-clause-made c = make_books

pub returns-clause-safe : goal.returns-clause-safe
returns-clause-safe c = make_safe

pub returns-clause-books : goal.returns-clause-books
returns-clause-books c = follow

pub returns-clause-files : goal.returns-clause-files
returns-clause-files c = follow_files

pub returns-clause-cut : goal.returns-clause-cut
returns-clause-cut c = go_on
