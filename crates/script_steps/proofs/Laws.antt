-- The laws of the steps of lines, for crates above.
use Rattle.script_steps.specs.StepLaws.{LinesHaveAStep, LinesHaveOneStep, FilesAreTold, LongLinesAreOne}
use Rattle.script_steps.specs.StepLaws.{LongLinesNameNoFile}
use Rattle.script_steps.proofs.StepLemmas as steps
-- A line that is refused changes nothing; a plan that is put never fails, nor does one whose bound is printed.
pub use Rattle.script_steps.proofs.RefusedLemmas.{refused, put_plans}
pub use Rattle.script_steps.proofs.PromiseLemmas.{never_fails, refused_otherwise}
-- What lines answer follows from the book and from what was filed; a script that is cut goes on from the saved book.
pub use Rattle.script_steps.proofs.GoingOnLemmas.{follow, follow_files, go_on}
pub use Rattle.script_steps.proofs.GoingOnLemmas.{AreAlike, GoAlike, go_alike, steps_over, not_filed, cut_opens}
-- Every book that lines make can be saved, and its jobs are safe; the text as which it is saved is its text.
pub use Rattle.script_steps.proofs.KeepLemmas.{make_books, make_safe}
pub use Rattle.script_steps.proofs.SoundLemmas.{saved_text_of}

pub some : LinesHaveAStep
some = steps.some

pub one : LinesHaveOneStep
one = steps.one

pub told : FilesAreTold
told = steps.files_told

pub long : LongLinesAreOne
long = steps.long

pub alone : LongLinesNameNoFile
alone = steps.long_alone
