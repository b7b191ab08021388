-- What an edit of the calendar answers.
use Rattle.std.proofs.Common.{◌≡◌, ℕ, Result, Ok, Err, OnOk, false, sym}
use Rattle.std.specs.Result.{is_err}
use Rattle.std.specs.declared.alloc.AllocError.{AllocError}
use Rattle.std.proofs.lemmas.Bool.{false≢true}
use Rattle.book_year.specs.declared.outcome.Work.{Work}
use Rattle.book_year.specs.Jobs.{Counts}
use Rattle.book_edits.specs.declared.refusal.EditRefusal.{EditRefusal}
use Rattle.book_edits.specs.declared.refusal.EditRefusal.TheVariants as refusal
use Rattle.book_edits.specs.Refusals.{CountsEdit}

-- where memory ran out within the computing
pub counts_edit : {T E : Type 0} (r : Result Work EditRefusal) (e : EditRefusal) (a : AllocError) (s : Result T E) (f : E) (before now total : ℕ) → r ≡ Err e → e ≡ refusal.Memory a → s ≡ Err f → Counts s before now total → CountsEdit r before now total
counts_edit r e a s f before now total is memory was counts = rw (is, memory) (rw was at counts)

pub ok_from_not_err : {T E : Type 0} (r : Result T E) (P : Type 0) → is_err r ≡ false → OnOk r P → P
ok_from_not_err (Ok x) P e h = h
ok_from_not_err (Err x) P e h = absurd (false≢true (sym e))
