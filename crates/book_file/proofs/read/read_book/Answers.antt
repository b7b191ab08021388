use Rattle.std.proofs.Common.{Ok, arith, map, subst}
use Rattle.std.proofs.lemmas.Result.{err_from_is_err_and}
use Rattle.saved_items.specs.ItemFaults.{IsItemFaultOrMemory, plan_in, saved_in}
use Rattle.book_year.specs.Accepted.{plans_in}
use Rattle.recalc_engine.specs.declared.book.RestoredBook.{RestoredBook}
use Rattle.book_file.specs.BookSays.{BookSays}
use Rattle.book_file.specs.Clauses.{IsBookFaultOrMemory}
use Rattle.book_file.specs.private.Views.{AreEntriesOf, HasNoPlan, IsBookOf}
use Rattle.book_file.proofs.ReadLemmas.{breaks, counts_read, err_holds, err_more, ok_more, says_book, unread_broken, unread_whole}
use Rattle.book_file.proofs.read.read_book.Goals as goal

pub returns-in_err-accept_plans-in-Err-Form-clause-refused :
    goal.returns-in_err-accept_plans-in-Err-Form-clause-refused
returns-in_err-accept_plans-in-Err-Form-clause-refused g c =
    let p = err_from_is_err_and c.from_residual.result c.from_residual.ensures.1 in
    let stops = subst (IsItemFaultOrMemory c.args.bytes.now) c.in-Err-Form.field-0-is c.in-Err-Form.ensures.err in
    let given = c.in_err-accept_plans-in-Err-Form.field-0.0 in
    let no_plan = subst (λ t. HasNoPlan (map plan_in t) given) c.deref.ensures.value c.in_err-accept_plans-in-Err-Form.ensures.refused in
    err_holds c.from_residual.result (IsBookFaultOrMemory c.args.bytes.now) p.0 given p.1 p.2
    (unread_broken c.args.bytes.now (omega (arith, c.if-bytes-gt-MOST_BOOK_TEXT.false)) _ given stops no_plan)

pub returns-in-Ok-clause-read : goal.returns-in-Ok-clause-read
returns-in-Ok-clause-read g c =
    let bytes = c.args.bytes.now in
    let saved = saved_in c.in-Ok.items in
    ok_more c.restore.result (λ (r : RestoredBook). IsBookOf saved r.book)
    (λ (r : RestoredBook). BookSays bytes (Ok r.book))
    (λ r of. says_book bytes (omega (arith, c.if-bytes-gt-MOST_BOOK_TEXT.false)) saved r.book c.in-Ok.ensures.ok of)
    c.restore.ensures.made

pub returns-in-Ok-clause-refused : goal.returns-in-Ok-clause-refused
returns-in-Ok-clause-refused g c =
    let bytes = c.args.bytes.now in
    let saved = saved_in c.in-Ok.items in
    err_more c.restore.result (HasNoPlan saved.plans) (IsBookFaultOrMemory bytes)
    (λ why bad. unread_whole bytes (omega (arith, c.if-bytes-gt-MOST_BOOK_TEXT.false)) saved why c.in-Ok.ensures.ok bad) c.restore.ensures.refused

pub returns-in-Ok-clause-counted : goal.returns-in-Ok-clause-counted
returns-in-Ok-clause-counted g c =
    counts_read c.args.bytes.now (omega (arith, c.if-bytes-gt-MOST_BOOK_TEXT.false)) (saved_in c.in-Ok.items) c.restore.result c.args.steps.now
    c.restore.new.steps c.in-Ok.ensures.ok c.restore.ensures.counted

pub returns-in_ok-accept_plans-in-Err-Form-clause-refused :
    goal.returns-in_ok-accept_plans-in-Err-Form-clause-refused
returns-in_ok-accept_plans-in-Err-Form-clause-refused g c =
    let stops = subst (IsItemFaultOrMemory c.args.bytes.now) c.in-Err-Form.field-0-is c.in-Err-Form.ensures.err in
    let es = plans_in c.in_ok-accept_plans-in-Err-Form.field-0 in
    breaks c.args.bytes.now (omega (arith, c.if-bytes-gt-MOST_BOOK_TEXT.false)) _ es stops
    (subst (λ t. AreEntriesOf (map plan_in t) es) c.deref.ensures.value c.in_ok-accept_plans-in-Err-Form.ensures.ok)
