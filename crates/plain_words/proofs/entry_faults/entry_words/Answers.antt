use Rattle.std.proofs.Common.{◌≡◌, ◌++◌, ◌∙◌, ap, sym}
use Rattle.std.specs.Prelude.{codes, string_bytes}
use Rattle.std.proofs.lemmas.Result.{IfOk-weaker}
use Rattle.plain_words.specs.Places.{files_of, words_at}
use Rattle.plain_words.specs.EntryTexts.{BeginsAtEntry}
use Rattle.plain_words.specs.private.FoundViews.{help_text, place_of}
use Rattle.plain_words.proofs.RangePlaces.{begins_at_entry}
use Rattle.plain_words.proofs.entry_faults.entry_words.Goals as goal

pub returns-clause-place : goal.returns-clause-place
returns-clause-place c =
    let files = files_of c.args.plan c.args.limits in
    let found = c.in_ok-found.found in
    let wrong = c.deref.result.now in
    let is = c.deref.ensures ∙ (c.in_ok-wrong.ensures.ok ∙ ap (λ front. front ++ string_bytes c.find_fault.new.told) c.in_ok-front.ensures) in
    IfOk-weaker c.reason_line.result (λ words. string_bytes words ≡ words_at files (place_of found) (wrong ++ (codes "; " ++ help_text found)))
    (λ words. BeginsAtEntry files c.args.fault.now (string_bytes words))
    (λ words says. begins_at_entry files c.args.fault.now found wrong (string_bytes c.find_fault.new.told) (string_bytes words)
    c.in_ok-found.ensures.file c.in_ok-found.ensures.at is says) c.reason_line.ensures.text
