use Rattle.std.proofs.Common.{◌≡◌, ap, sym, ◌∙◌}
use Rattle.std.specs.Prelude.{Some}
use Rattle.std.proofs.lemmas.Bool.{false≢true}
use Rattle.saved_items.specs.private.LineViews.{texts}
use Rattle.saved_items.proofs.WordListLemmas.{run_rest, run_values, run_same, is_spelled, no_text, some_once}
use Rattle.saved_items.proofs.run_words.run_of.Goals as goal

pub returns-in_default-read-2 : goal.returns-in_default-read-2
returns-in_default-read-2 c = λ r h e.
    let parts = run_rest (texts c.args.words.now) c.in-Some.rest.now no_text r c.in-Some.ensures
    c.in-len2-up.len_at_least e in
    absurd (false≢true (c.in_default-read-2.ensures.exact.1 (is_spelled _ r.day parts.1)))

pub returns-in_default-2 : goal.returns-in_default-2
returns-in_default-2 c = λ r h e.
    let read = c.in_ok-values.ensures r.values h.values h.each
    (run_values (texts c.args.words.now) c.in-Some.rest.now r c.in-Some.ensures c.in-len2-up.len_at_least e) in
    let clash = sym c.in_default-2.is ∙ read in
    cc

pub returns : goal.returns
returns c = λ r h e.
    let parts = run_rest (texts c.args.words.now) c.in-Some.rest.now no_text r c.in-Some.ensures
    c.in-len2-up.len_at_least e in
    let read = c.in_ok-values.ensures r.values h.values h.each parts.2 in
    let values : c.in-Some-2.values ≡ r.values = some_once (sym c.in-Some-2.is ∙ read) in
    ap (λ x. Some x) (run_same c.in-Some-read.employee _ c.in-Some-read-2.day c.in-Some-2.values r
    (c.in-Some-read.ensures.read ∙ parts.0) c.in-Some-read-2.ensures.value parts.1 values)
