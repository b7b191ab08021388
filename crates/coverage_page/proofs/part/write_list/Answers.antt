use Rattle.std.proofs.Common.{◌++◌, sym, ap, ◌∙◌}
use Rattle.std.proofs.lemmas.Bool.{false≢true}
use Rattle.std.proofs.lemmas.Result.{on_ok_weaker}
use Rattle.coverage_page.proofs.PartLemmas.{no_entries, some_entries}
use Rattle.coverage_page.proofs.part.write_list.Goals as goal

pub returns-then-is_empty : goal.returns-then-is_empty
returns-then-is_empty c =
    on_ok_weaker c.put_nothing.result
    (λ e. e ∙ ap (λ l. c.args.part.now ++ l) (no_entries c.args.entries.now (c.is_empty.ensures.0 c.if-is_empty.true)))
    c.put_nothing.ensures

pub returns-else-is_empty : goal.returns-else-is_empty
returns-else-is_empty c =
    on_ok_weaker c.put_list.result
    (λ e. e ∙ ap (λ l. c.args.part.now ++ l)
    (some_entries c.args.entries.now (λ none. false≢true (sym c.if-is_empty.false ∙ c.is_empty.ensures.1 none))))
    c.put_list.ensures
