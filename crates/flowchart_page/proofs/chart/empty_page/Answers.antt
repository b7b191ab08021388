use Rattle.std.proofs.Common.{[], ◌++◌, sym, subst}
use Rattle.std.specs.Prelude.{option_map}
use Rattle.std.proofs.lemmas.List.{append-nil}
use Rattle.std.proofs.lemmas.Result.{IfOk-weaker}
use Rattle.flowchart_methods.specs.declared.site.Site.TheVariants.{Nowhere}
use Rattle.flowchart_page.specs.Pages.{IsWholePage}
use Rattle.flowchart_page.specs.private.PageViews.{IsAround}
use Rattle.flowchart_page.specs.private.VerdictViews.{verdict_text}
use Rattle.flowchart_page.specs.Runs.{run_parts, run_subject, run_texts}
use Rattle.flowchart_page.proofs.PageLemmas.{whole_page, run_alone}
use Rattle.flowchart_page.proofs.chart.empty_page.Goals as goal

pub returns : goal.returns
returns c =
    let verdict = verdict_text c.args.verdict.now Nowhere in
    let run = option_map run_parts c.args.run in
    let stand = run_alone run [] c.put.new.self c.append_run.new.page c.append_run.new.page c.in_ok-append_run.ensures
    (sym (append-nil c.append_run.new.page)) in
    IfOk-weaker c.page_of.result _ (λ page. IsWholePage (run_subject run) verdict (run_texts run ++ []) page.items)
    (λ page around. whole_page (run_subject run) verdict (run_texts run ++ []) c.append_run.new.page page.items stand
    (subst (λ s. IsAround s verdict c.append_run.new.page page.items) c.subject-subject.ensures around)) c.page_of.ensures
