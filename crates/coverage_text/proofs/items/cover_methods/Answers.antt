use Rattle.std.proofs.Common.{Bor}
use Rattle.std.specs.Prelude.{option_map}
use Rattle.statement_list.specs.declared.list.ListedMethod.{ListedMethod}
use Rattle.run_coverage.specs.declared.runs.MethodRuns.{MethodRuns}
use Rattle.coverage_text.specs.FlowchartItems.{known_in, covered_methods}
use Rattle.coverage_text.proofs.ItemLemmas.{one_method}
use Rattle.coverage_text.proofs.items.cover_methods.Goals as goal

pub loop-number-preserved : goal.loop-number-preserved
loop-number-preserved c =
    let known = known_in c.args.known in
    let names = c.args.names.now in
    let listed = c.args.listed.now in
    let runs = c.args.runs.now in
    one_method known names listed runs c.loop-number.number c.index-names-number.result
    (option_map (λ (m : Bor ListedMethod). m.now) c.listed_at.result)
    (option_map (λ (m : Bor MethodRuns). m.now) c.method_runs_at.result)
    c.loop-number.methods.items c.add_method.new.methods.items (covered_methods known 0 names listed runs)
    c.index-names-number.is c.loop-number-test.true c.listed_at.ensures c.method_runs_at.ensures c.loop-number.invariant
    c.in_ok-add_method.ensures
