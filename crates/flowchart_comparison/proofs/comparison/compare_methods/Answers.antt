use Rattle.std.proofs.Common.{rules, arith, sym, subst}
use Rattle.std.specs.List.{All}
use Rattle.std.proofs.lemmas.Grind.{common_steps}
use Rattle.std.proofs.lemmas.List.Elements.{All-push}
use Rattle.flowchart_comparison.specs.Comparisons.{ComparedMethod, AreLinesTold}
use Rattle.flowchart_comparison.proofs.comparison.compare_methods.Goals as goal

pub loop-pair-preserved : goal.loop-pair-preserved
loop-pair-preserved c =
    let old = c.args.old.now in
    let new = c.args.new.now in
    let m = c.in_ok-compare_method.field-0 in
    record {
      methods = first_of (search rules, grind (arith, common_steps));
      lines = subst (λ l. All (λ (m : ComparedMethod). AreLinesTold old new m.method m.lines) l) (sym c.in_ok-push.ensures.items)
          (All-push (λ (m : ComparedMethod). AreLinesTold old new m.method m.lines) c.loop-pair.methods.items m
          c.loop-pair.invariant.lines
          (subst (λ e. AreLinesTold old new e m.lines) (sym c.in_ok-compare_method.ensures.method)
          c.in_ok-compare_method.ensures.lines));
    }
