use Rattle.std.proofs.Common.{◌≡◌, arith, ap, refl, sym, ◌∙◌}
use Rattle.chart_layout.specs.Drawn.{drawn_statement}
use Rattle.chart_layout.specs.private.Drawn.{figures_statements}
use Rattle.chart_layout.specs.Statements.{statements_of}
use Rattle.chart_layout.specs.private.Statements.{statements_in, Adds}
use Rattle.pap_reader.specs.Trees.{raw_body_of}
use Rattle.chart_layout.proofs.AddingLemmas.{adds_next, adds_all, adds_as, adds_if, of_eval, of_execute, of_if}
use Rattle.chart_layout.specs.Trees.{above, fork, step, stop}
use Rattle.chart_layout.specs.private.Trees.{figures_tree, drawing_in}
use Rattle.chart_layout.proofs.DrawnLemmas.{on_ok}
use Rattle.chart_layout.proofs.TreeLemmas.{tree_next, tree_all, tree_as, tree_of_eval, tree_of_execute, tree_of_if}
use Rattle.chart_layout.proofs.build.Builder.+build.Goals.{statement-in-Eval+in_ok-evaluation-in-Eval, statement-in-Execute+in_ok-execution-in-Execute, statement-in-If+in_ok-test-in-If+in_ok-then-in-If+in_ok-otherwise-in-If+in_ok-push_choice-in-If}
use Rattle.chart_layout.proofs.build.Builder.+build.Goals as goal

-- one statement more
pub body-loop-statement-preserved : goal.body-loop-statement-preserved
body-loop-statement-preserved t c = (
  adds_next c.args.self.now.numbering c.loop-statement.self.numbering c.statement.new.self.numbering c.args.statements.now c.loop-statement.statement-index
      c.statement-item.result (figures_statements c.args.figures.now.items) (figures_statements c.loop-statement.figures.items)
      (figures_statements c.statement.new.figures.items) (omega (arith, c.loop-statement-test.true)) c.statement-item.is c.loop-statement.invariant.0
      c.in_ok-statement.ensures.statements,
  tree_next c.args.statements.now c.loop-statement.statement-index c.loop-statement.self.numbering.next c.statement.new.self.numbering.next
      c.statement-item.result (figures_tree c.loop-statement.figures.items) (figures_tree c.statement.new.figures.items) _
      (omega (arith, c.loop-statement-test.true)) c.statement-item.is (ap (λ n. n.next) c.in_ok-statement.ensures.statements.behind)
      c.in_ok-statement.ensures.tree c.loop-statement.invariant.1,
)

pub body-returns-clause-statements : goal.body-returns-clause-statements
body-returns-clause-statements t c =
    on_ok c.next_tag.result (λ same.
    adds_all c.args.self.now.numbering c.loop-statement.self.numbering c.next_tag.new.self.numbering c.args.statements.now c.loop-statement.statement-index
    (figures_statements c.args.figures.now.items) (figures_statements c.loop-statement.figures.items)
    (figures_statements c.next_tag.new.figures.items) (omega (arith, c.loop-statement-test.false)) c.next_tag.ensures.numbering same
    c.loop-statement.invariant.0)
    c.next_tag.ensures.same

pub body-returns-clause-tree : goal.body-returns-clause-tree
body-returns-clause-tree t c =
    on_ok c.next_tag.result (λ same.
    tree_all c.args.statements.now c.loop-statement.statement-index c.loop-statement.self.numbering.next (figures_tree c.loop-statement.figures.items)
    (figures_tree c.next_tag.new.figures.items) _ (omega (arith, c.loop-statement-test.false)) same c.loop-statement.invariant.1)
    c.next_tag.ensures.tree

pub statement-returns-clause-statements : goal.statement-returns-clause-statements
statement-returns-clause-statements t c =
    let from = c.next_tag.new.self.numbering in
    let to = c.match-statement.self.numbering in
    let old = figures_statements c.next_tag.new.figures.items in
    let new = figures_statements c.match-statement.figures.items in
    let ss = statements_in c.args.statement.now in
    let middle : Adds from to ss old new = elim c.match-statement.branch [
      | statement-in-Eval+in_ok-evaluation-in-Eval w ↦
          adds_as from w.evaluation.new.self.numbering from to _ ss old (figures_statements w.evaluation.new.figures.items) old new
          refl (ap (λ b. b.numbering) (sym w.self-is)) (of_eval c.args.statement.now w.in-Eval.exec w.deref.result.now w.in-Eval.is w.deref.ensures.value)
          refl (ap (λ f. figures_statements f.items) (sym w.figures-is)) w.in_ok-evaluation-in-Eval.ensures.statements
      | statement-in-Execute+in_ok-execution-in-Execute w ↦
          adds_as from w.execution.new.self.numbering from to _ ss old (figures_statements w.execution.new.figures.items) old new
          refl (ap (λ b. b.numbering) (sym w.self-is)) (of_execute c.args.statement.now _ w.in-Execute.is)
          refl (ap (λ f. figures_statements f.items) (sym w.figures-is)) w.in_ok-execution-in-Execute.ensures.statements
      | statement-in-If+in_ok-test-in-If+in_ok-then-in-If+in_ok-otherwise-in-If+in_ok-push_choice-in-If w ↦
          adds_as from w.otherwise.new.self.numbering from to _ ss old (figures_statements w.push_choice.new.figures.items) old new
          refl (ap (λ b. b.numbering) (sym w.self-is))
          (of_if c.args.statement.now w.in-If.test w.in-If.yes w.in-If.no w.deref-in-If.result.now w.deref-in-If-2.result.now w.deref-in-If-3.result.now
          w.in-If.is w.deref-in-If.ensures.value w.deref-in-If-2.ensures.value w.deref-in-If-3.ensures.value)
          refl (ap (λ f. figures_statements f.items) (sym w.figures-is))
          (adds_if from w.next_test.new.self.numbering w.branch-self.new.self.numbering w.otherwise.new.self.numbering w.deref-in-If.result.now
          (statements_of (raw_body_of w.deref-in-If-2.result.now)) (statements_of (raw_body_of w.deref-in-If-3.result.now))
          (drawn_statement w.in_ok-test-in-If.test) (figures_statements w.in_ok-then-in-If.then.items)
          (figures_statements w.in_ok-otherwise-in-If.otherwise.items) old (figures_statements w.push_choice.new.figures.items)
          w.in_ok-test-in-If.ensures.drawn w.in_ok-test-in-If.ensures.numbering w.in_ok-then-in-If.ensures.statements
          w.in_ok-otherwise-in-If.ensures.statements w.in_ok-push_choice-in-If.ensures.statements)
    ] in
    on_ok c.next_tag-2.result (λ same.
    adds_as from to c.args.self.now.numbering c.next_tag-2.new.self.numbering ss ss old new (figures_statements c.args.figures.now.items)
    (figures_statements c.next_tag-2.new.figures.items) c.in_ok-next_tag.ensures.numbering (sym c.next_tag-2.ensures.numbering) refl
    c.in_ok-next_tag.ensures.same (sym same) middle)
    c.next_tag-2.ensures.same

pub statement-returns-clause-tree : goal.statement-returns-clause-tree
statement-returns-clause-tree t c =
    let n = c.next_tag.new.self.numbering.next in
    let s = c.args.statement.now in
    let old = figures_tree c.next_tag.new.figures.items in
    let new = figures_tree c.match-statement.figures.items in
    let middle : new ≡ above old (drawing_in n s) = elim c.match-statement.branch [
      | statement-in-Eval+in_ok-evaluation-in-Eval w ↦
          tree_as old (figures_tree w.evaluation.new.figures.items) old new (step n stop) (drawing_in n s) refl
          (ap (λ f. figures_tree f.items) (sym w.figures-is)) (tree_of_eval n s w.in-Eval.exec w.in-Eval.is)
          w.in_ok-evaluation-in-Eval.ensures.tree
      | statement-in-Execute+in_ok-execution-in-Execute w ↦
          tree_as old (figures_tree w.execution.new.figures.items) old new (step n stop) (drawing_in n s) refl
          (ap (λ f. figures_tree f.items) (sym w.figures-is)) (tree_of_execute n s _ w.in-Execute.is)
          w.in_ok-execution-in-Execute.ensures.tree
      | statement-in-If+in_ok-test-in-If+in_ok-then-in-If+in_ok-otherwise-in-If+in_ok-push_choice-in-If w ↦
          let yes = figures_tree w.in_ok-then-in-If.then.items in
          let no = figures_tree w.in_ok-otherwise-in-If.otherwise.items in
          tree_as old (figures_tree w.push_choice.new.figures.items) old new (fork w.in_ok-test-in-If.test.number yes no stop) (drawing_in n s) refl
          (ap (λ f. figures_tree f.items) (sym w.figures-is))
          (ap (λ k. fork k yes no stop) w.in_ok-test-in-If.ensures.drawn.0
          ∙ tree_of_if n w.next_test.new.self.numbering.next w.branch-self.new.self.numbering.next s w.in-If.test w.in-If.yes w.in-If.no
          w.deref-in-If-2.result.now w.deref-in-If-3.result.now yes no w.in-If.is w.deref-in-If-2.ensures.value w.deref-in-If-3.ensures.value
          (ap (λ k. k.next) w.in_ok-test-in-If.ensures.numbering) (ap (λ k. k.next) w.in_ok-then-in-If.ensures.statements.behind)
          w.in_ok-then-in-If.ensures.tree w.in_ok-otherwise-in-If.ensures.tree)
          w.in_ok-push_choice-in-If.ensures.tree
    ] in
    on_ok c.next_tag-2.result (λ same.
    tree_as old new (figures_tree c.args.figures.now.items) (figures_tree c.next_tag-2.new.figures.items) (drawing_in n s)
    (drawing_in c.args.self.now.numbering.next s) c.in_ok-next_tag.ensures.tree (sym same)
    (ap (λ k. drawing_in k.next s) c.in_ok-next_tag.ensures.numbering) middle)
    c.next_tag-2.ensures.tree
