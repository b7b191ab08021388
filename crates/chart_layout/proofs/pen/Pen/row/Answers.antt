use Rattle.std.proofs.Common.{◌∷◌, [], ◌∙◌, ap, ◌++◌, ◌-◌, refl, arith, vec_len}
use Rattle.chart_layout.specs.Drawn.{row_statements}
use Rattle.chart_layout.specs.Leads.{row_ways}
use Rattle.chart_layout.proofs.DrawnLemmas.{last_part, row_push}
use Rattle.chart_layout.proofs.pen.Pen.row.Goals as goal

pub returns-in_ok-push-clause-statements : goal.returns-in_ok-push-clause-statements
returns-in_ok-push-clause-statements c =
    let parts = c.begin.new.self.parts in
    row_push row_statements _ _ c.args.row
    (last_part parts.items (vec_len parts - 1) c.in-Some.part.now _ c.args.row
    (omega (arith, c.in-Some.ensures.variant.0 refl, parts.ok.0)) (omega (arith, parts.ok.0)) c.in-Some.ensures.value
    c.in_ok-push.ensures.items
    ∙ ap (λ l. l ++ c.args.row ∷ []) c.in_ok-begin.ensures.same)

pub returns-in_ok-push-clause-ways : goal.returns-in_ok-push-clause-ways
returns-in_ok-push-clause-ways c =
    let parts = c.begin.new.self.parts in
    row_push row_ways _ _ c.args.row
    (last_part parts.items (vec_len parts - 1) c.in-Some.part.now _ c.args.row
    (omega (arith, c.in-Some.ensures.variant.0 refl, parts.ok.0)) (omega (arith, parts.ok.0)) c.in-Some.ensures.value
    c.in_ok-push.ensures.items
    ∙ ap (λ l. l ++ c.args.row ∷ []) c.in_ok-begin.ensures.same)
