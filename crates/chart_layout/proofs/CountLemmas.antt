-- How many statements a method has.
use Rattle.std.proofs.Common.{◌≡◌, ℕ, ◌+◌, ◌-◌, ◌^◌, ◌≤◌, List, [], ◌∷◌, length, ap, ◌∙◌, arith}
use Rattle.std.specs.Prelude.{min}
use Rattle.chart_layout.specs.declared.build.Numbering.{Numbering}
use Rattle.chart_layout.specs.Drawn.{Drawn}
use Rattle.chart_layout.specs.Statements.{FileStatement, next_number, number_behind}
use Rattle.chart_layout.specs.private.Statements.{Adds}
use Rattle.chart_layout.specs.Counts.{count_of}

counted : (number : ℕ) (ss : List FileStatement) → number ≤ 2 ^ 32 - 1
    → number_behind number ss ≡ min (number + length ss) (2 ^ 32 - 1)
counted number [] within = omega (arith, within)
counted number (s ∷ ss) within =
    let rest = counted (next_number number) ss (omega arith) in omega (arith, rest)

-- those of a method
pub method_count : (from to : Numbering) (ss : List FileStatement) (old new : List Drawn) → from.next ≡ 0
    → Adds from to ss old new → to.next ≡ count_of ss
method_count from to ss old new start adds =
    let all = counted 0 ss (omega arith) in
    let from_none : number_behind 0 ss ≡ count_of ss = omega (arith, all) in
    ap (λ (n : Numbering). n.next) adds.behind ∙ ap (λ n. number_behind n ss) start ∙ from_none
