use Rattle.std.proofs.Common.{◌≡◌, ◌<◌, ◌++◌, ◌∷◌, ◌-◌, ℕ, List, length, take, drop, get_or, arith, rules, length-drop, sym, ap, ◌∙◌}
use Rattle.std.proofs.Math.Seq.{drop-cons}
use Rattle.std.proofs.lemmas.Bool.Decides.{Decides-eqb}
use Rattle.std.proofs.lemmas.List.{take_all}
use Rattle.std.proofs.lemmas.Slice.Eq.{strip_prefix_is}
use Rattle.payroll_records.proofs.name_order.behind_name.Goals as goal

first_and_rest : (rest : List ℕ) (b : ℕ) → b ≡ get_or rest 0 b → 0 < length rest → rest ≡ b ∷ take (length rest - 1) (drop 1 rest)
first_and_rest rest b is lt = drop-cons rest 0 b lt ∙ ap (λ c. c ∷ drop 1 rest) (sym is) ∙ ap (λ t. b ∷ t) (sym (take_all (length rest - 1) (drop 1 rest) (omega (arith, length-drop 1 rest))))

pub returns-in-61-clause-split : goal.returns-in-61-clause-split
returns-in-61-clause-split c =
    let rest = c.in_ok-strip_prefix.field-0.now in
    let whole = strip_prefix_is Decides-eqb c.args.word.now c.bytes.result.now c.strip_prefix.result c.strip_prefix.ensures.cases in
    let split : c.args.word.now ≡ c.bytes.result.now ++ rest = rw c.in_ok-strip_prefix.was at whole in
    let first : get_or rest 0 61 ≡ 61 = search rules in
    let parts = first_and_rest rest 61 (sym first) (omega (arith, c.in-61.len_at_least)) in
    split ∙ ap (λ n. n ++ rest) c.bytes.ensures.bytes ∙ ap (λ t. c.args.name.now ++ t) parts
