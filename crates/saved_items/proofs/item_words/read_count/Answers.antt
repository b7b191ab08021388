use Rattle.std.proofs.Common.{◌≡◌, ◌<◌, ◌≤◌, ℕ, List, [], ◌∷◌, length, get_or, ap, ◌∙◌, arith}
use denote.Ref.{Bor}
use Rattle.scaled_decimal.specs.PlainTexts.{whole_text}
use Rattle.payroll_records.specs.Tables.{Text}
use Rattle.saved_items.specs.private.LineViews.{texts}
use Rattle.saved_items.proofs.NextLemmas.{none_within}
use Rattle.saved_items.proofs.item_words.read_count.Goals as goal

one_number : (words : List Text) (first : Text) (rest : List (Bor Text)) (d : Bor Text) (n : ℕ) →
    words ≡ first ∷ texts rest → 1 ≤ length rest → length rest < 2 → (get_or rest 0 d).now ≡ whole_text n →
    words ≡ first ∷ whole_text n ∷ []
one_number words first (a ∷ []) d n e some few p = e ∙ ap (λ t. first ∷ t ∷ []) p
one_number words first [] d n e some few p = absurd (omega (arith, some))
one_number words first (a ∷ b ∷ more) d n e some few p = absurd (omega (arith, few))

pub returns-then-count-most : goal.returns-then-count-most
returns-then-count-most c =
    let is = one_number (texts c.args.words.now) c.args.first.now c.in_ok-rest.rest.now _ c.in_ok-count.count
    c.in_ok-rest.ensures c.in-len1.len_at_least c.in-len1.len_below c.in_ok-count.ensures in
    none_within c.args.first.now (texts c.args.words.now) c.in_ok-count.count c.args.most is c.if-count-most.true
