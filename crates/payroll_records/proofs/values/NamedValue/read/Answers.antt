use Rattle.std.proofs.Common.{refl, sym, ◌∙◌, ◌≡◌, ◌+◌, ◌-◌, ℕ, List, length, take, drop, arith, length-drop}
use Rattle.std.specs.Prelude.{Result, Ok, Err}
use Rattle.std.proofs.lemmas.List.{take_all}
use Rattle.payroll_records.proofs.ValueWordLemmas.{unsplit, not_named, not_number, value_read}
use Rattle.payroll_records.proofs.values.NamedValue.read.Goals as goal

rest_whole : (word : List ℕ) (at : ℕ) → take (length word - (at + 1)) (drop (at + 1) word) ≡ drop (at + 1) word
rest_whole word at = take_all (length word - (at + 1)) (drop (at + 1) word) (omega (arith, length-drop (at + 1) word))

pub returns-in_err-at-clause-none : goal.returns-in_err-at-clause-none
returns-in_err-at-clause-none c = rw c.from_residual.ensures (unsplit c.args.word.now (sym c.name_length.ensures ∙ c.in_err-at.was))

pub returns-in_err-name-clause-none : goal.returns-in_err-name-clause-none
returns-in_err-name-clause-none c =
    rw c.from_residual-in_err-name.ensures
    (not_named c.args.word.now c.in_ok-at.at (sym c.name_length.ensures ∙ c.in_ok-at.was) _ refl (λ h. cc (c.in_err-name.ensures.exact.1 h)))

pub returns-in-Ok-clause-read : goal.returns-in-Ok-clause-read
returns-in-Ok-clause-read c =
    let number = (c.read_dec.ensures.number c.in-Ok.value).0 c.in-Ok.is in
    value_read c.args.word.now c.in_ok-at.at (sym c.name_length.ensures ∙ c.in_ok-at.was) c.in_ok-name.name _ _ c.in-Ok.value refl c.in_ok-name.ensures.read (c.in_ok-name.ensures.exact.0 refl) (rest_whole c.args.word.now c.in_ok-at.at) number.0 number.1

pub returns-in-Err-clause-none : goal.returns-in-Err-clause-none
returns-in-Err-clause-none c =
    not_number c.args.word.now c.in_ok-at.at (sym c.name_length.ensures ∙ c.in_ok-at.was) _ (rest_whole c.args.word.now c.in_ok-at.at) (λ d spelled kept. not_read c.read_dec.result c.in-Err.field-0 d c.in-Err.is ((c.read_dec.ensures.number d).1 (spelled, kept)))
  where
    not_read : {A E : Type 0} (r : Result A E) (e : E) (d : A) → r ≡ Err e → r ≡ Ok d → ⊥
    not_read r e d p q = cc (sym p ∙ q)
