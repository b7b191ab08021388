-- Ranges after changes.
use Rattle.std.proofs.Common.{◌≡◌, ◌≢◌, ℕ, ◌<◌, List, [], ◌∷◌, ◌++◌, length, set, Option, Some, None, refl, sym, ap, ◌∙◌, arith, inl, inr}
use Rattle.std.specs.Prelude.{slice_get}
use Rattle.std.proofs.lemmas.Bool.{cases_lt}
use Rattle.std.proofs.lemmas.List.{length-set, get_or-set_same, get_or-set_other}
use Rattle.std.proofs.lemmas.Option.{slice_get_past, slice_get-get_or}
use Rattle.interval_num.specs.Intervals.{Interval}
use Rattle.interval_analysis.specs.declared.branches.Change.{Change}
use Rattle.interval_analysis.specs.private.Changes.{after_change, changed}

pub changed-append : (rs : List Interval) (cs ds : List Change) → changed rs (cs ++ ds) ≡ changed (changed rs cs) ds
changed-append rs [] ds = refl
changed-append rs (c ∷ cs) ds = changed-append (set rs c.number c.range) cs ds

pub length-changed : (rs : List Interval) (cs : List Change) → length (changed rs cs) ≡ length rs
length-changed rs [] = refl
length-changed rs (c ∷ cs) = length-changed (set rs c.number c.range) cs ∙ length-set rs c.number c.range

pub set_there : {X : Type 0} (rs : List X) (i : ℕ) (a : X) → i < length rs → slice_get (set rs i a) i ≡ Some a
set_there rs i a l =
    let count = length-set rs i a in
    slice_get-get_or (set rs i a) i a (omega (arith, count)) ∙ ap Some (get_or-set_same rs i a a l)

pub set_elsewhere : {X : Type 0} (rs : List X) (i j : ℕ) (a : X) → j ≢ i → slice_get (set rs i a) j ≡ slice_get rs j
set_elsewhere rs i j a ne =
    let count = length-set rs i a in
    elim (cases_lt j (length rs)) [
      | inl less ↦ slice_get-get_or (set rs i a) j a (omega (arith, count)) ∙ ap Some (get_or-set_other rs i j a a ne) ∙ sym (slice_get-get_or rs j a less)
      | inr past ↦ slice_get_past (set rs i a) j (omega (arith, count)) ∙ sym (slice_get_past rs j past)
    ]

-- the range of a variable after a change: the change's, where it is of this variable
pub change_here : (rs : List Interval) (c : Change) (n : ℕ) → n < length rs → c.number ≡ n → slice_get (after_change rs (Some c)) n ≡ Some c.range
change_here rs c n l here = ap (λ k. slice_get (set rs k c.range) n) here ∙ set_there rs n c.range l

-- and else that of before
pub change_elsewhere : (rs : List Interval) (c : Change) (n : ℕ) → c.number ≢ n → slice_get (after_change rs (Some c)) n ≡ slice_get rs n
change_elsewhere rs c n ne = set_elsewhere rs c.number n c.range (λ same. ne (sym same))

pub length-after_change : (rs : List Interval) (o : Option Change) → length (after_change rs o) ≡ length rs
length-after_change rs None = refl
length-after_change rs (Some c) = length-set rs c.number c.range
