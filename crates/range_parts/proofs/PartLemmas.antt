-- Limits that are split at the range of an input are two parts, which hold all inputs.
use Rattle.std.proofs.Common.{◌≡◌, List, [], ◌∷◌, ℕ, inl, inr, true, Some, sym, ap, ◌∙◌, subst}
use Rattle.std.specs.Prelude.{All, Bool}
use Rattle.std.specs.List.{find}
use Rattle.std.specs.Str.{bytes_eq}
use Rattle.std.proofs.lemmas.Bool.{cases_Bool}
use Rattle.std.proofs.lemmas.List.Elements.{All-nil, All-cons, All-head, All-tail}
use Rattle.std.proofs.lemmas.Option.{none-some}
use Rattle.pap_tree.specs.Flowchart.{Flowchart}
use Rattle.limits_file.specs.declared.limits.InputLimit.{InputLimit}
use Rattle.limits_file.specs.declared.limits.Limits.{Limits}
use Rattle.limits_file.specs.Limits.{limit_named, HasSoundBounds}
use Rattle.pap_types.specs.Checks.{IsWellTyped}
use Rattle.pap_types.proofs.Laws.{has_types}
use Rattle.interval_walk.specs.Admission.{HaveLimits}
use Rattle.range_parts.specs.declared.parts.Halves.{Halves}
use Rattle.range_parts.specs.Parts.{IsRangePart, AreRangeParts}
use Rattle.range_parts.specs.private.HalfViews.{replaced, replaced_in, IsHalf, AreHalves}
use Rattle.range_parts.proofs.NamedLemmas.{admitted_back, some_limit, eq_true, cond_true, cond_false}
use Rattle.range_parts.proofs.CoverLemmas.{in_parts}

-- what is found passes the test
found_test : (test : InputLimit → Bool) (ls : List InputLimit) (l : InputLimit) → find test ls ≡ Some l → test l ≡ true
found_test test [] l e = absurd (none-some l e)
found_test test (x ∷ ls) l e = elim (cases_Bool (test x)) [
  | inl same ↦ (
      let is : x ≡ l = some_limit x l (sym (cond_true (test x) (Some x) (find test ls) same) ∙ e) in
      subst (λ y. test y ≡ true) is same)
  | inr other ↦ found_test test ls l (sym (cond_false (test x) (Some x) (find test ls) other) ∙ e)
]

-- the limit of a name has it
found_named : (limits : Limits) (n : List ℕ) (l : InputLimit) → limit_named limits n ≡ Some l → l.name ≡ n
found_named limits n l e = eq_true l.name n (found_test (λ m. bytes_eq m.name n) limits.inputs l e)

pub replaced_sound : (x : InputLimit) (ls : List InputLimit) → HasSoundBounds x → All HasSoundBounds ls
    → All HasSoundBounds (replaced_in x ls)
replaced_sound x [] h all = All-nil HasSoundBounds
replaced_sound x (l ∷ ls) h all =
    All-cons HasSoundBounds (replaced x l) (replaced_in x ls)
    (elim (cases_Bool (bytes_eq l.name x.name)) [
      | inl same ↦ subst HasSoundBounds (sym (cond_true (bytes_eq l.name x.name) x l same)) h
      | inr other ↦ subst HasSoundBounds (sym (cond_false (bytes_eq l.name x.name) x l other)) (All-head HasSoundBounds l ls all)
    ])
    (replaced_sound x ls h (All-tail HasSoundBounds l ls all))

module _ (f : Flowchart) (limits : Limits) (l : InputLimit) (n : List ℕ) (is : limit_named limits n ≡ Some l)
    (sound : All HasSoundBounds limits.inputs) where
  -- the limit of a half's name
  half_named : (x : InputLimit) → IsHalf l x → limit_named limits x.name ≡ Some l
  half_named x h = ap (limit_named limits) (h.name ∙ found_named limits n l is) ∙ is

  is_part : (part : Limits) (x : InputLimit) → IsHalf l x → part.inputs ≡ replaced_in x limits.inputs
      → HaveLimits f part → IsRangePart f limits part
  is_part part x h e ranged = record {
    ranged = ranged;
    sound = subst (All HasSoundBounds) (sym e) (replaced_sound x limits.inputs h.sound sound);
    within = λ inputs a.
        admitted_back limits part x l (record { inputs = e }) (half_named x h) h.within f.inputs inputs a;
  }

  pub are_parts : (first second : Limits) (h : Halves) → IsWellTyped f → AreHalves l h
      → first.inputs ≡ replaced_in h.first limits.inputs → second.inputs ≡ replaced_in h.second limits.inputs
      → HaveLimits f first → HaveLimits f second → AreRangeParts f limits (record { first = first; second = second })
  are_parts first second h typed halves e g one other = record {
    first = is_part first h.first halves.first e one;
    second = is_part second h.second halves.second g other;
    cover = λ inputs a.
        in_parts limits first second h.first h.second l (halves.first.name ∙ sym halves.second.name)
        (half_named h.first halves.first) (record { inputs = e }) (record { inputs = g }) halves.cover
        f.inputs _ inputs (has_types f typed).names a;
  }
