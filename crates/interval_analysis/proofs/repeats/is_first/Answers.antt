use Rattle.std.proofs.Common.{◌≡◌, ◌≢◌, ℕ, ◌<◌, Bool, true, false, nat_eq, List, length, get_or, Some, refl, sym, ap, ◌∙◌, arith}
use Rattle.std.specs.Prelude.{slice_get, not}
use Rattle.std.proofs.lemmas.Bool.Decides.{nat_tests}
use Rattle.std.proofs.lemmas.Option.{slice_get-get_or}
use Rattle.interval_analysis.specs.declared.branches.Change.{Change}
use Rattle.interval_analysis.specs.private.Notes.{FirstAnswer, IsFirst, IsRepeated}
use Rattle.interval_analysis.proofs.NoteLemmas.{within_of}
use Rattle.interval_analysis.proofs.RepeatLemmas.{placed_other, seen_over}
use Rattle.interval_analysis.proofs.repeats.is_first.Goals as goal

equal_of : (a b : ℕ) → nat_eq a b ≡ true → a ≡ b
equal_of a b h = grind (arith, nat_tests, h)

unequal_of : (a b : ℕ) → nat_eq a b ≡ false → a ≢ b
unequal_of a b h = λ same. grind (arith, nat_tests, h, same)

either_way : (places : List ℕ) (cs : List Change) (n : ℕ) (same : Bool) → (same ≡ false → IsFirst places cs n) → (same ≡ true → IsRepeated places cs n) → FirstAnswer places cs n (not same)
either_way places cs n true h k = k refl
either_way places cs n false h k = h refl

pub returns-then-place-notes : goal.returns-then-place-notes
returns-then-place-notes c =
    let places = c.args.places.now in
    let cs = c.args.notes.now in
    let n = c.args.number in
    let within : n < length places = omega (arith, c.if-number-places.false) in
    record {
      within = within;
      other = placed_other 0 places cs n (get_or places n 0) c.requires (slice_get-get_or places n 0 within) (λ i d e q. let less = within_of cs i d e in absurd (omega (arith, less, q, c.if-place-notes.true)));
    }

pub returns : goal.returns
returns c =
    let places = c.args.places.now in
    let cs = c.args.notes.now in
    let n = c.args.number in
    let place = get_or places n 0 in
    let d = get_or cs place c.index-notes-place.result in
    let within : n < length places = omega (arith, c.if-number-places.false) in
    let less : place < length cs = omega (arith, c.if-place-notes.false) in
    let there : slice_get cs place ≡ Some d = slice_get-get_or cs place c.index-notes-place.result less in
    either_way places cs n (nat_eq d.number n)
    (λ no. record {
      within = within;
      other = placed_other 0 places cs n place c.requires (slice_get-get_or places n 0 within) (λ i e f q same.
          let at : i ≡ place = omega (arith, q) in
          let both : Some e ≡ Some d = sym f ∙ ap (slice_get cs) at ∙ there in
          let one : e ≡ d = cc in
          absurd (unequal_of d.number n no (ap (λ x. x.number) (sym one) ∙ same)));
    })
    (λ yes ranges r few. seen_over ranges cs n place r d there (equal_of d.number n yes))
