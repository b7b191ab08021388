-- A range that is split in two, and limits with another range of an input.
use Rattle.std.proofs.Common.{◌≡◌, ◌⊎◌, inl, inr, ℤ, pos, ◌+ℤ◌, ◌-ℤ◌, ◌≤ℤ◌, ◌<ℤ◌, refl, sym, ap, ◌∙◌, subst, arith}
use Rattle.std.proofs.lemmas.Int.{ints}
use Rattle.scaled_decimal.specs.Decimals.{Decimal, decimal, numerator_at}
use Rattle.scaled_decimal.specs.Limits.{IsWithinLimit}
use Rattle.limits_file.specs.declared.limits.InputLimit.{InputLimit}
use Rattle.limits_file.specs.Limits.{Fits, HasSoundBounds}
use Rattle.scaled_decimal.proofs.Laws.{by_sign}
use Rattle.interval_walk.proofs.Laws.{at_most}
use Rattle.range_parts.specs.private.HalfViews.{AreHalves}
use Rattle.range_parts.proofs.OrderLemmas.{from_numerators, own_numerator}

-- a range up to a numerator, and one from the next numerator on
abbrev pub upto : InputLimit → ℤ → InputLimit
upto l at = record l { high = decimal at l.places }

abbrev pub from_next : InputLimit → ℤ → InputLimit
from_next l at = record l { low = decimal (at +ℤ pos 1) l.places }

module _ (l : InputLimit) (at : ℤ) (sound : HasSoundBounds l) (low : numerator_at l.places l.low ≤ℤ at)
    (high : at <ℤ numerator_at l.places l.high) where
  own : (n : ℤ) → numerator_at l.places (decimal n l.places) ≡ n
  own n = own_numerator n l.places

  kept : IsWithinLimit at
  kept = let a = sound.low_kept in let b = sound.high_kept in omega (arith, ints)

  kept_next : IsWithinLimit (at +ℤ pos 1)
  kept_next = let a = sound.low_kept in let b = sound.high_kept in omega (arith, ints)

  pub upto_sound : HasSoundBounds (upto l at)
  upto_sound = record {
    places = sound.places;
    low_places = sound.low_places;
    high_places = omega arith;
    ordered =
        from_numerators l.low (decimal at l.places) l.places sound.low_places (omega arith)
        (subst (λ n. numerator_at l.places l.low ≤ℤ n) (sym (own at)) low);
    low_kept = sound.low_kept;
    high_kept = subst IsWithinLimit (sym (own at)) kept;
  }

  pub from_next_sound : HasSoundBounds (from_next l at)
  from_next_sound =
      let le : (at +ℤ pos 1) ≤ℤ numerator_at l.places l.high = omega (arith, ints) in
      record {
        places = sound.places;
        low_places = omega arith;
        high_places = sound.high_places;
        ordered =
            from_numerators (decimal (at +ℤ pos 1) l.places) l.high l.places (omega arith) sound.high_places
            (subst (λ n. n ≤ℤ numerator_at l.places l.high) (sym (own (at +ℤ pos 1))) le);
        low_kept = subst IsWithinLimit (sym (own (at +ℤ pos 1))) kept_next;
        high_kept = sound.high_kept;
      }

  pub upto_within : (v : Decimal) → Fits (upto l at) v → Fits l v
  upto_within v f =
      let below : numerator_at l.places v ≤ℤ at =
      subst (λ n. numerator_at l.places v ≤ℤ n) (own at)
      (at_most v (decimal at l.places) l.places f.places (omega arith) f.below) in
      record {
        places = f.places;
        above = f.above;
        below = from_numerators v l.high l.places f.places sound.high_places (omega (arith, ints));
      }

  pub from_next_within : (v : Decimal) → Fits (from_next l at) v → Fits l v
  from_next_within v f =
      let above : (at +ℤ pos 1) ≤ℤ numerator_at l.places v =
      subst (λ n. n ≤ℤ numerator_at l.places v) (own (at +ℤ pos 1))
      (at_most (decimal (at +ℤ pos 1) l.places) v l.places (omega arith) f.places f.above) in
      record {
        places = f.places;
        above = from_numerators l.low v l.places sound.low_places f.places (omega (arith, ints));
        below = f.below;
      }

  -- each value of the range is in one of them
  pub in_half : (v : Decimal) → Fits l v → Fits (upto l at) v ⊎ Fits (from_next l at) v
  in_half v f =
      by_sign (Fits (upto l at) v ⊎ Fits (from_next l at) v) (at -ℤ numerator_at l.places v)
      (λ more.
      (let le : numerator_at l.places v ≤ℤ at = omega (arith, ints) in
      inl (record {
        places = f.places;
        above = f.above;
        below =
            from_numerators v (decimal at l.places) l.places f.places (omega arith)
            (subst (λ n. numerator_at l.places v ≤ℤ n) (sym (own at)) le);
      })))
      (λ less.
      (let le : (at +ℤ pos 1) ≤ℤ numerator_at l.places v = omega (arith, ints) in
      inr (record {
        places = f.places;
        above =
            from_numerators (decimal (at +ℤ pos 1) l.places) v l.places (omega arith) f.places
            (subst (λ n. n ≤ℤ numerator_at l.places v) (sym (own (at +ℤ pos 1))) le);
        below = f.below;
      })))

  -- the two are halves of the range
  halves : AreHalves l (record { first = upto l at; second = from_next l at })
  halves = record {
    first = record { name = refl; sound = upto_sound; within = upto_within };
    second = record { name = refl; sound = from_next_sound; within = from_next_within };
    cover = in_half;
  }

  pub are_halves : (u w : Decimal) (m n : ℤ) → u ≡ decimal m l.places → m ≡ at → w ≡ decimal n l.places
      → n ≡ at +ℤ pos 1 → AreHalves l (record { first = record l { high = u }; second = record l { low = w } })
  are_halves u w m n e same f next =
      subst (λ u. AreHalves l (record { first = record l { high = u }; second = record l { low = w } }))
      (sym (e ∙ ap (λ k. decimal k l.places) same))
      (subst (λ w. AreHalves l (record { first = upto l at; second = record l { low = w } }))
      (sym (f ∙ ap (λ k. decimal k l.places) next)) halves)
