-- What the parts of an input's entry give together.
use Rattle.std.proofs.Common.{◌≡◌, ◌↔◌, ℕ, List, Option, Some, None, codes, refl, sym, ◌∙◌, subst, arith}
use Rattle.std.specs.Prelude.{MatchOption}
use Rattle.toml.specs.Data.{Data, Members, get_member}
use Rattle.scaled_decimal.specs.Decimals.{Decimal}
use Rattle.limits_file.specs.declared.limits.InputLimit.{InputLimit}
use Rattle.limits_file.specs.Limits.{HasSoundBounds}
use Rattle.limits_file.specs.Inputs.{IsBound, IsBoundAt, GivesNoLimit, HasNoBoundAt, SaysPlaces, HasNoPlaces}
use Rattle.limits_file.proofs.InputLemmas.{bound_at_once, same_limit, same_places}

pub no_value : (key : List ℕ) (entry : Members) → get_member key entry ≡ None → HasNoBoundAt key entry
no_value key entry e bound h = let stands = h.stands in apart _ _ e stands where
  apart : (found : Option Data) (d : Data) → found ≡ None → found ≡ Some d → ⊥
  apart None d e h = cc h
  apart (Some x) d e h = cc e

pub bound_found : (key : List ℕ) (entry : Members) (value : Data) (r : Option Decimal) → get_member key entry ≡ Some value → ((bound : Decimal) → (r ≡ Some bound) ↔ IsBound value bound) → MatchOption r (HasNoBoundAt key entry) (IsBoundAt key entry)
bound_found key entry value (Some bound) e h = record { value = value; stands = e; is = (h bound).0 refl }
bound_found key entry value None e h = λ bound b. (let stands = b.stands in let same : b.value ≡ value = cc in let r = (h bound).1 (subst (λ v. IsBound v bound) same b.is) in cc)

pub low_missing : (name : List ℕ) (entry : Members) → HasNoBoundAt (codes "low") entry → GivesNoLimit name entry
low_missing name entry none limit h = none limit.low h.low

pub high_missing : (name : List ℕ) (entry : Members) → HasNoBoundAt (codes "high") entry → GivesNoLimit name entry
high_missing name entry none limit h = none limit.high h.high

pub places_missing : (name : List ℕ) (entry : Members) → HasNoPlaces entry → GivesNoLimit name entry
places_missing name entry none limit h = let few = h.sound.places in none limit.places (omega arith) h.places

pub unsound : (name : List ℕ) (entry : Members) (limit : InputLimit) → limit.name ≡ name → IsBoundAt (codes "low") entry limit.low → IsBoundAt (codes "high") entry limit.high → SaysPlaces entry limit.places → (HasSoundBounds limit → ⊥) → GivesNoLimit name entry
unsound name entry limit named low high places broken other h =
    let same = same_limit other limit (h.named ∙ sym named) (bound_at_once _ entry _ _ h.low low) (bound_at_once _ entry _ _ h.high high) (same_places _ _ _ h.places places) in
    broken (subst HasSoundBounds same h.sound)
