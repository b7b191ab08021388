-- What each outcome of reading says of the text.
use Rattle.std.proofs.Common.{◌≡◌, ℕ, ◌<◌, ◌≤◌, ◌↔◌, Bool, true, false, List, length, Result, Ok, Err, unsigned_abs, refl, sym, ap, ◌∙◌, subst, arith}
use Rattle.std.proofs.lemmas.Int.{ints}
use Rattle.std.specs.Str.Parse.{digits_value_after}
use Rattle.scaled_decimal.specs.declared.reading.NumFault.{NumFault}
use Rattle.scaled_decimal.specs.declared.reading.NumFault.TheVariants.{Shape, Scale, Wide}
use Rattle.scaled_decimal.specs.Decimals.{Decimal, numerator_of, scale_of}
use Rattle.scaled_decimal.specs.Limits.{IsWithinLimit, IsKept, limit, most_places}
use Rattle.scaled_decimal.specs.NumberTexts.{IsNumber, signed, spelled, Spells, SpellsNone, IsLongestFront, HasManyPlaces, IsWide}
use Rattle.scaled_decimal.proofs.NumberLemmas.{spells, spells_once}
use Rattle.scaled_decimal.proofs.DigitLemmas.{grows, digits_value_after-append}

pub record Outcome (text : List ℕ) (r : Result Decimal NumFault) : Type 0 where
  pub number : (d : Decimal) → (r ≡ Ok d) ↔ (Spells text d × IsKept d)
  pub shape : (at : ℕ) → (r ≡ Err (Shape at)) ↔ (SpellsNone text × IsLongestFront text at)
  pub scale : (r ≡ Err Scale) ↔ HasManyPlaces text
  pub wide : (r ≡ Err Wide) ↔ IsWide text

-- two longest fronts are one
longest_once : (text : List ℕ) (at at' : ℕ) → IsLongestFront text at → IsLongestFront text at' → at ≡ at'
longest_once text at at' f g =
    let low = g.longest at f.within f.begins in
    let high = f.longest at' g.within g.begins in
    omega arith

pub no_number : (text : List ℕ) (at : ℕ) → SpellsNone text → IsLongestFront text at → Outcome text (Err (Shape at))
no_number text at none front = record {
  number = λ d. (λ e. absurd (cc e), λ h. absurd (none d h.0));
  shape = λ j. (λ e. (none, (let same : at ≡ j = cc in subst (λ i. IsLongestFront text i) same front)), λ h. ap (λ i. Err (Shape i)) (longest_once text at j front h.1));
  scale = (λ e. absurd (cc e), λ h. absurd (none h.number h.spells));
  wide = (λ e. absurd (cc e), λ h. absurd (none h.number h.spells));
}

module _ (text : List ℕ) (neg : Bool) (whole places : List ℕ) (form : IsNumber text neg whole places) where
  one : Decimal
  one = spelled neg whole places

  pub many_places : most_places < length places → Outcome text (Err Scale)
  unfolding one
  many_places many = record {
    number = λ d. (λ e. absurd (cc e), λ h. absurd (let same = ap scale_of (spells_once text neg whole places d form h.0) in let few = h.1.scale in omega arith));
    shape = λ j. (λ e. absurd (cc e), λ h. absurd (h.0 one (spells text neg whole places form)));
    scale = (λ _. record { number = one; spells = spells text neg whole places form; many = many }, λ _. refl);
    wide = (λ e. absurd (cc e), λ h. absurd (let same = ap scale_of (spells_once text neg whole places h.number form h.spells) in let few = h.few in omega arith));
  }

  pub too_wide : length places ≤ most_places → (IsWithinLimit (numerator_of (spelled neg whole places)) → ⊥) → Outcome text (Err Wide)
  unfolding one
  too_wide few beyond = record {
    number = λ d. (λ e. absurd (cc e), λ h. absurd (beyond (subst (λ x. IsWithinLimit (numerator_of x)) (spells_once text neg whole places d form h.0) h.1.numerator)));
    shape = λ j. (λ e. absurd (cc e), λ h. absurd (h.0 one (spells text neg whole places form)));
    scale = (λ e. absurd (cc e), λ h. absurd (let same = ap scale_of (spells_once text neg whole places h.number form h.spells) in let many = h.many in omega arith));
    wide = (λ _. record { number = one; spells = spells text neg whole places form; few = few; beyond = beyond }, λ _. refl);
  }

  pub kept_number : IsKept (spelled neg whole places) → Outcome text (Ok (spelled neg whole places))
  unfolding one
  kept_number kept = record {
    number = λ d. (
      λ e. (let same : spelled neg whole places ≡ d = cc in subst (λ x. Spells text x × IsKept x) same (spells text neg whole places form, kept)),
      λ h. ap Ok (sym (spells_once text neg whole places d form h.0)),
    );
    shape = λ j. (λ e. absurd (cc e), λ h. absurd (h.0 one (spells text neg whole places form)));
    scale = (λ e. absurd (cc e), λ h. absurd (let same = ap scale_of (spells_once text neg whole places h.number form h.spells) in let many = h.many in let few = kept.scale in omega arith));
    wide = (λ e. absurd (cc e), λ h. absurd (h.beyond (subst (λ x. IsWithinLimit (numerator_of x)) (sym (spells_once text neg whole places h.number form h.spells)) kept.numerator)));
  }

abs_signed : (neg : Bool) (n : ℕ) → unsigned_abs (signed neg n) ≡ n
abs_signed true n = omega (arith, ints)
abs_signed false n = refl

-- the code's value is that of the digits together
pub joined : (neg : Bool) (whole places : List ℕ) → unsigned_abs (numerator_of (spelled neg whole places)) ≡ digits_value_after 10 (digits_value_after 10 0 whole) places
joined neg whole places = abs_signed neg _ ∙ digits_value_after-append whole places 0

-- where the whole digits are beyond the limit, all digits are
pub wide_whole : (neg : Bool) (whole places : List ℕ) → (digits_value_after 10 0 whole ≤ limit → ⊥) → IsWithinLimit (numerator_of (spelled neg whole places)) → ⊥
wide_whole neg whole places beyond kept =
    let same = joined neg whole places in
    let more = grows places (digits_value_after 10 0 whole) in
    beyond (omega arith)

pub wide_all : (neg : Bool) (whole places : List ℕ) → (digits_value_after 10 (digits_value_after 10 0 whole) places ≤ limit → ⊥) → IsWithinLimit (numerator_of (spelled neg whole places)) → ⊥
wide_all neg whole places beyond kept = let same = joined neg whole places in beyond (omega arith)
