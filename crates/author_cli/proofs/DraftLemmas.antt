-- The range with which an input begins is one that a range file may have.
use Rattle.std.proofs.Common.{◌≡◌, ℕ, ◌<◌, ◌≤◌, ltb, ◌&&◌, Bool, false, true, List, [], ◌∷◌, ◌++◌}
use Rattle.std.proofs.Common.{length, refl, sym, subst, arith}
use Rattle.std.specs.Prelude.{IsTrue, codes, pos, negsuc}
use Rattle.std.specs.Char.{digit_value}
use Rattle.std.specs.List.{list_all}
use Rattle.std.specs.Str.Parse.{AllDigits}
use Rattle.std.proofs.lemmas.Bool.{false≢true}
use Rattle.std.proofs.lemmas.Bool.Decides.{nat_tests}
use Rattle.scaled_decimal.specs.Decimals.{Decimal, decimal, scale_of, numerator_of, numerator_at}
use Rattle.scaled_decimal.specs.Limits.{IsWithinLimit}
use Rattle.scaled_decimal.specs.NumberTexts.{sign_text, point_text, spelled, Spells}
use Rattle.scaled_decimal.proofs.Laws.{number_once}
use Rattle.scaled_decimal.specs.WholeNumbers.{IsOfBits}
use Rattle.pap_tree.specs.Scales.{is_kept_at}
use Rattle.pap_tree.specs.declared.declaration.Kind.TheVariants as kinds
use Rattle.limits_file.specs.declared.limits.InputLimit.{InputLimit}
use Rattle.limits_file.specs.Limits.{HasSoundBounds, IsNoGreater}
use Rattle.author_cli.specs.DraftLaws.{IsWidest, IsTaken, WidestSuit}

-- ---- digits

less_than_ten : (n : ℕ) → ltb n 10 ≡ true → n < 10
less_than_ten n e = grind (arith, nat_tests)

both : (a b : Bool) → (a && b) ≡ true → (a ≡ true) × (b ≡ true)
both true b e = (refl, e)
both false b e = absurd (false≢true e)

digits : (text : List ℕ) → list_all (λ c. ltb (digit_value c) 10) text ≡ true → AllDigits 10 text
digits [] e = tt
digits (c ∷ text) e =
    let parts = both (ltb (digit_value c) 10) (list_all (λ c. ltb (digit_value c) 10) text) e in
    (less_than_ten (digit_value c) parts.0, digits text parts.1)

-- the decimal that a text spells
spelled_is : (text : List ℕ) (d : Decimal) (negative : Bool) (whole places : List ℕ) → Spells text d
    → text ≡ sign_text negative ++ (whole ++ point_text places) → 0 < length whole
    → list_all (λ c. ltb (digit_value c) 10) whole ≡ true → list_all (λ c. ltb (digit_value c) 10) places ≡ true
    → d ≡ spelled negative whole places
spelled_is text d negative whole places s parts some w p =
    number_once text d (spelled negative whole places) s (record {
      negative = negative;
      whole = whole;
      places = places;
      form = record { parts = parts; some = some; whole_digits = digits whole w; place_digits = digits places p };
      value = refl;
    })

-- bounds that are known
sound : (limit : InputLimit) (places : ℕ) (low high : Decimal)
    → limit.places ≡ places → limit.low ≡ low → limit.high ≡ high
    → places ≤ 30 → scale_of low ≤ places → scale_of high ≤ places → IsNoGreater low high
    → IsWithinLimit (numerator_at places low) → IsWithinLimit (numerator_at places high) → HasSoundBounds limit
sound limit places low high p l h few low_scale high_scale ordered low_kept high_kept = record {
  places = subst (λ n. n ≤ 30) (sym p) few;
  low_places = subst (λ d. scale_of d ≤ limit.places) (sym l) (subst (λ n. scale_of low ≤ n) (sym p) low_scale);
  high_places = subst (λ d. scale_of d ≤ limit.places) (sym h) (subst (λ n. scale_of high ≤ n) (sym p) high_scale);
  ordered = subst (λ d. IsNoGreater d limit.high) (sym l) (subst (λ d. IsNoGreater low d) (sym h) ordered);
  low_kept = subst (λ d. IsWithinLimit (numerator_at limit.places d)) (sym l)
      (subst (λ n. IsWithinLimit (numerator_at n low)) (sym p) low_kept);
  high_kept = subst (λ d. IsWithinLimit (numerator_at limit.places d)) (sym h)
      (subst (λ n. IsWithinLimit (numerator_at n high)) (sym p) high_kept);
}

-- the limits of each type

int_limit : (limit : InputLimit) → IsWidest kinds.Int limit → IsTaken kinds.Int limit
int_limit limit h =
    let low = spelled_is _ limit.low true (codes "2147483648") [] h.low refl (omega arith) refl refl in
    let high = spelled_is _ limit.high false (codes "2147483647") [] h.high refl (omega arith) refl refl in
    let least : Decimal = decimal (negsuc 2147483647) 0 in
    let greatest : Decimal = decimal (pos 2147483647) 0 in
    record {
      sound = sound limit 0 least greatest h.places low high
          (omega arith) (omega arith) (omega arith) refl (omega arith) (omega arith);
      suits = record {
        places = h.places;
        low = subst (λ d. IsOfBits 32 (numerator_of d)) (sym low) (record { low = omega arith; high = omega arith });
        high = subst (λ d. IsOfBits 32 (numerator_of d)) (sym high) (record { low = omega arith; high = omega arith });
      };
    }

long_limit : (limit : InputLimit) → IsWidest kinds.Long limit → IsTaken kinds.Long limit
long_limit limit h =
    let low = spelled_is _ limit.low true (codes "9223372036854775808") [] h.low refl (omega arith) refl refl in
    let high = spelled_is _ limit.high false (codes "9223372036854775807") [] h.high refl (omega arith) refl refl in
    let least : Decimal = decimal (negsuc 9223372036854775807) 0 in
    let greatest : Decimal = decimal (pos 9223372036854775807) 0 in
    record {
      sound = sound limit 0 least greatest h.places low high
          (omega arith) (omega arith) (omega arith) refl (omega arith) (omega arith);
      suits = record {
        places = h.places;
        low = subst (λ d. IsOfBits 64 (numerator_of d)) (sym low) (record { low = omega arith; high = omega arith });
        high = subst (λ d. IsOfBits 64 (numerator_of d)) (sym high) (record { low = omega arith; high = omega arith });
      };
    }

factor_limit : (limit : InputLimit) → IsWidest kinds.Factor limit → IsTaken kinds.Factor limit
factor_limit limit h =
    let low = spelled_is _ limit.low true (codes "999999") (codes "999") h.low refl (omega arith) refl refl in
    let high = spelled_is _ limit.high false (codes "999999") (codes "999") h.high refl (omega arith) refl refl in
    let least : Decimal = decimal (negsuc 999999998) 3 in
    let greatest : Decimal = decimal (pos 999999999) 3 in
    record {
      sound = sound limit 3 least greatest h.places low high
          (omega arith) (omega arith) (omega arith) refl (omega arith) (omega arith);
      suits = record {
        places = subst (λ n. n ≤ 3) (sym h.places) (omega arith);
        low = subst (λ d. IsTrue (is_kept_at 3 d)) (sym low) refl;
        high = subst (λ d. IsTrue (is_kept_at 3 d)) (sym high) refl;
      };
    }

-- of an amount, whose limit suits its type whatever it is
amount_limit : (limit : InputLimit) → IsWidest kinds.Big limit → HasSoundBounds limit
amount_limit limit h =
    let low = spelled_is _ limit.low true (codes "999999999999") (codes "99") h.low refl (omega arith) refl refl in
    let high = spelled_is _ limit.high false (codes "999999999999") (codes "99") h.high refl (omega arith) refl refl in
    sound limit 2 (decimal (negsuc 99999999999998) 2) (decimal (pos 99999999999999) 2) h.places low high
    (omega arith) (omega arith) (omega arith) refl (omega arith) (omega arith)

pub widest_suit : WidestSuit
widest_suit kinds.Int limit h = int_limit limit h
widest_suit kinds.Long limit h = long_limit limit h
widest_suit kinds.Factor limit h = factor_limit limit h
widest_suit kinds.Big limit h = record { sound = amount_limit limit h; suits = tt }
widest_suit kinds.Table limit h =
    record { sound = amount_limit limit (record { low = h.low; high = h.high; places = h.places }); suits = tt }
