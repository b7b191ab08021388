-- What is left of a decimal without the zeros that end it is what is computed.
use Rattle.std.proofs.Common.{◌≡◌, ◌≤◌, nat_lt, Bool, true, false, if◌then◌else◌, Some, None, refl, sym, ap, subst, arith}
use Rattle.std.proofs.lemmas.Bool.Decides.{nat_tests}
use Rattle.scaled_decimal.specs.Decimals.{Decimal, scale_of}
use Rattle.scaled_decimal.specs.Shortening.{IsShortened}
use Rattle.scaled_decimal.specs.ShortenedDecimals as decimals
use Rattle.scaled_decimal.proofs.Laws as laws
use Rattle.expr_grammar.specs.Shortened.{shortened_places}

pub shortened_is : (d e : Decimal) → IsShortened d 1 e → shortened_places d ≡ Some e
shortened_is d e h = by_places (nat_lt (scale_of d) 1) refl
  where
    by_places : (t : Bool) → nat_lt (scale_of d) 1 ≡ t → (if t then None else Some (decimals.shortened 1 d)) ≡ Some e
    by_places true none = absurd (let low = h.low in let high = h.high in grind (arith, nat_tests))
    by_places false some = ap Some (sym (laws.shortened_only 1 d e h))

pub is_shortened : (d e : Decimal) → shortened_places d ≡ Some e → IsShortened d 1 e
is_shortened d e f = by_places (nat_lt (scale_of d) 1) refl f
  where
    by_places : (t : Bool) → nat_lt (scale_of d) 1 ≡ t → (if t then None else Some (decimals.shortened 1 d)) ≡ Some e → IsShortened d 1 e
    by_places true none g = absurd cc
    by_places false some g =
        let enough : 1 ≤ scale_of d = grind (arith, nat_tests) in
        let same : decimals.shortened 1 d ≡ e = cc in
        subst (λ e. IsShortened d 1 e) same (laws.shortened_is 1 d enough)
