use Rattle.std.proofs.Common.{rules, arith, ◌≡◌, ◌≤◌, ◌∙◌, FitsSigned, Ok, sym, ap, subst}
use Rattle.std.specs.Int.{w128}
use Rattle.std.specs.Str.Parse.{digits_value_after}
use Rattle.std.proofs.lemmas.Int.{to_z-of_z}
use Rattle.scaled_decimal.specs.Decimals.{numerator_of}
use Rattle.scaled_decimal.specs.NumberTexts.{spelled, signed}
use Rattle.scaled_decimal.specs.Limits.{IsWithinLimit, IsKept, limit}
use Rattle.scaled_decimal.proofs.DigitLemmas.{digits_value_after-append}
use Rattle.scaled_decimal.proofs.ReadingLemmas.{Outcome, no_number, many_places, too_wide, kept_number, wide_whole, wide_all}
use Rattle.scaled_decimal.proofs.reading.read_dec.Goals as goal

pub returns-in-Err : goal.returns-in-Err
returns-in-Err c =
    let e = c.in-Err.ensures.err in
    let o = no_number c.args.text.now c.in-Err.at e.0 e.1 in
    record { number = o.number; shape = o.shape; scale = o.scale; wide = o.wide }

pub returns-then-parts : goal.returns-then-parts
returns-then-parts c =
    let o = many_places c.args.text.now c.in-Ok.parts.negative c.in-Ok.parts.whole.now c.in-Ok.parts.places.now c.in-Ok.ensures.ok (omega arith) in
    record { number = o.number; shape = o.shape; scale = o.scale; wide = o.wide }

pub returns-in_default : goal.returns-in_default
returns-in_default c =
    let beyond = wide_whole c.in-Ok.parts.negative c.in-Ok.parts.whole.now c.in-Ok.parts.places.now c.in_default.ensures in
    let o = too_wide c.args.text.now c.in-Ok.parts.negative c.in-Ok.parts.whole.now c.in-Ok.parts.places.now c.in-Ok.ensures.ok (omega arith) beyond in
    record { number = o.number; shape = o.shape; scale = o.scale; wide = o.wide }

pub returns-in_default-value_after : goal.returns-in_default-value_after
returns-in_default-value_after c =
    let first : c.in-Some.whole ≡ digits_value_after 10 0 c.in-Ok.parts.whole.now = c.in-Some.ensures.1 in
    let second : digits_value_after 10 c.in-Some.whole c.in-Ok.parts.places.now ≤ limit → ⊥ = c.in_default-value_after.ensures in
    let beyond = wide_all c.in-Ok.parts.negative c.in-Ok.parts.whole.now c.in-Ok.parts.places.now (subst (λ n. digits_value_after 10 n c.in-Ok.parts.places.now ≤ limit → ⊥) first second) in
    let o = too_wide c.args.text.now c.in-Ok.parts.negative c.in-Ok.parts.whole.now c.in-Ok.parts.places.now c.in-Ok.ensures.ok (omega arith) beyond in
    record { number = o.number; shape = o.shape; scale = o.scale; wide = o.wide }

pub returns : goal.returns
returns c =
    let first : c.in-Some.whole ≡ digits_value_after 10 0 c.in-Ok.parts.whole.now = c.in-Some.ensures.1 in
    let second : c.in-Some-value_after.magnitude ≡ digits_value_after 10 c.in-Some.whole c.in-Ok.parts.places.now = c.in-Some-value_after.ensures.1 in
    let digits = digits_value_after-append c.in-Ok.parts.whole.now c.in-Ok.parts.places.now 0 in
    let fits : FitsSigned w128 c.signed.result = search rules in
    let made = simp to_z-of_z at c.new.ensures in
    let value : c.signed.result ≡ numerator_of (spelled c.in-Ok.parts.negative c.in-Ok.parts.whole.now c.in-Ok.parts.places.now) = c.signed.ensures.value ∙ ap (λ n. signed c.in-Ok.parts.negative n) (cc (first, second, digits)) in
    let same : c.new.result ≡ spelled c.in-Ok.parts.negative c.in-Ok.parts.whole.now c.in-Ok.parts.places.now = cc (made, value) in
    let kept : IsKept (spelled c.in-Ok.parts.negative c.in-Ok.parts.whole.now c.in-Ok.parts.places.now) = record { numerator = subst IsWithinLimit value c.signed.ensures.kept; scale = omega arith } in
    let o = subst (λ d. Outcome c.args.text.now (Ok d)) (sym same) (kept_number c.args.text.now c.in-Ok.parts.negative c.in-Ok.parts.whole.now c.in-Ok.parts.places.now c.in-Ok.ensures.ok kept) in
    record { number = o.number; shape = o.shape; scale = o.scale; wide = o.wide }
