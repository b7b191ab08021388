-- What a defined operation has.
use Rattle.std.proofs.Common.{◌≡◌, ◌≢◌, Bool, true, false, pos, Option, Some, None, refl, sym, subst, true≢false}
use Rattle.std.specs.Prelude.{IsSome, if◌then◌else◌}
use Rattle.std.specs.Option.{option_and_then}
use Rattle.std.specs.Ordering.{int_eq}
use Rattle.scaled_decimal.specs.Decimals.{Decimal, numerator_of}
use Rattle.pap_types.specs.Operations.{is_zero, unless_zero}

-- ---- values that are there

-- none is no value
pub none_there : {A : Type 0} (o : Option A) → o ≡ None → IsSome o → ⊥
none_there o e h = true≢false (sym (subst (λ o. IsSome o) e h))

-- what a step of options begins with, and what it comes to
pub some_first : {A B : Type 0} (f : A → Option B) (o : Option A) → IsSome (option_and_then f o) → IsSome o
some_first f (Some a) h = refl
some_first f None h = absurd (true≢false (sym h))

pub some_step : {A B : Type 0} (f : A → Option B) (o : Option A) (a : A) → o ≡ Some a → IsSome (option_and_then f o)
    → IsSome (f a)
some_step f o a is h = subst (λ o. IsSome (option_and_then f o)) is h

pub some_if : {A : Type 0} (t : Bool) (x y : Option A) → t ≡ true → IsSome (if t then x else y) → IsSome x
some_if t x y is h = subst (λ t. IsSome (if t then x else y)) is h

pub some_else : {A : Type 0} (t : Bool) (x y : Option A) → t ≡ false → IsSome (if t then x else y) → IsSome y
some_else t x y is h = subst (λ t. IsSome (if t then x else y)) is h

-- what is there
pub the_value : {A : Type 0} (o : Option A) → IsSome o → (a : A) × (o ≡ Some a)
the_value (Some a) h = (a, refl)
the_value None h = absurd (true≢false (sym h))

-- ---- what has no value where the divisor is zero

pub unless_is : (b x : Decimal) → IsSome (unless_zero b x) → unless_zero b x ≡ Some x
unless_is b x h = by_test (is_zero b) h
  where
    by_test : (t : Bool) → IsSome (if t then None else Some x) → (if t then None else Some x) ≡ Some x
    by_test true h = absurd (true≢false (sym h))
    by_test false h = refl

pub not_zero : (b x : Decimal) → IsSome (unless_zero b x) → numerator_of b ≢ pos 0
not_zero b x h e = true≢false (sym (subst (λ n. IsSome (if int_eq n (pos 0) then None else Some x)) e h))
