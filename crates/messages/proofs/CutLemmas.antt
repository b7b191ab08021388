-- Texts that are cut at the first mark.
use Rattle.std.proofs.Common.{◌≡◌, ℕ, ◌<◌, ◌^◌, List, [], ◌∷◌, ◌++◌, length, take, drop, get_or, refl, sym, ap, subst, ◌∙◌, arith, append_assoc, length-append}
use Rattle.std.specs.Prelude.{codes}
use Rattle.std.specs.Fmt.{decimal}
use Rattle.std.proofs.lemmas.Fmt.{decimal_injective, decimal_is_IsNumeral}
use Rattle.std.proofs.lemmas.List.{append_cancel_left, drop_at, get_or_at, take_at}
use Rattle.std.proofs.lemmas.Str.Parse.{digit_at}
use Rattle.messages.specs.Fields.{IsFreeOf}
use Rattle.messages.specs.private.Cuts.{IsFirstCut, IsNumberCut}

-- the first cut is the only one
only_length : (mark text front back other rest : List ℕ) → IsFirstCut mark text front back → IsFirstCut mark text other rest
    → length front ≡ length other
only_length mark text front back other rest cut again =
    let not_below : length other < length front → ⊥ = λ below. cut.first other rest below again.parts in
    let not_above : length front < length other → ⊥ = λ below. again.first front back below cut.parts in
    omega (arith, not_below, not_above)

pub only_cut : (mark text front back other rest : List ℕ) → IsFirstCut mark text front back → IsFirstCut mark text other rest
    → (front ≡ other) × (back ≡ rest)
only_cut mark text front back other rest cut again =
    let same = only_length mark text front back other rest cut again in
    let words = sym cut.parts ∙ again.parts in (
      sym (take_at front (mark ++ back) (length front) refl) ∙ ap (take (length front)) words
          ∙ take_at other (mark ++ rest) (length front) (sym same),
      append_cancel_left mark back rest (sym (drop_at front (mark ++ back) (length front) refl)
          ∙ ap (drop (length front)) words ∙ drop_at other (mark ++ rest) (length front) (sym same)),
    )

-- what stands before it has no such mark
pub front_free : (mark text front back : List ℕ) → 0 < length mark → IsFirstCut mark text front back → IsFreeOf front mark
front_free mark text front back some cut = λ before behind is.
    cut.first before (behind ++ (mark ++ back))
    (omega (arith, ap length is, length-append before (mark ++ behind), length-append mark behind))
    (cut.parts ∙ ap (λ l. l ++ (mark ++ back)) is ∙ append_assoc before (mark ++ behind) (mark ++ back)
    ∙ ap (λ l. before ++ l) (append_assoc mark behind (mark ++ back)))

-- a front without a colon ends at the first mark that begins with one
not_before : (front before back behind : List ℕ) → IsFreeOf front (0x3A ∷ []) → front ++ back ≡ before ++ 0x3A ∷ behind
    → length before < length front → ⊥
not_before [] before back behind free is below = absurd (omega arith)
not_before (byte ∷ front) [] back behind free is below =
    free [] front (ap (λ b. b ∷ front) (ap (λ l. get_or l 0 0) is))
not_before (byte ∷ front) (first ∷ before) back behind free is below =
    not_before front before back behind
    (λ a b split. free (first ∷ a) b (λ k. ap (λ l. get_or l 0 0) is k ∷ split k))
    (ap (drop 1) is) (omega arith)

pub cut_at_colon : (more front back : List ℕ) → IsFreeOf front (0x3A ∷ [])
    → IsFirstCut (0x3A ∷ more) (front ++ 0x3A ∷ (more ++ back)) front back
cut_at_colon more front back free = record {
  parts = refl;
  first = λ before behind below is. not_before front before (0x3A ∷ (more ++ back)) (more ++ behind) free is below;
}

-- a front without a colon and a space ends at the first of these
not_before_space : (front before back behind : List ℕ) → IsFreeOf front (0x3A ∷ 0x20 ∷ [])
    → front ++ 0x3A ∷ back ≡ before ++ 0x3A ∷ 0x20 ∷ behind → length before < length front → ⊥
not_before_space [] before back behind free is below = absurd (omega arith)
not_before_space (byte ∷ []) [] back behind free is below =
    absurd (omega (arith, ap (λ (l : List ℕ). get_or l 1 0) is))
not_before_space (byte ∷ second ∷ front) [] back behind free is below =
    free [] front (λ k. ap (λ l. get_or l 0 0) is k ∷ ap (λ l. get_or l 1 0) is k ∷ front)
not_before_space (byte ∷ front) (first ∷ before) back behind free is below =
    not_before_space front before back behind
    (λ a b split. free (first ∷ a) b (λ k. ap (λ l. get_or l 0 0) is k ∷ split k))
    (ap (drop 1) is) (omega arith)

pub cut_at_space : (front back : List ℕ) → IsFreeOf front (codes ": ")
    → IsFirstCut (codes ": ") (front ++ (codes ": " ++ back)) front back
cut_at_space front back free = record {
  parts = refl;
  first = λ before behind below is. not_before_space front before (0x20 ∷ back) behind free is below;
}

-- a number in decimal has no colon
pub decimal_free : (number : ℕ) → number < 2 ^ 64 → IsFreeOf (decimal number) (0x3A ∷ [])
decimal_free number small = λ before behind is.
    let within : length before < length (decimal number) = omega (arith, ap length is, length-append before (0x3A ∷ behind)) in
    let digit = digit_at (decimal number) (length before) (decimal_is_IsNumeral number small).0.1 within in
    let colon : get_or (decimal number) (length before) 0 ≡ 0x3A =
    ap (λ l. get_or l (length before) 0) is ∙ get_or_at before 0x3A behind 0 (length before) refl in
    absurd (omega (arith, digit.1))

-- so a number ends at the first mark behind it
pub number_first : (more : List ℕ) (number : ℕ) (rest : List ℕ) → number < 2 ^ 64
    → IsFirstCut (0x3A ∷ more) (decimal number ++ 0x3A ∷ (more ++ rest)) (decimal number) rest
number_first more number rest small = cut_at_colon more (decimal number) rest (decimal_free number small)

-- the first mark that begins with a colon, of a text that begins with a number and that mark, stands behind the number
pub number_ends : (more text front back : List ℕ) (number : ℕ) (rest : List ℕ) → IsFirstCut (0x3A ∷ more) text front back
    → IsNumberCut (0x3A ∷ more) text number rest → (front ≡ decimal number) × (back ≡ rest)
number_ends more text front back number rest cut is =
    only_cut (0x3A ∷ more) text front back (decimal number) rest cut
    (subst (λ l. IsFirstCut (0x3A ∷ more) l (decimal number) rest) (sym is.parts) (number_first more number rest is.small))

-- and so a text begins with one number and mark
pub one_number : (more text : List ℕ) (number other : ℕ) (rest back : List ℕ) → IsNumberCut (0x3A ∷ more) text number rest
    → IsNumberCut (0x3A ∷ more) text other back → (number ≡ other) × (rest ≡ back)
one_number more text number other rest back is again =
    let cut = subst (λ l. IsFirstCut (0x3A ∷ more) l (decimal number) rest) (sym is.parts) (number_first more number rest is.small) in
    let same = number_ends more text (decimal number) rest other back cut again in
    (decimal_injective number other is.small again.small same.0, same.1)
