-- Whether the limits of a plan's inputs suit their types.
use Rattle.std.proofs.Common.{◌≡◌, ℕ, ◌⊎◌, inl, inr, Bool, true, false, ◌<◌, ◌≤◌, ◌≢◌, ◌-◌, ◌^◌, ℤ, pos, neg_ℤ, int_le, int_lt, arith, List, [], ◌∷◌, ◌++◌, Option, Some, None, refl, sym, ap, subst, ◌∙◌}
use Rattle.std.specs.Prelude.{IsTrue}
use Rattle.std.proofs.lemmas.Bool.{cases_lt, false≢true}
use Rattle.std.proofs.lemmas.Bool.Decides.{eqb_tells}
use lib.Dec.{eqb}
use Rattle.std.proofs.lemmas.Int.{ints}
use Rattle.std.specs.List.{All}
use Rattle.std.proofs.lemmas.List.Elements.{All-nil, All-cons, All-head, All-tail}
use Rattle.scaled_decimal.specs.Decimals.{numerator_of}
use Rattle.scaled_decimal.specs.WholeNumbers.{int_bits, long_bits, IsOfBits}
use Rattle.pap_tree.specs.declared.declaration.Kind.{Kind}
use Rattle.pap_tree.specs.declared.declaration.Kind.TheVariants as declares
use Rattle.pap_tree.specs.Declarations.{Declaration}
use Rattle.pap_tree.specs.Flowchart.{Flowchart}
use Rattle.limits_file.specs.declared.limits.InputLimit.{InputLimit}
use Rattle.limits_file.specs.declared.limits.Limits.{Limits}
use Rattle.limits_file.specs.Limits.{IsFactorLimit, limit_named}
use Rattle.pap_types.specs.Kinds.{has_few_places}
use Rattle.interval_walk.specs.Admission.{IsWholeLimit, SuitsLimit}
use Rattle.pap_plan.specs.Bindings.{HasSuitedLimit, IsFirstUnsuited}

-- ---- whether a limit suits a type is decided

of_bits : (bits : ℕ) (n : ℤ) → IsOfBits bits n ⊎ (IsOfBits bits n → ⊥)
of_bits bits n = by (int_le (neg_ℤ (pos (2 ^ (bits - 1)))) n) refl (int_lt n (pos (2 ^ (bits - 1)))) refl
  where
    by : (s : Bool) → int_le (neg_ℤ (pos (2 ^ (bits - 1)))) n ≡ s → (t : Bool) → int_lt n (pos (2 ^ (bits - 1))) ≡ t → IsOfBits bits n ⊎ (IsOfBits bits n → ⊥)
    by true e true f = inl (record { low = omega (arith, ints); high = omega (arith, ints) })
    by false e t f = inr (λ h. let low = h.low in omega (arith, ints))
    by true e false f = inr (λ h. let high = h.high in omega (arith, ints))

whole_limit : (bits : ℕ) (l : InputLimit) → IsWholeLimit bits l ⊎ (IsWholeLimit bits l → ⊥)
whole_limit bits l = by (eqb_tells l.places 0) (of_bits bits (numerator_of l.low)) (of_bits bits (numerator_of l.high))
  where
    by : ((eqb l.places 0 ≡ true) × (l.places ≡ 0)) ⊎ ((eqb l.places 0 ≡ false) × (l.places ≢ 0)) → IsOfBits bits (numerator_of l.low) ⊎ (IsOfBits bits (numerator_of l.low) → ⊥)
        → IsOfBits bits (numerator_of l.high) ⊎ (IsOfBits bits (numerator_of l.high) → ⊥) → IsWholeLimit bits l ⊎ (IsWholeLimit bits l → ⊥)
    by (inl p) (inl a) (inl b) = inl (record { places = p.1; low = a; high = b })
    by (inr p) a b = inr (λ h. p.1 h.places)
    by (inl p) (inr a) b = inr (λ h. a h.low)
    by (inl p) (inl a) (inr b) = inr (λ h. b h.high)

is_true : (b : Bool) → IsTrue b ⊎ (IsTrue b → ⊥)
is_true true = inl refl
is_true false = inr (λ h. false≢true h)

at_most : (m n : ℕ) → (m ≤ n) ⊎ (m ≤ n → ⊥)
at_most m n = by (cases_lt n m)
  where
    by : (n < m) ⊎ (m ≤ n) → (m ≤ n) ⊎ (m ≤ n → ⊥)
    by (inl more) = inr (λ h. omega arith)
    by (inr less) = inl less

factor_limit : (l : InputLimit) → IsFactorLimit l ⊎ (IsFactorLimit l → ⊥)
factor_limit l = by (at_most l.places 3) (is_true (has_few_places l.low)) (is_true (has_few_places l.high))
  where
    by : (l.places ≤ 3) ⊎ (l.places ≤ 3 → ⊥) → IsTrue (has_few_places l.low) ⊎ (IsTrue (has_few_places l.low) → ⊥) → IsTrue (has_few_places l.high) ⊎ (IsTrue (has_few_places l.high) → ⊥)
        → IsFactorLimit l ⊎ (IsFactorLimit l → ⊥)
    by (inl p) (inl a) (inl b) = inl (record { places = p; low = a; high = b })
    by (inr p) a b = inr (λ h. p h.places)
    by (inl p) (inr a) b = inr (λ h. a h.low)
    by (inl p) (inl a) (inr b) = inr (λ h. b h.high)

suits_or_not : (k : Kind) (l : InputLimit) → SuitsLimit k l ⊎ (SuitsLimit k l → ⊥)
suits_or_not declares.Int l = whole_limit int_bits l
suits_or_not declares.Long l = whole_limit long_bits l
suits_or_not declares.Factor l = factor_limit l
suits_or_not declares.Big l = inl tt
suits_or_not declares.Table l = inl tt

some_same : (x y : InputLimit) → Some x ≡ Some y → x ≡ y
some_same x y e = cc

none_or_some : (x : InputLimit) → None ≡ Some x → ⊥
none_or_some x e = cc

suited_or_not : (l : Limits) (d : Declaration) → HasSuitedLimit l d ⊎ (HasSuitedLimit l d → ⊥)
suited_or_not l d = by (limit_named l d.name) refl
  where
    by_kind : (limit : InputLimit) → limit_named l d.name ≡ Some limit → SuitsLimit d.kind limit ⊎ (SuitsLimit d.kind limit → ⊥) → HasSuitedLimit l d ⊎ (HasSuitedLimit l d → ⊥)
    by_kind limit e (inl h) = inl (record { limit = limit; is = e; suits = h })
    by_kind limit e (inr n) = inr (λ h. n (subst (SuitsLimit d.kind) (some_same h.limit limit (sym h.is ∙ e)) h.suits))

    by : (o : Option InputLimit) → limit_named l d.name ≡ o → HasSuitedLimit l d ⊎ (HasSuitedLimit l d → ⊥)
    by (Some limit) e = by_kind limit e (suits_or_not d.kind limit)
    by None e = inr (λ h. none_or_some h.limit (sym e ∙ h.is))

-- ---- the first input whose limit doesn't suit its type

pub record IsFirstOf (l : Limits) (ds : List Declaration) (name : List ℕ) : Type 0 where
  pub before : List Declaration
  pub input : Declaration
  pub after : List Declaration
  pub whole : ds ≡ before ++ (input ∷ after)
  pub suited : All (HasSuitedLimit l) before
  pub unsuited : HasSuitedLimit l input → ⊥
  pub named : input.name ≡ name

pub found_first : (l : Limits) (d : Declaration) (ds : List Declaration) (name : List ℕ) → HasSuitedLimit l d → IsFirstOf l ds name → IsFirstOf l (d ∷ ds) name
found_first l d ds name h k = record {
  before = d ∷ k.before;
  input = k.input;
  after = k.after;
  whole = ap (λ x. d ∷ x) k.whole;
  suited = All-cons (HasSuitedLimit l) d k.before h k.suited;
  unsuited = k.unsuited;
  named = k.named;
}

all_or_first : (l : Limits) (ds : List Declaration) → All (HasSuitedLimit l) ds ⊎ ((name : List ℕ) × IsFirstOf l ds name)
all_or_first l [] = inl (All-nil (HasSuitedLimit l))
all_or_first l (d ∷ ds) = by (suited_or_not l d) (all_or_first l ds)
  where
    by : HasSuitedLimit l d ⊎ (HasSuitedLimit l d → ⊥) → All (HasSuitedLimit l) ds ⊎ ((name : List ℕ) × IsFirstOf l ds name) → All (HasSuitedLimit l) (d ∷ ds) ⊎ ((name : List ℕ) × IsFirstOf l (d ∷ ds) name)
    by (inr n) r = inr (d.name, record { before = []; input = d; after = ds; whole = refl; suited = All-nil (HasSuitedLimit l); unsuited = n; named = refl })
    by (inl h) (inl r) = inl (All-cons (HasSuitedLimit l) d ds h r)
    by (inl h) (inr k) = inr (k.0, found_first l d ds k.0 h k.1)

pub suited_or_first : (f : Flowchart) (l : Limits) → All (HasSuitedLimit l) f.inputs ⊎ ((name : List ℕ) × IsFirstUnsuited f l name)
suited_or_first f l = by (all_or_first l f.inputs)
  where
    by : All (HasSuitedLimit l) f.inputs ⊎ ((name : List ℕ) × IsFirstOf l f.inputs name) → All (HasSuitedLimit l) f.inputs ⊎ ((name : List ℕ) × IsFirstUnsuited f l name)
    by (inl h) = inl h
    by (inr (name, k)) = inr (name, record { before = k.before; input = k.input; after = k.after; whole = k.whole; suited = k.suited; unsuited = k.unsuited; named = k.named })

All-back : (l : Limits) (xs ys : List Declaration) → All (HasSuitedLimit l) (xs ++ ys) → All (HasSuitedLimit l) ys
All-back l [] ys h = h
All-back l (x ∷ xs) ys h = All-back l xs ys (All-tail (HasSuitedLimit l) x (xs ++ ys) h)

pub never_suited : (f : Flowchart) (l : Limits) (name : List ℕ) → All (HasSuitedLimit l) f.inputs → IsFirstUnsuited f l name → ⊥
never_suited f l name h k =
    k.unsuited (All-head (HasSuitedLimit l) k.input k.after (All-back l k.before (k.input ∷ k.after) (subst (All (HasSuitedLimit l)) k.whole h)))

heads : (x y : Declaration) (p q : List Declaration) → x ∷ p ≡ y ∷ q → x ≡ y
heads x y p q e = cc

tails : (x y : Declaration) (p q : List Declaration) → x ∷ p ≡ y ∷ q → p ≡ q
tails x y p q e = cc

same_stop : (l : Limits) (a b p q : List Declaration) (s t : Declaration) → a ++ (s ∷ p) ≡ b ++ (t ∷ q) → All (HasSuitedLimit l) a → All (HasSuitedLimit l) b → (HasSuitedLimit l s → ⊥) → (HasSuitedLimit l t → ⊥) → s ≡ t
same_stop l [] [] p q s t e ra rb h k = heads s t p q e
same_stop l [] (y ∷ b) p q s t e ra rb h k = absurd (h (subst (HasSuitedLimit l) (sym (heads s y p (b ++ (t ∷ q)) e)) (All-head (HasSuitedLimit l) y b rb)))
same_stop l (x ∷ a) [] p q s t e ra rb h k = absurd (k (subst (HasSuitedLimit l) (heads x t (a ++ (s ∷ p)) q e) (All-head (HasSuitedLimit l) x a ra)))
same_stop l (x ∷ a) (y ∷ b) p q s t e ra rb h k =
    same_stop l a b p q s t (tails x y (a ++ (s ∷ p)) (b ++ (t ∷ q)) e) (All-tail (HasSuitedLimit l) x a ra) (All-tail (HasSuitedLimit l) y b rb) h k

pub one_unsuited : (f : Flowchart) (l : Limits) (m n : List ℕ) → IsFirstUnsuited f l m → IsFirstUnsuited f l n → m ≡ n
one_unsuited f l m n h k =
    let same = same_stop l h.before k.before h.after k.after h.input k.input (sym h.whole ∙ k.whole) h.suited k.suited h.unsuited k.unsuited in
    sym h.named ∙ ap (λ d. d.name) same ∙ k.named
