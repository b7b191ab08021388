-- Limits with another range of an input.
use Rattle.std.proofs.Common.{◌≡◌, ℕ, List, [], ◌∷◌, ◌⊎◌, inl, inr, Bool, true, false, cond, Option, Some, refl, sym, ap, ◌∙◌, subst, true≢false}
use Rattle.std.specs.Prelude.{All}
use Rattle.std.specs.List.{find}
use Rattle.std.specs.Str.{bytes_eq}
use Rattle.std.proofs.lemmas.Bool.{cases_Bool}
use Rattle.std.proofs.lemmas.Slice.Eq.{bytes_eq-Decides}
use Rattle.std.proofs.lemmas.List.Elements.{All-head, All-tail}
use Rattle.std.proofs.lemmas.Option.{none-some}
use Rattle.scaled_decimal.specs.Decimals.{Decimal}
use Rattle.pap_tree.specs.declared.declaration.Kind.{Kind}
use Rattle.pap_tree.specs.declared.declaration.Kind.TheVariants as declares
use Rattle.pap_tree.specs.Declarations.{Declaration}
use Rattle.limits_file.specs.declared.limits.InputLimit.{InputLimit}
use Rattle.limits_file.specs.declared.limits.Limits.{Limits}
use Rattle.limits_file.specs.Limits.{Fits, limit_named}
use Rattle.interval_walk.specs.Admission.{FitsAs, IsAdmitted, IsAdmittedFor, AllAdmitted}
use Rattle.range_parts.specs.private.HalfViews.{replaced, replaced_in}

-- ---- what is found

pub eq_true : (x y : List ℕ) → bytes_eq x y ≡ true → x ≡ y
eq_true x y e = (bytes_eq-Decides x y).0 e

eq_same : (x : List ℕ) → bytes_eq x x ≡ true
eq_same x = (bytes_eq-Decides x x).1 refl

pub cond_true : {A : Type 0} (t : Bool) (a b : A) → t ≡ true → cond t a b ≡ a
cond_true true a b e = refl
cond_true false a b e = absurd (true≢false (sym e))

pub cond_false : {A : Type 0} (t : Bool) (a b : A) → t ≡ false → cond t a b ≡ b
cond_false true a b e = absurd (true≢false e)
cond_false false a b e = refl

found_in : List InputLimit → List ℕ → Option InputLimit
found_in ls y = find (λ l. bytes_eq l.name y) ls

pub found_other : (x : InputLimit) (y : List ℕ) → bytes_eq x.name y ≡ false → (ls : List InputLimit)
    → find (λ l. bytes_eq l.name y) (replaced_in x ls) ≡ find (λ l. bytes_eq l.name y) ls
found_other x y others [] = refl
found_other x y others (l ∷ ls) = elim (cases_Bool (bytes_eq l.name x.name)) [
  | inl same ↦ (
      let is : replaced x l ≡ x = cond_true (bytes_eq l.name x.name) x l same in
      let here : bytes_eq l.name y ≡ false = ap (λ n. bytes_eq n y) (eq_true l.name x.name same) ∙ others in
      let there : bytes_eq (replaced x l).name y ≡ false = ap (λ m. bytes_eq m.name y) is ∙ others in
      cond_false (bytes_eq (replaced x l).name y) (Some (replaced x l)) (find (λ l. bytes_eq l.name y) (replaced_in x ls)) there
      ∙ found_other x y others ls
      ∙ sym (cond_false (bytes_eq l.name y) (Some l) (find (λ l. bytes_eq l.name y) ls) here))
  | inr other ↦ (
      let is : replaced x l ≡ l = cond_false (bytes_eq l.name x.name) x l other in
      ap (λ m. cond (bytes_eq m.name y) (Some m) (find (λ l. bytes_eq l.name y) (replaced_in x ls))) is
      ∙ ap (λ o. cond (bytes_eq l.name y) (Some l) o) (found_other x y others ls))
]

pub found_same : (x l : InputLimit) (ls : List InputLimit) → find (λ l. bytes_eq l.name x.name) ls ≡ Some l
    → find (λ l. bytes_eq l.name x.name) (replaced_in x ls) ≡ Some x
found_same x l [] is = absurd (none-some l is)
found_same x l (m ∷ ms) is = elim (cases_Bool (bytes_eq m.name x.name)) [
  | inl same ↦ (
      let one : replaced x m ≡ x = cond_true (bytes_eq m.name x.name) x m same in
      ap (λ m. cond (bytes_eq m.name x.name) (Some m) (find (λ l. bytes_eq l.name x.name) (replaced_in x ms))) one
      ∙ cond_true (bytes_eq x.name x.name) (Some x) (find (λ l. bytes_eq l.name x.name) (replaced_in x ms)) (eq_same x.name))
  | inr other ↦ (
      let one : replaced x m ≡ m = cond_false (bytes_eq m.name x.name) x m other in
      let rest : find (λ l. bytes_eq l.name x.name) ms ≡ Some l =
      sym (cond_false (bytes_eq m.name x.name) (Some m) (find (λ l. bytes_eq l.name x.name) ms) other) ∙ is in
      ap (λ m. cond (bytes_eq m.name x.name) (Some m) (find (λ l. bytes_eq l.name x.name) (replaced_in x ms))) one
      ∙ cond_false (bytes_eq m.name x.name) (Some m) (find (λ l. bytes_eq l.name x.name) (replaced_in x ms)) other
      ∙ found_same x l ms rest)
]

-- ---- what is admitted

pub some_limit : (a b : InputLimit) → Some a ≡ Some b → a ≡ b
some_limit a b e = cc

fits_on : (kind : Kind) (l x : InputLimit) (v : Decimal) → ((u : Decimal) → Fits l u → Fits x u) → FitsAs kind l v
    → FitsAs kind x v
fits_on declares.Factor l x v go f = record { places = f.places; equal = f.equal; same = f.same; fits = go f.equal f.fits }
fits_on declares.Int l x v go f = go v f
fits_on declares.Long l x v go f = go v f
fits_on declares.Big l x v go f = go v f
fits_on declares.Table l x v go f = go v f

pub fits_one : (kind : Kind) (l x y : InputLimit) (v : Decimal) → ((u : Decimal) → Fits l u → Fits x u ⊎ Fits y u)
    → FitsAs kind l v → FitsAs kind x v ⊎ FitsAs kind y v
fits_one declares.Factor l x y v go f = elim (go f.equal f.fits) [
  | inl a ↦ inl (record { places = f.places; equal = f.equal; same = f.same; fits = a })
  | inr b ↦ inr (record { places = f.places; equal = f.equal; same = f.same; fits = b })
]
fits_one declares.Int l x y v go f = go v f
fits_one declares.Long l x y v go f = go v f
fits_one declares.Big l x y v go f = go v f
fits_one declares.Table l x y v go f = go v f

-- limits are these, but for the range of an input
pub record AreWith (limits part : Limits) (x : InputLimit) : Type 0 where
  pub inputs : part.inputs ≡ replaced_in x limits.inputs

module _ (limits part : Limits) (x l : InputLimit) (w : AreWith limits part x) (is : limit_named limits x.name ≡ Some l) where
  named_other : (y : List ℕ) → bytes_eq x.name y ≡ false → limit_named part y ≡ limit_named limits y
  named_other y others =
      ap (λ ls. find (λ l. bytes_eq l.name y) ls) w.inputs
      ∙ found_other x y others limits.inputs

  named_same : limit_named part x.name ≡ Some x
  named_same =
      ap (λ ls. find (λ l. bytes_eq l.name x.name) ls) w.inputs
      ∙ found_same x l limits.inputs is

  -- what the part admits the limits admit
  admitted_one : ((u : Decimal) → Fits x u → Fits l u) → (d : Declaration) (v : Decimal) → IsAdmittedFor part d v
      → IsAdmittedFor limits d v
  admitted_one go d v h = elim (cases_Bool (bytes_eq x.name d.name)) [
    | inl same ↦ (
        let name = eq_true x.name d.name same in
        let mine : h.limit ≡ x =
        some_limit h.limit x (sym h.is ∙ ap (limit_named part) (sym name) ∙ named_same) in
        record {
          limit = l;
          is = ap (limit_named limits) (sym name) ∙ is;
          admitted = record {
            kept = h.admitted.kept;
            fits = fits_on d.kind x l v go (subst (λ m. FitsAs d.kind m v) mine h.admitted.fits);
          };
        })
    | inr other ↦ record { limit = h.limit; is = sym (named_other d.name other) ∙ h.is; admitted = h.admitted }
  ]

  pub admitted_back : ((u : Decimal) → Fits x u → Fits l u) → (ds : List Declaration) (vs : List Decimal)
      → AllAdmitted part ds vs → AllAdmitted limits ds vs
  admitted_back go [] [] h = tt
  admitted_back go [] (v ∷ vs) h = absurd h
  admitted_back go (d ∷ ds) [] h = absurd h
  admitted_back go (d ∷ ds) (v ∷ vs) h = (admitted_one go d v h.0, admitted_back go ds vs h.1)

  -- an input of another name is admitted by the part as by the limits
  pub admitted_there : (d : Declaration) (v : Decimal) → bytes_eq x.name d.name ≡ false → IsAdmittedFor limits d v
      → IsAdmittedFor part d v
  admitted_there d v others h = record { limit = h.limit; is = named_other d.name others ∙ h.is; admitted = h.admitted }

  pub admitted_others : (ds : List Declaration) (vs : List Decimal) → All (λ d. bytes_eq x.name d.name ≡ false) ds
      → AllAdmitted limits ds vs → AllAdmitted part ds vs
  admitted_others [] [] others h = tt
  admitted_others [] (v ∷ vs) others h = absurd h
  admitted_others (d ∷ ds) [] others h = absurd h
  admitted_others (d ∷ ds) (v ∷ vs) others h = (
    admitted_there d v (All-head (λ d. bytes_eq x.name d.name ≡ false) d ds others) h.0,
    admitted_others ds vs (All-tail (λ d. bytes_eq x.name d.name ≡ false) d ds others) h.1,
  )

  -- the input itself
  pub admitted_own : (d : Declaration) (v : Decimal) → x.name ≡ d.name → IsAdmitted d.kind x v → IsAdmittedFor part d v
  admitted_own d v name h = record { limit = x; is = ap (limit_named part) (sym name) ∙ named_same; admitted = h }
