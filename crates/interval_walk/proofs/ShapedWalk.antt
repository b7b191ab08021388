-- The walk keeps the shapes of the variables' ranges.
use Rattle.std.proofs.Common.{◌≡◌, ℕ, ◌≤◌, ℤ, ◌≤ℤ◌, List, [], ◌∷◌, Bool, true, false, if◌then◌else◌, Some, Ok, refl, sym, ◌∙◌, subst, arith}
use Rattle.std.specs.Prelude.{All}
use Rattle.std.specs.Option.{option_map_or}
use Rattle.std.specs.Str.{bytes_eq}
use Rattle.std.proofs.lemmas.Int.{ints}
use Rattle.std.proofs.lemmas.List.Elements.{All-cons, All-head, All-tail}
use Rattle.std.proofs.lemmas.Slice.Eq.{bytes_eq-Decides}
use Rattle.scaled_decimal.specs.Limits.{most_places}
use Rattle.scaled_decimal.specs.WholeNumbers.{IsOfBits}
use Rattle.pap_tree.specs.declared.declaration.Kind.{Kind}
use Rattle.pap_tree.specs.declared.declaration.Kind.TheVariants as declares
use Rattle.pap_tree.specs.Term.{Term}
use Rattle.pap_tree.specs.Scales.{KeepsScales}
use Rattle.pap_tree.specs.Flowchart.{Body, Routine}
use Rattle.interval_num.specs.Intervals.{Interval, IsWholeOfBits}
use Rattle.interval_num.specs.Rows.{join_row}
use Rattle.pap_types.specs.declared.kinds.NodeKind.{NodeKind}
use Rattle.pap_types.specs.declared.kinds.NodeKind.TheVariants.{Int, Long, Big, Truth, Fraction, Factor, Table}
use Rattle.pap_types.specs.Scopes.{Scope, declared_as, names_of}
use Rattle.pap_types.specs.Kinds.{declared_kind, name_kind, kind_of, suits}
use Rattle.pap_types.specs.Typing.{IsTypedTerm, IsTypedBody, TargetSuits}
use Rattle.pap_types.specs.Counts.{AreSmallTerms}
use Rattle.interval_walk.specs.Ranges.{NamedRange, Ranges, names_in, range_named, put_range}
use Rattle.interval_walk.specs.Branches.{Branches}
use Rattle.interval_walk.specs.Ranged.{ranged, tested}
use Rattle.interval_walk.specs.Walked.{range_kept_as, assigned_range, walked, range_calls_of}
use Rattle.interval_walk.specs.Shapes.{HasShape}
use Rattle.interval_walk.proofs.RowShapes.{bits_shape, longer_whole, join_bits, join_places}
use Rattle.interval_walk.proofs.NodeShapes.{ranged_shape}
use Rattle.interval_walk.proofs.KeptWalk.{IsInside, BranchesKept, VariablesKept, tested_kept, walked_kept, calls_kept}

-- ---- shapes

inside_bits : (bits : ℕ) (v r : Interval) → IsInside v r → IsWholeOfBits bits v → IsWholeOfBits bits r
inside_bits bits v r i w =
    let o = i.order in
    let l = i.low in
    let h = i.high in
    record {
      whole = record { least_scale = i.least_scale ∙ w.whole.least_scale; greatest_scale = i.greatest_scale ∙ w.whole.greatest_scale };
      low = of_bits r.lo (omega (arith, ints)) (omega (arith, ints));
      high = of_bits r.hi (omega (arith, ints)) (omega (arith, ints));
    }
  where
    of_bits : (n : ℤ) → v.lo ≤ℤ n → n ≤ℤ v.hi → IsOfBits bits n
    of_bits n p q = let a = w.low.low in let b = w.high.high in record { low = omega (arith, ints); high = omega (arith, ints) }

inside_shape : (k : NodeKind) (v r : Interval) → IsInside v r → HasShape k v → HasShape k r
inside_shape Int v r i h = bits_shape Int r (inside_bits _ v r i h.suits)
inside_shape Long v r i h = bits_shape Long r (inside_bits _ v r i h.suits)
inside_shape Big v r i h = record { places = subst (λ s. s ≤ most_places) (sym i.greatest_scale) h.places; suits = tt }
inside_shape Truth v r i h = record { places = subst (λ s. s ≤ most_places) (sym i.greatest_scale) h.places; suits = tt }
inside_shape Fraction v r i h = record { places = subst (λ s. s ≤ most_places) (sym i.greatest_scale) h.places; suits = tt }
inside_shape Factor v r i h = record { places = subst (λ s. s ≤ most_places) (sym i.greatest_scale) h.places; suits = tt }
inside_shape Table v r i h = record { places = subst (λ s. s ≤ most_places) (sym i.greatest_scale) h.places; suits = tt }

same_join : (k : NodeKind) (a b r : Interval) → HasShape k a → HasShape k b → join_row a b ≡ Ok r → HasShape k r
same_join Int a b r ha hb e = bits_shape Int r (join_bits _ a b r ha.suits hb.suits e)
same_join Long a b r ha hb e = bits_shape Long r (join_bits _ a b r ha.suits hb.suits e)
same_join Big a b r ha hb e = record { places = join_places a b ha.places hb.places r e; suits = tt }
same_join Truth a b r ha hb e = record { places = join_places a b ha.places hb.places r e; suits = tt }
same_join Fraction a b r ha hb e = record { places = join_places a b ha.places hb.places r e; suits = tt }
same_join Factor a b r ha hb e = record { places = join_places a b ha.places hb.places r e; suits = tt }
same_join Table a b r ha hb e = record { places = join_places a b ha.places hb.places r e; suits = tt }

-- ---- ranges of variables

module _ (scope : Scope) where
  abbrev pub IsShaped : NamedRange → Type 0
  IsShaped v = HasShape (name_kind scope v.name) v.range

  abbrev pub AllShaped : Ranges → Type 0
  AllShaped rs = All IsShaped rs

  -- a range that is found
  pub found_shape : (rs : Ranges) (x : List ℕ) (a : Interval) → AllShaped rs → range_named rs x ≡ Some a → HasShape (name_kind scope x) a
  found_shape [] x a h e = absurd (cc)
  found_shape (r ∷ rs) x a h e = by_test (bytes_eq r.name x) refl e (found_shape rs x a (All-tail IsShaped r rs h))
    where
      by_test : (t : Bool) → bytes_eq r.name x ≡ t → (if t then Some r.range else range_named rs x) ≡ Some a → (range_named rs x ≡ Some a → HasShape (name_kind scope x) a) → HasShape (name_kind scope x) a
      by_test true f g later =
          let same : r.range ≡ a = cc in
          subst (λ a. HasShape (name_kind scope x) a) same (subst (λ n. HasShape (name_kind scope n) r.range) ((bytes_eq-Decides r.name x).0 f) (All-head IsShaped r rs h))
      by_test false f g later = later g

  pub put_shaped : (rs : Ranges) (x : List ℕ) (a : Interval) → AllShaped rs → HasShape (name_kind scope x) a → AllShaped (put_range rs x a)
  put_shaped [] x a h s = h
  put_shaped (r ∷ rs) x a h s = by_test (bytes_eq r.name x) refl (put_shaped rs x a (All-tail IsShaped r rs h) s)
    where
      by_test : (t : Bool) → bytes_eq r.name x ≡ t → AllShaped (put_range rs x a) → AllShaped (if t then record r { range = a } ∷ rs else r ∷ put_range rs x a)
      by_test true f later = All-cons IsShaped (record r { range = a }) rs (subst (λ n. HasShape (name_kind scope n) a) (sym ((bytes_eq-Decides r.name x).0 f)) s) (All-tail IsShaped r rs h)
      by_test false f later = All-cons IsShaped r (put_range rs x a) (All-head IsShaped r rs h) later

  -- a range that a variable may get has the shape of the variable's kind
  suited_shape : (d : Kind) (e : Term) (k : NodeKind) (a : Interval) → suits d e k ≡ true → HasShape k a → HasShape (declared_kind d) (range_kept_as d a)
  suited_shape declares.Int e Int a s h = h
  suited_shape declares.Int e Long a s h = absurd (cc)
  suited_shape declares.Int e Big a s h = absurd (cc)
  suited_shape declares.Int e Truth a s h = absurd (cc)
  suited_shape declares.Int e Fraction a s h = absurd (cc)
  suited_shape declares.Int e Factor a s h = absurd (cc)
  suited_shape declares.Int e Table a s h = absurd (cc)
  suited_shape declares.Long e Int a s h = bits_shape Long a (longer_whole a h.suits)
  suited_shape declares.Long e Long a s h = h
  suited_shape declares.Long e Big a s h = absurd (cc)
  suited_shape declares.Long e Truth a s h = absurd (cc)
  suited_shape declares.Long e Fraction a s h = absurd (cc)
  suited_shape declares.Long e Factor a s h = absurd (cc)
  suited_shape declares.Long e Table a s h = absurd (cc)
  suited_shape declares.Big e k a s h = record { places = h.places; suits = tt }
  suited_shape declares.Factor e k a s h = record { places = omega arith; suits = tt }
  suited_shape declares.Table e k a s h = absurd (cc)

  assigned_shaped : (x : List ℕ) (e : Term) (rs : Ranges) (a : Interval) → TargetSuits scope x e → HasShape (kind_of scope e) a → AllShaped rs → AllShaped (assigned_range scope x a rs)
  assigned_shaped x e rs a t s h =
      let d = t.declaration in
      let shape = suited_shape d.kind e (kind_of scope e) a t.suits s in
      let found = t.declared in
      let kind : name_kind scope x ≡ declared_kind d.kind = rw found refl in
      let kept : option_map_or (λ d. range_kept_as d.kind a) (declared_as scope.variables x) a ≡ range_kept_as d.kind a = rw found refl in
      put_shaped rs x _ h (subst (HasShape (name_kind scope x)) (sym kept) (subst (λ k. HasShape k (range_kept_as d.kind a)) (sym kind) shape))

  -- ---- the walk

  narrows : (v : NamedRange) (a : Interval) → IsInside v.range a → IsShaped v → IsShaped (record v { range = a })
  narrows v a i h = inside_shape (name_kind scope v.name) v.range a i h

  joins : (v w : NamedRange) (a : Interval) → v.name ≡ w.name → IsShaped v → IsShaped w → join_row v.range w.range ≡ Ok a → IsShaped (record v { range = a })
  joins v w a n hv hw e = same_join (name_kind scope v.name) v.range w.range a hv (subst (λ m. HasShape (name_kind scope m) w.range) (sym n) hw) e

  assigns : (x : List ℕ) (e : Term) (rs : Ranges) (a : Interval) → IsTypedTerm scope e → TargetSuits scope x e → KeepsScales e → names_in rs ≡ names_of scope.variables → AllShaped rs → ranged scope e 0 rs ≡ Ok a → AllShaped (assigned_range scope x a rs)
  assigns x e rs a typed target keeps names h given = assigned_shaped x e rs a target (ranged_shape scope e 0 rs a typed keeps given) h

  pub tested_shaped : (t : Term) (at : ℕ) (rs : Ranges) (br : Branches) → AllShaped rs → tested scope t at rs ≡ Ok br → BranchesKept IsShaped br
  tested_shaped = tested_kept scope IsShaped narrows

  abbrev pub VariablesShaped : Ranges → Type 0
  VariablesShaped = VariablesKept (names_of scope.variables) IsShaped

  pub walked_shaped : (ms : List Routine) → All (λ m. IsTypedBody scope ms m.body) ms → All (λ m. AreSmallTerms m.body) ms → (n : ℕ) (name : List ℕ) (b : Body) (at : ℕ) (rs z : Ranges) → IsTypedBody scope ms b → AreSmallTerms b → VariablesShaped rs → walked scope (range_calls_of scope ms n) name at b rs ≡ Ok z → VariablesShaped z
  walked_shaped ms typed small n name = walked_kept scope IsShaped narrows (names_of scope.variables) joins assigns ms (range_calls_of scope ms n) name (calls_kept scope IsShaped narrows (names_of scope.variables) joins assigns ms typed small n)
