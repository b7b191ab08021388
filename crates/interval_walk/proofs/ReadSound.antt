-- Where the numbers of a plan are those of its types, nothing is refused where it is read.
use Rattle.std.proofs.Common.{◌≡◌, ◌≢◌, ℕ, suc, ◌-◌, ◌^◌, ◌<◌, ◌≤◌, max, ℤ, pos, ◌*ℤ◌, neg_ℤ, int_le, int_lt, nat_lt, List, [], ◌∷◌, ◌++◌, map, length, drop, true, false, Option, Some, None, Ok, refl, sym, ap, ◌∙◌, subst, arith}
use Rattle.std.specs.Prelude.{◌==◌, All, IfSome, is_some, fold, slice_range, slice_index_or, unsigned_abs}
use Rattle.std.specs.List.{list_any}
use Rattle.std.specs.Option.{option_or, option_map_or}
use Rattle.std.specs.Str.{bytes_eq}
use Rattle.std.proofs.lemmas.Int.{ints}
use Rattle.std.proofs.lemmas.Bool.Decides.{nat_tests}
use Rattle.std.proofs.lemmas.List.Elements.{All-cons, All-nil, All-head, All-tail, All-take, All-drop}
use Rattle.std.proofs.lemmas.List.Kept.{AllPairs-cons}
use Rattle.std.proofs.lemmas.Slice.Eq.{bytes_eq-Decides}
use Rattle.scaled_decimal.specs.Decimals.{Decimal, numerator_of, scale_of, numerator_at, ten_to}
use Rattle.scaled_decimal.specs.Limits.{most_places}
use Rattle.scaled_decimal.specs.WholeNumbers.{IsOfBits, is_of_bits, int_bits, long_bits, whole_decimal}
use Rattle.pap_tree.specs.declared.declaration.Kind.{Kind}
use Rattle.pap_tree.specs.declared.declaration.Kind.TheVariants as declares
use Rattle.pap_tree.specs.declared.expression.Known.{Known}
use Rattle.pap_tree.specs.declared.expression.Known.TheVariants as knowns
use Rattle.pap_tree.specs.Grammar.{known_value}
use Rattle.pap_tree.specs.Term.{Leaf, whole, long, point, text, known, named}
use Rattle.pap_tree.specs.Declarations.{Declaration, DeclaredLiteral, number, big, table}
use Rattle.pap_tree.specs.Flowchart.{Body, Flowchart}
use Rattle.interval_num.specs.declared.cause.RangeCause.TheVariants.{Wide, Index}
use Rattle.interval_num.specs.Intervals.{Interval, interval, IsWholeOfBits}
use Rattle.interval_num.specs.Alignment.{is_beyond, hull}
use Rattle.interval_num.specs.Rows.{least_scale, greatest_scale, decimals_row, item_row}
use Rattle.limits_file.specs.declared.limits.InputLimit.{InputLimit}
use Rattle.limits_file.specs.declared.limits.Limits.{Limits}
use Rattle.limits_file.specs.Limits.{HasSoundBounds}
use Rattle.pap_types.specs.declared.kinds.NodeKind.{NodeKind}
use Rattle.pap_types.specs.declared.kinds.NodeKind.TheVariants.{Int, Long, Big, Truth, Fraction, Factor, Table}
use Rattle.pap_types.specs.Scopes.{Scope, scope_of, variables_of, declared_as, declaration_in, names_of, first_value, table_items, declared_table, declared_decimal, kept_as, table_in}
use Rattle.pap_types.specs.Kinds.{declared_kind, name_kind, leaf_kind}
use Rattle.pap_types.specs.Checks.{is_of_type}
use Rattle.pap_types.specs.Typing.{HasItsType, AreDistinct, declarations_of, IsDeclaredLeaf, IsTypedBody, HasTypes}
use Rattle.pap_types.specs.Counts.{AreSmallTerms, IsWithinCounts}
use Rattle.pap_types.specs.Limits.{longest_chain}
use Rattle.pap_types.proofs.Laws.{has_types}
use Rattle.interval_walk.specs.Ranges.{Ranges, names_in, range_named, single}
use Rattle.interval_walk.specs.NodeRanges.{is_whole_of, read_range, read_leaf, leaf_interval, read_item, item_range}
use Rattle.interval_walk.specs.Walked.{walked, range_calls_of}
use Rattle.interval_walk.specs.Admission.{IsWholeLimit, SuitsLimit, HasLimit}
use Rattle.interval_walk.specs.Analysis.{limit_range, input_range, first_range}
use Rattle.interval_walk.specs.Shapes.{HasShape}
use Rattle.interval_walk.specs.Reading.{HasFewPlaces, HoldsLeaf, HoldsLiteral, AreShaped, IsShapedIf, IsReadWhole, NothingIsRefusedAtReading}
use Rattle.interval_walk.proofs.RowShapes.{unless_ok, ok_is, longer_bits, bits_shape}
use Rattle.interval_walk.proofs.PlanLemmas.{other_name, all_declared, all_after, variables_first, pairs_tail, pairs_head, sound_scope}
use Rattle.interval_walk.proofs.ScopeLemmas.{IsSoundScope}
use Rattle.interval_walk.proofs.NameLemmas.{StayNamed, tested_named, at_name}
use Rattle.interval_walk.proofs.KeptWalk.{KeptIf}
use Rattle.interval_walk.proofs.ShapedWalk.{IsShaped, AllShaped, found_shape, tested_shaped, walked_shaped}

-- ---- what has the shape of its kind is read as it is

bits_in : (bits : ℕ) (n : ℤ) → IsOfBits bits n → is_of_bits bits n ≡ true
bits_in bits n h =
    let low : int_le (neg_ℤ (pos (2 ^ (bits - 1)))) n ≡ true = (let l = h.low in grind (arith, ints)) in
    let high : int_lt n (pos (2 ^ (bits - 1))) ≡ true = (let l = h.high in grind (arith, ints)) in
    rw (low, high) refl

whole_in : (bits : ℕ) (a : Interval) → IsWholeOfBits bits a → is_whole_of bits a ≡ true
whole_in bits a w =
    let s : (a.s_lo == 0) ≡ true = (let z = w.whole.least_scale in grind (arith, nat_tests)) in
    let t : (a.s_hi == 0) ≡ true = (let z = w.whole.greatest_scale in grind (arith, nat_tests)) in
    rw (s, t, bits_in bits a.lo w.low, bits_in bits a.hi w.high) refl

few_in : (a : Interval) → a.s_hi ≤ most_places → nat_lt most_places a.s_hi ≡ false
few_in a h = grind (arith, nat_tests)

pub read_passes : (k : NodeKind) (a : Interval) → HasShape k a → read_range k a ≡ Ok a
read_passes Int a h = rw (whole_in int_bits a h.suits) refl
read_passes Long a h = rw (whole_in long_bits a h.suits) refl
read_passes Big a h = rw (few_in a h.places) refl
read_passes Truth a h = rw (few_in a h.places) refl
read_passes Fraction a h = rw (few_in a h.places) refl
read_passes Factor a h = rw (few_in a h.places) refl
read_passes Table a h = rw (few_in a h.places) refl

-- ---- what declared names begin with

single_bits : (bits : ℕ) (i : ℤ) → IsOfBits bits i → IsWholeOfBits bits (single (whole_decimal i))
single_bits bits i h = record { whole = record { least_scale = refl; greatest_scale = refl }; low = h; high = h }

zero_int : IsOfBits int_bits (pos 0)
zero_int = record { low = omega (arith, ints); high = omega (arith, ints) }

zero_long : IsOfBits long_bits (pos 0)
zero_long = record { low = omega (arith, ints); high = omega (arith, ints) }

int_single : (i : ℤ) → IsOfBits int_bits i → HasShape Int (single (whole_decimal i))
int_single i h = bits_shape Int (single (whole_decimal i)) (single_bits int_bits i h)

long_single : (i : ℤ) → IsOfBits long_bits i → HasShape Long (single (whole_decimal i))
long_single i h = bits_shape Long (single (whole_decimal i)) (single_bits long_bits i h)

-- a written value or zero, as the type keeps it
first_at : (k : Kind) (v : Option DeclaredLiteral) → option_map_or (is_of_type k) v true ≡ true → IfSome v HoldsLiteral → HasShape (declared_kind k) (single (kept_as k (declared_decimal v)))
first_at declares.Int None t h = int_single (pos 0) zero_int
first_at declares.Int (Some (number (whole i))) t h = int_single i h
first_at declares.Int (Some (number (long i))) t h = absurd (cc)
first_at declares.Int (Some (number (point i))) t h = absurd (cc)
first_at declares.Int (Some (number (text i))) t h = absurd (cc)
first_at declares.Int (Some (number (known i))) t h = absurd (cc)
first_at declares.Int (Some (number (named i))) t h = absurd (cc)
first_at declares.Int (Some (big d)) t h = absurd (cc)
first_at declares.Int (Some (table ds)) t h = absurd (cc)
first_at declares.Long None t h = long_single (pos 0) zero_long
first_at declares.Long (Some (number (whole i))) t h = long_single i (longer_bits i h)
first_at declares.Long (Some (number (long i))) t h = long_single i h
first_at declares.Long (Some (number (point i))) t h = absurd (cc)
first_at declares.Long (Some (number (text i))) t h = absurd (cc)
first_at declares.Long (Some (number (known i))) t h = absurd (cc)
first_at declares.Long (Some (number (named i))) t h = absurd (cc)
first_at declares.Long (Some (big d)) t h = absurd (cc)
first_at declares.Long (Some (table ds)) t h = absurd (cc)
first_at declares.Big None t h = record { places = omega arith; suits = tt }
first_at declares.Big (Some (big d)) t h = record { places = h; suits = tt }
first_at declares.Big (Some (number l)) t h = absurd (cc)
first_at declares.Big (Some (table ds)) t h = absurd (cc)
first_at declares.Factor v t h = record { places = omega arith; suits = tt }
first_at declares.Table None t h = record { places = omega arith; suits = tt }
first_at declares.Table (Some (table ds)) t h = record { places = omega arith; suits = tt }
first_at declares.Table (Some (number l)) t h = absurd (cc)
first_at declares.Table (Some (big d)) t h = absurd (cc)

-- a declaration whose literal is a number of its type
record IsHeld (d : Declaration) : Type 0 where
  typed : HasItsType d
  holds : IfSome d.value HoldsLiteral

first_shaped : (d : Declaration) → IsHeld d → HasShape (declared_kind d.kind) (single (first_value d))
first_shaped d h = first_at d.kind d.value h.typed h.holds

-- ---- inputs at their limits

own_numerator : (d : Decimal) (q : ℕ) → q ≡ 0 → numerator_at q d ≡ numerator_of d
own_numerator d q e =
    let none : q - scale_of d ≡ 0 = omega arith in
    ap (λ k. numerator_of d *ℤ ten_to k) none ∙ times_one (numerator_of d)
  where
    times_one : (n : ℤ) → n *ℤ ten_to 0 ≡ n
    times_one n = omega (arith, ints)

whole_limit : (bits : ℕ) (l : InputLimit) → IsWholeLimit bits l → IsWholeOfBits bits (interval (numerator_at l.places l.low) (numerator_at l.places l.high) 0 l.places)
whole_limit bits l w = record {
  whole = record { least_scale = refl; greatest_scale = w.places };
  low = subst (IsOfBits bits) (sym (own_numerator l.low l.places w.places)) w.low;
  high = subst (IsOfBits bits) (sym (own_numerator l.high l.places w.places)) w.high;
}

limit_shape : (k : Kind) (l : InputLimit) → HasSoundBounds l → SuitsLimit k l → HasShape (declared_kind k) (limit_range k l)
limit_shape declares.Int l s w = bits_shape Int _ (whole_limit int_bits l w)
limit_shape declares.Long l s w = bits_shape Long _ (whole_limit long_bits l w)
limit_shape declares.Big l s w = record { places = s.places; suits = tt }
limit_shape declares.Factor l s w = record { places = omega arith; suits = tt }
limit_shape declares.Table l s w = record { places = s.places; suits = tt }

input_shape : (limits : Limits) (d : Declaration) → HasLimit limits d → HasShape (declared_kind d.kind) (input_range limits d).range
input_shape limits d h =
    subst (λ o. HasShape (declared_kind d.kind) (option_map_or (limit_range d.kind) o (single (first_value d)))) (sym h.is) (limit_shape d.kind h.limit h.sound h.suits)

-- ---- distinct names are found

abbrev FoundIn : List Declaration → Declaration → Type 0
FoundIn all d = declared_as all d.name ≡ Some d

same_bytes : (a : List ℕ) → bytes_eq a a ≡ true
same_bytes a = (bytes_eq-Decides a a).1 refl

all_later : (n : Declaration) (all ds : List Declaration) → ((j : ℕ) (d : List ℕ) → j < length (names_of ds) → n.name ≢ slice_index_or (names_of ds) j d) → All (FoundIn all) ds → All (FoundIn (n ∷ all)) ds
all_later n all [] differ h = All-nil (FoundIn (n ∷ all))
all_later n all (d ∷ ds) differ h =
    let other : bytes_eq d.name n.name ≡ false = other_name d.name n.name (λ e. differ 0 [] (omega arith) (sym e)) in
    let here : declared_as (n ∷ all) d.name ≡ Some d = rw other (All-head (FoundIn all) d ds h) in
    All-cons (FoundIn (n ∷ all)) d ds here (all_later n all ds (λ j e l. differ (suc j) e (omega arith)) (All-tail (FoundIn all) d ds h))

all_found : (ds : List Declaration) → AreDistinct (names_of ds) → All (FoundIn ds) ds
all_found [] h = All-nil (FoundIn [])
all_found (d ∷ ds) h =
    let here : declared_as (d ∷ ds) d.name ≡ Some d = (let same = same_bytes d.name in rw same refl) in
    All-cons (FoundIn (d ∷ ds)) d ds here (all_later d ds ds (pairs_head (λ a b. a ≢ b) d.name (names_of ds) h) (all_found ds (pairs_tail (λ a b. a ≢ b) d.name (names_of ds) h)))

-- the front of distinct names
front_distinct : (vs cs : List Declaration) → AreDistinct (names_of (vs ++ cs)) → AreDistinct (names_of vs)
front_distinct [] cs h = λ i j d l m. absurd (omega arith)
front_distinct (v ∷ vs) cs h =
    AllPairs-cons (λ a b. a ≢ b) v.name (names_of vs)
    (front_differs v.name vs cs (pairs_head (λ a b. a ≢ b) v.name (names_of (vs ++ cs)) h))
    (front_distinct vs cs (pairs_tail (λ a b. a ≢ b) v.name (names_of (vs ++ cs)) h))
  where
    front_differs : (n : List ℕ) (vs cs : List Declaration) → All (λ y. n ≢ y) (names_of (vs ++ cs)) → All (λ y. n ≢ y) (names_of vs)
    front_differs n [] cs h = All-nil (λ y. n ≢ y)
    front_differs n (v ∷ vs) cs h = All-cons (λ y. n ≢ y) v.name (names_of vs) (All-head (λ y. n ≢ y) v.name (names_of (vs ++ cs)) h) (front_differs n vs cs (All-tail (λ y. n ≢ y) v.name (names_of (vs ++ cs)) h))

all_before : (P : Declaration → Type 0) (vs cs : List Declaration) → All P (vs ++ cs) → All P vs
all_before P [] cs h = All-nil P
all_before P (v ∷ vs) cs h = All-cons P v vs (All-head P v (vs ++ cs) h) (all_before P vs cs (All-tail P v (vs ++ cs) h))

-- ---- the start

pub start_names : (limits : Limits) (ds es : List Declaration) → names_in (map (input_range limits) ds ++ map first_range es) ≡ names_of (ds ++ es)
start_names limits [] [] = refl
start_names limits [] (e ∷ es) = ap (λ ns. e.name ∷ ns) (start_names limits [] es)
start_names limits (d ∷ ds) es = ap (λ ns. d.name ∷ ns) (start_names limits ds es)

module _ (scope : Scope) where
  kind_found : (x : List ℕ) (d : Declaration) → declared_as scope.variables x ≡ Some d → name_kind scope x ≡ declared_kind d.kind
  kind_found x d e = rw e refl

  firsts_shaped : (es : List Declaration) → All (FoundIn scope.variables) es → All IsHeld es → AllShaped scope (map first_range es)
  firsts_shaped [] f h = All-nil (IsShaped scope)
  firsts_shaped (e ∷ es) f h =
      let kind = kind_found e.name e (All-head (FoundIn scope.variables) e es f) in
      let here = subst (λ k. HasShape k (single (first_value e))) (sym kind) (first_shaped e (All-head IsHeld e es h)) in
      All-cons (IsShaped scope) (first_range e) (map first_range es) here (firsts_shaped es (All-tail (FoundIn scope.variables) e es f) (All-tail IsHeld e es h))

  start_shaped : (limits : Limits) (ds es : List Declaration) → All (FoundIn scope.variables) (ds ++ es) → All (HasLimit limits) ds → All IsHeld es → AllShaped scope (map (input_range limits) ds ++ map first_range es)
  start_shaped limits [] es f l h = firsts_shaped es f h
  start_shaped limits (d ∷ ds) es f l h =
      let kind = kind_found d.name d (All-head (FoundIn scope.variables) d (ds ++ es) f) in
      let here = subst (λ k. HasShape k (input_range limits d).range) (sym kind) (input_shape limits d (All-head (HasLimit limits) d ds l)) in
      All-cons (IsShaped scope) (input_range limits d) _ here (start_shaped limits ds es (All-tail (FoundIn scope.variables) d (ds ++ es) f) (All-tail (HasLimit limits) d ds l) h)

-- ---- leaves

known_shape : (k : Known) → HasShape Big (single (known_value k))
known_shape knowns.Zero = record { places = omega arith; suits = tt }
known_shape knowns.One = record { places = omega arith; suits = tt }
known_shape knowns.Ten = record { places = omega arith; suits = tt }

read_whole : (scope : Scope) (l : Leaf) (rs : Ranges) (a : Interval) → leaf_interval scope l rs ≡ Some a → HasShape (leaf_kind scope l) a → IsReadWhole scope l rs
read_whole scope l rs a e h = record { range = a; is = e; passes = ap (read_leaf (leaf_kind scope l)) e ∙ read_passes (leaf_kind scope l) a h }

module _ (scope : Scope) (ok : IsSoundScope scope) (held : (x : List ℕ) (d : Declaration) → declared_as scope.constants x ≡ Some d → IsHeld d) (rs : Ranges) (shaped : AreShaped scope rs) where
  name_read : (x : List ℕ) → is_some (declaration_in scope x) ≡ true → IsReadWhole scope (named x) rs
  name_read x declared = by_range (range_named rs x) refl (declared_as scope.variables x) refl (declared_as scope.constants x) refl
    where
      place : is_some (range_named rs x) ≡ is_some (declared_as scope.variables x)
      place = at_name rs scope.variables x shaped.names

      by_range : (o : Option Interval) → range_named rs x ≡ o → (v : Option Declaration) → declared_as scope.variables x ≡ v → (c : Option Declaration) → declared_as scope.constants x ≡ c → IsReadWhole scope (named x) rs
      by_range (Some a) e v f c g = read_whole scope (named x) rs a (rw e refl) (found_shape scope rs x a shaped.shapes e)
      by_range None e (Some d) f c g = absurd (let k : is_some (range_named rs x) ≡ false = ap is_some e in let l : is_some (declared_as scope.variables x) ≡ true = ap is_some f in let both : false ≡ true = sym k ∙ place ∙ l in cc)
      by_range None e None f (Some d) g =
          let kind : name_kind scope x ≡ declared_kind d.kind = rw (f, g) refl in
          let is : leaf_interval scope (named x) rs ≡ Some (single (first_value d)) = rw (e, g) refl in
          read_whole scope (named x) rs (single (first_value d)) is (subst (λ k. HasShape k (single (first_value d))) (sym kind) (first_shaped d (held x d g)))
      by_range None e None f None g = absurd (let k : is_some (declaration_in scope x) ≡ false = rw (f, g) refl in cc)

  leaf_read : (l : Leaf) → IsDeclaredLeaf scope l → HoldsLeaf l → IsReadWhole scope l rs
  leaf_read (whole i) d h = read_whole scope (whole i) rs (single (whole_decimal i)) refl (int_single i h)
  leaf_read (long i) d h = read_whole scope (long i) rs (single (whole_decimal i)) refl (long_single i h)
  leaf_read (point i) d h = read_whole scope (point i) rs (single i) refl (record { places = h; suits = tt })
  leaf_read (text i) d h = read_whole scope (text i) rs (single i) refl (record { places = h; suits = tt })
  leaf_read (known k) d h = read_whole scope (known k) rs (single (known_value k)) refl (known_shape k)
  leaf_read (named x) d h = name_read x d

-- ---- items

most_few : (n : ℕ) (ds : List Decimal) → n ≤ most_places → All HasFewPlaces ds → fold max n (map scale_of ds) ≤ most_places
most_few n [] h few = h
most_few n (d ∷ ds) h few =
    let here = All-head HasFewPlaces d ds few in
    most_few (max n (scale_of d)) ds (omega arith) (All-tail HasFewPlaces d ds few)

item_places : (items : List Decimal) (index r : Interval) → All HasFewPlaces items → item_row items index ≡ Ok r → r.s_hi ≤ most_places
item_places items index r few e =
    let chosen = slice_range items (unsigned_abs index.lo) (suc (unsigned_abs index.hi)) in
    let p = unless_ok _ Index (decimals_row chosen) r e in
    let q = unless_ok (list_any is_beyond (map (numerator_at (greatest_scale chosen)) chosen)) Wide (Ok (hull (map (numerator_at (greatest_scale chosen)) chosen) (least_scale chosen) (greatest_scale chosen))) r p.1 in
    let part = All-take HasFewPlaces (suc (unsigned_abs index.hi) - unsigned_abs index.lo) (drop (unsigned_abs index.lo) items) (All-drop HasFewPlaces (unsigned_abs index.lo) items few) in
    subst (λ r. r.s_hi ≤ most_places) (ok_is (hull (map (numerator_at (greatest_scale chosen)) chosen) (least_scale chosen) (greatest_scale chosen)) r q.1) (most_few 0 chosen (omega arith) part)

items_few : (v : Option DeclaredLiteral) → IfSome v HoldsLiteral → All HasFewPlaces (declared_table v)
items_few None h = All-nil HasFewPlaces
items_few (Some (number l)) h = All-nil HasFewPlaces
items_few (Some (big d)) h = All-nil HasFewPlaces
items_few (Some (table ds)) h = h

table_few : (o : Option Declaration) → ((d : Declaration) → o ≡ Some d → IsHeld d) → All HasFewPlaces (table_items o)
table_few None h = All-nil HasFewPlaces
table_few (Some d) h = items_few d.value (h d refl).holds

item_read : (items : List Decimal) (index r : Interval) → All HasFewPlaces items → item_row items index ≡ Ok r → item_range items index ≡ Ok r
item_read items index r few e = ap read_item e ∙ read_passes Big r (record { places = item_places items index r few e; suits = tt })

-- ---- the whole

if_shaped : (scope : Scope) (rs : Ranges) (o : Option Ranges) → names_in rs ≡ names_of scope.variables → StayNamed rs o → KeptIf (IsShaped scope) o → IsShapedIf scope o
if_shaped scope rs None n k h = tt
if_shaped scope rs (Some s) n k h = record { names = k s refl ∙ n; shapes = h s refl }

declared_held : (vs : List Declaration) (P : Declaration → Type 0) → All P vs → (x : List ℕ) (d : Declaration) → declared_as vs x ≡ Some d → P d
declared_held vs P h x d e = all_declared P vs h x d e

held_all : (ds : List Declaration) → All HasItsType ds → All (λ d. IfSome d.value HoldsLiteral) ds → All IsHeld ds
held_all [] t h = All-nil IsHeld
held_all (d ∷ ds) t h =
    All-cons IsHeld d ds (record { typed = All-head HasItsType d ds t; holds = All-head (λ d. IfSome d.value HoldsLiteral) d ds h })
    (held_all ds (All-tail HasItsType d ds t) (All-tail (λ d. IfSome d.value HoldsLiteral) d ds h))

in_either : (scope : Scope) → All IsHeld scope.variables → All IsHeld scope.constants → (x : List ℕ) (d : Declaration) → declaration_in scope x ≡ Some d → IsHeld d
in_either scope hv hc x d e = by_variable (declared_as scope.variables x) refl e
  where
    by_variable : (o : Option Declaration) → declared_as scope.variables x ≡ o → option_or o (declared_as scope.constants x) ≡ Some d → IsHeld d
    by_variable (Some c) f g = let same : c ≡ d = cc in subst IsHeld same (all_declared IsHeld scope.variables hv x c f)
    by_variable None f g = all_declared IsHeld scope.constants hc x d g

-- the walk of statements keeps the names and the shapes
pub shaped_after : (f : Flowchart) → HasTypes f → IsWithinCounts f → (n : ℕ) (name : List ℕ) (b : Body) (at : ℕ) (rs ends : Ranges) → IsTypedBody (scope_of f) f.methods b → AreSmallTerms b → AreShaped (scope_of f) rs → walked (scope_of f) (range_calls_of (scope_of f) f.methods n) name at b rs ≡ Ok ends → AreShaped (scope_of f) ends
shaped_after f types counts n name b at rs ends tb sb shaped e =
    let k = walked_shaped (scope_of f) f.methods types.methods counts.terms n name b at rs ends tb sb (record { named = shaped.names; ranges = shaped.shapes }) e in
    record { names = k.named; shapes = k.ranges }

pub reading_free : NothingIsRefusedAtReading
reading_free f typed counts numbers =
    let types = has_types f typed in
    let scope = scope_of f in
    let held = subst (All IsHeld) (variables_first f) (held_all (declarations_of f) types.literals numbers) in
    let hv = all_before IsHeld (variables_of f) f.constants held in
    let hc = all_after IsHeld (variables_of f) f.constants held in
    let distinct = front_distinct (variables_of f) f.constants (subst (λ ds. AreDistinct (names_of ds)) (variables_first f) types.names) in
    let found = all_found (variables_of f) distinct in
    let later = all_after IsHeld f.inputs (f.outputs ++ f.internals) hv in
    record {
      start = λ limits have. record { names = start_names limits f.inputs (f.outputs ++ f.internals); shapes = start_shaped scope limits f.inputs (f.outputs ++ f.internals) found have later };
      test = λ t at rs br shaped e. (
          let n = tested_named scope t at rs br e in
          let h = tested_shaped scope t at rs br shaped.shapes e in
          record { holds = if_shaped scope rs br.holds shaped.names n.holds h.holds; fails = if_shaped scope rs br.fails shaped.names n.fails h.fails });
      walk = λ b name at rs ends tb sb shaped e. shaped_after f types counts longest_chain name b at rs ends tb sb shaped e;
      leaf = λ l rs d h shaped. leaf_read scope (sound_scope f types) (λ x c e. all_declared IsHeld f.constants hc x c e) rs shaped l d h;
      item = λ x index r e. item_read (table_in scope x) index r (table_few (declaration_in scope x) (λ d g. in_either scope hv hc x d g)) e;
    }
