-- Ranges of internals that are joined one after the other.
use Rattle.std.proofs.Common.{◌≡◌, ◌≢◌, ◌⊎◌, inl, inr, ℕ, zero, suc, ◌+◌, ◌<◌, ◌≤◌, List, [], ◌∷◌, ◌++◌, length, map, set, take, drop, get_or, refl, sym, ap, ◌∙◌, subst, arith}
use Rattle.std.specs.Prelude.{◌↔◌, Option, Some, None, option_map, IsSomeAnd, slice_get}
use Rattle.std.specs.List.{AllZip}
use Rattle.std.specs.BTreeMap.{get}
use Rattle.std.proofs.lemmas.Bool.{cases_eq, cases_lt}
use Rattle.std.proofs.lemmas.List.{append-nil, drop_all, length-map, length-set, take_all}
use Rattle.std.proofs.lemmas.Option.{same_Some, slice_get-map, slice_get_within, slice_get_read}
use Rattle.pap_tree.specs.Declarations.{Declaration}
use Rattle.pap_tree.specs.Flowchart.{Flowchart}
use Rattle.interval_analysis.specs.declared.value_range.ValueRange.{ValueRange}
use Rattle.interval_analysis.specs.Surveys.{StatementPlace, place_cmp, LiesWithin, IsLeastRange}
use Rattle.interval_analysis.proofs.Laws.{within_then, least_alone, least_as}
use Rattle.statement_list.specs.declared.statement.Form.{Form}
use Rattle.statement_list.specs.declared.statement.Form.TheVariants.{Set, Test, Enter}
use Rattle.statement_list.specs.Statements.{Listed, listed_methods}
use Rattle.range_marks.specs.RangeTexts.{ends_text}
use Rattle.range_marks.specs.RangeMarks.{WalkFindings, method_name_at}
use Rattle.range_marks.specs.InternalRanges.{begun_range, AssignsIn, IsAssigned, HasRange, IsWholeRange, AreInternalRanges}
use Rattle.range_marks.specs.private.InternalViews.{IsInternal, Joins, PutsFound, PutsHere}

-- ---- least ranges

-- the least range of some, and then that of it and more
least_more : (P Q : ValueRange → Type 0) (m t : ValueRange) → IsLeastRange P m → IsLeastRange (λ r. (m ≡ r) ⊎ Q r) t
    → IsLeastRange (λ r. P r ⊎ Q r) t
least_more P Q m t h g = record {
  around = around;
  least = end (λ q. q.least) h.least g.least;
  greatest = end (λ q. q.greatest) h.greatest g.greatest;
  fewest_places = end (λ q. q.fewest_places) h.fewest_places g.fewest_places;
  most_places = end (λ q. q.most_places) h.most_places g.most_places;
}
  where
    around : (s : ValueRange) → P s ⊎ Q s → LiesWithin s t
    around s (inl p) = within_then s m t (h.around s p) (g.around m (inl refl))
    around s (inr q) = g.around s (inr q)

    end : {A : Type 0} (f : ValueRange → A) → ((s : ValueRange) × P s × (f s ≡ f m)) → ((s : ValueRange) × ((m ≡ s) ⊎ Q s) × (f s ≡ f t))
        → (s : ValueRange) × (P s ⊎ Q s) × (f s ≡ f t)
    end f first last = by_last last.1
      where
        by_last : (m ≡ last.0) ⊎ Q last.0 → (s : ValueRange) × (P s ⊎ Q s) × (f s ≡ f t)
        by_last (inl e) = (first.0, inl first.1, first.2 ∙ ap f e ∙ last.2)
        by_last (inr q) = (last.0, inr q, last.2)

-- the same ranges said otherwise
least_said : (P Q : ValueRange → Type 0) (r : ValueRange) → ((s : ValueRange) → Q s ↔ P s) → IsLeastRange P r → IsLeastRange Q r
least_said P Q r same h = least_as P Q (Some r) same h

-- a range that nothing is put into
least_stays : (k : ValueRange) (P : ValueRange → Type 0) → ((r : ValueRange) → P r → ⊥) → IsLeastRange (λ r. (k ≡ r) ⊎ P r) k
least_stays k P none = least_alone k (λ r. (k ≡ r) ⊎ P r) (inl refl) only
  where
    only : (s : ValueRange) → (k ≡ s) ⊎ P s → k ≡ s
    only s (inl e) = e
    only s (inr p) = absurd (none s p)

-- what follows from what is said of a value that is there
some_weaker : {A : Type 0} (o : Option A) (P Q : A → Type 0) → ((x : A) → P x → Q x) → IsSomeAnd o P → IsSomeAnd o Q
some_weaker None P Q f h = h
some_weaker (Some x) P Q f h = f x h

some_there : {A : Type 0} (o : Option A) (P : A → Type 0) (x : A) → o ≡ Some x → P x → IsSomeAnd o P
some_there o P x is h = subst (λ o. IsSomeAnd o P) (sym is) h

-- ---- what is joined

-- two that are the same beside another are
beside : {P Q : Type 0} (W : Type 0) → P ↔ Q → (W ⊎ P) ↔ (W ⊎ Q)
beside {P} {Q} W same = (to, from)
  where
    to : W ⊎ P → W ⊎ Q
    to (inl w) = inl w
    to (inr p) = inr (same.0 p)

    from : W ⊎ Q → W ⊎ P
    from (inl w) = inl w
    from (inr q) = inr (same.1 q)

module _ (ds : List Declaration) where
  -- the same that is put, said otherwise
  pub joins_as : (P Q : List ℕ → ValueRange → Type 0) (a b : List ValueRange) → ((x : List ℕ) (r : ValueRange) → Q x r ↔ P x r)
      → Joins ds P a b
      → Joins ds Q a b
  joins_as P Q a b same h = record {
    count = h.count;
    each = λ i d k is known.
        some_weaker (slice_get b i) (IsLeastRange (λ r. (k ≡ r) ⊎ P d.name r)) (IsLeastRange (λ r. (k ≡ r) ⊎ Q d.name r))
        (λ t. least_said (λ r. (k ≡ r) ⊎ P d.name r) (λ r. (k ≡ r) ⊎ Q d.name r) t (λ r. beside (k ≡ r) (same d.name r)))
        (h.each i d k is known);
  }

  -- ranges into which nothing is put
  pub joins_none : (P : List ℕ → ValueRange → Type 0) (a : List ValueRange)
      → ((i : ℕ) (d : Declaration) (k r : ValueRange) → slice_get ds i ≡ Some d → slice_get a i ≡ Some k → P d.name r → ⊥) → Joins ds P a a
  joins_none P a none = record {
    count = refl;
    each = λ i d k is known.
        some_there (slice_get a i) (IsLeastRange (λ r. (k ≡ r) ⊎ P d.name r)) k known
        (least_stays k (P d.name) (λ r p. none i d k r is known p));
  }

  -- the one, and then the other
  pub joins_then : (P Q R : List ℕ → ValueRange → Type 0) (a b c : List ValueRange)
      → ((x : List ℕ) (r : ValueRange) → R x r ↔ (P x r ⊎ Q x r)) → Joins ds P a b → Joins ds Q b c → Joins ds R a c
  joins_then P Q R a b c parts h g = record {
    count = g.count ∙ h.count;
    each = λ i d k is known. by_first i d k is (slice_get b i) refl (h.each i d k is known);
  }
    where
      both : (d : Declaration) (k m t : ValueRange) → IsLeastRange (λ r. (k ≡ r) ⊎ P d.name r) m
          → IsLeastRange (λ r. (m ≡ r) ⊎ Q d.name r) t
          → IsLeastRange (λ r. (k ≡ r) ⊎ R d.name r) t
      both d k m t first second =
          least_said (λ r. ((k ≡ r) ⊎ P d.name r) ⊎ Q d.name r) (λ r. (k ≡ r) ⊎ R d.name r) t (λ r. (to r, from r))
          (least_more (λ r. (k ≡ r) ⊎ P d.name r) (Q d.name) m t first second)
        where
          of_parts : (r : ValueRange) → P d.name r ⊎ Q d.name r → ((k ≡ r) ⊎ P d.name r) ⊎ Q d.name r
          of_parts r (inl p) = inl (inr p)
          of_parts r (inr q) = inr q

          to : (r : ValueRange) → (k ≡ r) ⊎ R d.name r → ((k ≡ r) ⊎ P d.name r) ⊎ Q d.name r
          to r (inl e) = inl (inl e)
          to r (inr h) = of_parts r ((parts d.name r).0 h)

          from : (r : ValueRange) → ((k ≡ r) ⊎ P d.name r) ⊎ Q d.name r → (k ≡ r) ⊎ R d.name r
          from r (inl (inl e)) = inl e
          from r (inl (inr p)) = inr ((parts d.name r).1 (inl p))
          from r (inr q) = inr ((parts d.name r).1 (inr q))

      by_first : (i : ℕ) (d : Declaration) (k : ValueRange) → slice_get ds i ≡ Some d → (o : Option ValueRange) → slice_get b i ≡ o
          → IsSomeAnd o (IsLeastRange (λ r. (k ≡ r) ⊎ P d.name r)) → IsSomeAnd (slice_get c i) (IsLeastRange (λ r. (k ≡ r) ⊎ R d.name r))
      by_first i d k is None there first = absurd first
      by_first i d k is (Some m) there first =
          some_weaker (slice_get c i) (IsLeastRange (λ r. (m ≡ r) ⊎ Q d.name r)) (IsLeastRange (λ r. (k ≡ r) ⊎ R d.name r))
          (λ t. both d k m t first) (g.each i d m is there)

-- ---- what one statement puts

-- a range at a place of a list, and those at others
set_there : {A : Type 0} (xs : List A) (i : ℕ) (x : A) → i < length xs → slice_get (set xs i x) i ≡ Some x
set_there [] i x lt = absurd (omega arith)
set_there (y ∷ xs) zero x lt = refl
set_there (y ∷ xs) (suc i) x lt = set_there xs i x (omega arith)

set_elsewhere : {A : Type 0} (xs : List A) (i j : ℕ) (x : A) → (i ≡ j → ⊥) → slice_get (set xs j x) i ≡ slice_get xs i
set_elsewhere [] i j x other = refl
set_elsewhere (y ∷ xs) zero zero x other = absurd (other refl)
set_elsewhere (y ∷ xs) zero (suc j) x other = refl
set_elsewhere (y ∷ xs) (suc i) zero x other = refl
set_elsewhere (y ∷ xs) (suc i) (suc j) x other = set_elsewhere xs i j x (λ e. other (ap suc e))

module _ (f : Flowchart) (target : List ℕ) where
  -- no range is known
  pub nothing_found : (a : List ValueRange) → Joins f.internals (PutsFound target None) a a
  nothing_found a = joins_none f.internals (PutsFound target None) a (λ i d k r is known p. cc (p.1))

  -- no internal has the name
  pub no_internal : (found : Option ValueRange) (a : List ValueRange) → IsInternal f target None
      → Joins f.internals (PutsFound target found) a a
  no_internal found a none =
      joins_none f.internals (PutsFound target found) a (λ i d k r is known p. let number = (none i d is).0 p.0 in cc)

  -- the internal's range isn't there
  pub no_range : (found : Option ValueRange) (a : List ValueRange) (n : ℕ) → IsInternal f target (Some n) → length a ≤ n
      → Joins f.internals (PutsFound target found) a a
  no_range found a n named past =
      joins_none f.internals (PutsFound target found) a (λ i d k r is known p.
      let number : Some n ≡ Some i = (named i d is).0 p.0 in
      let same : n ≡ i = cc in
      let within = slice_get_within a i k known in
      omega arith)

  -- the internal's range is joined with what is found
  pub range_joined : (range k j : ValueRange) (a : List ValueRange) (n : ℕ) → IsInternal f target (Some n) → k ≡ get_or a n k → n < length a
      → IsLeastRange (λ r. (k ≡ r) ⊎ (range ≡ r)) j → Joins f.internals (PutsFound target (Some range)) a (set a n j)
  range_joined range k j a n named read within least = record {
    count = length-set a n j;
    each = λ i d m is known. by_place i d m is known (cases_eq i n);
  }
    where
      there : slice_get a n ≡ Some k
      there = slice_get_read a (length a) n k refl within read

      here : (d : Declaration) → d.name ≡ target → IsLeastRange (λ r. (k ≡ r) ⊎ PutsFound target (Some range) d.name r) j
      here d name =
          least_said (λ r. (k ≡ r) ⊎ (range ≡ r)) (λ r. (k ≡ r) ⊎ PutsFound target (Some range) d.name r) j
          (λ r. beside (k ≡ r) (same_range r)) least
        where
          same_range : (r : ValueRange) → PutsFound target (Some range) d.name r ↔ (range ≡ r)
          same_range r = (λ p. (let is = p.1 in cc), λ e. (name, ap Some e))

      by_place : (i : ℕ) (d : Declaration) (m : ValueRange) → slice_get f.internals i ≡ Some d → slice_get a i ≡ Some m
          → (i ≡ n) ⊎ (i ≡ n → ⊥)
          → IsSomeAnd (slice_get (set a n j) i) (IsLeastRange (λ r. (m ≡ r) ⊎ PutsFound target (Some range) d.name r))
      by_place i d m is known (inl same) =
          let known_there : slice_get a n ≡ Some m = subst (λ i. slice_get a i ≡ Some m) same known in
          let one = same_Some k m (sym there ∙ known_there) in
          let name = (named i d is).1 (ap Some (sym same)) in
          some_there (slice_get (set a n j) i) (IsLeastRange (λ r. (m ≡ r) ⊎ PutsFound target (Some range) d.name r)) j
          (ap (slice_get (set a n j)) same ∙ set_there a n j within)
          (subst (λ m. IsLeastRange (λ r. (m ≡ r) ⊎ PutsFound target (Some range) d.name r) j) one (here d name))
      by_place i d m is known (inr other) =
          some_there (slice_get (set a n j) i) (IsLeastRange (λ r. (m ≡ r) ⊎ PutsFound target (Some range) d.name r)) m
          (set_elsewhere a i n j other ∙ known)
          (least_stays m (PutsFound target (Some range) d.name) (λ r p.
          let number : Some n ≡ Some i = (named i d is).0 p.0 in
          let same : i ≡ n = cc in
          other same))

-- ---- what a statement at a place puts

-- an EVAL
pub eval_joined : (ds : List Declaration) (w : WalkFindings) (p : StatementPlace) (target : List ℕ) (found : Option ValueRange) (a b : List ValueRange)
    → found ≡ get place_cmp w.values p → Joins ds (PutsFound target found) a b → Joins ds (PutsHere w p (Set target)) a b
eval_joined ds w p target found a b is h =
    joins_as ds (PutsFound target found) (PutsHere w p (Set target)) a b
    (λ x r. ((λ q. (let form = q.0 in cc, is ∙ q.1)), (λ q. (ap Set (sym q.0), sym is ∙ q.1)))) h

-- another statement
pub other_joined : (ds : List Declaration) (w : WalkFindings) (p : StatementPlace) (form : Form) (a : List ValueRange)
    → ((x : List ℕ) → form ≡ Set x → ⊥) → Joins ds (PutsHere w p form) a a
other_joined ds w p form a other = joins_none ds (PutsHere w p form) a (λ i d k r is known q. other d.name q.0)

-- ---- statements one after the other

-- what the first of a method's statements put
abbrev pub FirstAssign : WalkFindings → List ℕ → List Listed → ℕ → List ℕ → ValueRange → Type 0
FirstAssign w m ss n x r = (p : AssignsIn w m ss x r) × (p.number < n)

module _ (ds : List Declaration) (w : WalkFindings) (m : List ℕ) (ss : List Listed) where
  pub no_statement : (a : List ValueRange) → Joins ds (FirstAssign w m ss 0) a a
  no_statement a = joins_none ds (FirstAssign w m ss 0) a (λ i d k r is known p. let less = p.1 in omega arith)

  pub statement_joined : (n : ℕ) (s : Listed) (a b c : List ValueRange) → s ≡ get_or ss n s → n < length ss
      → Joins ds (FirstAssign w m ss n) a b
      → Joins ds (PutsHere w (m, n) s.form) b c → Joins ds (FirstAssign w m ss (n + 1)) a c
  statement_joined n s a b c read within before here =
      joins_then ds (FirstAssign w m ss n) (PutsHere w (m, n) s.form) (FirstAssign w m ss (n + 1)) a b c (λ x r. (to x r, from x r)) before here
    where
      there : slice_get ss n ≡ Some s
      there = slice_get_read ss (length ss) n s refl within read

      to : (x : List ℕ) (r : ValueRange) → FirstAssign w m ss (n + 1) x r → FirstAssign w m ss n x r ⊎ PutsHere w (m, n) s.form x r
      to x r (p, less) = by_number (cases_lt p.number n)
        where
          by_number : (p.number < n) ⊎ (n ≤ p.number) → FirstAssign w m ss n x r ⊎ PutsHere w (m, n) s.form x r
          by_number (inl first) = inl (p, first)
          by_number (inr last) =
              let same : p.number ≡ n = omega (arith, less, last) in
              let found : slice_get ss n ≡ Some p.statement = subst (λ k. slice_get ss k ≡ Some p.statement) same p.there in
              let one = same_Some s p.statement (sym there ∙ found) in
              inr (ap (λ t. t.form) one ∙ p.assigns, subst (λ k. get place_cmp w.values (m, k) ≡ Some r) same p.puts)

      from : (x : List ℕ) (r : ValueRange) → FirstAssign w m ss n x r ⊎ PutsHere w (m, n) s.form x r → FirstAssign w m ss (n + 1) x r
      from x r (inl (p, less)) = (p, omega (arith, less))
      from x r (inr h) = (record { number = n; statement = s; there = there; assigns = h.0; puts = h.1 }, omega arith)

  pub statements_joined : (n : ℕ) (a b : List ValueRange) → length ss ≤ n → Joins ds (FirstAssign w m ss n) a b
      → Joins ds (AssignsIn w m ss) a b
  statements_joined n a b all h =
      joins_as ds (FirstAssign w m ss n) (AssignsIn w m ss) a b
      (λ x r. ((λ p. (p, (let within = slice_get_within ss p.number p.statement p.there in omega arith))), (λ p. p.0))) h

-- ---- methods one after the other

-- what the statements of the first methods put
abbrev pub FirstAssigned : Flowchart → WalkFindings → ℕ → List ℕ → ValueRange → Type 0
FirstAssigned f w n x r = (p : IsAssigned f w x r) × (p.method < n)

module _ (f : Flowchart) (w : WalkFindings) where
  pub no_method : (a : List ValueRange) → Joins f.internals (FirstAssigned f w 0) a a
  no_method a = joins_none f.internals (FirstAssigned f w 0) a (λ i d k r is known p. let less = p.1 in omega arith)

  pub method_joined : (methods : List (List Listed)) (n : ℕ) (ss : List Listed) (a b c : List ValueRange) → methods ≡ listed_methods f
      → ss ≡ get_or methods n ss → n < length methods → Joins f.internals (FirstAssigned f w n) a b
      → Joins f.internals (AssignsIn w (method_name_at f n) ss) b c → Joins f.internals (FirstAssigned f w (n + 1)) a c
  method_joined methods n ss a b c listed read within before here =
      joins_then f.internals (FirstAssigned f w n) (AssignsIn w (method_name_at f n) ss) (FirstAssigned f w (n + 1)) a b c (λ x r. (to x r, from x r)) before here
    where
      there : slice_get (listed_methods f) n ≡ Some ss
      there = ap (λ l. slice_get l n) (sym listed) ∙ slice_get_read methods (length methods) n ss refl within read

      to : (x : List ℕ) (r : ValueRange) → FirstAssigned f w (n + 1) x r → FirstAssigned f w n x r ⊎ AssignsIn w (method_name_at f n) ss x r
      to x r (p, less) = by_number (cases_lt p.method n)
        where
          by_number : (p.method < n) ⊎ (n ≤ p.method) → FirstAssigned f w n x r ⊎ AssignsIn w (method_name_at f n) ss x r
          by_number (inl first) = inl (p, first)
          by_number (inr last) =
              let same : p.method ≡ n = omega (arith, less, last) in
              let found : slice_get (listed_methods f) n ≡ Some p.statements =
              subst (λ k. slice_get (listed_methods f) k ≡ Some p.statements) same p.there in
              let one = same_Some p.statements ss (sym found ∙ there) in
              inr (subst (λ l. AssignsIn w (method_name_at f n) l x r) one
              (subst (λ k. AssignsIn w (method_name_at f k) p.statements x r) same p.assigns))

      from : (x : List ℕ) (r : ValueRange) → FirstAssigned f w n x r ⊎ AssignsIn w (method_name_at f n) ss x r
          → FirstAssigned f w (n + 1) x r
      from x r (inl (p, less)) = (p, omega (arith, less))
      from x r (inr h) = (record { method = n; statements = ss; there = there; assigns = h }, omega arith)

  pub methods_joined : (methods : List (List Listed)) (n : ℕ) (a b : List ValueRange) → methods ≡ listed_methods f → length methods ≤ n
      → Joins f.internals (FirstAssigned f w n) a b → Joins f.internals (IsAssigned f w) a b
  methods_joined methods n a b listed all h =
      joins_as f.internals (FirstAssigned f w n) (IsAssigned f w) a b (λ x r. (to x r, λ p. p.0)) h
    where
      to : (x : List ℕ) (r : ValueRange) → IsAssigned f w x r → FirstAssigned f w n x r
      to x r p =
          let within = slice_get_within (listed_methods f) p.method p.statements p.there in
          let same = ap length listed in
          (p, omega arith)

-- ---- the texts

-- a list that is written over another of its length
pub written_back : {A : Type 0} (old new : List A) (n : ℕ) → n ≡ length old → length new ≡ length old
    → take n (new ++ drop (length new) old) ≡ new
written_back old new n all same =
    ap (λ l. take n (new ++ l)) (drop_all (length new) old (omega arith))
    ∙ ap (take n) (append-nil new)
    ∙ take_all n new (omega arith)

all_told : (P : Declaration → List ℕ → Type 0) (ds : List Declaration) (rs : List ValueRange) → length rs ≡ length ds
    → ((i : ℕ) (d : Declaration) → slice_get ds i ≡ Some d → IsSomeAnd (slice_get rs i) (λ r. P d (ends_text r)))
    → AllZip P ds (map ends_text rs)
all_told P [] [] same h = tt
all_told P [] (r ∷ rs) same h = absurd (omega arith)
all_told P (d ∷ ds) [] same h = absurd (omega arith)
all_told P (d ∷ ds) (r ∷ rs) same h = (h 0 d refl, all_told P ds rs (omega arith) (λ i e is. h (suc i) e is))

pub ranges_told : (f : Flowchart) (w : WalkFindings) (a rs : List ValueRange) (texts : List (List ℕ)) → a ≡ map begun_range f.internals
    → Joins f.internals (IsAssigned f w) a rs → texts ≡ map ends_text rs → AreInternalRanges f w texts
ranges_told f w a rs texts begun h told =
    subst (AreInternalRanges f w) (sym told)
    (all_told (IsWholeRange f w) f.internals rs (h.count ∙ ap length begun ∙ length-map f.internals begun_range) (λ i d is.
    some_weaker (slice_get rs i) (IsLeastRange (HasRange f w d)) (λ r. IsWholeRange f w d (ends_text r))
    (λ r least. record { range = r; least = least; is = refl })
    (h.each i d (begun_range d) is
    (ap (λ l. slice_get l i) begun ∙ slice_get-map begun_range f.internals i ∙ ap (option_map begun_range) is))))
