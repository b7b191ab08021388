-- What is told behind a refusal.
use Rattle.std.proofs.Common.{◌≡◌, ◌≢◌, ℕ, ◌<◌, false, List, [], ◌∷◌, ◌++◌, length, Option, Some, None, Result, Ok, Err, map, drop, refl, sym, ap, subst, ◌∙◌}
use Rattle.std.specs.Prelude.{All, IfOk, IfSome, MatchBool, option_map, slice_get, string_bytes, String}
use Rattle.std.specs.declared.alloc.AllocError.{AllocError}
use Rattle.std.specs.declared.alloc.Global.{Global}
use Rattle.std.proofs.lemmas.List.{map-append}
use Rattle.pap_expr.specs.declared.fault.ExprFault.{ExprFault}
use Rattle.std.proofs.lemmas.List.Elements.{All-head, All-tail}
use Rattle.pap_tree.specs.Declarations.{Declaration}
use Rattle.pap_tree.specs.Flowchart.{Flowchart}
use Rattle.limits_file.specs.declared.limits.Limits.{Limits}
use Rattle.limits_file.specs.declared.fault.LimitsFault.{LimitsFault}
use Rattle.limits_file.specs.declared.fault.LimitsFault.TheVariants as files
use Rattle.limits_file.specs.Faults.{Fault, too_long, no_toml, bad_key, bad_bound}
use Rattle.limits_file.specs.Limits.{longest_limits}
use Rattle.limits_file.specs.RangeFiles.{FileSays}
use Rattle.limits_file.proofs.Laws.{file_once}
use Rattle.pap_types.specs.declared.fault.TypeFault.{TypeFault}
use Rattle.pap_types.specs.AllFaults.{type_faults, RefusedByFirst}
use Rattle.pap_plan.specs.Acceptance.{Meaning, HasRangeFile, IsRefused}
use Rattle.pap_plan.specs.Bindings.{unmatched_name, unbound_input, HasSuitedLimit, AreMatched, IsUnmatched}
use Rattle.pap_plan.specs.LimitFaults.{limit_faults, FaultlessIsMatched, FirstIsUnmatched}
use Rattle.pap_plan.specs.AcceptanceClauses.{IsUnreadPlan}
use Rattle.pap_plan.specs.StageRefusals.{text_refusal}
use Rattle.pap_plan.specs.declared.refusal.PlanRefusal.{PlanRefusal}
use Rattle.pap_plan.specs.declared.refusal.PlanRefusal.TheVariants as refusals
use Rattle.pap_plan.proofs.Laws.{one}
use Rattle.plain_words.specs.Places.{PlanFiles}
use Rattle.plan_text.specs.Plans.{IsPlan}
use Rattle.plan_text.specs.declared.fault.Spot.{Spot}
use Rattle.plan_text.specs.declared.fault.PlanFault.TheVariants as texts
use Rattle.plan_text.proofs.Laws.{one_plan, never_both}
use Rattle.diagnostics.specs.FaultLines.{IsPlanLine, TellsEach}
use Rattle.diagnostics.specs.FurtherFaults.{AreAllFaults, AreLimitRefusals, AreTextRefusals, AreTypeRefusals, TellsEntryFaults, TellsFaults, TellsStage, TellsStageFaults, is_of_entries}
use Rattle.diagnostics.specs.Operands.{TellsOperands}
use Rattle.diagnostics.specs.private.StageViews.{AreFaultsBeside}
use Rattle.diagnostics.proofs.FaultLaws.{first_answered}

-- ---- the first of a list, and what stands behind it

none_is : (r : PlanRefusal) → ◌≡◌ {A = Option PlanRefusal} None (Some r) → ⊥
none_is r e = cc

some_is : (r q : PlanRefusal) → ◌≡◌ {A = Option PlanRefusal} (Some r) (Some q) → r ≡ q
some_is r q e = cc

whole_is : (all : List PlanRefusal) (r : PlanRefusal) → slice_get all 0 ≡ Some r → all ≡ r ∷ drop 1 all
whole_is [] r e = absurd (none_is r e)
whole_is (q ∷ all) r e = ap (λ x. x ∷ all) (some_is q r e)

first_mapped : {A : Type 0} (f : A → PlanRefusal) (xs : List A) (x : A) → slice_get xs 0 ≡ Some x → slice_get (map f xs) 0 ≡ Some (f x)
first_mapped f [] x e = ap (λ o. option_map f o) e
first_mapped f (y ∷ xs) x e = ap (λ o. option_map f o) e

-- one element more
pub mapped_more : {A B : Type 0} (f : A → B) (before : List A) (x : A) (old new : List B) → old ≡ map f before → new ≡ old ++ (f x ∷ [])
    → new ≡ map f (before ++ (x ∷ []))
mapped_more f before x old new told more = more ∙ ap (λ l. l ++ (f x ∷ [])) told ∙ sym (map-append f before (x ∷ []))

-- ---- what was read before is read again

pub never_unread : (plan : List ℕ) (r : PlanRefusal) → ((f : Flowchart) × IsPlan plan f) → r ≢ refusals.Memory → IsUnreadPlan plan r → ⊥
never_unread plan (refusals.Read fault) read other h = never_both plan read.0 (texts.Read fault) read.1 h
never_unread plan (refusals.Expr spot fault) read other h = never_both plan read.0 (texts.Expr spot fault) read.1 h
never_unread plan (refusals.Types fault) read other h = h
never_unread plan (refusals.Order fault) read other h = h
never_unread plan (refusals.Limits fault) read other h = h
never_unread plan (refusals.LimitName name) read other h = h
never_unread plan (refusals.LimitKind name) read other h = h
never_unread plan (refusals.Bind name) read other h = h
never_unread plan (refusals.Range fault) read other h = h
never_unread plan refusals.Memory read other h = other refl

ok_err : (l : Limits) (fault : Fault) → ◌≡◌ {A = Result Limits Fault} (Ok l) (Err fault) → ⊥
ok_err l fault e = cc

never_fault : (limits : List ℕ) → ((l : Limits) × FileSays limits (Ok l)) → (fault : Fault) → FileSays limits (Err fault) → ⊥
never_fault limits read fault h = ok_err read.0 fault (file_once limits (Ok read.0) (Err fault) read.1 h)

pub never_misread : (limits : List ℕ) (r : Result Limits LimitsFault) (fault : LimitsFault) → ((l : Limits) × FileSays limits (Ok l))
    → r ≡ Err fault → ((e : AllocError) → fault ≢ files.Memory e) → (r ≡ Err files.LimitsLong → longest_limits < length limits)
    → (r ≡ Err files.Toml → FileSays limits (Err no_toml)) → ((label : List ℕ) → r ≡ Err (files.Key label) → FileSays limits (Err (bad_key label)))
    → ((label : List ℕ) → r ≡ Err (files.Bound label) → FileSays limits (Err (bad_bound label))) → ⊥
never_misread limits r files.LimitsLong read is other long toml key bound = never_fault limits read too_long (long is)
never_misread limits r files.Toml read is other long toml key bound = never_fault limits read no_toml (toml is)
never_misread limits r (files.Key label) read is other long toml key bound = never_fault limits read (bad_key label) (key label is)
never_misread limits r (files.Bound label) read is other long toml key bound = never_fault limits read (bad_bound label) (bound label is)
never_misread limits r (files.Memory e) read is other long toml key bound = other e refl

-- ---- all faults of a stage begin with the refusal

pub all_texts : (plan limits : List ℕ) (r : PlanRefusal) (spot : Spot) (fault : ExprFault) → r ≡ refusals.Expr spot fault → IsRefused plan limits r
    → (all : List PlanRefusal) → AreTextRefusals plan all → AreAllFaults plan limits r (r ∷ drop 1 all)
all_texts plan limits r spot fault is refused all h =
    let own = refusals.Expr spot fault in
    let first = (first_answered plan limits h.faults h.found spot fault).0 (subst (IsRefused plan limits) is refused) in
    let begins = ap (λ l. slice_get l 0) h.are ∙ first_mapped text_refusal h.faults _ first in
    subst (λ q. AreAllFaults plan limits q (q ∷ drop 1 all)) (sym is) (subst (AreTextRefusals plan) (whole_is all own begins) h)

pub all_types : ((f : Flowchart) → RefusedByFirst f) → (plan limits : List ℕ) (r : PlanRefusal) (fault : TypeFault) → r ≡ refusals.Types fault → IsRefused plan limits r
    → (all : List PlanRefusal) → AreTypeRefusals plan all → AreAllFaults plan limits r (r ∷ drop 1 all)
all_types by_first plan limits r fault is refused all h =
    let own = refusals.Types fault in
    let k = subst (IsRefused plan limits) is refused in
    let f = h.flowchart in
    let same : k.0 ≡ f = one_plan plan k.0 f k.1 h.read in
    let first : slice_get (type_faults f) 0 ≡ Some fault = subst (λ g. slice_get (type_faults g) 0 ≡ Some fault) same (by_first k.0 ∙ k.2) in
    let begins = ap (λ l. slice_get l 0) h.are ∙ first_mapped refusals.Types (type_faults f) fault first in
    subst (λ q. AreAllFaults plan limits q (q ∷ drop 1 all)) (sym is) (subst (AreTypeRefusals plan) (whole_is all own begins) h)

ok_same : (a b : Limits) → ◌≡◌ {A = Result Limits Fault} (Ok a) (Ok b) → a ≡ b
ok_same a b e = cc

-- where the first of all faults of the entries is known of the two texts
limits_begin : (plan limits : List ℕ) (r : PlanRefusal) (f : Flowchart) (l : Limits) → IsPlan plan f → FileSays limits (Ok l)
    → slice_get (limit_faults f l) 0 ≡ Some r → (all : List PlanRefusal) → AreLimitRefusals plan limits all → AreLimitRefusals plan limits (r ∷ drop 1 all)
limits_begin plan limits r f l read says first all h =
    let same = one_plan plan f h.flowchart read h.read in
    let alike = ok_same l h.ranges (file_once limits (Ok l) (Ok h.ranges) says h.says) in
    let begins = ap (λ x. slice_get x 0) h.are ∙ subst (λ x. slice_get (limit_faults h.flowchart x) 0 ≡ Some r) alike (subst (λ g. slice_get (limit_faults g l) 0 ≡ Some r) same first) in
    subst (AreLimitRefusals plan limits) (whole_is all r begins) h

-- a refusal for the entries of a range file
of_entries : (plan limits : List ℕ) (f : Flowchart) (l : Limits) → HasRangeFile plan limits f l → (r : PlanRefusal) → IsUnmatched f l r → IsRefused plan limits r
of_entries plan limits f l file (refusals.LimitName name) h = (f, (l, file, h))
of_entries plan limits f l file (refusals.LimitKind name) h = (f, (l, record { file = file; matching = h.0 }, h.1))
of_entries plan limits f l file (refusals.Bind name) h = (f, (l, record { named = record { file = file; matching = h.0 }; suited = h.1 }, h.2))
of_entries plan limits f l file (refusals.Read fault) h = absurd h
of_entries plan limits f l file (refusals.Expr spot fault) h = absurd h
of_entries plan limits f l file (refusals.Types fault) h = absurd h
of_entries plan limits f l file (refusals.Order fault) h = absurd h
of_entries plan limits f l file (refusals.Limits fault) h = absurd h
of_entries plan limits f l file (refusals.Range fault) h = absurd h
of_entries plan limits f l file refusals.Memory h = absurd h

unsuited_among : (l : Limits) (before after : List Declaration) (d : Declaration) → ¬ (HasSuitedLimit l d) → ¬ (All (HasSuitedLimit l) (before ++ (d ∷ after)))
unsuited_among l [] after d none all = none (All-head (HasSuitedLimit l) d after all)
unsuited_among l (b ∷ bs) after d none all = unsuited_among l bs after d none (All-tail (HasSuitedLimit l) b (bs ++ (d ∷ after)) all)

no_name : (o : Option (List ℕ)) (name : List ℕ) → o ≡ Some name → o ≡ None → ⊥
no_name o name e e' = cc

not_matched : (f : Flowchart) (l : Limits) (r : PlanRefusal) → IsUnmatched f l r → ¬ (AreMatched f l)
not_matched f l (refusals.LimitName name) h m = no_name (unmatched_name f l) name h m.names
not_matched f l (refusals.LimitKind name) h m =
    unsuited_among l h.1.before h.1.after h.1.input h.1.unsuited (subst (All (HasSuitedLimit l)) h.1.whole m.suited)
not_matched f l (refusals.Bind name) h m = no_name (unbound_input f l) name h.2 m.bound
not_matched f l (refusals.Read fault) h m = h
not_matched f l (refusals.Expr spot fault) h m = h
not_matched f l (refusals.Types fault) h m = h
not_matched f l (refusals.Order fault) h m = h
not_matched f l (refusals.Limits fault) h m = h
not_matched f l (refusals.Range fault) h m = h
not_matched f l refusals.Memory h m = h

err_same : (r q : PlanRefusal) → ◌≡◌ {A = Result Meaning PlanRefusal} (Err r) (Err q) → r ≡ q
err_same r q e = cc

-- the laws of all faults of the entries
abbrev pub HaveLimitLaws : Type 0
HaveLimitLaws = ((f : Flowchart) (l : Limits) → FaultlessIsMatched f l) × ((f : Flowchart) (l : Limits) → FirstIsUnmatched f l)

first_entry : HaveLimitLaws → (plan limits : List ℕ) (f : Flowchart) (l : Limits) (r : PlanRefusal) → HasRangeFile plan limits f l → IsUnmatched f l r
    → slice_get (limit_faults f l) 0 ≡ Some r
first_entry laws plan limits f l r file h = by (limit_faults f l) refl
  where
    by : (all : List PlanRefusal) → limit_faults f l ≡ all → slice_get all 0 ≡ Some r
    by [] e = absurd (not_matched f l r h ((laws.0 f l).1 e))
    by (q ∷ all) e =
        let k = subst (λ x. IfSome (slice_get x 0) (IsUnmatched f l)) e (laws.1 f l) in
        ap Some (err_same q r (one plan limits (Err q) (Err r) (of_entries plan limits f l file q k) (of_entries plan limits f l file r h)))

entries_begin : HaveLimitLaws → (plan limits : List ℕ) (f : Flowchart) (l : Limits) (r : PlanRefusal) → HasRangeFile plan limits f l → IsUnmatched f l r
    → (all : List PlanRefusal) → AreLimitRefusals plan limits all → AreLimitRefusals plan limits (r ∷ drop 1 all)
entries_begin laws plan limits f l r file h =
    limits_begin plan limits r f l file.ordered.typed.text file.file (first_entry laws plan limits f l r file h)

pub all_names : HaveLimitLaws → (plan limits : List ℕ) (r : PlanRefusal) (name : List ℕ) → r ≡ refusals.LimitName name → IsRefused plan limits r
    → (all : List PlanRefusal) → AreLimitRefusals plan limits all → AreAllFaults plan limits r (r ∷ drop 1 all)
all_names laws plan limits r name is refused all h =
    let own = refusals.LimitName name in
    let k = subst (IsRefused plan limits) is refused in
    subst (λ q. AreAllFaults plan limits q (q ∷ drop 1 all)) (sym is) (entries_begin laws plan limits k.0 k.1.0 own k.1.1 k.1.2 all h)

pub all_kinds : HaveLimitLaws → (plan limits : List ℕ) (r : PlanRefusal) (name : List ℕ) → r ≡ refusals.LimitKind name → IsRefused plan limits r
    → (all : List PlanRefusal) → AreLimitRefusals plan limits all → AreAllFaults plan limits r (r ∷ drop 1 all)
all_kinds laws plan limits r name is refused all h =
    let own = refusals.LimitKind name in
    let k = subst (IsRefused plan limits) is refused in
    subst (λ q. AreAllFaults plan limits q (q ∷ drop 1 all)) (sym is)
    (entries_begin laws plan limits k.0 k.1.0 own k.1.1.file (k.1.1.matching, k.1.2) all h)

pub all_bindings : HaveLimitLaws → (plan limits : List ℕ) (r : PlanRefusal) (name : List ℕ) → r ≡ refusals.Bind name → IsRefused plan limits r
    → (all : List PlanRefusal) → AreLimitRefusals plan limits all → AreAllFaults plan limits r (r ∷ drop 1 all)
all_bindings laws plan limits r name is refused all h =
    let own = refusals.Bind name in
    let k = subst (IsRefused plan limits) is refused in
    subst (λ q. AreAllFaults plan limits q (q ∷ drop 1 all)) (sym is)
    (entries_begin laws plan limits k.0 k.1.0 own k.1.1.named.file (k.1.1.named.matching, k.1.1.suited, k.1.2) all h)

-- ---- the two texts were read

pub types_read : (plan limits : List ℕ) (r : PlanRefusal) (fault : TypeFault) → r ≡ refusals.Types fault → IsRefused plan limits r
    → (f : Flowchart) × IsPlan plan f
types_read plan limits r fault is refused = let k = subst (IsRefused plan limits) is refused in (k.0, k.1)

-- both texts, of which the second has limits
abbrev pub AreRead : List ℕ → List ℕ → Type 0
AreRead plan limits = ((f : Flowchart) × IsPlan plan f) × ((l : Limits) × FileSays limits (Ok l))

file_read : (plan limits : List ℕ) (f : Flowchart) (l : Limits) → HasRangeFile plan limits f l → AreRead plan limits
file_read plan limits f l file = ((f, file.ordered.typed.text), (l, file.file))

pub names_read : (plan limits : List ℕ) (r : PlanRefusal) (name : List ℕ) → r ≡ refusals.LimitName name → IsRefused plan limits r → AreRead plan limits
names_read plan limits r name is refused =
    let k = subst (IsRefused plan limits) is refused in file_read plan limits k.0 k.1.0 k.1.1

pub kinds_read : (plan limits : List ℕ) (r : PlanRefusal) (name : List ℕ) → r ≡ refusals.LimitKind name → IsRefused plan limits r → AreRead plan limits
kinds_read plan limits r name is refused =
    let k = subst (IsRefused plan limits) is refused in file_read plan limits k.0 k.1.0 k.1.1.file

pub bindings_read : (plan limits : List ℕ) (r : PlanRefusal) (name : List ℕ) → r ≡ refusals.Bind name → IsRefused plan limits r → AreRead plan limits
bindings_read plan limits r name is refused =
    let k = subst (IsRefused plan limits) is refused in file_read plan limits k.0 k.1.0 k.1.1.named.file

-- ---- what is found of texts that are read

pub types_found : (plan : List ℕ) (f : Flowchart) (all : List PlanRefusal) → IsPlan plan f → all ≡ map refusals.Types (type_faults f) → AreTypeRefusals plan all
types_found plan f all read h = record { flowchart = f; read = read; are = h }

pub beside_found : (plan limits : List ℕ) (f : Flowchart) (all : List PlanRefusal) → IsPlan plan f → AreFaultsBeside f limits all → AreLimitRefusals plan limits all
beside_found plan limits f all read h = record { flowchart = f; ranges = h.0; read = read; says = h.1; are = h.2 }

-- ---- the lines

pub stage_told : (files : PlanFiles) (r : PlanRefusal) (further told : List PlanRefusal) (text : List ℕ) → is_of_entries r ≡ false → told ≡ further
    → AreAllFaults files.plan.bytes files.ranges.bytes r (r ∷ further) → TellsEach (IsPlanLine files) (r ∷ told) text → TellsStage files r text
stage_told files r further told text apart same all h =
    subst (λ b. MatchBool b (TellsEntryFaults files text) (TellsStageFaults files r text)) (sym apart) (record {
      further = further;
      are = all;
      tells = subst (λ l. TellsEach (IsPlanLine files) (r ∷ l) text) same h;
    })

pub tells_faults : (files : PlanFiles) (r : PlanRefusal) (lines operands text : List ℕ) → TellsStage files r lines
    → TellsOperands files.plan.bytes files.ranges.bytes r operands → text ≡ lines ++ operands → TellsFaults files r text
tells_faults files r lines operands text h known is = record {
  lines = lines;
  tells = h;
  operands = operands;
  known = known;
  is = is;
}
