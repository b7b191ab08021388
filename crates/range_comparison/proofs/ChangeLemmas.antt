-- Entries by the names of their inputs, and what is told of them.
use Rattle.std.proofs.Common.{◌≡◌, ℕ, suc, ◌+◌, ◌<◌, ◌≤◌, Bool, true, false, cond, List, [], ◌∷◌, ◌++◌, length, map, drop, get_or, refl, sym, ap, ◌∙◌, arith, add-one}
use Rattle.std.specs.Prelude.{Option, Some, None, slice_get}
use Rattle.std.specs.List.{flat_map}
use Rattle.std.specs.Option.{option_and_then}
use Rattle.std.specs.Borrow.{Bor}
use Rattle.std.specs.BTreeMap.{BTreeMap, IsEmpty, is_at}
use Rattle.std.specs.Cmp.Lexicographic.{slice_cmp}
use Rattle.std.specs.Ordering.{nat_cmp}
use Rattle.std.specs.Map.{lookup, update}
use Rattle.std.specs.Str.{bytes_eq}
use Rattle.std.proofs.Common.{append_assoc, drop-cons}
use Rattle.std.proofs.lemmas.List.{drop_all}
use Rattle.std.proofs.lemmas.Option.{slice_get_read}
use Rattle.limits_file.specs.declared.limits.Limits.{Limits}
use Rattle.range_comparison.specs.declared.entry.RangeEntry.{RangeEntry}
use Rattle.range_comparison.specs.declared.entry.RangeEntry.TheVariants.{Input, Bind}
use Rattle.range_comparison.specs.declared.change.RangeChange.{RangeChange}
use Rattle.range_comparison.specs.Changes.{entry_input, entry_for, new_change, old_change, entry_changes, range_changes}
use Rattle.range_comparison.specs.private.EntryViews.{place_for, entry_in, ArePlacesFrom}

-- ---- places

-- an empty map has no place
pub places_none : (entries : List RangeEntry) (places : BTreeMap (Bor (List ℕ)) ℕ) (from : ℕ) → IsEmpty places
    → length entries ≤ from → ArePlacesFrom from entries places
places_none entries places from empty past = λ name.
    ap (λ es. option_and_then (slice_get entries) (lookup (is_at (λ (key : Bor (List ℕ)). slice_cmp nat_cmp name key.now)) es)) empty
    ∙ ap (λ es. entry_for es name) (sym (drop_all from entries past))

-- one entry more, before those that the map has
pub places_more : (entries : List RangeEntry) (i : ℕ) (e : RangeEntry) (name : List ℕ)
    (places places' : BTreeMap (Bor (List ℕ)) ℕ) → i < length entries → e ≡ get_or entries i e → name ≡ entry_input e
    → ((q : List ℕ) → place_for places' q ≡ update bytes_eq (place_for places) name (Some i) q)
    → ArePlacesFrom (i + 1) entries places → ArePlacesFrom i entries places'
places_more entries i e name places places' lt is named updated h = λ q. by q (bytes_eq name q) refl
  where
    rest : drop i entries ≡ e ∷ drop (i + 1) entries
    rest = drop-cons entries i e lt ∙ ap (λ x. x ∷ drop (suc i) entries) (sym is) ∙ ap (λ n. e ∷ drop n entries) (sym (add-one i))

    by : (q : List ℕ) (b : Bool) → bytes_eq name q ≡ b → entry_in entries places' q ≡ entry_for (drop i entries) q
    by q true same =
        ap (λ o. option_and_then (slice_get entries) o) (updated q ∙ ap (λ b. cond b (Some i) (place_for places q)) same)
        ∙ slice_get_read entries (length entries) i e refl lt is
        ∙ sym (ap (λ es. entry_for es q) rest
        ∙ ap (λ b. cond b (Some e) (entry_for (drop (i + 1) entries) q)) (ap (λ n. bytes_eq n q) (sym named) ∙ same))
    by q false other =
        ap (λ o. option_and_then (slice_get entries) o) (updated q ∙ ap (λ b. cond b (Some i) (place_for places q)) other)
        ∙ h q
        ∙ sym (ap (λ es. entry_for es q) rest
        ∙ ap (λ b. cond b (Some e) (entry_for (drop (i + 1) entries) q)) (ap (λ n. bytes_eq n q) (sym named) ∙ other))

-- ---- what is told

-- the same is told where the same is there for each input
new_changes_same : (f g : List ℕ → Option RangeEntry) (new : List RangeEntry) → ((q : List ℕ) → f q ≡ g q)
    → flat_map (new_change f) new ≡ flat_map (new_change g) new
new_changes_same f g [] same = refl
new_changes_same f g (e ∷ new) same =
    let first : new_change f e ≡ new_change g e = ap (λ o. new_change (λ q. o) e) (same (entry_input e)) in
    ap (λ l. l ++ flat_map (new_change f) new) first ∙ ap (λ l. new_change g e ++ l) (new_changes_same f g new same)

old_changes_same : (f g : List ℕ → Option RangeEntry) (old : List RangeEntry) → ((q : List ℕ) → f q ≡ g q)
    → flat_map (old_change f) old ≡ flat_map (old_change g) old
old_changes_same f g [] same = refl
old_changes_same f g (e ∷ old) same =
    let first : old_change f e ≡ old_change g e = ap (λ o. old_change (λ q. o) e) (same (entry_input e)) in
    ap (λ l. l ++ flat_map (old_change f) old) first ∙ ap (λ l. old_change g e ++ l) (old_changes_same f g old same)

-- what is told by the places of both lists' entries
pub changes_of : (old new : List RangeEntry) (p q : BTreeMap (Bor (List ℕ)) ℕ) (before between after : List RangeChange)
    → ArePlacesFrom 0 old p → ArePlacesFrom 0 new q
    → between ≡ before ++ flat_map (new_change (entry_in old p)) new
    → after ≡ between ++ flat_map (old_change (entry_in new q)) old → after ≡ before ++ entry_changes old new
changes_of old new p q before between after old_places new_places news olds =
    olds
    ∙ ap (λ l. l ++ flat_map (old_change (entry_in new q)) old) news
    ∙ append_assoc before (flat_map (new_change (entry_in old p)) new) (flat_map (old_change (entry_in new q)) old)
    ∙ ap (λ l. before ++ (l ++ flat_map (old_change (entry_in new q)) old))
    (new_changes_same (entry_in old p) (entry_for old) new old_places)
    ∙ ap (λ l. before ++ (flat_map (new_change (entry_for old)) new ++ l))
    (old_changes_same (entry_in new q) (entry_for new) old new_places)

-- what is told of both tables of two range files
pub all_changes : (old new : Limits) (inputs inputs' bindings bindings' : List RangeEntry) (none first all : List RangeChange)
    → none ≡ [] → inputs ≡ map (λ l. Input l) old.inputs → inputs' ≡ map (λ l. Input l) new.inputs
    → bindings ≡ map (λ b. Bind b) old.bindings → bindings' ≡ map (λ b. Bind b) new.bindings
    → first ≡ none ++ entry_changes inputs inputs' → all ≡ first ++ entry_changes bindings bindings'
    → all ≡ range_changes old new
all_changes old new inputs inputs' bindings bindings' none first all empty of_inputs of_inputs' of_bindings of_bindings' is
    is' =
    is'
    ∙ ap (λ l. l ++ entry_changes bindings bindings') is
    ∙ ap (λ l. (l ++ entry_changes inputs inputs') ++ entry_changes bindings bindings') empty
    ∙ ap (λ l. entry_changes l inputs' ++ entry_changes bindings bindings') of_inputs
    ∙ ap (λ l. entry_changes (map (λ x. Input x) old.inputs) l ++ entry_changes bindings bindings') of_inputs'
    ∙ ap (λ l. entry_changes (map (λ x. Input x) old.inputs) (map (λ x. Input x) new.inputs) ++ entry_changes l bindings')
    of_bindings
    ∙ ap (λ l. entry_changes (map (λ x. Input x) old.inputs) (map (λ x. Input x) new.inputs)
    ++ entry_changes (map (λ b. Bind b) old.bindings) l) of_bindings'
