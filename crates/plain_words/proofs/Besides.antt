-- The places of what doesn't fit between a flowchart and its range file.
use Rattle.std.proofs.Common.{◌≡◌, ℕ, Bool, true, false, List, [], ◌∷◌, ◌++◌, refl, sym, ap, ◌∙◌, subst}
use Rattle.std.specs.Prelude.{Result, Ok, Err, IfOk, map, ◌||◌}
use Rattle.std.specs.List.{list_any}
use Rattle.std.specs.Str.{bytes_eq}
use Rattle.std.specs.declared.alloc.AllocError.{AllocError}
use Rattle.pap_reader.specs.declared.elements.RawDeclared.{RawDeclared}
use Rattle.pap_reader.specs.declared.elements.Elements.{Elements}
use Rattle.pap_reader.specs.Trees.{ElementTree, raw_declaration_of, tree_of}
use Rattle.pap_reader.specs.Elements.{IsElements}
use Rattle.pap_reader.proofs.Laws.{one_tree}
use Rattle.pap_types.specs.Checks.{has_name}
use Rattle.pap_plan.specs.declared.refusal.PlanRefusal.{PlanRefusal}
use Rattle.pap_plan.specs.declared.refusal.PlanRefusal.TheVariants as refusals
use Rattle.plain_words.specs.declared.found.Found.{Found}
use Rattle.plain_words.specs.Places.{PlanPlace}
use Rattle.plain_words.specs.Refusals.{IsInPlan, IsInRanges, DeclaresInput, IsPlaceOfUnmatched}
use Rattle.plain_words.specs.private.DetailViews.{undeclared_text, AppendsByInput, AppendsDetail}
use Rattle.plain_words.specs.private.FoundViews.{place_in, place_of, IsOfPlan, IsOfRanges, IsPlaceBeside}
use Rattle.plain_words.specs.private.SiteViews.{declares_input}

pub in_plan_file : (f : Found) → IsOfPlan f → IsInPlan (place_of f)
in_plan_file f is = subst (λ k. IsInPlan (place_in k f.at)) (sym is) tt

pub in_range_file : (f : Found) → IsOfRanges f → IsInRanges (place_of f)
in_range_file f is = subst (λ k. IsInRanges (place_in k f.at)) (sym is) tt

-- where the flowchart's file isn't read, all stands in the range file
pub unread_beside : (plan : List ℕ) (r : PlanRefusal) (place : PlanPlace) → ((tree : ElementTree) → ¬ (IsElements plan tree)) → IsInRanges place → IsPlaceBeside plan r place
unread_beside plan (refusals.LimitName name) place none is = record { input = λ d. absurd (none d.tree d.read); none = λ _. is }
unread_beside plan _ place none is = is

-- ---- the names of inputs

names_any : (inputs : List RawDeclared) (name : List ℕ)
    → list_any (λ d. bytes_eq name d.name) inputs ≡ has_name (map (λ d. d.name) (map raw_declaration_of inputs)) name
names_any [] name = refl
names_any (d ∷ ds) name = ap (λ b. bytes_eq name d.name || b) (names_any ds name)

-- the elements that were read declare it
declared_by : (plan name : List ℕ) (x : Elements) → IsElements plan (tree_of x) → declares_input x name ≡ true → DeclaresInput plan name
declared_by plan name x read is = record {
  tree = tree_of x;
  read = read;
  declared = sym (names_any x.inputs.items name) ∙ is;
}

declared_in : (plan name : List ℕ) (x : Elements) → IsElements plan (tree_of x) → DeclaresInput plan name → declares_input x name ≡ true
declared_in plan name x read d =
    let same = one_tree plan d.tree (tree_of x) d.read.text read.text in
    names_any x.inputs.items name ∙ sym (ap (λ (t : ElementTree). has_name (map (λ d. d.name) t.inputs) name) same) ∙ d.declared

-- ---- what is appended

-- where the flowchart's file isn't read, it declares no input
pub undeclared : (plan : List ℕ) (r : PlanRefusal) (old new : List ℕ) → ((tree : ElementTree) → ¬ (IsElements plan tree))
    → new ≡ old ++ undeclared_text r → AppendsDetail plan r old new
undeclared plan (refusals.LimitName name) old new unread is =
    record { input = λ d. absurd (unread d.tree d.read); none = λ _. is }
undeclared plan (refusals.Bind name) old new unread is =
    record { input = λ d. absurd (unread d.tree d.read); none = λ _. is }
undeclared plan _ old new unread is = tt

-- what is appended by the elements that were read
pub appended : (plan name : List ℕ) (x y : Elements) (text : Bool → List ℕ) (old new : List ℕ) → y ≡ x → IsElements plan (tree_of x)
    → new ≡ old ++ text (declares_input y name) → AppendsByInput plan name text old new
appended plan name x y text old new same read is = record {
  input = λ d. told ∙ ap (λ b. old ++ text b) (declared_in plan name x read d);
  none = λ lacks. told ∙ by (declares_input x name) refl lacks;
}
  where
    told : new ≡ old ++ text (declares_input x name)
    told = is ∙ ap (λ (z : Elements). old ++ text (declares_input z name)) same

    by : (b : Bool) → declares_input x name ≡ b → ¬ (DeclaresInput plan name)
        → old ++ text (declares_input x name) ≡ old ++ text false
    by true same lacks = absurd (lacks (declared_by plan name x read same))
    by false same lacks = ap (λ b. old ++ text b) same

-- ---- an input without a limit, or a limit of no input

not_true : (b : Bool) → b ≡ true → b ≡ false → ⊥
not_true b e e' = cc

of_plan : (plan name : List ℕ) (x : Elements) (f : Found) → IsElements plan (tree_of x) → declares_input x name ≡ true → IsOfPlan f → IsPlaceOfUnmatched plan name (place_of f)
of_plan plan name x f read is of = record { input = λ _. in_plan_file f of; none = λ no. absurd (no (declared_by plan name x read is)) }

of_ranges : (plan name : List ℕ) (x : Elements) (f : Found) → IsElements plan (tree_of x) → declares_input x name ≡ false → IsOfRanges f → IsPlaceOfUnmatched plan name (place_of f)
of_ranges plan name x f read is of = record {
  input = λ d. absurd (not_true (declares_input x name) (declared_in plan name x read d) is);
  none = λ _. in_range_file f of;
}

if_ok : (r : Result Found AllocError) (P Q : Found → Type 0) → ((f : Found) → P f → Q f) → IfOk r P → IfOk r Q
if_ok (Ok f) P Q by h = by f h
if_ok (Err e) P Q by h = tt

pub limit_beside : (plan name : List ℕ) (x : Elements) (r : Result Found AllocError) → IsElements plan (tree_of x)
    → (declares_input x name ≡ true → IfOk r (λ f. IsOfPlan f)) → (declares_input x name ≡ false → IfOk r (λ f. IsOfRanges f))
    → IfOk r (λ f. IsPlaceOfUnmatched plan name (place_of f))
limit_beside plan name x r read some none = by (declares_input x name) refl
  where
    by : (b : Bool) → declares_input x name ≡ b → IfOk r (λ f. IsPlaceOfUnmatched plan name (place_of f))
    by true is = if_ok r (λ f. IsOfPlan f) _ (λ f of. of_plan plan name x f read is of) (some is)
    by false is = if_ok r (λ f. IsOfRanges f) _ (λ f of. of_ranges plan name x f read is of) (none is)
