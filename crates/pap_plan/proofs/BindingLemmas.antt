-- What is looked for among the names of the code is what is looked for among those of the plan.
use Rattle.std.proofs.Common.{◌≡◌, ℕ, suc, ◌+◌, ◌<◌, ◌≤◌, Bool, true, false, not, cond, ◌||◌, List, [], ◌∷◌, ◌++◌, length, map, drop, get_or, Option, Some, None, refl, sym, ap, ap₂, subst, ◌∙◌, arith}
use Rattle.std.specs.Prelude.{◌↔◌, IsTrue}
use Rattle.std.specs.List.{All, find}
use Rattle.std.specs.Option.{option_map}
use Rattle.std.specs.Str.{bytes_eq}
use Rattle.std.proofs.lemmas.Bool.{false≢true}
use Rattle.std.proofs.lemmas.List.{drop_all}
use Rattle.std.proofs.lemmas.List.Elements.{All-nil, All-cons, All-append}
use Rattle.std.proofs.Math.Seq.{drop-cons, append_snoc}
use Rattle.pap_tree.specs.declared.declaration.Declared.{Declared}
use Rattle.pap_tree.specs.Declarations.{Declaration, declaration_of}
use Rattle.limits_file.specs.declared.limits.InputLimit.{InputLimit}
use Rattle.limits_file.specs.declared.limits.Limits.{Limits}
use Rattle.limits_file.specs.declared.limits.Binding.{Binding}
use Rattle.limits_file.specs.declared.limits.Carry.{Carry}
use Rattle.pap_types.specs.Scopes.{names_of}
use Rattle.pap_types.specs.Checks.{has_name}
use Rattle.limits_file.specs.Limits.{limit_named}
use Rattle.interval_walk.specs.Admission.{SuitsLimit}
use Rattle.pap_plan.specs.Bindings.{has_limit, is_bound, HasSuitedLimit, IsFirstUnsuited}
use Rattle.pap_tree.specs.Flowchart.{Flowchart}
use Rattle.pap_plan.specs.private.BindingViews.{declares, without_limit, without_input}

pub declared_names : (ds : List Declared) (x : List ℕ) → declares ds x ≡ has_name (names_of (map declaration_of ds)) x
declared_names [] x = refl
declared_names (d ∷ ds) x = ap (λ b. bytes_eq x d.name || b) (declared_names ds x)

found_map : (p : Declaration → Bool) (ds : List Declared) → option_map (λ d. d.name) (find p (map declaration_of ds)) ≡ option_map (λ d. d.name) (find (λ d. p (declaration_of d)) ds)
found_map p [] = refl
found_map p (d ∷ ds) = by_test (p (declaration_of d)) (found_map p ds)
  where
    by_test : (b : Bool) → option_map (λ d. d.name) (find p (map declaration_of ds)) ≡ option_map (λ d. d.name) (find (λ d. p (declaration_of d)) ds)
        → option_map (λ d. d.name) (cond b (Some (declaration_of d)) (find p (map declaration_of ds))) ≡ option_map (λ d. d.name) (cond b (Some d) (find (λ d. p (declaration_of d)) ds))
    by_test true r = refl
    by_test false r = r

pub limits_found : (ds : List Declared) (l : Limits) → without_limit ds l ≡ option_map (λ d. d.name) (find (λ d. not (has_limit l d.name)) (map declaration_of ds))
limits_found ds l = sym (found_map (λ d. not (has_limit l d.name)) ds)

same_tests : (p q : InputLimit → Bool) → ((l : InputLimit) → p l ≡ q l) → (ls : List InputLimit) → find p ls ≡ find q ls
same_tests p q h [] = refl
same_tests p q h (l ∷ ls) = ap₂ (λ a b. cond a (Some l) b) (h l) (same_tests p q h ls)

pub inputs_found : (ds : List Declared) (ls : List InputLimit) → without_input ds ls ≡ option_map (λ l. l.name) (find (λ l. not (has_name (names_of (map declaration_of ds)) l.name)) ls)
inputs_found ds ls =
    ap (option_map (λ l. l.name)) (same_tests (λ l. not (declares ds l.name)) (λ l. not (has_name (names_of (map declaration_of ds)) l.name)) (λ l. ap not (declared_names ds l.name)) ls)

-- ---- bindings

-- the input of the first of these bindings that isn't sound
abbrev pub unbound_among : Flowchart → Limits → List Binding → Option (List ℕ)
unbound_among f l bs = option_map (λ b. b.input) (find (λ b. not (is_bound f l b)) bs)

-- what the first of these bindings of an input carries over
abbrev pub carry_among : List Binding → List ℕ → Option Carry
carry_among bs x = option_map (λ b. b.carry) (find (λ b. bytes_eq b.input x) bs)

-- ---- kinds

some_same : (x y : InputLimit) → Some x ≡ Some y → x ≡ y
some_same x y e = cc

none_or_some : (x : InputLimit) → None ≡ Some x → ⊥
none_or_some x e = cc

pub suited_at : (l : Limits) (d : Declaration) (limit : InputLimit) (b : Bool) → Some limit ≡ limit_named l d.name → (IsTrue b ↔ SuitsLimit d.kind limit) → IsTrue b ↔ HasSuitedLimit l d
suited_at l d limit b e h = (
  λ t. record { limit = limit; is = sym e; suits = h.0 t },
  λ k. h.1 (subst (SuitsLimit d.kind) (some_same k.limit limit (sym k.is ∙ sym e)) k.suits),
)

pub suited_none : (l : Limits) (d : Declaration) → None ≡ limit_named l d.name → IsTrue false ↔ HasSuitedLimit l d
suited_none l d e = (λ t. absurd (false≢true t), λ k. absurd (none_or_some k.limit (e ∙ k.is)))

-- the declarations from a number on
pub left_from : (ds : List Declared) (i : ℕ) (d : Declared) → d ≡ get_or ds i d → i < length ds → map declaration_of (drop i ds) ≡ declaration_of d ∷ map declaration_of (drop (i + 1) ds)
left_from ds i d is less =
    let next : suc i ≡ i + 1 = omega arith in
    ap (map declaration_of) (drop-cons ds i d less ∙ ap (λ x. x ∷ drop (suc i) ds) (sym is) ∙ ap (λ k. d ∷ drop k ds) next)

pub none_left : (ds : List Declared) (i : ℕ) → length ds ≤ i → map declaration_of (drop i ds) ≡ []
none_left ds i end = ap (map declaration_of) (drop_all i ds end)

-- the declarations before a number have suited limits, and with those from it on they are all
pub record AreSuited (l : Limits) (all left : List Declaration) : Type 0 where
  pub before : List Declaration
  pub whole : all ≡ before ++ left
  pub suited : All (HasSuitedLimit l) before

pub none_yet : (l : Limits) (all : List Declaration) → AreSuited l all all
none_yet l all = record { before = []; whole = refl; suited = All-nil (HasSuitedLimit l) }

pub one_more : (l : Limits) (all left : List Declaration) (d : Declaration) → AreSuited l all (d ∷ left) → HasSuitedLimit l d → AreSuited l all left
one_more l all left d h k = record {
  before = h.before ++ (d ∷ []);
  whole = h.whole ∙ sym (append_snoc h.before d left);
  suited = All-append (HasSuitedLimit l) h.before (d ∷ []) h.suited (All-cons (HasSuitedLimit l) d [] k (All-nil (HasSuitedLimit l)));
}

pub first_unsuited : (f : Flowchart) (l : Limits) (left : List Declaration) (d : Declaration) → AreSuited l f.inputs (d ∷ left) → (HasSuitedLimit l d → ⊥) → IsFirstUnsuited f l d.name
first_unsuited f l left d h k = record { before = h.before; input = d; after = left; whole = h.whole; suited = h.suited; unsuited = k; named = refl }
