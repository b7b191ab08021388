-- The values with which a run begins, one after the other.
use Rattle.std.proofs.Common.{◌≡◌, ℕ, zero, suc, ◌<◌, List, [], ◌∷◌, ◌++◌, length, get_or, map, refl, sym, ap, ◌∙◌, subst, arith, append_assoc}
use Rattle.std.specs.Prelude.{All}
use Rattle.std.proofs.lemmas.List.{length-map, map-append}
use Rattle.std.proofs.lemmas.List.Elements.{All-head, All-tail}
use Rattle.scaled_decimal.specs.Decimals.{Decimal}
use Rattle.pap_tree.specs.declared.declaration.Declared.{Declared}
use Rattle.pap_tree.specs.Declarations.{Declaration, declaration_of}
use Rattle.pap_tree.specs.Flowchart.{Flowchart}
use Rattle.pap_types.specs.Meaning.{AreInputs, first_entry, given}
use Rattle.pap_types.specs.Scopes.{first_value, names_of}
use Rattle.run_values.specs.NumberedValues.{IsStart, variables_named}

-- what variables begin with
abbrev pub begun : List Declaration → List Decimal
begun ds = map first_value ds

pub declared_there : (P : Declaration → Type 0) (ds : List Declared) (i : ℕ) (d : Declared) → d ≡ get_or ds i d
    → i < length ds → All P (map declaration_of ds) → P (declaration_of d)
declared_there P [] i d is l all = absurd (omega arith)
declared_there P (x ∷ ds) zero d is l all =
    subst (λ y. P (declaration_of y)) (sym is) (All-head P (declaration_of x) (map declaration_of ds) all)
declared_there P (x ∷ ds) (suc i) d is l all =
    declared_there P ds i d is (omega arith) (All-tail P (declaration_of x) (map declaration_of ds) all)

-- ---- the whole

begun_named : (es : List Declaration) → variables_named (names_of es) (begun es) ≡ map first_entry es
begun_named [] = refl
begun_named (d ∷ es) = ap (λ vs. first_entry d ∷ vs) (begun_named es)

named : (ds es : List Declaration) (vs : List Decimal) → AreInputs ds vs
    → variables_named (names_of (ds ++ es)) (vs ++ begun es) ≡ given ds vs ++ map first_entry es
named [] es [] h = begun_named es
named [] es (v ∷ vs) h = absurd h
named (d ∷ ds) es [] h = absurd h
named (d ∷ ds) es (v ∷ vs) h = ap (λ rest. record { name = d.name; value = v } ∷ rest) (named ds es vs h.1)

sized : (ds es : List Declaration) (vs : List Decimal) → AreInputs ds vs
    → length (vs ++ begun es) ≡ length (names_of (ds ++ es))
sized [] es [] h = length-map es first_value ∙ sym (length-map es (λ d. d.name))
sized [] es (v ∷ vs) h = absurd h
sized (d ∷ ds) es [] h = absurd h
sized (d ∷ ds) es (v ∷ vs) h = ap suc (sized ds es vs h.1)

pub is_start : (f : Flowchart) (inputs vs : List Decimal) → AreInputs f.inputs inputs
    → vs ≡ inputs ++ begun f.outputs ++ begun f.internals → IsStart f inputs vs
is_start f inputs vs h is =
    let others = f.outputs ++ f.internals in
    let same : vs ≡ inputs ++ begun others =
    is
    ∙ append_assoc inputs (begun f.outputs) (begun f.internals)
    ∙ ap (λ xs. inputs ++ xs) (sym (map-append first_value f.outputs f.internals)) in
    record {
      sized = ap length same ∙ sized f.inputs others inputs h;
      values = ap (variables_named (names_of (f.inputs ++ others))) same ∙ named f.inputs others inputs h;
    }
