-- The items of a plan's tables by number.
use Rattle.std.proofs.Common.{◌≡◌, ℕ, ◌<◌, List, [], length, get_or, Option, Some, None, refl, sym, ap, ap₂, ◌∙◌, arith}
use Rattle.std.specs.Prelude.{slice_get}
use Rattle.std.specs.Option.{option_map, option_or}
use Rattle.std.proofs.lemmas.List.{length-map}
use Rattle.std.proofs.lemmas.Option.{none-some, same_Some, slice_get-map, slice_get_read}
use Rattle.scaled_decimal.specs.Decimals.{Decimal}
use Rattle.pap_tree.specs.Declarations.{Declaration}
use Rattle.pap_types.specs.Scopes.{Scope, names_of, number_of, declared_as, declared_table, table_items, table_in}
use Rattle.pap_types.proofs.Laws.{declared_by}
use Rattle.interval_analysis.specs.private.TableViews.{tables_of}
use Rattle.interval_analysis.proofs.KeptLemmas.{declared_at, variable_of}
use Rattle.interval_analysis.proofs.NameLemmas.{number_in}

items_read : (o : Option Declaration) (t : List Decimal)
    → option_map (λ d. declared_table d.value) o ≡ Some t → t ≡ table_items o
items_read None t e = absurd (none-some t e)
items_read (Some d) t e = sym (same_Some (declared_table d.value) t e)

-- the items of a declared name stand at its number
table_at : (ds : List Declaration) (ts : List (List Decimal)) (x : List ℕ) (i : ℕ) (t : List Decimal)
    → ts ≡ tables_of ds → Some i ≡ number_of (names_of ds) x → t ≡ get_or ts i t → t ≡ table_items (declared_as ds x)
table_at ds ts x i t is number at =
    let within = (number_in (names_of ds) x i (sym number)).1 in
    let names = length-map ds (λ d. d.name) in
    let tables = ap length is ∙ length-map ds (λ d. declared_table d.value) in
    let bound : i < length ts = omega (arith, within, names, tables) in
    let there : slice_get ts i ≡ Some t = slice_get_read ts (length ts) i t refl bound at in
    items_read (declared_as ds x) t
    (ap (option_map (λ d. declared_table d.value)) (sym (declared_at ds x i number))
    ∙ sym (slice_get-map (λ d. declared_table d.value) ds i)
    ∙ sym (ap (λ l. slice_get l i) is)
    ∙ there)

not_declared : (ds : List Declaration) (x : List ℕ)
    → None ≡ number_of (names_of ds) x → declared_as ds x ≡ None
not_declared ds x e = sym (declared_by ds x (names_of ds) None refl e)

module _ (scope : Scope) (x : List ℕ) where
  pub variable_table : (ts : List (List Decimal)) (i : ℕ) (t : List Decimal)
      → ts ≡ tables_of scope.variables → Some i ≡ number_of (names_of scope.variables) x → t ≡ get_or ts i t
      → t ≡ table_in scope x
  variable_table ts i t is number at =
      table_at scope.variables ts x i t is number at ∙ ap table_items (sym (variable_of scope x i number))

  pub constant_table : (ts : List (List Decimal)) (i : ℕ) (t : List Decimal)
      → ts ≡ tables_of scope.constants → None ≡ number_of (names_of scope.variables) x
      → Some i ≡ number_of (names_of scope.constants) x → t ≡ get_or ts i t → t ≡ table_in scope x
  constant_table ts i t is none number at =
      table_at scope.constants ts x i t is number at
      ∙ ap (λ o. table_items (option_or o (declared_as scope.constants x))) (sym (not_declared scope.variables x none))

  pub no_table : None ≡ number_of (names_of scope.variables) x → None ≡ number_of (names_of scope.constants) x
      → [] ≡ table_in scope x
  no_table variable constant =
      let no_variable = not_declared scope.variables x variable in
      let no_constant = not_declared scope.constants x constant in
      sym (ap₂ (λ v d. table_items (option_or v d)) no_variable no_constant)
