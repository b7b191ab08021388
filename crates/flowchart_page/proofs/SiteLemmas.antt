-- Names among the elements that were read are those of the plan's tree.
use Rattle.std.proofs.Common.{◌≡◌, ℕ, Bool, true, false, List, [], ◌∷◌, refl, sym, ap}
use Rattle.std.specs.Prelude.{◌||◌, IsTrue, map, if◌then◌else◌}
use Rattle.std.specs.Str.{bytes_eq}
use Rattle.pap_tree.specs.Names.{is_name}
use Rattle.pap_types.specs.Checks.{has_name}
use Rattle.pap_reader.specs.declared.elements.RawDeclared.{RawDeclared}
use Rattle.pap_reader.specs.declared.elements.RawMethod.{RawMethod}
use Rattle.pap_reader.specs.Trees.{raw_declaration_of, raw_routine_of}
use Rattle.flowchart_methods.specs.declared.site.Site.{Site}
use Rattle.flowchart_methods.specs.declared.site.Site.TheVariants.{Statement, Method, Declared, Nowhere}
use Rattle.flowchart_methods.specs.Sites.{named_statement}
use Rattle.pap_reader.specs.Trees.{ElementTree}
use Rattle.pap_plan.specs.declared.refusal.PlanRefusal.{PlanRefusal}
use Rattle.flowchart_page.specs.private.Sites.{is_among, has_row, has_method, site_on, site_of}
use Rattle.flowchart_page.specs.Sites.{named_by_key, named_by}
use Rattle.flowchart_page.specs.private.SiteViews.{declares, names_method}

pub declares_among : (group : List RawDeclared) (name : List ℕ)
    → declares group name ≡ is_among (map raw_declaration_of group) name
declares_among [] name = refl
declares_among (d ∷ ds) name = ap (λ b. bytes_eq name d.name || b) (declares_among ds name)

pub method_among : (methods : List RawMethod) (name : List ℕ)
    → names_method methods name ≡ has_name (map (λ m. m.name) (map raw_routine_of methods)) name
method_among [] name = refl
method_among (m ∷ ms) name = ap (λ b. bytes_eq name m.name || b) (method_among ms name)

-- a key that is a name, and one that isn't
pub key_is : (key : List ℕ) → IsTrue (is_name key) → Declared key ≡ named_by_key key
key_is key e = ap (λ b. if b then Declared key else Nowhere) (sym e)

pub key_is_none : (key : List ℕ) → ¬ (IsTrue (is_name key)) → Nowhere ≡ named_by_key key
key_is_none key isnt = by (is_name key) refl
  where
    by : (b : Bool) → is_name key ≡ b → Nowhere ≡ named_by_key key
    by true e = absurd (isnt e)
    by false e = ap (λ b. if b then Declared key else Nowhere) (sym e)

-- ---- the statement that the page shows of a refusal is the one that it names

on_name : (row method : Bool) (name : List ℕ)
    → named_statement (if row then Declared name else (if method then Method name else Nowhere))
    ≡ named_statement (Declared name)
on_name true method name = refl
on_name false true name = refl
on_name false false name = refl

on_site : (tree : ElementTree) (site : Site) → named_statement (site_on tree site) ≡ named_statement site
on_site tree (Statement method number) = refl
on_site tree (Method method) = refl
on_site tree (Declared name) = on_name (has_row tree name) (has_method tree name) name
on_site tree Nowhere = refl

pub named_on : (tree : ElementTree) (r : PlanRefusal) → named_statement (site_of tree r) ≡ named_statement (named_by r)
named_on tree r = on_site tree (named_by r)
