-- What private contracts cite beside the definitions of Sites.
use Rattle.std.specs.Prelude.{ℕ, Bool, ◌||◌, if◌then◌else◌, List, ◌∷◌, codes, map}
use Rattle.pap_reader.specs.Trees.{RawDeclaration, ElementTree}
use Rattle.pap_types.specs.Checks.{has_name}
use Rattle.pap_plan.specs.declared.refusal.PlanRefusal.{PlanRefusal}
use Rattle.flowchart_methods.specs.declared.site.Site.{Site}
use Rattle.flowchart_methods.specs.declared.site.Site.TheVariants.{Method, Declared, Nowhere}
use Rattle.flowchart_page.specs.Sites.{named_by}

abbrev pub is_among : List RawDeclaration → List ℕ → Bool
is_among group name = has_name (map (λ d. d.name) group) name

-- the name has a row in the table of declarations
abbrev pub has_row : ElementTree → List ℕ → Bool
has_row tree name =
    is_among tree.inputs name
    || (is_among tree.outputs name
    || (is_among tree.internals name || is_among tree.constants name))

abbrev pub has_method : ElementTree → List ℕ → Bool
has_method tree name = has_name (codes "MAIN" ∷ map (λ m. m.name) tree.methods) name

-- a name's row, or else the method of that name
abbrev pub site_of_name : ElementTree → List ℕ → Site
site_of_name tree name =
    if has_row tree name then Declared name else (if has_method tree name then Method name else Nowhere)

abbrev pub site_on : ElementTree → Site → Site
site_on tree (Declared name) = site_of_name tree name
site_on tree site = site

-- what the page of a plan with these elements shows of a refusal
abbrev pub site_of : ElementTree → PlanRefusal → Site
site_of tree r = site_on tree (named_by r)
