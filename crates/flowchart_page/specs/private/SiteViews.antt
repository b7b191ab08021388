-- What the page shows of what is found, and names among the elements that were read.
use Rattle.std.specs.Prelude.{ℕ, Bool, List}
use Rattle.std.specs.List.{list_any}
use Rattle.std.specs.Str.{bytes_eq}
use Rattle.pap_reader.specs.declared.elements.RawDeclared.{RawDeclared}
use Rattle.pap_reader.specs.declared.elements.RawMethod.{RawMethod}
use Rattle.pap_reader.specs.Trees.{ElementTree}
use Rattle.flowchart_methods.specs.declared.site.Site.{Site}
use Rattle.flowchart_methods.specs.declared.site.Site.TheVariants.{Nowhere}
use Rattle.flowchart_page.specs.Findings.{Finding, refused}
use Rattle.flowchart_page.specs.private.Sites.{site_of}

-- of a plan that is refused what that names, of another plan nothing
abbrev pub site_shown : ElementTree → Finding → Site
site_shown tree (refused r) = site_of tree r
site_shown tree _ = Nowhere

abbrev pub declares : List RawDeclared → List ℕ → Bool
declares group name = list_any (λ d. bytes_eq name d.name) group

abbrev pub names_method : List RawMethod → List ℕ → Bool
names_method methods name = list_any (λ m. bytes_eq name m.name) methods
