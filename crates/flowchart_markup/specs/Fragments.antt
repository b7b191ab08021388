-- What a page is made of.
use Rattle.std.specs.Prelude.{◌≡◌, ℕ, ◌+◌, Bool, ◌&&◌, ◌==◌, if◌then◌else◌, List, [], ◌∷◌, ◌++◌, IsTrue, slice_get, unwrap_or}
use Rattle.std.specs.Fmt.{decimal}
use Rattle.std.specs.List.{flat_map, list_all}
use Rattle.flowchart_markup.specs.declared.fill.Fill.{Fill}
use Rattle.flowchart_markup.specs.declared.fill.Fill.TheVariants.{Number, OfName, Text}
use Rattle.flowchart_markup.specs.Escapes.{escaped, is_inert}
use Rattle.flowchart_markup.specs.Templates.{is_own}

-- what stands at a percent sign: a number in digits, a name, or a text as it stands in a page
abbrev pub fill_text : Fill → List ℕ
fill_text (Number n) = decimal n
fill_text (OfName name) = name
fill_text (Text text) = escaped text.now

-- a template with these texts, from an index on, one after the other in place of its percent signs
abbrev pub template_text_from : List ℕ → ℕ → List (List ℕ) → List ℕ
template_text_from [] index fills = []
template_text_from (byte ∷ template) index fills =
    if byte == 0x25 then unwrap_or (slice_get fills index) [] ++ template_text_from template (index + 1) fills
    else byte ∷ template_text_from template index fills

-- a template with these texts, one after the other in place of its percent signs
abbrev pub template_text : List ℕ → List (List ℕ) → List ℕ
template_text template fills = template_text_from template 0 fills

-- a fragment of a page: markup, with what stands at its percent signs
pub record Fragment : Type 0 where
  pub template : List ℕ
  pub fills : List (List ℕ)

-- what a page has for a fragment
abbrev pub fragment_text : Fragment → List ℕ
fragment_text fragment = template_text fragment.template fragment.fills

-- a page may have the fragment: its markup is the page's own, and what stands at the percent signs begins and ends no tag and no value
abbrev pub is_allowed : Fragment → Bool
is_allowed fragment = is_own fragment.template && list_all (list_all is_inert) fragment.fills

-- bytes that are fragments which a page may have, one behind another
pub record IsMarkedUp (bytes : List ℕ) : Type 0 where
  pub fragments : List Fragment
  pub allowed : IsTrue (list_all is_allowed fragments)
  pub is : bytes ≡ flat_map fragment_text fragments
