-- The table of declarations: of each declaration its name, its type, its value, its range and its comments.
use Rattle.std.specs.Prelude.{◌≡◌, ◌⊎◌, ℕ, ◌+◌, ◌==◌, Bool, false, if◌then◌else◌, Option, Some, None, unwrap_or, List, [], ◌∷◌, ◌++◌, length, codes, String}
use Rattle.std.specs.declared.alloc.Global.{Global}
use Rattle.std.specs.Fmt.{decimal, signed_decimal}
use Rattle.std.specs.Str.{bytes_eq}
use Rattle.scaled_decimal.specs.Decimals.{Decimal}
use Rattle.scaled_decimal.specs.PlainTexts.{plain_text}
use Rattle.limits_file.specs.declared.limits.Limits.{Limits}
use Rattle.pap_tree.specs.Term.{whole, long, point}
use Rattle.pap_tree.specs.declared.declaration.Kind.{Kind}
use Rattle.pap_tree.specs.Declarations.{DeclaredLiteral, number, big, table}
use Rattle.pap_tree.specs.Grammar.{Constant, declared}
use Rattle.pap_tree.specs.Stopping.{Cause}
use Rattle.pap_tree.specs.Expressions.{IsAccepted, IsWrong}
use Rattle.pap_reader.specs.declared.element.Element.{Element}
use Rattle.pap_reader.specs.declared.element.Element.TheVariants.{Input, Output, Internal, Constant as OfConstant}
use Rattle.pap_reader.specs.Attributes.{type_word}
use Rattle.pap_reader.specs.Trees.{RawDeclaration, ElementTree}
use Rattle.plan_notes.specs.declared.notes.Notes.{Notes}
use Rattle.plan_notes.specs.Lines.{line_text}
use Rattle.plan_notes.specs.StartTags.{comments_before}
use Rattle.flowchart_markup.specs.Escapes.{escaped}
use Rattle.flowchart_methods.specs.Comments.{comments_text}
use Rattle.flowchart_methods.specs.declared.site.Site.{Site}
use Rattle.flowchart_methods.specs.declared.site.Site.TheVariants.{Declared}
use Rattle.flowchart_page.specs.Findings.{Finding}
use Rattle.flowchart_page.specs.Ranges.{input_text, output_text, internal_text}

-- ---- values

-- a declared number, as a plain decimal
abbrev pub number_text : DeclaredLiteral → List ℕ
number_text (number (whole z)) = signed_decimal z
number_text (number (long z)) = signed_decimal z
number_text (number (point d)) = plain_text d
number_text (big d) = plain_text d
number_text _ = []

-- the cells of a value, of a range and of comments
abbrev pub value_cells : List ℕ → List ℕ → List (String Global) → List ℕ
value_cells value range comments =
    codes "<td class=\"num\">" ++ (escaped value ++ (codes "<td class=\"num\">" ++ (escaped range
    ++ (codes "<td>" ++ comments_text comments))))

-- an item of a table behind its index, and a space before it where it isn't the first
abbrev pub table_item_text : ℕ → Decimal → List ℕ
table_item_text index item =
    (if index == 0 then codes "<span><i>" else codes " <span><i>")
    ++ (decimal index ++ (codes "</i>" ++ (escaped (plain_text item) ++ codes "</span>")))

-- the items of a table, the first of which has this index
abbrev pub table_items_text : ℕ → List Decimal → List ℕ
table_items_text index [] = []
table_items_text index (item ∷ items) = table_item_text index item ++ table_items_text (index + 1) items

-- comments above the items of a table, where there are some
abbrev pub comments_above : List (String Global) → List ℕ
comments_above [] = []
comments_above (comment ∷ comments) = comments_text (comment ∷ comments) ++ codes "<br>"

-- the one cell of a table of constants
abbrev pub items_cell : List Decimal → List (String Global) → List ℕ
items_cell items comments =
    codes "<td colspan=\"3\">" ++ (comments_above comments
    ++ (codes "<span class=\"tab\">" ++ (table_items_text 0 items ++ codes "</span>")))

-- the cells of a declared literal
abbrev pub literal_cells : DeclaredLiteral → List ℕ → List (String Global) → List ℕ
literal_cells (table items) range comments = items_cell items comments
literal_cells value range comments = value_cells (number_text value) range comments

-- the cells behind a type: those of the literal that the text of the value is, or of the text as it is written
abbrev pub AreCells : List ℕ → List ℕ → List (String Global) → List ℕ → Type 0
AreCells text range comments cells =
    ((value : DeclaredLiteral) × IsAccepted Constant text (declared value) × (cells ≡ literal_cells value range comments))
    ⊎ ((cause : Cause) × (at : ℕ) × IsWrong Constant text cause at × (cells ≡ value_cells (line_text text) range comments))

-- ---- rows

-- a row up to its type; the row of the name that a refusal names is marked
abbrev pub row_start : Bool → List ℕ → Kind → List ℕ
row_start is_refused name kind =
    codes "<tr id=\"name-" ++ (name
    ++ ((if is_refused then codes "\" class=\"bad\"><th scope=\"row\">" else codes "\"><th scope=\"row\">")
    ++ (name ++ (codes "<td>" ++ escaped (type_word kind)))))

-- the row of a declaration with this range and these comments
pub record IsRow (is_refused : Bool) (range : List ℕ) (comments : List (String Global)) (d : RawDeclaration) (row : List ℕ) : Type 0 where
  pub cells : List ℕ
  pub are_cells : AreCells (unwrap_or d.value []) range comments cells
  pub is : row ≡ row_start is_refused d.name d.kind ++ (cells ++ codes "</tr>\n")

-- what a table shows beside the plan's declarations: the file's comments, its range file where that is read, what is found of the
-- plan, the ranges of its internals, and what a refusal names
pub record TableSource : Type 0 where
  pub notes : Notes
  pub limits : Option Limits
  pub finding : Finding
  pub internals : List (List ℕ)
  pub site : Site

-- the declared name is what a refusal names
abbrev pub is_named : Site → List ℕ → Bool
is_named (Declared named) name = bytes_eq named name
is_named _ name = false

-- the range of an input of a name, by the range file
abbrev pub input_range_shown : Option Limits → List ℕ → List ℕ
input_range_shown (Some limits) name = input_text limits name
input_range_shown None name = []

-- the range of the declaration of a number and a name of a kind, where one is known: of an input by the range file, of an output by
-- what is found, of an internal over the whole run
abbrev pub range_shown : TableSource → Element → ℕ → List ℕ → List ℕ
range_shown source Input index name = input_range_shown source.limits name
range_shown source Output index name = output_text source.finding index name
range_shown source Internal index name = internal_text source.internals index
range_shown source _ index name = []

-- the row of the declaration of a number among those of a kind, counted from 0: its comments are those before its start tag
abbrev pub IsRowIn : TableSource → Element → ℕ → RawDeclaration → List ℕ → Type 0
IsRowIn source element index d row =
    IsRow (is_named source.site d.name) (range_shown source element index d.name)
    (comments_before source.notes element index) d row

-- a row for each declaration of a kind, in the order of the file, from the numbered one on
abbrev pub AreRows : TableSource → Element → ℕ → List RawDeclaration → List (List ℕ) → Type 0
AreRows source element index [] rows = rows ≡ []
AreRows source element index (d ∷ ds) [] = ⊥
AreRows source element index (d ∷ ds) (row ∷ rows) =
    IsRowIn source element index d row × AreRows source element (index + 1) ds rows

-- ---- the table

-- the title of a kind of declarations
abbrev pub group_title : Element → List ℕ
group_title Input = codes "Inputs"
group_title Output = codes "Outputs"
group_title Internal = codes "Internals"
group_title OfConstant = codes "Constants"
group_title _ = []

-- the title of a kind above its rows, and how many there are
abbrev pub group_heading : Element → ℕ → List ℕ
group_heading element count =
    codes "<tbody><tr><th class=\"g\" colspan=\"5\" scope=\"rowgroup\">" ++ (escaped (group_title element)
    ++ (codes " <span>" ++ (decimal count ++ codes "</span></tr>\n")))

-- the declarations of a kind under their title, where there are some
abbrev pub IsGroup : TableSource → Element → List RawDeclaration → List (List ℕ) → Type 0
IsGroup source element [] texts = texts ≡ []
IsGroup source element (d ∷ ds) texts =
    (rows : List (List ℕ)) × AreRows source element 0 (d ∷ ds) rows
    × (texts ≡ group_heading element (length (d ∷ ds)) ∷ rows)

-- the titles and rows of a plan's declarations, one behind another
pub record IsDeclarationTable (source : TableSource) (tree : ElementTree) (texts : List (List ℕ)) : Type 0 where
  pub inputs : List (List ℕ)
  pub outputs : List (List ℕ)
  pub internals : List (List ℕ)
  pub constants : List (List ℕ)
  pub are_inputs : IsGroup source Input tree.inputs inputs
  pub are_outputs : IsGroup source Output tree.outputs outputs
  pub are_internals : IsGroup source Internal tree.internals internals
  pub are_constants : IsGroup source OfConstant tree.constants constants
  pub is : texts ≡ inputs ++ (outputs ++ (internals ++ constants))
