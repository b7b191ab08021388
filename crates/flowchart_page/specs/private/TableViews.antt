-- The table of declarations as it is written, row by row.
use Rattle.std.specs.Prelude.{◌≡◌, ℕ, Bool, List, ◌++◌, map, String}
use Rattle.std.specs.declared.alloc.Global.{Global}
use Rattle.pap_reader.specs.declared.element.Element.{Element}
use Rattle.pap_reader.specs.Trees.{RawDeclaration, ElementTree}
use Rattle.flowchart_methods.specs.Turns.{AddsInTurn}
use Rattle.flowchart_page.specs.declared.declarations.Declarations.{Declarations}
use Rattle.flowchart_page.specs.Declarations.{AreCells, IsRow, TableSource, is_named, range_shown, AreRows, IsGroup, IsDeclarationTable}
use Rattle.flowchart_page.specs.Judged.{finding_of}

-- what the table shows of these
abbrev pub source_of : Declarations → TableSource
source_of d = record {
  notes = d.notes.now;
  limits = d.limits.now;
  finding = finding_of d.verdict.now;
  internals = map (λ t. t.items) d.internals.now;
  site = d.site.now;
}

-- cells of a value, a range and comments are appended
pub record AddsCells (text range : List ℕ) (comments : List (String Global)) (old new : List ℕ) : Type 0 where
  pub cells : List ℕ
  pub are : AreCells text range comments cells
  pub grown : new ≡ old ++ cells

-- a row is appended
pub record AddsRow (is_refused : Bool) (range : List ℕ) (comments : List (String Global)) (d : RawDeclaration) (old new : List ℕ) : Type 0 where
  pub row : List ℕ
  pub is : IsRow is_refused range comments d row
  pub grown : new ≡ old ++ row

-- the row of the declaration of a number among those of a kind is appended, with these comments
abbrev pub AddsNamed : TableSource → Element → ℕ → List (String Global) → RawDeclaration → List ℕ → List ℕ → Type 0
AddsNamed source element index comments d old new =
    AddsRow (is_named source.site d.name) (range_shown source element index d.name) comments d old new

-- the rows of a kind are appended
pub record AddsRows (source : TableSource) (element : Element) (ds : List RawDeclaration) (old new : List ℕ) : Type 0 where
  pub rows : List (List ℕ)
  pub are : AreRows source element 0 ds rows
  pub adds : AddsInTurn rows old new

-- the title and rows of a kind are appended
pub record AddsGroup (source : TableSource) (element : Element) (ds : List RawDeclaration) (old new : List ℕ) : Type 0 where
  pub texts : List (List ℕ)
  pub are : IsGroup source element ds texts
  pub adds : AddsInTurn texts old new

-- the table is appended
pub record AddsTable (source : TableSource) (tree : ElementTree) (old new : List ℕ) : Type 0 where
  pub texts : List (List ℕ)
  pub are : IsDeclarationTable source tree texts
  pub adds : AddsInTurn texts old new
