-- What a comparison tells of two flowcharts.
use Rattle.std.specs.Prelude.{ℕ, Bool, true, false, not, ◌&&◌, List, [], ◌++◌, codes, map, slice_index_or, Option, Some, None}
use Rattle.std.specs.List.{flat_map, All, list_all}
use Rattle.std.specs.Str.{bytes_eq}
use Rattle.flowchart_comparison.specs.declared.entry.Entry.{Entry}
use Rattle.flowchart_comparison.specs.declared.entry.Entry.TheVariants.{Same}
use Rattle.flowchart_comparison.specs.Entries.{old_place, new_place, IsAlignment, TellsFront, IsPairing, PairsNames}
use Rattle.flowchart_comparison.specs.Outlines.{TextLine, TextItem, LinedMethod, TextOutline}

-- the texts of lines
abbrev pub line_texts : List TextLine → List (List ℕ)
line_texts lines = map (λ l. l.text) lines

-- the texts of items
abbrev pub item_texts : List TextItem → List (List ℕ)
item_texts items = map (λ x. x.text) items

-- the names of items
abbrev pub item_names : List TextItem → List (List ℕ)
item_names items = map (λ x. x.name) items

-- the names of methods
abbrev pub lined_names : List LinedMethod → List (List ℕ)
lined_names methods = map (λ m. m.name) methods

-- a line with its end
abbrev pub ended_line : TextLine → List ℕ
ended_line l = l.text ++ codes "\n"

-- lines one below the other
abbrev pub lines_text : List TextLine → List ℕ
lines_text lines = flat_map ended_line lines

-- the text of a whole method: its lines one below the other
abbrev pub method_text : LinedMethod → List ℕ
method_text m = lines_text m.lines

-- a method with what is told of its lines
pub record ComparedMethod : Type 0 where
  pub method : Entry
  pub lines : List Entry

-- no method
abbrev pub no_method : LinedMethod
no_method = record { name = []; lines = [] }

-- the texts of the lines of the method at a place, where there is one
abbrev pub texts_in : List LinedMethod → Option ℕ → List (List ℕ)
texts_in methods None = []
texts_in methods (Some i) = line_texts (slice_index_or methods i no_method).lines

-- The lines of a method are aligned with those of the method with which it is paired; one that stands in one flowchart alone
-- has an empty list at its side. What both begin with is told as the same.
pub record AreLinesTold (old new : List LinedMethod) (e : Entry) (lines : List Entry) : Type 0 where
  pub aligned : IsAlignment (texts_in old (old_place e)) (texts_in new (new_place e)) lines
  pub front : TellsFront (texts_in old (old_place e)) (texts_in new (new_place e)) lines

-- what is told of two flowcharts
pub record TextComparison : Type 0 where
  pub declarations : List Entry
  pub methods : List ComparedMethod

-- The declarations and the methods of both flowcharts are paired, each once, and by their names where these stand once; the
-- lines of each method are aligned with those of the method with which it is paired.
pub record IsComparison (old new : TextOutline) (c : TextComparison) : Type 0 where
  pub declarations : IsPairing (item_texts old.declarations) (item_texts new.declarations) c.declarations
  pub methods : IsPairing (map method_text old.methods) (map method_text new.methods) (map (λ m. m.method) c.methods)
  pub declarations_by_name : PairsNames (item_names old.declarations) (item_names new.declarations) c.declarations
  pub methods_by_name : PairsNames (lined_names old.methods) (lined_names new.methods) (map (λ m. m.method) c.methods)
  pub lines : All (λ m. AreLinesTold old.methods new.methods m.method m.lines) c.methods

-- ---- whether something differs

-- the entry is that of a text that is the same
abbrev pub is_same : Entry → Bool
is_same (Same i j) = true
is_same _ = false

-- the name of the method at a place
abbrev pub method_name : List LinedMethod → ℕ → List ℕ
method_name methods i = (slice_index_or methods i no_method).name

-- a method that is the same, and has its old name
abbrev pub is_kept : (old new : List LinedMethod) → Entry → Bool
is_kept old new (Same i j) = bytes_eq (method_name old i) (method_name new j)
is_kept old new _ = false

-- some declaration or method isn't the same, or a method has another name
abbrev pub differs : (old new : TextOutline) → TextComparison → Bool
differs old new c =
    not (list_all is_same c.declarations && list_all (λ m. is_kept old.methods new.methods m.method) c.methods)
