-- Pages in parts, and what is in a page of what was read.
use Rattle.std.specs.Prelude.{◌≡◌, ℕ, List, ◌++◌, Option, String}
use Rattle.std.specs.declared.alloc.Global.{Global}
use Rattle.limits_file.specs.declared.limits.Limits.{Limits}
use Rattle.pap_reader.specs.Trees.{ElementTree}
use Rattle.plan_notes.specs.declared.notes.Notes.{Notes}
use Rattle.flowchart_markup.specs.Fragments.{IsMarkedUp}
use Rattle.flowchart_methods.specs.declared.site.Site.{Site}
use Rattle.flowchart_methods.specs.Sites.{named_statement}
use Rattle.flowchart_methods.specs.Captions.{AreCaptions, methods_of}
use Rattle.flowchart_methods.specs.Turns.{StandInTurn}
use Rattle.flowchart_page.specs.Declarations.{TableSource, IsDeclarationTable}
use Rattle.flowchart_page.specs.Findings.{Finding, marked}
use Rattle.flowchart_page.specs.Heads.{page_head}
use Rattle.flowchart_page.specs.declared.subject.Subject.{Subject}
use Rattle.flowchart_page.specs.Runs.{RunParts, run_subject, run_texts, run_marks, run_internals}
use Rattle.flowchart_page.specs.Pages.{page_end, IsWholePage, AreTreeTexts, Shows}

-- a page that shows this, with this verdict and this markup behind it
pub record IsAround (subject : Subject) (verdict rest page : List ℕ) : Type 0 where
  pub title : List ℕ
  pub version : Option (List ℕ)
  pub lead : List (String Global)
  pub whole : page ≡ page_head subject title version lead ++ (verdict ++ (rest ++ page_end))
  pub marked_up : IsMarkedUp rest

-- the page of a plan of these elements, whose verdict leads to what it names, and which has this of a run
pub record ShowsTree (run : Option RunParts) (plan : List ℕ) (file : Option (List ℕ)) (finding : Finding) (verdict : Site → List ℕ)
    (tree : ElementTree) (page : List ℕ) : Type 0 where
  pub site : Site
  pub texts : List (List ℕ)
  pub are_texts : AreTreeTexts run plan file finding site tree texts
  pub whole : IsWholePage (run_subject run) (verdict site) (run_texts run ++ texts) page

-- the same, for what was read of the plan's file and of its range file, where the table shows this of the plan's comments and ranges
pub record ShowsRead (run : Option RunParts) (notes : Notes) (limits : Option Limits) (finding : Finding) (verdict : Site → List ℕ)
    (tree : ElementTree) (page : List ℕ) : Type 0 where
  pub site : Site
  pub names : named_statement site ≡ marked finding
  pub table : List (List ℕ)
  pub is_table : IsDeclarationTable
      (record { notes = notes; limits = limits; finding = finding; internals = run_internals run; site = site }) tree table
  pub captions : List (List ℕ)
  pub are_captions : AreCaptions (marked finding) (run_marks run) (methods_of tree) captions
  pub whole : IsWholePage (run_subject run) (verdict site) (run_texts run ++ (table ++ captions)) page

-- a whole page with this verdict, this of a run, the titles and rows of a table, and these captions
pub record HasTable (run : Option RunParts) (source : TableSource) (tree : ElementTree) (captions : List (List ℕ))
    (verdict page : List ℕ) : Type 0 where
  pub table : List (List ℕ)
  pub is_table : IsDeclarationTable source tree table
  pub whole : IsWholePage (run_subject run) verdict (run_texts run ++ (table ++ captions)) page

-- what stands behind the verdict: this of a run, the titles and rows of a table, and these captions
pub record IsBehind (run : Option RunParts) (source : TableSource) (tree : ElementTree) (captions : List (List ℕ))
    (rest : List ℕ) : Type 0 where
  pub table : List (List ℕ)
  pub is_table : IsDeclarationTable source tree table
  pub stand : StandInTurn (run_texts run ++ (table ++ captions)) rest

-- the page of a plan, whose verdict leads to what it names, and which has this of a run
pub record ShowsVerdict (run : Option RunParts) (plan : List ℕ) (file : Option (List ℕ)) (finding : Finding) (verdict : Site → List ℕ)
    (page : List ℕ) : Type 0 where
  pub site : Site
  pub shown : Shows run plan file finding site (verdict site) page
