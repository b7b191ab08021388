-- What a page says of its plan.
use Rattle.std.specs.Prelude.{◌≡◌, ◌⊎◌, ℕ, Bool, true, false, ◌==◌, List, [], ◌∷◌, ◌++◌, codes, Option, Some, None, Ok, Err, String, ⊤}
use Rattle.std.specs.declared.alloc.Global.{Global}
use Rattle.std.specs.Fmt.{decimal}
use Rattle.std.specs.List.{slice_split}
use Rattle.pap_reader.specs.declared.fault.ReadFault.{ReadFault}
use Rattle.pap_reader.specs.Trees.{ElementTree}
use Rattle.pap_reader.specs.Elements.{IsElements, IsFault}
use Rattle.limits_file.specs.declared.limits.Limits.{Limits}
use Rattle.limits_file.specs.Faults.{Fault}
use Rattle.limits_file.specs.RangeFiles.{FileSays}
use Rattle.plan_notes.specs.declared.notes.Notes.{Notes}
use Rattle.plan_notes.specs.Notes.{HasNotes}
use Rattle.pap_types.specs.Meaning.{bound_of}
use Rattle.pap_plan.specs.declared.refusal.PlanRefusal.{PlanRefusal}
use Rattle.plan_answers.specs.Answers.{Answer, IsRefusal}
use Rattle.flowchart_markup.specs.Escapes.{escaped}
use Rattle.flowchart_markup.specs.Fragments.{IsMarkedUp}
use Rattle.flowchart_methods.specs.declared.site.Site.{Site}
use Rattle.flowchart_methods.specs.declared.site.Site.TheVariants.{Statement, Method, Declared, Nowhere}
use Rattle.flowchart_methods.specs.Sites.{named_statement}
use Rattle.flowchart_methods.specs.Turns.{StandInTurn}
use Rattle.flowchart_methods.specs.Captions.{AreCaptions, methods_of}
use Rattle.flowchart_page.specs.Findings.{Finding, accepted, in_order, refused, IsFound, marked}
use Rattle.flowchart_page.specs.Heads.{page_head}
use Rattle.flowchart_page.specs.declared.subject.Subject.{Subject}
use Rattle.flowchart_page.specs.Runs.{RunParts, run_subject, run_texts, run_marks, run_internals}
use Rattle.flowchart_page.specs.Declarations.{IsDeclarationTable}

-- the last line of a page
abbrev pub page_end : List ℕ
page_end = codes "</body></html>\n"

-- A page from its start to its end: its head, whose title says what it shows, then the verdict, and behind that markup of the page's own,
-- in which these texts stand in turn. The page's own markup says no verdict, and hides, runs and fetches nothing.
pub record IsWholePage (subject : Subject) (verdict : List ℕ) (texts : List (List ℕ)) (page : List ℕ) : Type 0 where
  pub title : List ℕ
  pub version : Option (List ℕ)
  pub lead : List (String Global)
  pub rest : List ℕ
  pub whole : page ≡ page_head subject title version lead ++ (verdict ++ (rest ++ page_end))
  pub marked_up : IsMarkedUp rest
  pub stand : StandInTurn texts rest

-- ---- the verdict

-- the verdict on an accepted plan, with its bound
abbrev pub accepted_text : ℕ → List ℕ
accepted_text bound =
    codes "<p class=\"ok\"><b>Accepted.</b> On every input within the ranges a run is safe and takes at most <b>"
    ++ (decimal bound ++ codes "</b> steps.</p>\n")

-- the verdict on a plan without a range file, as far as it is in order
abbrev pub in_order_text : List ℕ
in_order_text =
    codes "<p class=\"ok\"><b>In order</b>, as far as it can be said without a range file: its expressions, names, types and methods. Whether each run is safe is said with a range file.</p>\n"

-- parts of words in a page, in turn plain and code
abbrev pub shown_parts : Bool → List (List ℕ) → List ℕ
shown_parts is_code [] = []
shown_parts false (part ∷ parts) = escaped part ++ shown_parts true parts
shown_parts true (part ∷ parts) =
    codes "<code>" ++ (escaped part ++ (codes "</code>" ++ shown_parts false parts))

-- words in a page: what stands between two backquotes is code
abbrev pub shown_words : List ℕ → List ℕ
shown_words words = shown_parts false (slice_split (λ byte. byte == 0x60) words)

-- the line that `check` writes of a refusal, without its end
pub record IsRefusalLine (plan : List ℕ) (r : PlanRefusal) (line : List ℕ) : Type 0 where
  pub answer : Answer
  pub refused : IsRefusal plan r answer
  pub is : answer.text ≡ line ++ 10 ∷ []

-- the link to what a refusal names on the page, where it names something there
abbrev pub link_text : Site → List ℕ
link_text (Statement method number) =
    codes " <a href=\"#" ++ (method ++ (codes ":" ++ (decimal number ++ codes "\">Show it in the drawing</a>")))
link_text (Method method) = codes " <a href=\"#method-" ++ (method ++ codes "\">Show it in the drawing</a>")
link_text (Declared name) = codes " <a href=\"#name-" ++ (name ++ codes "\">Show it in the table</a>")
link_text Nowhere = []

-- the verdict on a refused plan: why it is refused, in words, the line of `check`, and a link
abbrev pub refused_text : List ℕ → List ℕ → Site → List ℕ
refused_text words line site =
    codes "<div class=\"no\"><p><b>Refused.</b> "
    ++ (shown_words words
    ++ (codes ".</p>\n<p><code>"
    ++ (escaped line ++ (codes "</code>" ++ (link_text site ++ codes "</p></div>\n")))))

-- the verdict on a refused plan with these words, and a link to this
pub record SaysRefused (plan : List ℕ) (r : PlanRefusal) (words : List ℕ) (site : Site) (verdict : List ℕ) : Type 0 where
  pub line : List ℕ
  pub is_line : IsRefusalLine plan r line
  pub is : verdict ≡ refused_text words line site

-- the verdict on a plan of which this is found, with these words and this link where it is refused
abbrev pub Says : List ℕ → Finding → Option (List ℕ) → Site → List ℕ → Type 0
Says plan (accepted m) None site verdict = verdict ≡ accepted_text (bound_of m.flowchart)
Says plan in_order None site verdict = verdict ≡ in_order_text
Says plan (refused r) (Some words) site verdict = SaysRefused plan r words site verdict
Says _ _ _ _ _ = ⊥

-- ---- the table of declarations and the drawings

-- what a range file says, where it is read
abbrev pub AreLimits : Option (List ℕ) → Option Limits → Type 0
AreLimits None None = ⊤
AreLimits None (Some limits) = ⊥
AreLimits (Some file) (Some limits) = FileSays file (Ok limits)
AreLimits (Some file) None = (fault : Fault) × FileSays file (Err fault)

-- the titles and rows of the table of a plan of these elements, by the comments of its file and by its range file, and with what is
-- known of its internals
pub record IsPlanTable (run : Option RunParts) (plan : List ℕ) (file : Option (List ℕ)) (finding : Finding) (site : Site)
    (tree : ElementTree) (texts : List (List ℕ)) : Type 0 where
  pub notes : Notes
  pub noted : HasNotes plan notes
  pub limits : Option Limits
  pub read : AreLimits file limits
  pub table : IsDeclarationTable
      (record { notes = notes; limits = limits; finding = finding; internals = run_internals run; site = site }) tree texts

-- What a page says of a plan of these elements, one text behind another: the table of its declarations, and the captions of its
-- methods, which say what a run did. Where its refusal names a statement by its method's name and its number, the one of that number is
-- marked in each method of that name, and no other, and the verdict leads to it.
pub record AreTreeTexts (run : Option RunParts) (plan : List ℕ) (file : Option (List ℕ)) (finding : Finding) (site : Site)
    (tree : ElementTree) (texts : List (List ℕ)) : Type 0 where
  pub names : named_statement site ≡ marked finding
  pub table : List (List ℕ)
  pub is_table : IsPlanTable run plan file finding site tree table
  pub captions : List (List ℕ)
  pub are_captions : AreCaptions (marked finding) (run_marks run) (methods_of tree) captions
  pub is : texts ≡ table ++ captions

-- what a page says of a plan; of a file that isn't read as a plan nothing
abbrev pub ArePlanTexts : Option RunParts → List ℕ → Option (List ℕ) → Finding → Site → List (List ℕ) → Type 0
ArePlanTexts run plan file finding site texts =
    ((tree : ElementTree) × IsElements plan tree × AreTreeTexts run plan file finding site tree texts)
    ⊎ ((fault : ReadFault) × IsFault plan fault × (site ≡ Nowhere) × (texts ≡ []))

-- a whole page with this verdict, and behind it this of a run and then what it says of the plan
pub record Shows (run : Option RunParts) (plan : List ℕ) (file : Option (List ℕ)) (finding : Finding) (site : Site)
    (verdict page : List ℕ) : Type 0 where
  pub texts : List (List ℕ)
  pub are_texts : ArePlanTexts run plan file finding site texts
  pub whole : IsWholePage (run_subject run) verdict (run_texts run ++ texts) page

-- the verdict on the page is what is found of the plan, with the range file or without one, it has these words on a refusal, and the
-- page has this of a run
pub record IsRunPage (run : Option RunParts) (plan : List ℕ) (limits : Option (List ℕ)) (words : Option (List ℕ)) (page : List ℕ)
    : Type 0 where
  pub finding : Finding
  pub found : IsFound plan limits finding
  pub site : Site
  pub verdict : List ℕ
  pub says : Says plan finding words site verdict
  pub shown : Shows run plan limits finding site verdict page

-- the page of a plan, without a run
abbrev pub IsPage : List ℕ → Option (List ℕ) → Option (List ℕ) → List ℕ → Type 0
IsPage plan limits words page = IsRunPage None plan limits words page
