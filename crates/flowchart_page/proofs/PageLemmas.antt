-- A page from its parts.
use Rattle.std.proofs.Common.{◌≡◌, ◌≢◌, inl, inr, ℕ, ◌<◌, Option, Some, None, List, [], ◌∷◌, ◌++◌, length, refl, sym, ap, subst, ◌∙◌, append_assoc, Global}
use Rattle.std.specs.Prelude.{String, Err}
use Rattle.std.specs.declared.alloc.AllocError.{AllocError}
use Rattle.std.proofs.lemmas.List.{append-nil}
use Rattle.limits_file.specs.declared.limits.Limits.{Limits}
use Rattle.limits_file.specs.declared.fault.LimitsFault.{LimitsFault}
use Rattle.limits_file.specs.declared.fault.LimitsFault.TheVariants as ranges
use Rattle.limits_file.specs.Faults.{too_long, no_toml, bad_key, bad_bound}
use Rattle.limits_file.specs.Limits.{longest_limits}
use Rattle.limits_file.specs.RangeFiles.{FileSays}
use Rattle.plan_notes.specs.declared.notes.Notes.{Notes}
use Rattle.plan_notes.specs.Notes.{HasNotes}
use Rattle.flowchart_markup.specs.Fragments.{IsMarkedUp}
use Rattle.pap_reader.specs.declared.fault.ReadFault.{ReadFault}
use Rattle.pap_reader.specs.declared.fault.ReadFault.TheVariants as faults
use Rattle.pap_reader.specs.Trees.{ElementTree}
use Rattle.pap_reader.specs.Elements.{IsElements, IsFault, IsFaultOrMemory}
use Rattle.flowchart_methods.specs.declared.site.Site.{Site}
use Rattle.flowchart_methods.specs.declared.site.Site.TheVariants.{Nowhere}
use Rattle.flowchart_methods.specs.Turns.{StandInTurn, AddsInTurn}
use Rattle.flowchart_methods.specs.Sites.{named_statement}
use Rattle.flowchart_methods.specs.Captions.{AreCaptions, methods_of}
use Rattle.flowchart_methods.proofs.Laws.{turn-before, turn-behind, adds_none, adds_before, adds_behind, adds_then}
use Rattle.flowchart_page.specs.Findings.{Finding, IsFound, marked}
use Rattle.flowchart_page.specs.Heads.{page_head}
use Rattle.flowchart_page.specs.declared.subject.Subject.{Subject}
use Rattle.flowchart_page.specs.Runs.{RunParts, run_subject, run_texts, run_marks, run_internals}
use Rattle.flowchart_page.specs.Declarations.{TableSource}
use Rattle.flowchart_page.specs.Judged.{finding_of, words_of, HasLine}
use Rattle.flowchart_page.specs.Pages.{page_end, IsWholePage, Says, AreLimits, IsRunPage}
use Rattle.flowchart_page.specs.declared.verdict.Verdict.{Verdict}
use Rattle.flowchart_page.specs.declared.verdict.Verdict.TheVariants as verdicts
use Rattle.flowchart_page.specs.private.PageViews.{IsAround, ShowsTree, ShowsRead, HasTable, IsBehind, ShowsVerdict}
use Rattle.flowchart_page.specs.private.TableViews.{AddsTable}
use Rattle.flowchart_page.specs.private.VerdictViews.{verdict_text}

four_parts : (a b c d p q r s t : List ℕ) → p ≡ [] → q ≡ p ++ a → r ≡ q ++ b → s ≡ r ++ c → t ≡ s ++ d
    → t ≡ a ++ (b ++ (c ++ d))
four_parts a b c d p q r s t is_p is_q is_r is_s is_t =
    is_t
    ∙ ap (λ l. l ++ d) (is_s ∙ ap (λ l. l ++ c) (is_r ∙ ap (λ l. l ++ b) (is_q ∙ ap (λ l. l ++ a) is_p)))
    ∙ append_assoc (a ++ b) c d
    ∙ append_assoc a b (c ++ d)

-- its head, the verdict, what stands behind that, and its end
pub page_around : (subject : Subject) (title : List ℕ) (version : Option (List ℕ)) (lead : List (String Global)) (verdict rest p q r s t : List ℕ)
    → p ≡ [] → q ≡ p ++ page_head subject title version lead → r ≡ q ++ verdict → s ≡ r ++ rest → t ≡ s ++ page_end
    → IsMarkedUp rest → IsAround subject verdict rest t
page_around subject title version lead verdict rest p q r s t is_p is_q is_r is_s is_t marked_up = record {
  title = title;
  version = version;
  lead = lead;
  whole = four_parts (page_head subject title version lead) verdict rest page_end p q r s t is_p is_q is_r is_s is_t;
  marked_up = marked_up;
}

-- the same with these texts
pub whole_page : (subject : Subject) (verdict : List ℕ) (texts : List (List ℕ)) (rest page : List ℕ) → StandInTurn texts rest
    → IsAround subject verdict rest page → IsWholePage subject verdict texts page
whole_page subject verdict texts rest page stand around = record {
  title = around.title;
  version = around.version;
  lead = around.lead;
  rest = rest;
  whole = around.whole;
  marked_up = around.marked_up;
  stand = stand;
}

-- texts that were added stand in what is there, and more stands behind them
pub stand_behind : (texts : List (List ℕ)) (a b c more : List ℕ) → AddsInTurn texts a b → c ≡ b ++ more → StandInTurn texts c
stand_behind texts a b c more adds is =
    subst (StandInTurn texts) (sym (is ∙ ap (λ l. l ++ more) adds.grown))
    (turn-behind texts (a ++ adds.more) more (turn-before texts a adds.more adds.stand))

-- ---- what a page shows

fault_of : (bytes : List ℕ) (f : ReadFault) → f ≢ faults.Memory → IsFaultOrMemory bytes f → IsFault bytes f
fault_of bytes (faults.Text at) n h = h
fault_of bytes (faults.Element at) n h = h
fault_of bytes (faults.Attribute at) n h = h
fault_of bytes (faults.Many which) n h = h
fault_of bytes faults.Memory n h = absurd (n refl)

-- the page of a file that isn't read as a plan
pub unread_page : (run : Option RunParts) (finding : Finding) (verdict : Site → List ℕ) (plan : List ℕ) (file : Option (List ℕ)) (f : ReadFault)
    (page : List ℕ) → f ≢ faults.Memory → IsFaultOrMemory plan f → IsWholePage (run_subject run) (verdict Nowhere) (run_texts run ++ []) page
    → ShowsVerdict run plan file finding verdict page
unread_page run finding verdict plan file f page n h whole = record {
  site = Nowhere;
  shown = record { texts = []; are_texts = inr (f, fault_of plan f n h, refl, refl); whole = whole };
}

-- the page of a plan that is read
pub read_page : (run : Option RunParts) (finding : Finding) (verdict : Site → List ℕ) (plan : List ℕ) (file : Option (List ℕ)) (tree : ElementTree)
    (page : List ℕ) → IsElements plan tree → ShowsTree run plan file finding verdict tree page
    → ShowsVerdict run plan file finding verdict page
read_page run finding verdict plan file tree page read shown = record {
  site = shown.site;
  shown = record { texts = shown.texts; are_texts = inl (tree, read, shown.are_texts); whole = shown.whole };
}

-- the same with the comments of its file, and with its range file
pub tree_page : (run : Option RunParts) (finding : Finding) (verdict : Site → List ℕ) (plan : List ℕ) (file : Option (List ℕ)) (notes : Notes)
    (limits : Option Limits) (tree : ElementTree) (page : List ℕ) → HasNotes plan notes → AreLimits file limits
    → ShowsRead run notes limits finding verdict tree page → ShowsTree run plan file finding verdict tree page
tree_page run finding verdict plan file notes limits tree page noted read shown = record {
  site = shown.site;
  texts = shown.table ++ shown.captions;
  are_texts = record {
    names = shown.names;
    table = shown.table;
    is_table = record { notes = notes; noted = noted; limits = limits; read = read; table = shown.is_table };
    captions = shown.captions;
    are_captions = shown.are_captions;
    is = refl;
  };
  whole = shown.whole;
}

-- the same with what a refusal names
pub site_page : (run : Option RunParts) (finding : Finding) (verdict : Site → List ℕ) (notes : Notes) (limits : Option Limits) (site : Site)
    (captions : List (List ℕ)) (tree : ElementTree) (page : List ℕ) → named_statement site ≡ marked finding
    → AreCaptions (named_statement site) (run_marks run) (methods_of tree) captions
    → HasTable run (record { notes = notes; limits = limits; finding = finding; internals = run_internals run; site = site }) tree
    captions (verdict site) page
    → ShowsRead run notes limits finding verdict tree page
site_page run finding verdict notes limits site captions tree page names are has = record {
  site = site;
  names = names;
  table = has.table;
  is_table = has.is_table;
  captions = captions;
  are_captions = subst (λ s. AreCaptions s (run_marks run) (methods_of tree) captions) names are;
  whole = has.whole;
}

-- the same from what stands behind the verdict
pub table_page : (run : Option RunParts) (source : TableSource) (tree : ElementTree) (captions : List (List ℕ)) (verdict rest page : List ℕ)
    → IsBehind run source tree captions rest → IsAround (run_subject run) verdict rest page → HasTable run source tree captions verdict page
table_page run source tree captions verdict rest page behind around = record {
  table = behind.table;
  is_table = behind.is_table;
  whole = whole_page (run_subject run) verdict (run_texts run ++ (behind.table ++ captions)) rest page behind.stand around;
}

-- what a page has of a run, as it is appended
pub no_run : (page : List ℕ) → AddsInTurn (run_texts None) page page
no_run page = adds_none page

pub a_run : (run : RunParts) (old new : List ℕ) → new ≡ old ++ run.part → AddsInTurn (run_texts (Some run)) old new
a_run run old new is = record {
  more = run.part;
  grown = is;
  stand = ([], [], sym (append-nil run.part), tt);
}

-- what stands behind the verdict, part by part
pub behind_of : (run : Option RunParts) (source : TableSource) (tree : ElementTree) (captions : List (List ℕ))
    (index between more r s a b c d e : List ℕ) → AddsInTurn (run_texts run) r s → a ≡ s ++ index
    → AddsTable source tree a b → c ≡ b ++ between → AddsInTurn captions c d → e ≡ d ++ more
    → IsBehind run source tree captions e
behind_of run source tree captions index between more r s a b c d e told is_a table is_c drawn is_e =
    let shown = table.texts ++ captions in
    let drawings = adds_then table.texts captions a c d (adds_behind table.texts between a b c is_c table.adds) drawn in
    record {
      table = table.texts;
      is_table = table.are;
      stand = stand_behind (run_texts run ++ shown) r d e more
          (adds_then (run_texts run) shown r s d told (adds_before shown index s a d is_a drawings)) is_e;
    }

-- of a file that isn't read, this of a run alone
pub run_alone : (run : Option RunParts) (more r s e : List ℕ) → AddsInTurn (run_texts run) r s → e ≡ s ++ more
    → StandInTurn (run_texts run ++ []) e
run_alone None more r s e told is = tt
run_alone (Some x) more r s e told is = stand_behind (x.part ∷ []) r s e more told is

-- ---- the range file

-- a file that isn't read as one
pub no_limits : (bytes : List ℕ) (f : LimitsFault) → ((e : AllocError) → f ≢ ranges.Memory e)
    → (f ≡ ranges.LimitsLong → longest_limits < length bytes) → (f ≡ ranges.Toml → FileSays bytes (Err no_toml))
    → ((label : List ℕ) → f ≡ ranges.Key label → FileSays bytes (Err (bad_key label)))
    → ((label : List ℕ) → f ≡ ranges.Bound label → FileSays bytes (Err (bad_bound label))) → AreLimits (Some bytes) None
no_limits bytes ranges.LimitsLong known long toml key bound = (too_long, long refl)
no_limits bytes ranges.Toml known long toml key bound = (no_toml, toml refl)
no_limits bytes (ranges.Key label) known long toml key bound = (bad_key label, key label refl)
no_limits bytes (ranges.Bound label) known long toml key bound = (bad_bound label, bound label refl)
no_limits bytes (ranges.Memory e) known long toml key bound = absurd (known e refl)

says_all : (plan : List ℕ) (v : Verdict) (site : Site) → HasLine plan v
    → Says plan (finding_of v) (words_of v) site (verdict_text v site)
says_all plan (verdicts.Accepted p) site line = refl
says_all plan verdicts.InOrder site line = refl
says_all plan (verdicts.Refused reason) site line = record { line = reason.line.items; is_line = line; is = refl }

-- the page of a plan that is judged
pub judged_page : (run : Option RunParts) (v : Verdict) (plan page : List ℕ) (limits words : Option (List ℕ)) → IsFound plan limits (finding_of v)
    → HasLine plan v → ShowsVerdict run plan limits (finding_of v) (verdict_text v) page → words ≡ words_of v
    → IsRunPage run plan limits words page
judged_page run v plan page limits words found line shown is = record {
  finding = finding_of v;
  found = found;
  site = shown.site;
  verdict = verdict_text v shown.site;
  says = subst (λ ws. Says plan (finding_of v) ws shown.site (verdict_text v shown.site)) (sym is)
      (says_all plan v shown.site line);
  shown = shown.shown;
}

-- the same with equal words
pub reworded : (run : Option RunParts) (plan page : List ℕ) (limits words others : Option (List ℕ))
    → IsRunPage run plan limits others page → words ≡ others → IsRunPage run plan limits words page
reworded run plan page limits words others shown same =
    subst (λ ws. IsRunPage run plan limits ws page) (sym same) shown
