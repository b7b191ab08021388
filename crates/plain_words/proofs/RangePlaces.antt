-- Words that begin with the place of a fault of a range file's entries.
use Rattle.std.proofs.Common.{◌≡◌, ◌≢◌, ℕ, List, [], ◌∷◌, ◌++◌, refl, sym, subst, ap, ◌∙◌}
use Rattle.std.specs.Prelude.{codes, IfSome, ⊤}
use Rattle.range_faults.specs.declared.fault.EntryFault.{EntryFault}
use Rattle.range_faults.specs.declared.fault.EntryFault.TheVariants as faults
use Rattle.plain_words.specs.declared.found.Found.{Found}
use Rattle.plain_words.specs.Places.{PlanFiles, words_at}
use Rattle.plain_words.specs.EntryPlaces.{IsByteOfFault}
use Rattle.plain_words.specs.EntryTexts.{BeginsAtEntry, IsReasonOfEntry, entry_fault_text}
use Rattle.plain_words.specs.private.FoundViews.{IsOfRanges, help_text, place_in, place_of}

-- a text with a first byte
abbrev HasFirst : List ℕ → Type 0
HasFirst [] = ⊥
HasFirst (first ∷ rest) = ⊤

-- what a fault names isn't empty
names_some : (fault : EntryFault) (rest : List ℕ) → HasFirst (entry_fault_text fault ++ rest)
names_some (faults.NoSection key) rest = tt
names_some (faults.Entry section entry) rest = tt
names_some (faults.Key section entry key) rest = tt
names_some (faults.Bounds entry) rest = tt

pub begins_at_entry : (files : PlanFiles) (fault : EntryFault) (found : Found) (wrong rest words : List ℕ) → IsOfRanges found
    → IfSome found.at (IsByteOfFault files.ranges.bytes fault) → wrong ≡ entry_fault_text fault ++ rest
    → words ≡ words_at files (place_of found) (wrong ++ (codes "; " ++ help_text found)) → BeginsAtEntry files fault words
begins_at_entry files fault found wrong rest words of place is says =
    let text = wrong ++ (codes "; " ++ help_text found) in
    let some : wrong ≢ [] = λ none. subst HasFirst (sym is ∙ none) (names_some fault rest) in record {
      at = found.at;
      place = place;
      text = text;
      reason = record { reason = record { wrong = wrong; help = help_text found; some = some; is = refl }; says = (rest, is) };
      begins = says ∙ ap (λ k. words_at files (place_in k found.at) text) of;
    }
