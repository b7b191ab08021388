-- Faults that are told one after the other.
use Rattle.std.proofs.Common.{◌≡◌, ℕ, zero, suc, ◌+◌, ◌-◌, ◌<◌, ◌≤◌, List, [], ◌∷◌, ◌++◌, take, get_or, length, refl, sym, ap, subst, ◌∙◌, add-one, append_assoc, arith}
use Rattle.std.specs.List.{AllZip}
use Rattle.std.proofs.lemmas.List.{append-nil, take_all}
use Rattle.std.proofs.lemmas.Grind.{flat_map-append}
use Rattle.std.proofs.lemmas.Slice.Zip.{all_zipped_more}
use Rattle.std.proofs.Math.Seq.{take-suc}
use Rattle.diagnostics.specs.FaultLines.{TellsEach, lines_with, more_line, most_told}
use Rattle.diagnostics.specs.private.LineViews.{TellsAll, AddsLines}

-- one line more
lines_more : (words : List (List ℕ)) (own before old new : List ℕ) → old ≡ before ++ lines_with words → new ≡ old ++ (own ++ 10 ∷ [])
    → new ≡ before ++ lines_with (words ++ own ∷ [])
lines_more words own before old new is more =
    more ∙ ap (λ t. t ++ (own ++ 10 ∷ [])) is ∙ append_assoc before (lines_with words) (own ++ 10 ∷ [])
    ∙ ap (λ t. before ++ t)
    (sym (flat_map-append (λ w. w ++ 10 ∷ []) words (own ∷ []) ∙ ap (λ t. lines_with words ++ t) (append-nil (own ++ 10 ∷ []))))

-- the elements up to a place, and the one there
pub up_to : {A : Type 0} (xs : List A) (i : ℕ) (x : A) → i < length xs → x ≡ get_or xs i x → take i xs ++ x ∷ [] ≡ take (i + 1) xs
up_to xs i x l is = sym (rw (add-one, take-suc xs i x l, ← is) refl)

rest_is : {A : Type 0} (xs : List A) (m : ℕ) → length xs - length (take m xs) ≡ length xs - m
rest_is [] zero = refl
rest_is [] (suc m) = omega arith
rest_is (x ∷ xs) zero = refl
rest_is (x ∷ xs) (suc m) = let h = rest_is xs m in omega (arith, h)

-- a first one that is told is one of the most
less_one : (n : ℕ) → n - 19 ≡ suc n - 20
less_one n = omega arith

zip_weaker : {A : Type 0} (P Q : A → List ℕ → Type 0) → ((fault : A) (words : List ℕ) → P fault words → Q fault words)
    → (faults : List A) (words : List (List ℕ)) → AllZip P faults words → AllZip Q faults words
zip_weaker P Q more [] [] h = tt
zip_weaker P Q more [] (w ∷ ws) h = absurd h
zip_weaker P Q more (f ∷ fs) [] h = absurd h
zip_weaker P Q more (f ∷ fs) (w ∷ ws) h = (more f w h.0, zip_weaker P Q more fs ws h.1)

module _ {A : Type 0} (Says : A → List ℕ → Type 0) where
  pub told_none : (before : List ℕ) → TellsAll Says [] before before
  told_none before = record { words = []; says = tt; is = sym (append-nil before) }

  pub told_more : (told : List A) (at : ℕ) (fault : A) (own before old new : List ℕ) → at < length told → fault ≡ get_or told at fault
      → TellsAll Says (take at told) before old → Says fault own → new ≡ old ++ (own ++ 10 ∷ []) → TellsAll Says (take (at + 1) told) before new
  told_more told at fault own before old new less is h says line =
      subst (λ fs. TellsAll Says fs before new) (up_to told at fault less is) (record {
        words = h.words ++ own ∷ [];
        says = all_zipped_more Says (take at told) h.words fault own h.says says;
        is = lines_more h.words own before old new h.is line;
      })

  -- where all that are to be told are told
  pub all_told : (faults told : List A) (most at more : ℕ) (before old new : List ℕ) → told ≡ take most faults → length told ≤ at
      → more ≡ length faults - length told → TellsAll Says (take at told) before old → new ≡ old ++ more_line more → AddsLines Says most faults before new
  all_told faults told most at more before old new first past rest h line = record {
    words = h.words;
    says = subst (λ fs. AllZip Says fs h.words) (take_all at told past ∙ first) h.says;
    is =
        line ∙ ap (λ t. t ++ more_line more) h.is ∙ append_assoc before (lines_with h.words) (more_line more)
        ∙ ap (λ n. before ++ (lines_with h.words ++ more_line n)) (rest ∙ ap (λ t. length faults - length t) first ∙ rest_is faults most);
  }

module _ {A : Type 0} (Gives Says : A → List ℕ → Type 0) (say : (fault : A) (words : List ℕ) → Gives fault words → Says fault words) where
  -- the lines of an empty text are those of all
  pub adds_each : (faults : List A) (old new : List ℕ) → old ≡ [] → AddsLines Gives most_told faults old new → TellsEach Says faults new
  adds_each faults old new none h = record {
    words = h.words;
    says = zip_weaker Gives Says say (take most_told faults) h.words h.says;
    is = h.is ∙ ap (λ t. t ++ (lines_with h.words ++ more_line (length faults - most_told))) none;
  }

  -- the same behind the line of a first one
  pub adds_behind : (first : A) (further : List A) (own old new : List ℕ) → Says first own → old ≡ own ++ 10 ∷ [] → AddsLines Gives 19 further old new
      → TellsEach Says (first ∷ further) new
  adds_behind first further own old new says line h = record {
    words = own ∷ h.words;
    says = (says, zip_weaker Gives Says say (take 19 further) h.words h.says);
    is =
        h.is ∙ ap (λ t. t ++ (lines_with h.words ++ more_line (length further - 19))) line
        ∙ sym (append_assoc (own ++ 10 ∷ []) (lines_with h.words) (more_line (length further - 19)))
        ∙ ap (λ n. lines_with (own ∷ h.words) ++ more_line n) (less_one (length further));
  }
