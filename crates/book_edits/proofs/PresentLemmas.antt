-- The first record at whose key a run stands.
use Rattle.std.proofs.Common.{◌≡◌, ℕ, suc, ◌+◌, ◌<◌, List, [], ◌∷◌, ◌++◌, take, drop, length, get_or, Bool, true, false, cond, Option, Some, None, is_some, refl, sym, ap, subst, ◌∙◌}
use Rattle.std.specs.Prelude.{IsNone, find, option_map}
use Rattle.std.specs.List.{AllByRecursion}
use Rattle.std.proofs.Math.Seq.{drop-cons}
use Rattle.std.proofs.lemmas.List.{take-append-drop, take_more}
use Rattle.rising_lists.proofs.Laws.{none_some}
use Rattle.payroll_records.specs.declared.record.Key.{Key}
use Rattle.payroll_records.specs.declared.record.Record.{Record}
use Rattle.payroll_records.specs.Tables.{key_of}
use Rattle.book_edits.specs.Books.{YearRuns, run_at}
use Rattle.book_edits.specs.Loads.{first_present}

-- whether a run stands at the record's key
abbrev pub stands : List YearRuns → Record → Bool
stands years r = is_some (run_at years (key_of r))

abbrev pub IsFree : List YearRuns → Record → Type 0
IsFree years r = IsNone (run_at years (key_of r))

module _ (years : List YearRuns) where
  abbrev first_by : Bool → Record → List Record → Option Key
  first_by b r rs = option_map key_of (cond b (Some r) (find (stands years) rs))

  -- where none of the records is present, none of them is
  pub free_each : (items : List Record) → first_present years items ≡ None → AllByRecursion (IsFree years) items
  free_each [] h = tt
  free_each (r ∷ rs) h = by (run_at years (key_of r)) refl h (free_each rs)
    where
      by : (o : Option Record) → run_at years (key_of r) ≡ o → first_by (is_some o) r rs ≡ None →
          (first_present years rs ≡ None → AllByRecursion (IsFree years) rs) → AllByRecursion (IsFree years) (r ∷ rs)
      by None e f more = (subst (λ o. IsNone o) (sym e) refl, more f)
      by (Some s) e f more = absurd (none_some (key_of r) (sym f))

  -- behind records of which none is present
  first_behind : (xs ys : List Record) → first_present years xs ≡ None → first_present years (xs ++ ys) ≡ first_present years ys
  first_behind [] ys h = refl
  first_behind (x ∷ xs) ys h = by (stands years x) h (first_behind xs ys)
    where
      by : (b : Bool) → first_by b x xs ≡ None → (first_present years xs ≡ None → first_present years (xs ++ ys) ≡ first_present years ys) →
          first_by b x (xs ++ ys) ≡ first_present years ys
      by true f more = absurd (none_some (key_of x) (sym f))
      by false f more = more f

  -- the record at a place, none before it being present: it is the first one, or still none is
  module _ (items : List Record) (i : ℕ) (item : Record) (within : i < length items) (is : item ≡ get_or items i item) (before : first_present years (take i items) ≡ None) where
    pub present_here : stands years item ≡ true → first_present years items ≡ Some (key_of item)
    present_here there =
        ap (first_present years) (sym (take-append-drop i items) ∙ ap (λ l. take i items ++ l) (drop-cons items i item within))
        ∙ first_behind (take i items) (get_or items i item ∷ drop (suc i) items) before
        ∙ ap (λ (r : Record). first_present years (r ∷ drop (suc i) items)) (sym is)
        ∙ ap (λ b. first_by b item (drop (suc i) items)) there

    pub none_here : stands years item ≡ false → first_present years (take (i + 1) items) ≡ None
    none_here absent =
        ap (first_present years) (take_more items i item within)
        ∙ first_behind (take i items) (get_or items i item ∷ []) before
        ∙ ap (λ (r : Record). first_present years (r ∷ [])) (sym is)
        ∙ ap (λ b. first_by b item []) absent
