-- The rows of a CSV text, one after another.
use Rattle.std.proofs.Common.{◌≡◌, ℕ, zero, suc, ◌+◌, ◌-◌, ◌<◌, ◌≤◌, List, [], ◌∷◌, ◌++◌, length, Option, Some, None, Bool, true, false, refl, sym, ap, ◌∙◌, arith, add-one, ◌==◌, ◌||◌}
use Rattle.std.specs.Prelude.{if◌then◌else◌}
use Rattle.std.proofs.lemmas.Bool.{false≢true}
use Rattle.csv.specs.Machine.{Read, next_record, ends_at_end, step, is_end, in_field, start_field, start_record, fields_after, field_after}
use Rattle.csv.specs.Reading.{default_config, records_from, records_next}
use Rattle.csv.specs.declared.parser.State.{State}
use Rattle.csv.specs.declared.parser.State.TheVariants as st
use Rattle.csv.specs.declared.parser.Action.{Action}
use Rattle.csv.specs.declared.parser.Action.TheVariants as act
use Rattle.payroll_records.specs.private.RowViews.{rows_from}

-- what ends a row leaves the machine between two rows
abbrev EndsBetween : State × Action → Type 0
EndsBetween p = is_end p.1 ≡ true → ends_at_end p.0 ≡ false

choice : (b : Bool) (p q : State × Action) → EndsBetween p → EndsBetween q → EndsBetween (if b then p else q)
choice true p q h k = h
choice false p q h k = k

goes_on : (s : State) (a : Action) → is_end a ≡ false → EndsBetween (s, a)
goes_on s a e t = absurd (false≢true (sym e ∙ t))

between : (b : Bool) → ends_at_end (if b then st.AfterCr else st.StartRecord) ≡ false
between true = refl
between false = refl

in_field_between : (c : ℕ) → EndsBetween (in_field default_config c)
in_field_between c =
    choice (c == 44) _ _ (goes_on st.StartField act.EndField refl)
    (choice ((c == 13) || (c == 10)) _ _ (λ e. between (c == 13)) (goes_on st.InField act.Copy refl))

start_field_between : (c : ℕ) → EndsBetween (start_field default_config c)
start_field_between c = choice (c == 34) _ _ (goes_on st.InQuoted act.Skip refl) (in_field_between c)

start_record_between : (c : ℕ) → EndsBetween (start_record default_config c)
start_record_between c = choice ((c == 13) || (c == 10)) _ _ (goes_on st.StartRecord act.Skip refl) (start_field_between c)

step_between : (s : State) (c : ℕ) → EndsBetween (step default_config s c)
step_between st.StartRecord c = start_record_between c
step_between st.StartField c = start_field_between c
step_between st.InField c = in_field_between c
step_between st.InQuoted c = choice (c == 34) _ _ (goes_on st.AfterQuote act.Skip refl) (goes_on st.InQuoted act.Copy refl)
step_between st.InEscape c = goes_on st.InQuoted act.Copy refl
step_between st.AfterQuote c = choice (c == 34) _ _ (goes_on st.InQuoted act.Copy refl) (in_field_between c)
step_between st.InComment c = choice (c == 10) _ _ (goes_on st.StartRecord act.Skip refl) (goes_on st.InComment act.Skip refl)
step_between st.AfterCr c = choice (c == 10) _ _ (goes_on st.StartRecord act.Skip refl) (start_record_between c)

-- what a read of a row leaves: a state between two rows, and fewer bytes
record Leaves (xs : List ℕ) (p : Read) : Type 0 where
  between : ends_at_end p.1 ≡ false
  fewer : length p.2 ≤ length xs - 1

leaves_this : (xs : List ℕ) (q p : Read) → Some q ≡ Some p → Leaves xs q → Leaves xs p
leaves_this xs q p e h = let same : q ≡ p = cc in rw (← same) h

leaves : (s : State) (fields : List (List ℕ)) (field xs : List ℕ) (p : Read) → next_record default_config s fields field xs ≡ Some p → Leaves xs p
unfolding next_record
leaves s fields field [] p e = by (ends_at_end s) e
  where
    by : (b : Bool) → (if b then Some (fields ++ (field ∷ []), st.StartRecord, []) else None) ≡ Some p → Leaves [] p
    by true e = leaves_this [] _ p e (record { between = refl; fewer = omega arith })
    by false e = absurd (cc e)
leaves s fields field (c ∷ rest) p e =
    by (is_end (step default_config s c).1) refl e
    (leaves (step default_config s c).0 (fields_after (step default_config s c).1 fields field) (field_after (step default_config s c).1 c field) rest p)
  where
    by : (b : Bool) → is_end (step default_config s c).1 ≡ b →
        (if b then Some (fields_after (step default_config s c).1 fields field, (step default_config s c).0, rest)
        else next_record default_config (step default_config s c).0 (fields_after (step default_config s c).1 fields field) (field_after (step default_config s c).1 c field) rest) ≡ Some p →
        (next_record default_config (step default_config s c).0 (fields_after (step default_config s c).1 fields field) (field_after (step default_config s c).1 c field) rest ≡ Some p → Leaves rest p) →
        Leaves (c ∷ rest) p
    by true t e more = leaves_this (c ∷ rest) _ p e (record { between = step_between s c t; fewer = omega arith })
    by false t e more = let h = more e in record { between = h.between; fewer = omega (arith, h.fewer) }

-- at the end, between two rows, there is none
no_row : (s : State) → ends_at_end s ≡ false → next_record default_config s [] [] [] ≡ None
unfolding next_record
no_row s e = rw e

shorter : (s : State) (xs : List ℕ) (p : Read) → ends_at_end s ≡ false → next_record default_config s [] [] xs ≡ Some p → length p.2 < length xs
shorter s [] p b e = absurd (cc (no_row s b, e))
shorter s (x ∷ xs) p b e = let h = leaves s [] [] (x ∷ xs) p e in omega (arith, h.fewer)

-- more turns than bytes give every row
enough : (n m : ℕ) (s : State) (xs : List ℕ) → ends_at_end s ≡ false → length xs < n → length xs < m → records_from default_config n s xs ≡ records_from default_config m s xs
unfolding records_from
enough zero m s xs b l k = absurd (omega arith)
enough (suc n) zero s xs b l k = absurd (omega arith)
enough (suc n) (suc m) s xs b l k = by (next_record default_config s [] [] xs) refl (enough n m)
  where
    by : (o : Option Read) → next_record default_config s [] [] xs ≡ o →
        ((t : State) (ys : List ℕ) → ends_at_end t ≡ false → length ys < n → length ys < m → records_from default_config n t ys ≡ records_from default_config m t ys) →
        records_next (records_from default_config n) o ≡ records_next (records_from default_config m) o
    by None e more = refl
    by (Some p) e more =
        let less = shorter s xs p b e in
        ap (λ rows. p.0 ∷ rows) (more p.1 p.2 (leaves s [] [] xs p e).between (omega arith) (omega arith))

pub next_between : (s : State) (xs : List ℕ) (p : Read) → next_record default_config s [] [] xs ≡ Some p → ends_at_end p.1 ≡ false
next_between s xs p e = (leaves s [] [] xs p e).between

pub row_taken : (s : State) (xs : List ℕ) (p : Read) → ends_at_end s ≡ false → next_record default_config s [] [] xs ≡ Some p → rows_from s xs ≡ p.0 ∷ rows_from p.1 p.2
unfolding records_from
row_taken s xs p b e =
    let less = shorter s xs p b e in
    rw (add-one, e) (ap (λ rows. p.0 ∷ rows) (enough (length xs) (length p.2 + 1) p.1 p.2 (next_between s xs p e) less (omega arith)))

pub rows_ended : (s : State) (xs : List ℕ) → next_record default_config s [] [] xs ≡ None → rows_from s xs ≡ []
unfolding records_from
rows_ended s xs e = rw (add-one, e)
