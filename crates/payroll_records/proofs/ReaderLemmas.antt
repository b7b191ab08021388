-- What a read of a row does to a reader between two rows.
use Rattle.std.proofs.Common.{◌≡◌, ℕ, List, [], ◌∷◌, Option, Some, None, IsSome, Bool, true, false, refl, sym, ap, ◌∙◌, inl}
use Rattle.std.proofs.lemmas.Bool.{false≢true}
use Rattle.csv.specs.Machine.{ends_at_end}
use Rattle.csv.specs.Reading.{Reached, ReadRecord, default_config, source_of}
use Rattle.csv.specs.declared.parser.State.{State}
use Rattle.csv.specs.declared.reader.Reader.{Reader}
use Rattle.csv.proofs.ReadFacts.{rows-end, rows-more}
use Rattle.payroll_records.specs.private.RowViews.{rows_from, rows_of_known, IsBetweenRows, ReadsRow}
use Rattle.payroll_records.proofs.RowLemmas.{row_taken, rows_ended, next_between}

some_value : {X : Type 0} (o : Option X) → IsSome o → (x : X) × (o ≡ Some x)
some_value None h = absurd (false≢true h)
some_value (Some x) h = (x, refl)

one_row : (s s2 : State) (y z : List ℕ) (f : List (List ℕ)) → ends_at_end s ≡ false → Reached default_config s y (f ∷ []) s2 z →
    (ends_at_end s2 ≡ false) × (rows_from s y ≡ f ∷ rows_from s2 z)
unfolding Reached
one_row s s2 y z f b h =
    let state = h.3.0 in
    let rest = h.3.1 in
    (rw (← state) (next_between s y h.0 h.1), row_taken s y h.0 b h.1 ∙ rw (h.2, state, rest))

started : (s : State) (y : List ℕ) → Reached default_config s y [] s y
unfolding Reached
started s y = (refl, refl)

pub reads : {R : Type 0} (rem : R → Option (List ℕ)) (a b : Reader R) (found : Bool) (f : List (List ℕ)) → IsBetweenRows rem a → b.first ≡ true →
    ReadRecord rem a b found f → ReadsRow rem a b found f
reads rem a b true f h first r =
    let known = some_value (source_of rem a) h.known in
    let more = rows-more rem a b f default_config a.state known.0 known.0 [] h.config known.1 (started a.state known.0) r in
    let one = one_row a.state b.state known.0 more.0 f h.between more.2 in
    record {
      reader = record { trim = r.3 ∙ h.trim; ready = inl first; config = r.2 ∙ h.config; known = rw more.1 refl; between = one.0 };
      rows = ap (rows_of_known a.state) known.1 ∙ one.1 ∙ ap (λ rows. f ∷ rows) (sym (ap (rows_of_known b.state) more.1));
    }
reads rem a b false f h first r =
    let known = some_value (source_of rem a) h.known in
    ap (rows_of_known a.state) known.1 ∙ rows_ended a.state known.0 (rows-end rem a b f default_config known.0 h.config known.1 r)
