-- What differs between the runs of two books: list after list, and nothing of a run that stays.
use Rattle.std.proofs.Common.{◌≡◌, ℕ, zero, ◌+◌, ◌<◌, suc, List, [], ◌∷◌, ◌++◌, append_assoc, length, map, take, get_or, if◌then◌else◌, Option, option_map, refl, sym, ap, ap₂, ◌∙◌, arith}
use Rattle.std.specs.List.{flat_map}
use Rattle.std.proofs.lemmas.List.{append-nil, length-map, take_more}
use Rattle.rising_lists.specs.Keyed.{at_key}
use Rattle.payroll_records.specs.declared.record.Key.{Key}
use Rattle.payroll_records.specs.declared.record.Record.{Record}
use Rattle.payroll_records.specs.Orders.{key_cmp}
use Rattle.payroll_records.specs.Tables.{key_of}
use Rattle.carry_bindings.specs.declared.carried.Earlier.{Earlier}
use Rattle.book_year.specs.declared.outcome.Outcome.{Outcome}
use Rattle.book_year.specs.declared.outcome.State.{State}
use Rattle.book_year.specs.declared.year.YearKey.{YearKey}
use Rattle.book_year.specs.Rows.{Planned, earlier_of, row_of, rows, year_rows}
use Rattle.book_year.proofs.Laws.{row_of_day, rows_length}
use Rattle.book_edits.specs.Books.{YearRuns}
use Rattle.recalc_engine.specs.BookLaws.{row_key}
use Rattle.recalc_engine.specs.MonthRows.{KeyedRow, keyed_row, keyed_rows}
use Rattle.recalc_engine.specs.KeptRows.{kept_row, kept_rows}
use Rattle.what_if.specs.declared.trial.TrialRow.{TrialRow}
use Rattle.what_if.specs.declared.trial.TrialRow.TheVariants.{Changed}
use Rattle.what_if.specs.Changes.{row_state, state_outputs, run_changes, shown_state, value_rows}
use Rattle.what_if.specs.private.YearViews.{changes, year_changes}
use Rattle.what_if.proofs.StateLemmas.{state_own}

-- ---- one list after another

pub changes_append : (bs ns more_bs more_ns : List KeyedRow) → length bs ≡ length ns →
    changes (bs ++ more_bs) (ns ++ more_ns) ≡ changes bs ns ++ changes more_bs more_ns
changes_append [] [] more_bs more_ns e = refl
changes_append [] (a ∷ ns) more_bs more_ns e = absurd (omega (arith, e))
changes_append (b ∷ bs) [] more_bs more_ns e = absurd (omega (arith, e))
changes_append (b ∷ bs) (a ∷ ns) more_bs more_ns e =
    ap (λ t. run_changes b.key b.state a.state ++ t) (changes_append bs ns more_bs more_ns (omega (arith, e)))
    ∙ sym (append_assoc (run_changes b.key b.state a.state) (changes bs ns) (changes more_bs more_ns))

rows_as_long : (p q : Planned) (y : YearRuns) → length (keyed_rows p y) ≡ length (keyed_rows q y)
rows_as_long p q y =
    length-map (year_rows p y.runs) (keyed_row y.key) ∙ rows_length p [] y.runs
    ∙ sym (length-map (year_rows q y.runs) (keyed_row y.key) ∙ rows_length q [] y.runs)

-- what differs between the runs of all years, year by year
pub changes_by_year : (p q : Planned) (ys : List YearRuns) →
    changes (flat_map (keyed_rows p) ys) (flat_map (keyed_rows q) ys) ≡ flat_map (year_changes p q) ys
changes_by_year p q [] = refl
changes_by_year p q (y ∷ ys) =
    changes_append (keyed_rows p y) (keyed_rows q y) (flat_map (keyed_rows p) ys) (flat_map (keyed_rows q) ys)
    (rows_as_long p q y)
    ∙ ap (λ t. year_changes p q y ++ t) (changes_by_year p q ys)

-- ---- a run that stays

-- the rows of a run whose state changes
abbrev pub changed_rows : Key → State → State → List TrialRow
changed_rows k b a = Changed k (shown_state b) (shown_state a) ∷ value_rows k (state_outputs b) (state_outputs a)

stays : (k : Key) (s : State) → run_changes k s s ≡ []
stays k s = ap (λ t. if t then [] else changed_rows k s s) (state_own s)

-- nothing differs between a list of runs and itself
pub changes_none : (rows : List KeyedRow) → changes rows rows ≡ []
changes_none [] = refl
changes_none (row ∷ rows) = ap₂ (λ a b. a ++ b) (stays row.key row.state) (changes_none rows)

-- ---- one run more

kept_more : (rs : List Record) (os : List Outcome) (r : Record) (o : Outcome) → length rs ≡ length os →
    kept_rows (rs ++ r ∷ []) (os ++ o ∷ []) ≡ kept_rows rs os ++ kept_row r o ∷ []
kept_more [] [] r o e = refl
kept_more [] (p ∷ os) r o e = absurd (omega (arith, e))
kept_more (s ∷ rs) [] r o e = absurd (omega (arith, e))
kept_more (s ∷ rs) (p ∷ os) r o e = ap (λ t. kept_row s p ∷ t) (kept_more rs os r o (omega (arith, e)))

kept_long : (rs : List Record) (os : List Outcome) → length rs ≡ length os → length (kept_rows rs os) ≡ length rs
kept_long [] os e = refl
kept_long (r ∷ rs) [] e = absurd (omega (arith, e))
kept_long (r ∷ rs) (o ∷ os) e = ap suc (kept_long rs os (omega (arith, e)))

pub changes_more : (rs : List Record) (bs ns : List Outcome) (r : Record) (b a : Outcome) → length rs ≡ length bs →
    length rs ≡ length ns → changes (kept_rows (rs ++ r ∷ []) (bs ++ b ∷ [])) (kept_rows (rs ++ r ∷ []) (ns ++ a ∷ []))
    ≡ changes (kept_rows rs bs) (kept_rows rs ns) ++ run_changes (key_of r) b.state a.state
changes_more rs bs ns r b a e f =
    ap₂ changes (kept_more rs bs r b e) (kept_more rs ns r a f)
    ∙ changes_append (kept_rows rs bs) (kept_rows rs ns) (kept_row r b ∷ []) (kept_row r a ∷ []) (kept_long rs bs e
    ∙ sym (kept_long rs ns f))
    ∙ ap (λ t. changes (kept_rows rs bs) (kept_rows rs ns) ++ t) (append-nil (run_changes (key_of r) b.state a.state))

take_long : {X Y : Type 0} (i : ℕ) (xs : List X) (ys : List Y) → length xs ≡ length ys →
    length (take i xs) ≡ length (take i ys)
take_long zero xs ys e = refl
take_long (suc i) [] [] e = refl
take_long (suc i) [] (y ∷ ys) e = absurd (omega (arith, e))
take_long (suc i) (x ∷ xs) [] e = absurd (omega (arith, e))
take_long (suc i) (x ∷ xs) (y ∷ ys) e = ap suc (take_long i xs ys (omega (arith, e)))

next_taken : {X : Type 0} (xs : List X) (i : ℕ) (x : X) → i < length xs → x ≡ get_or xs i x →
    take (i + 1) xs ≡ take i xs ++ x ∷ []
next_taken xs i x l is = take_more xs i x l ∙ ap (λ t. take i xs ++ t ∷ []) (sym is)

-- what differs between the first runs of a year, and one more
pub runs_more : (rs : List Record) (bs ns : List Outcome) (i : ℕ) (r : Record) (b a : Outcome) → length rs ≡ length bs →
    length rs ≡ length ns → i < length rs → r ≡ get_or rs i r → b ≡ get_or bs i b → a ≡ get_or ns i a →
    changes (kept_rows (take (i + 1) rs) (take (i + 1) bs)) (kept_rows (take (i + 1) rs) (take (i + 1) ns))
    ≡ changes (kept_rows (take i rs) (take i bs)) (kept_rows (take i rs) (take i ns)) ++ run_changes (key_of r)
    b.state a.state
runs_more rs bs ns i r b a e f l r_is b_is a_is =
    let rs_step = next_taken rs i r l r_is in
    let bs_step = next_taken bs i b (omega (arith, l, e)) b_is in
    let ns_step = next_taken ns i a (omega (arith, l, f)) a_is in
    (λ j. changes (kept_rows (rs_step j) (bs_step j)) (kept_rows (rs_step j) (ns_step j)))
    ∙ changes_more (take i rs) (take i bs) (take i ns) r b a (take_long i rs bs e) (take_long i rs ns f)

-- ---- the runs of two lists

abbrev pub state_at : List KeyedRow → Key → Option State
state_at rows k = option_map row_state (at_key key_cmp row_key rows k)

-- the runs of two lists are the same
abbrev pub HaveKeys : List KeyedRow → List KeyedRow → Type 0
HaveKeys bs ns = map row_key bs ≡ map row_key ns

pub head_key : (a b : Key) (ns bs : List Key) → a ∷ ns ≡ b ∷ bs → a ≡ b
head_key a b ns bs e = cc e

pub tail_keys : (a b : Key) (ns bs : List Key) → a ∷ ns ≡ b ∷ bs → ns ≡ bs
tail_keys a b ns bs e = cc e

abbrev next : Planned → List Earlier → Record → List Earlier
next planned earlier r = earlier ++ earlier_of (row_of (planned r.day) earlier r) ∷ []

year_keys : (k : YearKey) (p q : Planned) (e f : List Earlier) (rs : List Record) →
    HaveKeys (map (keyed_row k) (rows p e rs)) (map (keyed_row k) (rows q f rs))
year_keys k p q e f [] = refl
year_keys k p q e f (r ∷ rs) = λ i.
    record { employee = k.employee; day = (row_of_day (p r.day) e r ∙ sym (row_of_day (q r.day) f r)) i }
    ∷ year_keys k p q (next p e r) (next q f r) rs i

keys_append : (ns bs : List KeyedRow) → map row_key (ns ++ bs) ≡ map row_key ns ++ map row_key bs
keys_append [] bs = refl
keys_append (a ∷ ns) bs = ap (λ t. a.key ∷ t) (keys_append ns bs)

pub all_keys : (p q : Planned) (ys : List YearRuns) → HaveKeys (flat_map (keyed_rows p) ys) (flat_map (keyed_rows q) ys)
all_keys p q [] = refl
all_keys p q (y ∷ ys) =
    keys_append (keyed_rows p y) (flat_map (keyed_rows p) ys)
    ∙ ap₂ (λ a b. a ++ b) (year_keys y.key p q [] [] y.runs) (all_keys p q ys)
    ∙ sym (keys_append (keyed_rows q y) (flat_map (keyed_rows q) ys))
