-- What the searches for a year and for a run say of the runs.
use Rattle.std.proofs.Common.{◌≡◌, ℕ, List, [], Some, None, IsSome, is_some, Result, Ok, Err, IfOk, IfErr, refl, sym, ap, subst, ◌∙◌, get_or}
use Rattle.std.specs.Result.{IsOk, result_ok}
use Rattle.std.proofs.lemmas.Bool.{false≢true}
use Rattle.rising_lists.specs.Keyed.{at_key}
use Rattle.rising_lists.specs.Places.{Finds, IsAt, IsGap, Misses}
use Rattle.rising_lists.proofs.Laws.{at_key_gap, at_key_here}
use Rattle.payroll_records.specs.declared.day.Day.{Day}
use Rattle.payroll_records.specs.declared.record.Record.{Record}
use Rattle.payroll_records.specs.Orders.{day_cmp}
use Rattle.payroll_records.proofs.Laws.{day_total}
use Rattle.book_year.specs.declared.year.Year.{Year}
use Rattle.book_year.specs.declared.year.YearKey.{YearKey}
use Rattle.book_year.specs.Records.{record_day}
use Rattle.book_edits.specs.Books.{runs_of, year_cmp}
use Rattle.book_edits.specs.Kept.{kept_key, runs_in}
use Rattle.book_edits.proofs.YearsLemmas.{IsFound, found_year, runs_kept, runs_missed}

pub ok_is : {X E : Type 0} (r : Result X E) (x : X) → result_ok r ≡ Some x → r ≡ Ok x
ok_is (Ok y) x e = let same : y ≡ x = cc in ap (λ t. Ok t) same
ok_is (Err e) x f = cc

-- a run that stands in a year shows that the year is there
pub year_there : (ys slice : List Year) (k key : YearKey) (d : Day) (r : Result ℕ ℕ) → slice ≡ ys → key ≡ k → IfErr r (Misses year_cmp kept_key slice key) → IsSome (at_key day_cmp record_day (runs_of (runs_in ys) k) d) → IsOk r
year_there ys slice k key d (Ok i) s e h some = refl
year_there ys slice k key d (Err i) s e h some =
    let missed = subst (λ t. Misses year_cmp kept_key t k i) s (subst (λ t. Misses year_cmp kept_key slice t i) e h) in
    let none : at_key day_cmp record_day (runs_of (runs_in ys) k) d ≡ None = ap (λ rs. at_key day_cmp record_day rs d) (runs_missed ys k missed.at) in
    absurd (false≢true (sym (ap (λ o. is_some o) none) ∙ some))

module _ (ys slice : List Year) (k key : YearKey) (r : Result ℕ ℕ) (s : slice ≡ ys) (e : key ≡ k) where
  pub year_placed : (i : ℕ) (y : Year) → r ≡ Ok i → IfOk r (Finds year_cmp kept_key slice key) → y ≡ get_or ys i y → IsFound ys k i y
  year_placed i y is h here =
      let found : Finds year_cmp kept_key slice key i = rw is at h in
      found_year ys k i y (subst (λ t. Finds year_cmp kept_key t k i) s (subst (λ t. Finds year_cmp kept_key slice t i) e found)) here

  pub year_gap : (i : ℕ) → r ≡ Err i → IfErr r (Misses year_cmp kept_key slice key) → Misses year_cmp kept_key ys k i
  year_gap i is h =
      let missed : Misses year_cmp kept_key slice key i = rw is at h in
      subst (λ t. Misses year_cmp kept_key t k i) s (subst (λ t. Misses year_cmp kept_key slice t i) e missed)

pub year_missing : (ys slice : List Year) (k key : YearKey) (r : Result ℕ ℕ) → slice ≡ ys → key ≡ k → result_ok r ≡ None → IfErr r (Misses year_cmp kept_key slice key) → runs_of (runs_in ys) k ≡ []
year_missing ys slice k key (Ok i) s e is h = cc
year_missing ys slice k key (Err i) s e is h = runs_missed ys k (year_gap ys slice k key (Err i) s e i refl h).at

pub runs_found : (ys : List Year) (k : YearKey) (i : ℕ) (y : Year) → IsFound ys k i y → runs_of (runs_in ys) k ≡ y.records.items
runs_found ys k i y found = runs_kept ys k y (found.here.at y ∙ ap (λ t. Some t) (sym found.is))

pub run_missing : (rs slice : List Record) (d : Day) (r : Result ℕ ℕ) → slice ≡ rs → result_ok r ≡ None → IfErr r (IsGap day_cmp record_day slice d) → at_key day_cmp record_day rs d ≡ None
run_missing rs slice d (Ok i) s is h = cc
run_missing rs slice d (Err i) s is h =
    ap (λ t. at_key day_cmp record_day t d) (sym s) ∙ at_key_gap day_cmp day_total record_day slice d i h

pub run_found : (rs slice : List Record) (d : Day) (r : Result ℕ ℕ) (i : ℕ) (x : Record) → slice ≡ rs → r ≡ Ok i → IfOk r (IsAt day_cmp record_day slice d) → x ≡ get_or slice i x → Some x ≡ at_key day_cmp record_day rs d
run_found rs slice d r i x s is h here =
    let found : IsAt day_cmp record_day slice d i = rw is at h in
    ap (λ t. Some t) here ∙ sym (at_key_here day_cmp day_total record_day slice d i x found) ∙ ap (λ t. at_key day_cmp record_day t d) s
