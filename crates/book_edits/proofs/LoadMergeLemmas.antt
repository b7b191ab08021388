-- Years and drafts made one list, the lowest first.
use Rattle.std.proofs.Common.{◌≡◌, ◌<◌, List, [], ◌∷◌, ◌++◌, length, map, append_assoc, if◌then◌else◌, Some, vec_len, refl, sym, ap, subst, ◌∙◌}
use Rattle.std.specs.List.{AllByRecursion}
use Rattle.std.specs.declared.cmp.Ordering.TheVariants.{Less, Equal, Greater}
use Rattle.std.specs.Ordering.{is_eq, ordering_reverse}
use Rattle.std.proofs.lemmas.Cmp.{tied_itself}
use Rattle.std.proofs.lemmas.List.{append-nil, map-append}
use Rattle.rising_lists.specs.Keyed.{at_key, AreAbove}
use Rattle.rising_lists.proofs.Laws.{above_more, above_same, at_key_above}
use Rattle.payroll_records.specs.declared.record.Record.{Record}
use Rattle.plan_calendar.specs.Picking.{Entry, pick}
use Rattle.book_year.specs.Accepted.{Accepted}
use Rattle.book_year.specs.declared.year.Year.{Year}
use Rattle.book_year.specs.declared.year.YearKey.{YearKey}
use Rattle.book_year.specs.Kept.{AreKept}
use Rattle.book_year.specs.Years.{IsOwn}
use Rattle.book_edits.specs.Books.{YearRuns, runs_key, runs_of, runs_or_none, year_cmp}
use Rattle.book_edits.specs.Kept.{kept_key, runs_in, runs_in_year}
use Rattle.book_edits.proofs.ListLemmas.{map_rising}
use Rattle.book_edits.proofs.YearsLemmas.{year_total}
use Rattle.book_edits.specs.declared.drafts.Draft.{Draft}
use Rattle.book_edits.specs.private.Groups.{put_runs, put_years}
use Rattle.book_edits.specs.private.Drafts.{HasRoom, IsYearDraft, IsRoomy, draft_key, draft_year}
use Rattle.book_edits.specs.private.Merges.{AreMergeable, CanMerge, IsFirst, IsKeptYear, merged_runs}
use Rattle.book_edits.proofs.GroupLemmas.{all_more}
use Rattle.book_edits.proofs.PutLemmas.{puts_new, puts_old, puts_tied}

-- a year whose key is below that of a draft doesn't matter to the draft
runs_beyond : (y : Year) (ys : List Year) (k : YearKey) → year_cmp y.key k ≡ Less → runs_of (runs_in (y ∷ ys)) k ≡ runs_of (runs_in ys) k
runs_beyond y ys k l = ap (λ o. runs_or_none (if is_eq o then Some (runs_in_year y) else at_key year_cmp runs_key (runs_in ys) k)) l

pub runs_tied : (y : Year) (ys : List Year) (k : YearKey) → year_cmp y.key k ≡ Equal → runs_of (runs_in (y ∷ ys)) k ≡ y.records.items
runs_tied y ys k e = ap (λ o. runs_or_none (if is_eq o then Some (runs_in_year y) else at_key year_cmp runs_key (runs_in ys) k)) e

module _ (y : Year) (ys : List Year) where
  draft_years_beyond : (ds : List Draft) → AreAbove year_cmp draft_key y.key ds → map (draft_year (runs_in (y ∷ ys))) ds ≡ map (draft_year (runs_in ys)) ds
  draft_years_beyond [] h = refl
  draft_years_beyond (d ∷ ds) h = λ i. record { key = d.key; runs = put_runs d.items.items (runs_beyond y ys d.key h.0 i) } ∷ draft_years_beyond ds h.1 i

  rooms_beyond : (ds : List Draft) → AreAbove year_cmp draft_key y.key ds → AllByRecursion (IsRoomy (runs_in (y ∷ ys))) ds → AllByRecursion (IsRoomy (runs_in ys)) ds
  rooms_beyond [] h all = tt
  rooms_beyond (d ∷ ds) h all = (subst (λ t. HasRoom (length t) (vec_len d.items) d.room) (runs_beyond y ys d.key h.0) all.0, rooms_beyond ds h.1 all.1)

  drafts_beyond : (plans : List (Entry Accepted)) (ds : List Draft) → AreAbove year_cmp draft_key y.key ds → AllByRecursion (IsYearDraft plans (runs_in (y ∷ ys))) ds → AllByRecursion (IsYearDraft plans (runs_in ys)) ds
  drafts_beyond plans [] h all = tt
  drafts_beyond plans (d ∷ ds) h all =
      let e = runs_beyond y ys d.key h.0 in (
        record {
          kept = subst (λ t. AreKept (pick plans) (put_runs d.items.items t) d.outcomes.items) e all.0.kept;
          own = subst (λ t. AllByRecursion (IsOwn d.key) (put_runs d.items.items t)) e all.0.own;
          some = subst (λ t. 0 < length (put_runs d.items.items t)) e all.0.some;
        },
        drafts_beyond plans ds h.1 all.1,
      )

-- ---- a draft's year written

-- the draft's year with the runs that stood in it
pub record IsWritten (d : Draft) (rs : List Record) (y : Year) : Type 0 where
  pub key : y.key ≡ d.key
  pub records : y.records.items ≡ put_runs d.items.items rs
  pub outcomes : y.outcomes.items ≡ d.outcomes.items

written_runs : (old : List YearRuns) (d : Draft) (rs : List Record) (y : Year) → runs_of old d.key ≡ rs → IsWritten d rs y → draft_year old d ≡ runs_in_year y
written_runs old d rs y base w = λ i. record { key = sym w.key i; runs = (ap (put_runs d.items.items) base ∙ sym w.records) i }

written_kept : (plans : List (Entry Accepted)) (old : List YearRuns) (d : Draft) (rs : List Record) (y : Year) → runs_of old d.key ≡ rs → IsWritten d rs y → IsYearDraft plans old d → IsKeptYear plans y
written_kept plans old d rs y base w h =
    let year = written_runs old d rs y base w in
    record {
      year = record {
        kept = subst (λ t. AreKept (pick plans) y.records.items t) (sym w.outcomes) (subst (λ t. AreKept (pick plans) t.runs d.outcomes.items) year h.kept);
        own = subst (λ t. AllByRecursion (IsOwn t.key) t.runs) year h.own;
      };
      some = subst (λ t. 0 < length t.runs) year h.some;
    }

-- ---- the first of all

-- no draft is left
pub first_alone : (y : Year) (ys : List Year) → CanMerge (y ∷ ys) [] → IsFirst (y ∷ ys) [] ys [] y
first_alone y ys can = record {
  can = record { olds_rise = can.olds_rise.1; drafts_rise = tt; days = can.days.1; rooms = tt };
  runs = refl;
  kept = λ plans h. h.years.0;
  left = λ plans h. record { years = h.years.1; new = tt };
}

-- the year stands before every draft
pub first_old : (y : Year) (ys : List Year) (d : Draft) (ds : List Draft) → CanMerge (y ∷ ys) (d ∷ ds) → year_cmp y.key d.key ≡ Less → IsFirst (y ∷ ys) (d ∷ ds) ys (d ∷ ds) y
first_old y ys d ds can l =
    let above : AreAbove year_cmp draft_key y.key (d ∷ ds) = (l, above_more year_cmp year_total draft_key y.key d.key ds l can.drafts_rise.0) in
    let rising = map_rising year_cmp runs_key (draft_year (runs_in (y ∷ ys))) (d ∷ ds) can.drafts_rise in
    record {
      can = record { olds_rise = can.olds_rise.1; drafts_rise = can.drafts_rise; days = can.days.1; rooms = rooms_beyond y ys (d ∷ ds) above can.rooms };
      runs = puts_old year_cmp year_total runs_key (draft_year (runs_in (y ∷ ys)) d) (map (draft_year (runs_in (y ∷ ys))) ds) (runs_in_year y) (runs_in ys) l rising
          ∙ ap (λ t. runs_in_year y ∷ put_years t (runs_in ys)) (draft_years_beyond y ys (d ∷ ds) above);
      kept = λ plans h. h.years.0;
      left = λ plans h. record { years = h.years.1; new = drafts_beyond y ys plans (d ∷ ds) above h.new };
    }

-- the year and the first draft have one key
pub first_both : (y : Year) (ys : List Year) (d : Draft) (ds : List Draft) (w : Year) → CanMerge (y ∷ ys) (d ∷ ds) → year_cmp y.key d.key ≡ Equal → IsWritten d y.records.items w → IsFirst (y ∷ ys) (d ∷ ds) ys ds w
first_both y ys d ds w can e written =
    let above : AreAbove year_cmp draft_key y.key ds = above_same year_cmp year_total draft_key y.key d.key ds e can.drafts_rise.0 in
    let rising = map_rising year_cmp runs_key (draft_year (runs_in (y ∷ ys))) (d ∷ ds) can.drafts_rise in
    let base = runs_tied y ys d.key e in
    record {
      can = record { olds_rise = can.olds_rise.1; drafts_rise = can.drafts_rise.1; days = can.days.1; rooms = rooms_beyond y ys ds above can.rooms.1 };
      runs = puts_tied year_cmp year_total runs_key (draft_year (runs_in (y ∷ ys)) d) (map (draft_year (runs_in (y ∷ ys))) ds) (runs_in_year y) (runs_in ys) e rising
          ∙ (λ i. written_runs (runs_in (y ∷ ys)) d y.records.items w base written i ∷ put_years (draft_years_beyond y ys ds above i) (runs_in ys));
      kept = λ plans h. written_kept plans (runs_in (y ∷ ys)) d y.records.items w base written h.new.0;
      left = λ plans h. record { years = h.years.1; new = drafts_beyond y ys plans ds above h.new.1 };
    }

above_runs : (k : YearKey) (ys : List Year) → AreAbove year_cmp kept_key k ys → AreAbove year_cmp runs_key k (runs_in ys)
above_runs k [] h = tt
above_runs k (y ∷ ys) h = (h.0, above_runs k ys h.1)

-- the first draft stands before every year
first_new : (ys : List Year) (d : Draft) (ds : List Draft) (w : Year) → CanMerge ys (d ∷ ds) → AreAbove year_cmp kept_key d.key ys → IsWritten d [] w → IsFirst ys (d ∷ ds) ys ds w
first_new ys d ds w can above written =
    let beyond = above_runs d.key ys above in
    let rising = map_rising year_cmp runs_key (draft_year (runs_in ys)) (d ∷ ds) can.drafts_rise in
    let base : runs_of (runs_in ys) d.key ≡ [] = ap runs_or_none (at_key_above year_cmp year_total runs_key d.key d.key (runs_in ys) beyond (tied_itself year_total d.key)) in
    record {
      can = record { olds_rise = can.olds_rise; drafts_rise = can.drafts_rise.1; days = can.days; rooms = can.rooms.1 };
      runs = puts_new year_cmp year_total runs_key (draft_year (runs_in ys) d) (map (draft_year (runs_in ys)) ds) (runs_in ys) rising beyond
          ∙ ap (λ t. t ∷ put_years (map (draft_year (runs_in ys)) ds) (runs_in ys)) (written_runs (runs_in ys) d [] w base written);
      kept = λ plans h. written_kept plans (runs_in ys) d [] w base written h.new.0;
      left = λ plans h. record { years = h.years; new = h.new.1 };
    }

pub first_last : (d : Draft) (ds : List Draft) (w : Year) → CanMerge [] (d ∷ ds) → IsWritten d [] w → IsFirst [] (d ∷ ds) [] ds w
first_last d ds w can written = first_new [] d ds w can tt written

pub first_draft : (y : Year) (ys : List Year) (d : Draft) (ds : List Draft) (w : Year) → CanMerge (y ∷ ys) (d ∷ ds) → year_cmp y.key d.key ≡ Greater → IsWritten d [] w → IsFirst (y ∷ ys) (d ∷ ds) (y ∷ ys) ds w
first_draft y ys d ds w can g written =
    let l : year_cmp d.key y.key ≡ Less = year_total.antisymm d.key y.key ∙ ap ordering_reverse g in
    first_new (y ∷ ys) d ds w can (l, above_more year_cmp year_total kept_key d.key y.key ys l can.olds_rise.0) written

-- ---- one year after another

-- the years that came, where these are left
pub record AreMergedSoFar (all : List Year) (new : List Draft) (years olds : List Year) (drafts : List Draft) : Type 0 where
  pub can : CanMerge olds drafts
  pub runs : runs_in years ++ merged_runs olds drafts ≡ merged_runs all new
  pub kept : (plans : List (Entry Accepted)) → AreMergeable plans all new → AllByRecursion (IsKeptYear plans) years
  pub left : (plans : List (Entry Accepted)) → AreMergeable plans all new → AreMergeable plans olds drafts

pub merged_first : (all : List Year) (new : List Draft) → CanMerge all new → AreMergedSoFar all new [] all new
merged_first all new can = record { can = can; runs = refl; kept = λ plans h. tt; left = λ plans h. h }

pub merged_more : (all : List Year) (new : List Draft) (years olds : List Year) (drafts : List Draft) (y : Year) (olds' : List Year) (drafts' : List Draft) → AreMergedSoFar all new years olds drafts → IsFirst olds drafts olds' drafts' y → AreMergedSoFar all new (years ++ y ∷ []) olds' drafts'
merged_more all new years olds drafts y olds' drafts' h first = record {
  can = first.can;
  runs = ap (λ t. t ++ merged_runs olds' drafts') (map-append runs_in_year years (y ∷ [])) ∙ append_assoc (runs_in years) (runs_in_year y ∷ []) (merged_runs olds' drafts') ∙ ap (λ t. runs_in years ++ t) (sym first.runs) ∙ h.runs;
  kept = λ plans m. all_more (IsKeptYear plans) years y (h.kept plans m) (first.kept plans (h.left plans m));
  left = λ plans m. first.left plans (h.left plans m);
}

-- nothing is left
pub merged_all : (all : List Year) (new : List Draft) (years olds : List Year) (drafts : List Draft) → AreMergedSoFar all new years olds drafts → olds ≡ [] → drafts ≡ [] → runs_in years ≡ merged_runs all new
merged_all all new years olds drafts h o d = sym (append-nil (runs_in years)) ∙ ap (λ t. runs_in years ++ t) (λ i. merged_runs (sym o i) (sym d i)) ∙ h.runs
