-- The touched years computed anew, one after another: what is kept of them, and their new jobs.
use Rattle.std.proofs.Common.{◌≡◌, ℕ, ◌+◌, ◌*◌, ◌<◌, ◌≤◌, List, [], ◌∷◌, ◌++◌, ◌⊎◌, inl, inr, length, map, get_or, if◌then◌else◌, Some, Vec, Global, vec_len, refl, sym, ap, subst, ◌∙◌, arith, append_assoc, length-append}
use Rattle.std.specs.List.{AllByRecursion}
use Rattle.std.specs.declared.cmp.Ordering.TheVariants.{Less, Equal, Greater}
use Rattle.std.specs.Ordering.{is_eq}
use Rattle.std.proofs.lemmas.List.{append-nil, map-append, length_push}
use Rattle.std.proofs.lemmas.List.Elements.{All-from_recursion}
use Rattle.std.proofs.lemmas.List.Sums.{sum_by-append}
use Rattle.rising_lists.specs.Keyed.{at_key, put_by, AreAbove, IsRising}
use Rattle.rising_lists.specs.Places.{Finds}
use Rattle.payroll_records.specs.declared.record.Record.{Record}
use Rattle.payroll_records.specs.Orders.{day_cmp}
use Rattle.plan_calendar.specs.Picking.{Entry, pick}
use Rattle.book_year.specs.Accepted.{Accepted}
use Rattle.book_year.specs.declared.year.Year.{Year}
use Rattle.book_year.specs.declared.year.YearKey.{YearKey}
use Rattle.book_year.specs.declared.chain.Recalculated.{Recalculated}
use Rattle.book_year.specs.Jobs.{job_cost}
use Rattle.book_year.specs.Kept.{AreKept, IsBounded, job_by}
use Rattle.book_year.specs.Records.{put_run, record_day}
use Rattle.book_year.specs.Rows.{Planned, Job}
use Rattle.book_year.specs.Years.{IsOwn, IsYear, year_jobs}
use Rattle.book_year.specs.ChainClauses.{IsRecalculated}
use Rattle.book_year.proofs.Laws.{own_few}
use Rattle.book_edits.specs.Books.{YearRuns, runs_key, runs_of, runs_or_none, year_cmp}
use Rattle.book_edits.specs.Kept.{jobs_in, kept_key, runs_in, runs_in_year}
use Rattle.book_edits.proofs.YearsLemmas.{IsQuiet, jobs_quiet, runs_kept, year_same}
use Rattle.book_edits.proofs.ListLemmas.{all_put, put_some}
use Rattle.book_edits.specs.declared.drafts.Computed.{Computed}
use Rattle.book_edits.specs.declared.drafts.Draft.{Draft}
use Rattle.book_edits.specs.declared.groups.Group.{Group}
use Rattle.book_edits.specs.private.Groups.{IsGroup, group_year, group_years, put_runs, put_years}
use Rattle.book_edits.specs.private.Drafts.{AreDrafted, HasRoom, IsComputedGroup, IsYearDraft, IsRoomy, draft_year, group_cost, group_jobs, groups_cost, groups_jobs}
use Rattle.book_edits.proofs.GroupLemmas.{all_more}
use Rattle.book_edits.proofs.OrderLemmas.{put_year}
use Rattle.book_edits.proofs.RecordLemmas.{all_puts, rising_puts}

-- ---- the old years

none_kept : (plans : List (Entry Accepted)) → AreKept (pick plans) [] []
none_kept plans = record { are = refl; bounded = tt; rising = tt; few = omega arith }

pub old_found : (list : List Year) (k : YearKey) (i : ℕ) (y : Year) → Finds year_cmp kept_key list k i → y ≡ get_or list i y → y.records.items ≡ runs_of (runs_in list) k
old_found list k i y found is = sym (runs_kept list k y (found.at y ∙ ap (λ t. Some t) (sym is)))

pub old_kept : (plans : List (Entry Accepted)) (list : List Year) (k : YearKey) (i : ℕ) (y : Year) → Finds year_cmp kept_key list k i → y ≡ get_or list i y → AllByRecursion (IsYear plans) list → AreKept (pick plans) y.records.items y.outcomes.items
old_kept plans list k i y found is each = (subst (IsYear plans) (sym is) (All-from_recursion (IsYear plans) list each i y found.within)).kept

-- a year's runs are its own
own_runs : (plans : List (Entry Accepted)) (ys : List Year) (k : YearKey) → AllByRecursion (IsYear plans) ys → AllByRecursion (IsOwn k) (runs_of (runs_in ys) k)
own_runs plans [] k each = tt
own_runs plans (y ∷ ys) k each = elim (year_cmp y.key k) as (λ o. year_cmp y.key k ≡ o → AllByRecursion (IsOwn k) (runs_or_none (if is_eq o then Some (runs_in_year y) else at_key year_cmp runs_key (runs_in ys) k))) [
  | Less ↦ λ e. own_runs plans ys k each.1
  | Equal ↦ λ e. subst (λ t. AllByRecursion (IsOwn t) y.records.items) (year_same y.key k e) each.0.own
  | Greater ↦ λ e. own_runs plans ys k each.1
] refl

-- ---- one group

pub puts_some : (is rs : List Record) → 0 < length is + length rs → 0 < length (put_runs is rs)
puts_some [] rs l = omega arith
puts_some (i ∷ is) rs l = puts_some is (put_run i rs) (omega (arith, put_some day_cmp record_day i rs))

-- the runs of a group's year are at most 366
pub group_few : (plans : List (Entry Accepted)) (list : List Year) (g : Group) → AllByRecursion (IsYear plans) list → IsGroup g → IsRising day_cmp record_day (runs_of (runs_in list) g.key) → length (group_year (runs_in list) g).runs ≤ 366
group_few plans list g years is rising =
    let old = runs_of (runs_in list) g.key in
    own_few g.key (put_runs g.items.items old) (rising_puts g.items.items old rising) (all_puts (IsOwn g.key) g.items.items old is.own (own_runs plans list g.key years))

pub computed_group : (plans : List (Entry Accepted)) (list : List Year) (g : Group) (c : Computed) (done : Recalculated) → AllByRecursion (IsYear plans) list → IsGroup g → IsRising day_cmp record_day (runs_of (runs_in list) g.key) →
    IsRecalculated (pick plans) (job_by (pick plans) (runs_of (runs_in list) g.key)) (group_year (runs_in list) g).runs done → c.outcomes ≡ done.outcomes → c.work ≡ done.work → HasRoom (length (runs_of (runs_in list) g.key)) (vec_len g.items) c.room →
    IsComputedGroup plans (runs_in list) g c
computed_group plans list g c done years is rising h outcomes work room =
    let old = runs_of (runs_in list) g.key in
    let runs = put_runs g.items.items old in
    let few = group_few plans list g years is rising in
    record {
      kept = record {
        are = ap (λ t. t.items) outcomes ∙ h.outcomes;
        bounded = subst (λ t. AllByRecursion IsBounded t.items) (sym outcomes) h.bounded;
        rising = rising_puts g.items.items old rising;
        few = few;
      };
      own = all_puts (IsOwn g.key) g.items.items old is.own (own_runs plans list g.key years);
      some = puts_some g.items.items old (omega (arith, is.some));
      room = room;
      work = work ∙ h.work;
      few = omega (arith, ap (λ t. t.runs) work, h.few, few);
      cheap = omega (arith, ap (λ t. t.steps) work, h.cheap, few);
    }

-- ---- the new jobs

module _ (planned : Planned) (old : List YearRuns) where
  abbrev jobs_of_year : YearRuns → List Job
  jobs_of_year y = year_jobs planned planned (runs_of old y.key) y.runs

  abbrev jobs : List YearRuns → List Job
  jobs ys = jobs_in planned planned old ys

  -- the year is above the key, or has nothing to run
  abbrev IsQuietTo : YearKey → YearRuns → Type 0
  IsQuietTo k x = (year_cmp k x.key ≡ Less) ⊎ IsQuiet planned old x

  quiet_tied : (k : YearKey) (x : YearRuns) → year_cmp k x.key ≡ Equal → IsQuietTo k x → IsQuiet planned old x
  quiet_tied k x e (inl l) = let p = sym e ∙ l in cc
  quiet_tied k x e (inr q) = q

  quiet_below : (k : YearKey) (x : YearRuns) → year_cmp k x.key ≡ Greater → IsQuietTo k x → IsQuiet planned old x
  quiet_below k x e (inl l) = let p = sym e ∙ l in cc
  quiet_below k x e (inr q) = q

  jobs_first : (d : YearRuns) (xs : List YearRuns) → AllByRecursion (IsQuietTo d.key) xs → jobs (put_year d xs) ≡ jobs_of_year d ++ jobs xs
  jobs_first d [] all = refl
  jobs_first d (x ∷ xs) all = elim (year_cmp d.key x.key) as (λ o. year_cmp d.key x.key ≡ o → jobs (put_by o d x xs (put_year d xs)) ≡ jobs_of_year d ++ (jobs_of_year x ++ jobs xs)) [
    | Less ↦ λ e. refl
    | Equal ↦ λ e. sym (ap (λ t. jobs_of_year d ++ (t ++ jobs xs)) (quiet_tied d.key x e all.0))
    | Greater ↦ λ e.
        ap (λ t. t ++ jobs (put_year d xs)) (quiet_below d.key x e all.0)
        ∙ jobs_first d xs all.1
        ∙ sym (ap (λ t. jobs_of_year d ++ (t ++ jobs xs)) (quiet_below d.key x e all.0))
  ] refl

  quiet_all : (k : YearKey) (xs : List YearRuns) → AllByRecursion (IsQuiet planned old) xs → AllByRecursion (IsQuietTo k) xs
  quiet_all k [] all = tt
  quiet_all k (x ∷ xs) all = (inr all.0, quiet_all k xs all.1)

  quiet_puts : (k : YearKey) (ds xs : List YearRuns) → AreAbove year_cmp runs_key k ds → AllByRecursion (IsQuiet planned old) xs → AllByRecursion (IsQuietTo k) (put_years ds xs)
  quiet_puts k [] xs above all = quiet_all k xs all
  quiet_puts k (d ∷ ds) xs above all = all_put year_cmp runs_key (IsQuietTo k) d (put_years ds xs) (inl above.0) (quiet_puts k ds xs above.1 all)

  -- where the keys of the years that are put rise, the new jobs are those of these years
  pub jobs_puts : (ds xs : List YearRuns) → IsRising year_cmp runs_key ds → AllByRecursion (IsQuiet planned old) xs → jobs_in planned planned old (put_years ds xs) ≡ jobs_in planned planned old ds
  jobs_puts [] xs rising all = jobs_quiet planned old xs all
  jobs_puts (d ∷ ds) xs rising all =
      jobs_first d (put_years ds xs) (quiet_puts d.key ds xs rising.0 all) ∙ ap (λ t. jobs_of_year d ++ t) (jobs_puts ds xs rising.1 all)

-- ---- one group after another

-- the drafts of the groups that came, where these are left
pub record AreDraftedSoFar (plans : List (Entry Accepted)) (old : List YearRuns) (groups rest : List Group) (drafts : List Draft) (runs taken began now : ℕ) : Type 0 where
  pub years : map (draft_year old) drafts ++ group_years old rest ≡ group_years old groups
  pub each : AllByRecursion (IsYearDraft plans old) drafts
  pub rooms : AllByRecursion (IsRoomy old) drafts
  pub left : AllByRecursion IsGroup rest
  pub number : runs + length (groups_jobs plans old rest) ≡ length (groups_jobs plans old groups)
  pub cost : taken + groups_cost plans old rest ≡ groups_cost plans old groups
  pub counted : now ≡ began + taken
  pub few : length drafts + length rest ≤ 50000
  pub small : runs ≤ 366 * length drafts
  pub cheap : taken ≤ 366 * 1000000000 * length drafts

module _ (plans : List (Entry Accepted)) (old : List YearRuns) where
  abbrev first_jobs : Group → List Job
  first_jobs g = group_jobs plans old g

  split_number : (g : Group) (rest : List Group) → length (groups_jobs plans old (g ∷ rest)) ≡ length (first_jobs g) + length (groups_jobs plans old rest)
  split_number g rest = length-append (first_jobs g) (groups_jobs plans old rest)

  split_cost : (g : Group) (rest : List Group) → groups_cost plans old (g ∷ rest) ≡ group_cost plans old g + groups_cost plans old rest
  split_cost g rest = sum_by-append job_cost (first_jobs g) (groups_jobs plans old rest)

  pub one_drafted : (groups : List Group) (g : Group) (rest : List Group) (drafts : List Draft) (runs taken began now after : ℕ) (c : Computed) (d : Draft) →
      AreDraftedSoFar plans old groups (g ∷ rest) drafts runs taken began now → IsComputedGroup plans old g c → d.key ≡ g.key → d.items ≡ g.items → d.room ≡ c.room → d.outcomes ≡ c.outcomes → after ≡ now + group_cost plans old g →
      AreDraftedSoFar plans old groups rest (drafts ++ d ∷ []) (runs + c.work.runs) (taken + c.work.steps) began after
  one_drafted groups g rest drafts runs taken began now after c d h is key items room outcomes counted =
      let year : draft_year old d ≡ group_year old g = λ i. record { key = key i; runs = put_runs (items i).items (runs_of old (key i)) } in
      let draft : IsYearDraft plans old d = record {
        kept = subst (λ t. AreKept (pick plans) t.runs d.outcomes.items) (sym year) (subst (λ t. AreKept (pick plans) (group_year old g).runs t.items) (sym outcomes) is.kept);
        own = subst (λ t. AllByRecursion (IsOwn t.key) t.runs) (sym year) is.own;
        some = subst (λ t. 0 < length t.runs) (sym year) is.some;
      } in
      let roomy : IsRoomy old d = subst (λ t. HasRoom (length (runs_of old d.key)) (vec_len d.items) t) (sym room) (subst (λ t. HasRoom (length (runs_of old t)) (vec_len d.items) c.room) (sym key) (subst (λ t. HasRoom (length (runs_of old g.key)) (vec_len t) c.room) (sym items) is.room)) in
      let number : c.work.runs ≡ length (first_jobs g) = ap (λ t. t.runs) is.work in
      let cost : c.work.steps ≡ group_cost plans old g = ap (λ t. t.steps) is.work in
      let long = length_push drafts d in
      record {
        years = ap (λ t. t ++ group_years old rest) (map-append (draft_year old) drafts (d ∷ [])) ∙ append_assoc (map (draft_year old) drafts) (draft_year old d ∷ []) (group_years old rest) ∙ ap (λ t. map (draft_year old) drafts ++ t ∷ group_years old rest) year ∙ h.years;
        each = all_more (IsYearDraft plans old) drafts d h.each draft;
        rooms = all_more (IsRoomy old) drafts d h.rooms roomy;
        left = h.left.1;
        number = omega (arith, number, split_number g rest, h.number);
        cost = omega (arith, cost, split_cost g rest, h.cost);
        counted = omega (arith, counted, cost, h.counted);
        few = omega (arith, long, h.few);
        small = omega (arith, long, h.small, is.few);
        cheap = omega (arith, long, h.cheap, is.cheap);
      }

  pub drafted_first : (groups : List Group) (at : ℕ) → AllByRecursion IsGroup groups → length groups ≤ 50000 → AreDraftedSoFar plans old groups groups [] 0 0 at at
  drafted_first groups at each few = record {
    years = refl;
    each = tt;
    rooms = tt;
    left = each;
    number = omega arith;
    cost = omega arith;
    counted = omega arith;
    few = omega arith;
    small = omega arith;
    cheap = omega arith;
  }

  pub drafted_all : (groups : List Group) (drafts : Vec Draft Global) (runs taken began now : ℕ) → AreDraftedSoFar plans old groups [] drafts.items runs taken began now → AreDrafted plans old groups (record { drafts = drafts; work = record { runs = runs; steps = taken } })
  drafted_all groups drafts runs taken began now h =
      let number : runs ≡ length (groups_jobs plans old groups) = omega (arith, h.number) in
      let cost : taken ≡ groups_cost plans old groups = omega (arith, h.cost) in
      record {
        years = sym (append-nil (map (draft_year old) drafts.items)) ∙ h.years;
        each = h.each;
        rooms = h.rooms;
        work = λ i. record { runs = number i; steps = cost i };
      }

  pub cost_within : (groups : List Group) (g : Group) (rest : List Group) (drafts : List Draft) (runs taken began now after : ℕ) → AreDraftedSoFar plans old groups (g ∷ rest) drafts runs taken began now → now ≤ after → after ≤ now + group_cost plans old g → (began ≤ after) × (after ≤ began + groups_cost plans old groups)
  cost_within groups g rest drafts runs taken began now after h low high =
      (omega (arith, h.counted), omega (arith, h.counted, h.cost, split_cost g rest))
