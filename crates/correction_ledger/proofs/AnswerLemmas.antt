-- Filing a month has exactly one answer, and so has the question what is owed.
use Rattle.std.proofs.Common.{◌≡◌, ◌≢◌, ◌⊎◌, inl, inr, ℕ, ◌+◌, ◌<◌, ◌≤◌, List, ◌++◌, length, map, refl, sym, ap, subst, ◌∙◌, arith, length-append}
use Rattle.std.specs.Prelude.{Option, Some, None, Result, Ok, Err}
use Rattle.std.specs.declared.cmp.Ordering.{Ordering}
use Rattle.std.specs.declared.cmp.Ordering.TheVariants.{Less, Equal, Greater}
use Rattle.std.proofs.lemmas.Bool.{cases_lt}
use Rattle.std.proofs.lemmas.List.{length-map}
use Rattle.payroll_records.specs.declared.month.Month.{Month}
use Rattle.payroll_records.specs.declared.record.Key.{Key}
use Rattle.recalc_engine.specs.MonthRows.{KeyedRow}
use Rattle.correction_ledger.specs.declared.due.Due.{Due}
use Rattle.correction_ledger.specs.declared.due.Entry.{Entry}
use Rattle.correction_ledger.specs.declared.ledger.FileRefusal.{FileRefusal}
use Rattle.correction_ledger.specs.declared.ledger.FileRefusal.TheVariants as file
use Rattle.correction_ledger.specs.declared.ledger.OwedRefusal.{OwedRefusal}
use Rattle.correction_ledger.specs.declared.ledger.OwedRefusal.TheVariants as owed
use Rattle.correction_ledger.specs.Filings.{Filings, FilingSays, IsClosed, IsFiling, IsLater, IsOwedNow, OwedSays, entry_with}
use Rattle.correction_ledger.specs.Limits.{most_entries}
use Rattle.correction_ledger.specs.Months.{month_cmp}
use Rattle.correction_ledger.specs.Open.{first_open}
use Rattle.correction_ledger.specs.Owed.{IsOwed}
use Rattle.correction_ledger.specs.OwedLaws.{FilingsHaveOneAnswer, OwedHasOneAnswer}
use Rattle.correction_ledger.proofs.SomeLemmas.{owed_one}

both_some : {A : Type 0} (o : Option A) (x y : A) → o ≡ Some x → o ≡ Some y → x ≡ y
both_some o x y p q = cc

none_or_some : {A : Type 0} (o : Option A) (x : A) → o ≡ None → o ≡ Some x → ⊥
none_or_some o x p q = cc

owed_same : (rows : List KeyedRow) (entries : List Entry) (month : Month) (xs ys : List Due) →
    IsOwed rows entries month xs → IsOwed rows entries month ys → xs ≡ ys
owed_same rows entries month xs ys h k = let o = owed_one rows entries month in o.alone xs h ∙ sym (o.alone ys k)

-- ---- what is owed

module _ (rows : List KeyedRow) (now : Filings) where
  owed_now_one : (xs ys : List Due) → IsOwedNow rows now xs → IsOwedNow rows now ys → xs ≡ ys
  owed_now_one xs ys h k =
      let m = both_some now.last h.month k.month h.last k.last in
      owed_same rows now.entries k.month xs ys (subst (λ m. IsOwed rows now.entries m xs) m h.owed) k.owed

  told_or_open : (xs : List Due) (key : Key) (month : Month) → IsOwedNow rows now xs → now.last ≡ Some month →
      first_open month rows ≡ Some key → ⊥
  told_or_open xs key month h last open_there =
      let m = both_some now.last h.month month h.last last in
      none_or_some (first_open month rows) key (subst (λ m. first_open m rows ≡ None) m h.closed) open_there

  says_one : (v w : Result (List Due) OwedRefusal) → OwedSays rows now v → OwedSays rows now w → v ≡ w
  says_one (Ok xs) (Ok ys) h k = ap (λ d. Ok d) (owed_now_one xs ys h k)
  says_one (Ok xs) (Err owed.NothingFiled) h k = absurd (none_or_some now.last h.month k h.last)
  says_one (Ok xs) (Err (owed.Open key)) h k = absurd (told_or_open xs key k.0 h k.1 k.2)
  says_one (Ok xs) (Err (owed.Memory e)) h k = absurd k
  says_one (Err owed.NothingFiled) (Ok ys) h k = absurd (none_or_some now.last k.month h k.last)
  says_one (Err owed.NothingFiled) (Err owed.NothingFiled) h k = refl
  says_one (Err owed.NothingFiled) (Err (owed.Open key)) h k = absurd (none_or_some now.last k.0 h k.1)
  says_one (Err owed.NothingFiled) (Err (owed.Memory e)) h k = absurd k
  says_one (Err (owed.Open key)) (Ok ys) h k = absurd (told_or_open ys key h.0 k h.1 h.2)
  says_one (Err (owed.Open key)) (Err owed.NothingFiled) h k = absurd (none_or_some now.last h.0 k h.1)
  says_one (Err (owed.Open key)) (Err (owed.Open other)) h k =
      let m = both_some now.last h.0 k.0 h.1 k.1 in
      ap (λ k. Err (owed.Open k))
      (both_some (first_open k.0 rows) key other (subst (λ m. first_open m rows ≡ Some key) m h.2) k.2)
  says_one (Err (owed.Open key)) (Err (owed.Memory e)) h k = absurd k
  says_one (Err (owed.Memory e)) w h k = absurd h

  says_some : (v : Result (List Due) OwedRefusal) × OwedSays rows now v
  says_some = by now.last refl
    where
      by : (last : Option Month) → now.last ≡ last → (v : Result (List Due) OwedRefusal) × OwedSays rows now v
      by None e = (Err owed.NothingFiled, e)
      by (Some m) e = of (first_open m rows) refl
        where
          of : (o : Option Key) → first_open m rows ≡ o → (v : Result (List Due) OwedRefusal) × OwedSays rows now v
          of None c = let o = owed_one rows now.entries m in
              (Ok o.dues, record { month = m; last = e; closed = c; owed = o.owed })
          of (Some k) c = (Err (owed.Open k), (m, e, c))

pub owed_answers : OwedHasOneAnswer
owed_answers rows now = let some = says_some rows now in
    record { answer = some.0; says = some.1; alone = λ other h. says_one rows now other some.0 h some.1 }

-- ---- a month is filed, or why it isn't

pub filings_same : (x y : Filings) → x.entries ≡ y.entries → x.last ≡ y.last → x ≡ y
filings_same x y e l i = record { entries = e i; last = l i }

module _ (rows : List KeyedRow) (month : Month) (old : Filings) where
  abbrev IsSaid : Result (Filings × ℕ) FileRefusal → Type 0
  IsSaid said = FilingSays rows month old said

  made_one : (x y : Filings × ℕ) → IsFiling rows month old x.0 x.1 → IsFiling rows month old y.0 y.1 → x ≡ y
  made_one x y h k =
      let dues = owed_same rows old.entries month h.dues k.dues h.owed k.owed in
      let entries = h.entries ∙ ap (λ ds. old.entries ++ map (entry_with month) ds) dues ∙ sym k.entries in
      let filings = filings_same x.0 y.0 entries (h.last ∙ sym k.last) in
      let count = h.counted ∙ ap length dues ∙ sym k.counted in
      λ i. (filings i, count i)

  later_not : (since : Month) → IsLater month old.last → old.last ≡ Some since → month_cmp since month ≢ Less → ⊥
  later_not since later e n = n (subst (λ l. IsLater month l) e later)

  made_or_not : (x : Filings × ℕ) → IsFiling rows month old x.0 x.1 → (why : FileRefusal) → IsSaid (Err why) → ⊥
  made_or_not x h (file.Memory e) k = k
  made_or_not x h (file.Early since) k = later_not since h.allowed.later k.0 k.1
  made_or_not x h (file.Open key) k = none_or_some (first_open month rows) key h.allowed.closed k.1
  made_or_not x h file.Entries k =
      let dues = ap length (owed_same rows old.entries month h.dues k.dues h.owed k.owed) in
      let size = ap length h.entries ∙ length-append old.entries (map (entry_with month) h.dues) in
      let mapped = length-map h.dues (entry_with month) in
      let few = h.few in
      let many = k.many in
      omega (arith, dues, size, mapped, few, many)

  why_one : (why other : FileRefusal) → IsSaid (Err why) → IsSaid (Err other) → why ≡ other
  why_one (file.Memory e) other h k = absurd h
  why_one (file.Early a) (file.Memory e) h k = absurd k
  why_one (file.Early a) (file.Early b) h k = ap file.Early (both_some old.last a b h.0 k.0)
  why_one (file.Early a) (file.Open y) h k = absurd (later_not a k.0 h.0 h.1)
  why_one (file.Early a) file.Entries h k = absurd (later_not a k.allowed.later h.0 h.1)
  why_one (file.Open x) (file.Memory e) h k = absurd k
  why_one (file.Open x) (file.Early b) h k = absurd (later_not b h.0 k.0 k.1)
  why_one (file.Open x) (file.Open y) h k = ap file.Open (both_some (first_open month rows) x y h.1 k.1)
  why_one (file.Open x) file.Entries h k = absurd (none_or_some (first_open month rows) x k.allowed.closed h.1)
  why_one file.Entries (file.Memory e) h k = absurd k
  why_one file.Entries (file.Early b) h k = absurd (later_not b h.allowed.later k.0 k.1)
  why_one file.Entries (file.Open y) h k = absurd (none_or_some (first_open month rows) y h.allowed.closed k.1)
  why_one file.Entries file.Entries h k = refl

  said_one : (v w : Result (Filings × ℕ) FileRefusal) → IsSaid v → IsSaid w → v ≡ w
  said_one (Ok x) (Ok y) h k = ap (λ p. Ok p) (made_one x y h k)
  said_one (Ok x) (Err why) h k = absurd (made_or_not x h why k)
  said_one (Err why) (Ok y) h k = absurd (made_or_not y k why h)
  said_one (Err why) (Err other) h k = ap (λ e. Err e) (why_one why other h k)

  -- nothing but the number of entries stands against it
  said_closed : IsClosed rows month old.last → (v : Result (Filings × ℕ) FileRefusal) × IsSaid v
  said_closed closed =
      let o = owed_one rows old.entries month in
      all o.dues o.owed (cases_lt most_entries (length old.entries + length o.dues))
    where
      all : (dues : List Due) → IsOwed rows old.entries month dues →
          (most_entries < length old.entries + length dues) ⊎ (length old.entries + length dues ≤ most_entries) →
          (v : Result (Filings × ℕ) FileRefusal) × IsSaid v
      all dues is (inl many) = (Err file.Entries, record { allowed = closed; dues = dues; owed = is; many = many })
      all dues is (inr few) =
          let new : Filings = record { entries = old.entries ++ map (entry_with month) dues; last = Some month } in
          let size = length-append old.entries (map (entry_with month) dues) in
          let mapped = length-map dues (entry_with month) in
          let count : ℕ = length dues in (
            Ok (new, count),
            record {
              allowed = closed;
              dues = dues;
              owed = is;
              entries = refl;
              last = refl;
              counted = refl;
              few = omega (arith, size, mapped, few);
            },
          )

  later_or_not : (last : Option Month) →
      IsLater month last ⊎ ((since : Month) × (last ≡ Some since) × (month_cmp since month ≢ Less))
  later_or_not None = inl tt
  later_or_not (Some since) = by (month_cmp since month) refl
    where
      by : (o : Ordering) → month_cmp since month ≡ o →
          IsLater month (Some since) ⊎ ((m : Month) × (Some since ≡ Some m) × (month_cmp m month ≢ Less))
      by Less e = inl e
      by Equal e = inr (since, refl, λ l. cc)
      by Greater e = inr (since, refl, λ l. cc)

  said_some : (v : Result (Filings × ℕ) FileRefusal) × IsSaid v
  said_some = by (later_or_not old.last)
    where
      by : IsLater month old.last ⊎ ((since : Month) × (old.last ≡ Some since) × (month_cmp since month ≢ Less)) →
          (v : Result (Filings × ℕ) FileRefusal) × IsSaid v
      by (inr h) = (Err (file.Early h.0), (h.1, h.2))
      by (inl later) = of (first_open month rows) refl
        where
          of : (o : Option Key) → first_open month rows ≡ o → (v : Result (Filings × ℕ) FileRefusal) × IsSaid v
          of (Some k) e = (Err (file.Open k), (later, e))
          of None e = said_closed (record { later = later; closed = e })

pub filing_answers : FilingsHaveOneAnswer
filing_answers rows month old = let some = said_some rows month old in
    record { answer = some.0; says = some.1; alone = λ other h. said_one rows month old other some.0 h some.1 }
