-- Keys that tie are one key; records with keys of their own.
use Rattle.std.proofs.Common.{◌≡◌, ◌≢◌, suc, List, [], ◌∷◌, ◌++◌, length, get_or, Bool, true, sym, ap, ◌∙◌, arith, length-append, inl, inr}
use Rattle.std.specs.List.{AllByRecursion, Any, list_any}
use Rattle.std.specs.Ordering.{is_eq, nat_cmp}
use Rattle.std.specs.Cmp.Lexicographic.{slice_cmp}
use Rattle.std.specs.declared.cmp.Ordering.TheVariants.{Equal}
use Rattle.std.proofs.Math.Seq.{get_or-append_seam}
use Rattle.std.proofs.lemmas.Bool.Decides.{nat_tests}
use Rattle.std.proofs.lemmas.Cmp.{tied_itself}
use Rattle.std.proofs.lemmas.List.{get_or_append_left, get_or_default}
use Rattle.std.proofs.lemmas.List.Elements.{recursion_from_All}
use Rattle.std.proofs.lemmas.List.Folds.{Any-from_list_any, list_any-from_Any}
use Rattle.std.proofs.lemmas.List.Quantifiers.{all_pairs_push}
use Rattle.rising_lists.specs.Keyed.{IsRising}
use Rattle.rising_lists.proofs.Laws.{first_tie, rising_far, second_tie, text_same, tied}
use Rattle.payroll_records.specs.declared.day.Day.{Day}
use Rattle.payroll_records.specs.declared.record.Key.{Key}
use Rattle.payroll_records.specs.declared.record.Record.{Record}
use Rattle.payroll_records.specs.Orders.{day_cmp, key_cmp}
use Rattle.payroll_records.specs.Tables.{HaveOwnKeys, key_of}
use Rattle.payroll_records.proofs.DecidedLemmas.{Decided, true_decided}
use Rattle.payroll_records.proofs.OrderLemmas.{key_total}
use Rattle.payroll_records.proofs.SpellingLemmas.{same_day}

-- ---- keys that tie

year_tie : (a b : Day) → day_cmp a b ≡ Equal → a.year ≡ b.year
year_tie a b e = grind (arith, nat_tests)

month_tie : (a b : Day) → day_cmp a b ≡ Equal → a.month ≡ b.month
month_tie a b e = grind (arith, nat_tests)

day_tie : (a b : Day) → day_cmp a b ≡ Equal → a.day ≡ b.day
day_tie a b e = grind (arith, nat_tests)

pub day_same : (a b : Day) → day_cmp a b ≡ Equal → a ≡ b
day_same a b e = same_day a b (year_tie a b e) (month_tie a b e) (day_tie a b e)

pub key_same : (a b : Key) → key_cmp a b ≡ Equal → a ≡ b
key_same a b e =
    let employees = slice_cmp nat_cmp a.employee b.employee in
    let employee = text_same a.employee b.employee (first_tie employees (day_cmp a.day b.day) e) in
    let day = day_same a.day b.day (second_tie employees (day_cmp a.day b.day) e) in
    λ i. record { employee = employee i; day = day i }

-- ---- a key among those of records

-- one of the records has this key
abbrev pub HasKey : List Record → Key → Type 0
HasKey records k = Any (λ s. key_of s ≡ k) records

-- whether one has it
abbrev pub has_key : List Record → Key → Bool
has_key records k = list_any (λ s. is_eq (key_cmp k (key_of s))) records

pub key_there : (records : List Record) (k : Key) → has_key records k ≡ true → HasKey records k
key_there records k e =
    let found = Any-from_list_any (λ s. is_eq (key_cmp k (key_of s))) records e in
    (found.0, found.1, found.2, found.3, sym (key_same k (key_of found.1) (tied (key_cmp k (key_of found.1)) found.4)))

pub key_found : (records : List Record) (k : Key) → HasKey records k → has_key records k ≡ true
key_found records k h =
    list_any-from_Any (λ s. is_eq (key_cmp k (key_of s))) records
    (h.0, h.1, h.2, h.3, ap (λ t. is_eq (key_cmp k t)) h.4 ∙ ap is_eq (tied_itself key_total k))

pub key_decided : (records : List Record) (k : Key) → Decided (HasKey records k)
key_decided records k = elim (true_decided (has_key records k)) [
  | inl there ↦ inl (key_there records k there)
  | inr none ↦ inr (λ h. none (key_found records k h))
]

-- ---- records with keys of their own

pub own_none : HaveOwnKeys []
own_none i j d less within = absurd (omega (arith, within))

-- one record more
pub own_more : (records : List Record) (r : Record) → HaveOwnKeys records → (HasKey records (key_of r) → ⊥) → HaveOwnKeys (records ++ r ∷ [])
own_more records r own new =
    all_pairs_push (λ s t. key_of s ≢ key_of t) records r own
    (λ k d within same. new (k, get_or records k d, within, get_or_default records k (get_or records k d) d within, same))

-- a record has no key of those before it
pub own_new : (before : List Record) (r : Record) (rest : List Record) → HaveOwnKeys (before ++ (r ∷ rest)) → HasKey before (key_of r) → ⊥
own_new before r rest own (k, s, within, at, same) =
    own k (length before) s within (omega (arith, length-append before (r ∷ rest)))
    (ap key_of (get_or_append_left before (r ∷ rest) s k within ∙ at) ∙ same ∙ ap key_of (sym (get_or-append_seam before r rest s)))

-- nor of those after it, and these have keys of their own
pub own_parts : (r : Record) (rest : List Record) → HaveOwnKeys (r ∷ rest) → AllByRecursion (λ s. key_of r ≢ key_of s) rest × HaveOwnKeys rest
own_parts r rest own = (
  recursion_from_All (λ s. key_of r ≢ key_of s) rest (λ k d within. own 0 (suc k) d (omega arith) (omega (arith, within))),
  λ i j d less within. own (suc i) (suc j) d (omega (arith, less)) (omega (arith, within)),
)

-- records whose keys rise
pub own_rising : (records : List Record) → IsRising key_cmp key_of records → HaveOwnKeys records
own_rising records rising i j d less within same =
    let below = rising_far key_cmp key_total key_of records i j d rising less within in
    let tie = ap (key_cmp (key_of (get_or records i d))) (sym same) ∙ tied_itself key_total (key_of (get_or records i d)) in
    cc (sym below ∙ tie)
