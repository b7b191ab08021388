-- A first row and the names that it may be a header of.
use Rattle.std.proofs.Common.{◌≡◌, ℕ, zero, suc, ◌+◌, ◌-◌, ◌<◌, ◌≤◌, List, [], ◌∷◌, length, take, refl, sym, ap, ◌∙◌, arith}
use Rattle.std.specs.Prelude.{IsTrue, codes}
use Rattle.std.specs.List.{AllByRecursion, Contains}
use Rattle.std.proofs.lemmas.List.{get_or-take, length-take, get_or_default}
use Rattle.pap_tree.specs.Names.{is_name}
use Rattle.payroll_records.specs.Tables.{Text, IsHeader, name_at, field_of}
use Rattle.payroll_records.specs.private.TableViews.{BeginsHeader}

-- the three fields before the values
abbrev pub begun : List Text → List Text
begun names = codes "employee" ∷ codes "month" ∷ codes "day" ∷ names

pub header_begins : (row names : List Text) → IsHeader row names → BeginsHeader row
header_begins row names h = rw h.fields (record { long = omega arith; employee = refl; month = refl; day = refl })

pub begins_take : (row : List Text) → BeginsHeader row → take 3 row ≡ begun []
begins_take [] h = absurd (omega (arith, h.long))
begins_take (a ∷ []) h = absurd (omega (arith, h.long))
begins_take (a ∷ b ∷ []) h = absurd (omega (arith, h.long))
begins_take (a ∷ b ∷ c ∷ rest) h = rw (h.employee, h.month, h.day)

pub header_field : (row names : List Text) (i : ℕ) → IsHeader row names → field_of row (i + 3) ≡ name_at names i
header_field row names i h =
    let three : i + 3 ≡ suc (suc (suc i)) = omega arith in
    rw (h.fields, three)

pub header_length : (row names : List Text) → IsHeader row names → length row ≡ length names + 3
header_length row names h = ap length h.fields ∙ omega arith

named_at : (names : List Text) (i : ℕ) → AllByRecursion (λ n. IsTrue (is_name n)) names → i < length names → IsTrue (is_name (name_at names i))
named_at [] i h l = absurd (omega arith)
named_at (n ∷ ns) zero h l = h.0
named_at (n ∷ ns) (suc i) h l = named_at ns i h.1 (omega arith)

-- a header's field in a column of values is a name
pub field_named : (row names : List Text) (p : ℕ) → IsHeader row names → 3 ≤ p → p < length row → IsTrue (is_name (field_of row p))
field_named row names p h l k =
    let size = header_length row names h in
    let place : p ≡ (p - 3) + 3 = omega arith in
    rw (place, header_field row names (p - 3) h) (named_at names (p - 3) h.named (omega arith))

-- the names so far, of a row's first fields
front_length : (row items : List Text) (p : ℕ) → p ≤ length row → take p row ≡ begun items → length items + 3 ≡ p
front_length row items p l e =
    let size = length-take p row in
    let same : length (take p row) ≡ length items + 3 = ap length e ∙ omega arith in
    omega arith

front_field : (row items : List Text) (p k : ℕ) → p ≤ length row → take p row ≡ begun items → k < length items → field_of row (k + 3) ≡ name_at items k
front_field row items p k l e m =
    let size = front_length row items p l e in
    let three : k + 3 ≡ suc (suc (suc k)) = omega arith in
    let inner : k + 3 < p = omega arith in
    sym (get_or-take p row (k + 3) [] inner) ∙ rw (e, three) refl

-- a name that stands among the earlier ones is none of a header's
pub name_again : (row names items : List Text) (p : ℕ) → IsHeader row names → p < length row → take p row ≡ begun items → Contains items (field_of row p) → ⊥
name_again row names items p h l e there =
    let size = front_length row items p (omega arith) e in
    let whole = header_length row names h in
    let place : p ≡ length items + 3 = omega arith in
    let first = sym (header_field row names there.0 h) ∙ front_field row items p there.0 (omega arith) e there.1 ∙ get_or_default items there.0 [] (field_of row p) there.1 ∙ there.2 in
    let last : field_of row p ≡ name_at names (length items) = rw place (header_field row names (length items) h) in
    h.different there.0 (length items) [] (there.1) (omega arith) (first ∙ last)
