-- The fields of a row and the columns of a header.
use Rattle.std.proofs.Common.{◌≡◌, ℕ, zero, suc, ◌<◌, ◌≤◌, List, [], ◌∷◌, ◌++◌, length, Option, Some, Bool, true, false, if◌then◌else◌, refl, sym, ap, subst, ◌⊎◌, ◌∙◌, arith, length-append, inl, inr}
use Rattle.std.specs.Prelude.{unwrap_or}
use Rattle.std.specs.List.{AllByRecursion, Contains, insert}
use Rattle.std.specs.declared.cmp.Ordering.TheVariants.{Less, Equal, Greater}
use Rattle.std.specs.declared.cmp.Ordering.{Ordering}
use Rattle.std.specs.Ordering.{is_eq}
use Rattle.std.specs.Cmp.Lexicographic.{nat_list_cmp_total}
use Rattle.std.proofs.lemmas.Bool.{cases_lt}
use Rattle.std.proofs.lemmas.Cmp.{tied_itself}
use Rattle.std.proofs.lemmas.List.Edits.{length-insert}
use Rattle.std.proofs.lemmas.Map.Text.{is_eq-slice_cmp}
use Rattle.std.proofs.lemmas.Slice.Eq.{bytes_eq-Decides}
use Rattle.std.proofs.Math.ListN.{get_or-append}
use Rattle.std.proofs.Math.Seq.{get_or-append_seam}
use Rattle.csv.specs.Records.{field_at}
use Rattle.rising_lists.specs.Keyed.{at_key, put, put_by}
use Rattle.rising_lists.specs.Places.{Misses, Finds}
use Rattle.rising_lists.proofs.Laws.{put_rising, at_key_put}
use Rattle.payroll_records.specs.NamedValues.{name_cmp}
use Rattle.payroll_records.specs.Tables.{Text, name_at, field_of}
use Rattle.payroll_records.specs.private.TableViews.{AreColumns, IsColumnOf, column_name}
use Rattle.payroll_records.specs.declared.header.Column.{Column}

field_or : (row : List Text) (i : ℕ) → unwrap_or (field_at row i) [] ≡ field_of row i
unfolding field_at
field_or [] i = refl
field_or (f ∷ fs) zero = refl
field_or (f ∷ fs) (suc i) = field_or fs i

pub field_is : (row : List Text) (i : ℕ) (o : Option Text) → o ≡ field_at row i → field_of row i ≡ unwrap_or o []
field_is row i o e = sym (ap (λ p. unwrap_or p []) e ∙ field_or row i)

pub same_name : (a b : Text) → is_eq (name_cmp a b) ≡ true → a ≡ b
same_name a b e = (bytes_eq-Decides a b).0 (sym (is_eq-slice_cmp a b) ∙ e)

all_put : (P : Column → Type 0) (y : Column) (xs : List Column) → P y → AllByRecursion P xs → AllByRecursion P (put name_cmp column_name y xs)
all_put P y [] p h = (p, tt)
all_put P y (x ∷ xs) p h = by (name_cmp y.name x.name) (all_put P y xs p h.1)
  where
    by : (o : Ordering) → AllByRecursion P (put name_cmp column_name y xs) → AllByRecursion P (put_by o y x xs (put name_cmp column_name y xs))
    by Less more = (p, h)
    by Equal more = (p, h.1)
    by Greater more = (h.0, more)

-- the columns of the names so far are columns of more names
more_names : (names more : List Text) (columns : List Column) → AllByRecursion (IsColumnOf names) columns → AllByRecursion (IsColumnOf (names ++ more)) columns
more_names names more [] h = tt
more_names names more (c ∷ cs) h =
    (record { within = omega (arith, length-append names more, h.0.within); named = get_or-append names more [] c.place h.0.within ∙ h.0.named }, more_names names more cs h.1)

-- what stands at a name is a column of that name
pub at_name : (P : Column → Type 0) (columns : List Column) (name : Text) (c : Column) → at_key name_cmp column_name columns name ≡ Some c → AllByRecursion P columns →
    (c.name ≡ name) × P c × Contains columns c
at_name P [] name c e h = absurd (cc e)
at_name P (x ∷ xs) name c e h = by (is_eq (name_cmp x.name name)) refl e (λ f. at_name P xs name c f h.1)
  where
    by : (b : Bool) → is_eq (name_cmp x.name name) ≡ b → (if b then Some x else at_key name_cmp column_name xs name) ≡ Some c →
        (at_key name_cmp column_name xs name ≡ Some c → (c.name ≡ name) × P c × Contains xs c) → (c.name ≡ name) × P c × Contains (x ∷ xs) c
    by true t e more = let same : x ≡ c = cc in rw (← same) (same_name x.name name t, h.0, (0, omega arith, refl))
    by false t e more = let m = more e in (m.0, m.1, (suc m.2.0, omega (arith, m.2.1), m.2.2))

pub contains_at : (xs : List Text) (i : ℕ) → i < length xs → Contains xs (name_at xs i)
contains_at [] i l = absurd (omega arith)
contains_at (x ∷ xs) zero l = (0, omega arith, refl)
contains_at (x ∷ xs) (suc i) l = let m = contains_at xs i (omega arith) in (suc m.0, omega (arith, m.1), m.2)

-- a name that has a column stands already
pub name_stands : (names : List Text) (columns : List Column) (name : Text) (i : ℕ) (d : Column) → AreColumns names columns → Finds name_cmp column_name columns name i → Contains names name
name_stands names columns name i d h found =
    let at = at_name (IsColumnOf names) columns name _ (found.at d) h.each in
    subst (Contains names) (at.1.named ∙ at.0) (contains_at names _ at.1.within)

-- a new name gets the next place
pub column_added : (names : List Text) (columns : List Column) (name : Text) (i : ℕ) → AreColumns names columns → Misses name_cmp column_name columns name i →
    AreColumns (names ++ name ∷ []) (insert columns i (record { name = name; place = length names }))
column_added names columns name i h gap = rw (← put_is) (record {
  same = rw put_is (omega (arith, length-insert columns i new gap.within, length-append names (name ∷ []), h.same));
  rising = put_rising name_cmp nat_list_cmp_total column_name new columns h.rising;
  each = all_put (IsColumnOf (names ++ name ∷ [])) new columns is_new (more_names names (name ∷ []) columns h.each);
  all = λ j l. at j (cases_lt j (length names)) l;
}) where
  new : Column
  new = record { name = name; place = length names }

  put_is : put name_cmp column_name new columns ≡ insert columns i new
  put_is = gap.put new (tied_itself nat_list_cmp_total name)

  is_new : IsColumnOf (names ++ name ∷ []) new
  is_new = record { within = omega (arith, length-append names (name ∷ [])); named = get_or-append_seam names name [] [] }

  other : (m : Text) (c : Column) → at_key name_cmp column_name columns m ≡ Some c → (b : Bool) → is_eq (name_cmp name m) ≡ b → (if b then Some new else at_key name_cmp column_name columns m) ≡ Some c
  other m c e true t = absurd (cc (ap (at_key name_cmp column_name columns) (same_name name m t), e, gap.at))
  other m c e false t = e

  at : (j : ℕ) → (j < length names) ⊎ (length names ≤ j) → j < length (names ++ name ∷ []) →
      at_key name_cmp column_name (put name_cmp column_name new columns) (name_at (names ++ name ∷ []) j) ≡ Some (record { name = name_at (names ++ name ∷ []) j; place = j })
  at j (inl old) l =
      rw (get_or-append names (name ∷ []) [] j old)
      (at_key_put name_cmp nat_list_cmp_total column_name new columns (name_at names j) ∙ other (name_at names j) _ (h.all j old) (is_eq (name_cmp name (name_at names j))) refl)
  at j (inr last) l =
      let here : j ≡ length names = omega (arith, length-append names (name ∷ [])) in
      rw (here, get_or-append_seam names name [] [])
      (at_key_put name_cmp nat_list_cmp_total column_name new columns name ∙ ap (λ o. if is_eq o then Some new else at_key name_cmp column_name columns name) (tied_itself nat_list_cmp_total name))
