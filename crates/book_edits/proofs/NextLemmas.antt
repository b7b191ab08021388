-- The first of two queues, from what their fronts are.
use Rattle.std.proofs.Common.{◌≡◌, ◌<◌, List, [], ◌∷◌, ◌++◌, length, get_or, Option, Some, None, IsSome, vec_len, refl, sym, ap, subst, ◌∙◌, arith}
use Rattle.std.specs.Prelude.{IfSome, MatchOption}
use Rattle.std.specs.Borrow.{Bor}
use Rattle.std.proofs.lemmas.Bool.{false≢true}
use Rattle.std.specs.Option.{option_to_list}
use Rattle.std.specs.declared.cmp.Ordering.{Ordering}
use Rattle.std.specs.declared.cmp.Ordering.TheVariants.{Less, Equal, Greater}
use Rattle.rising_lists.specs.Keyed.{IsRising}
use Rattle.payroll_records.specs.Orders.{day_cmp}
use Rattle.book_year.specs.declared.year.Year.{Year}
use Rattle.book_year.specs.declared.year.YearKey.{YearKey}
use Rattle.book_year.specs.Records.{record_day}
use Rattle.book_edits.specs.Books.{runs_of, year_cmp}
use Rattle.book_edits.specs.Kept.{runs_in}
use Rattle.book_edits.specs.declared.drafts.Draft.{Draft}
use Rattle.book_edits.specs.private.Drafts.{HasRoom}
use Rattle.book_edits.specs.private.Merges.{CanMerge, IsFirst}
use Rattle.book_edits.proofs.LoadMergeLemmas.{IsWritten, first_alone, first_both, first_draft, first_last, first_old, runs_tied}

-- how the first year stands to a key
abbrev pub IsOrder : Option (Bor Year) → YearKey → Ordering → Type 0
IsOrder f k o = MatchOption f (o ≡ Greater) (λ y. o ≡ year_cmp y.now.key k)

abbrev pub IsFront : {X : Type 0} → List X → Option (Bor X) → Type 0
IsFront xs f = IfSome f (λ x. x.now ≡ get_or xs 0 x.now)

-- the order that was found is that of the first year
order_is : (y : Year) (ys : List Year) (k : YearKey) (f : Option (Bor Year)) (o : Ordering) → IsFront (y ∷ ys) f → IsSome f → IsOrder f k o → o ≡ year_cmp y.key k
order_is y ys k None o front some is = absurd (false≢true some)
order_is y ys k (Some x) o front some is = is ∙ ap (λ (t : Year). year_cmp t.key k) front

-- a year is there where the order isn't that of none
pub some_year : (f : Option (Bor Year)) (k : YearKey) (o : Ordering) → IsOrder f k o → (o ≡ Greater → ⊥) → IsSome f
some_year None k o is not = absurd (not is)
some_year (Some x) k o is not = refl

pub next_alone : (olds olds' : List Year) (drafts : List Draft) (r : Option Year) → olds ≡ option_to_list r ++ olds' → drafts ≡ [] → CanMerge olds drafts → IfSome r (IsFirst olds drafts olds' drafts)
next_alone olds olds' drafts None e d can = tt
next_alone [] olds' drafts (Some y) e d can = cc
next_alone (x ∷ xs) olds' (d ∷ ds) (Some y) e none can = cc
next_alone (x ∷ xs) olds' [] (Some y) e none can =
    let p : x ≡ y = cc in
    let q : xs ≡ olds' = cc in
    subst (λ t. IsFirst (x ∷ xs) [] t [] y) q (subst (λ t. IsFirst (x ∷ xs) [] xs [] t) p (first_alone x xs can))

pub next_old : (olds olds' : List Year) (drafts : List Draft) (d : Draft) (f : Option (Bor Year)) (o : Ordering) (r : Option Year) → IsFront olds f → IsOrder f d.key o → o ≡ Less → d ≡ get_or drafts 0 d → 0 < length drafts → olds ≡ option_to_list r ++ olds' → CanMerge olds drafts → IfSome r (IsFirst olds drafts olds' drafts)
next_old olds olds' drafts d f o None front is l here any e can = tt
next_old olds olds' [] d f o (Some y) front is l here any e can = absurd (omega arith)
next_old [] olds' (n ∷ ns) d f o (Some y) front is l here any e can = cc
next_old (x ∷ xs) olds' (n ∷ ns) d f o (Some y) front is l here any e can =
    let some = some_year f d.key o is (λ g. let c = sym l ∙ g in cc) in
    let p : x ≡ y = cc in
    let q : xs ≡ olds' = cc in
    let less : year_cmp x.key n.key ≡ Less = ap (λ (t : Draft). year_cmp x.key t.key) (sym here) ∙ sym (order_is x xs d.key f o front some is) ∙ l in
    subst (λ t. IsFirst (x ∷ xs) (n ∷ ns) t (n ∷ ns) y) q (subst (λ t. IsFirst (x ∷ xs) (n ∷ ns) xs (n ∷ ns) t) p (first_old x xs n ns can less))

-- the first year and the first draft, where they have one key
pub record AreTied (olds olds' : List Year) (drafts drafts' : List Draft) (y : Year) (d : Draft) : Type 0 where
  pub can : CanMerge olds drafts
  pub olds_are : olds ≡ y ∷ olds'
  pub drafts_are : drafts ≡ d ∷ drafts'
  pub tied : year_cmp y.key d.key ≡ Equal

pub tied_from : (olds olds' : List Year) (drafts drafts' : List Draft) (y : Year) (d e : Draft) (f : Option (Bor Year)) (o : Ordering) → CanMerge olds drafts → IsFront olds f → IsOrder f e.key o → o ≡ Equal → e ≡ get_or drafts 0 e → olds ≡ y ∷ olds' → drafts ≡ d ∷ drafts' → AreTied olds olds' drafts drafts' y d
tied_from olds olds' drafts drafts' y d e f o can front is t here os ds =
    let some = some_year f e.key o is (λ g. let c = sym t ∙ g in cc) in
    let first : IsFront (y ∷ olds') f = subst (λ xs. IsFront xs f) os front in
    let same : e ≡ d = here ∙ ap (λ xs. get_or xs 0 e) ds in
    record {
      can = can;
      olds_are = os;
      drafts_are = ds;
      tied = ap (λ (n : Draft). year_cmp y.key n.key) (sym same) ∙ sym (order_is y olds' e.key f o first some is) ∙ t;
    }

module _ (olds olds' : List Year) (drafts drafts' : List Draft) (y : Year) (d : Draft) (h : AreTied olds olds' drafts drafts' y d) where
  tied_can : CanMerge (y ∷ olds') (d ∷ drafts')
  tied_can = subst (λ t. CanMerge (y ∷ olds') t) h.drafts_are (subst (λ t. CanMerge t drafts) h.olds_are h.can)

  pub tied_rising : IsRising day_cmp record_day y.records.items
  tied_rising = tied_can.days.0

  pub tied_room : HasRoom (length y.records.items) (vec_len d.items) d.room
  tied_room = subst (λ t. HasRoom (length t) (vec_len d.items) d.room) (runs_tied y olds' d.key h.tied) tied_can.rooms.0

  pub tied_first : (w : Year) → IsWritten d y.records.items w → IsFirst olds drafts olds' drafts' w
  tied_first w written = subst (λ t. IsFirst t drafts olds' drafts' w) (sym h.olds_are) (subst (λ t. IsFirst (y ∷ olds') t olds' drafts' w) (sym h.drafts_are) (first_both y olds' d drafts' w tied_can h.tied written))

-- the first draft, where it stands before every year
pub record IsAhead (olds : List Year) (drafts drafts' : List Draft) (d : Draft) : Type 0 where
  pub can : CanMerge olds drafts
  pub drafts_are : drafts ≡ d ∷ drafts'
  pub ahead : (y : Year) (ys : List Year) → olds ≡ y ∷ ys → year_cmp y.key d.key ≡ Greater

pub ahead_from : (olds : List Year) (drafts drafts' : List Draft) (d e : Draft) (f : Option (Bor Year)) (o : Ordering) → CanMerge olds drafts → IsFront olds f → (0 < length olds → IsSome f) → IsOrder f e.key o → o ≡ Greater → e ≡ get_or drafts 0 e → drafts ≡ d ∷ drafts' → IsAhead olds drafts drafts' d
ahead_from olds drafts drafts' d e f o can front some is g here ds = record {
  can = can;
  drafts_are = ds;
  ahead = λ y ys os.
      let same : e ≡ d = here ∙ ap (λ xs. get_or xs 0 e) ds in
      let any : 0 < length olds = omega (arith, ap length os) in
      ap (λ (n : Draft). year_cmp y.key n.key) (sym same) ∙ sym (order_is y ys e.key f o (subst (λ xs. IsFront xs f) os front) (some any) is) ∙ g;
}

module _ (drafts drafts' : List Draft) (d : Draft) where
  ahead_can : (olds : List Year) → IsAhead olds drafts drafts' d → CanMerge olds (d ∷ drafts')
  ahead_can olds h = subst (λ t. CanMerge olds t) h.drafts_are h.can

  pub ahead_room : (olds : List Year) → IsAhead olds drafts drafts' d → HasRoom (length (runs_of (runs_in olds) d.key)) (vec_len d.items) d.room
  ahead_room olds h = (ahead_can olds h).rooms.0

  pub ahead_first : (olds : List Year) (w : Year) → IsAhead olds drafts drafts' d → IsWritten d [] w → IsFirst olds drafts olds drafts' w
  ahead_first [] w h written = subst (λ t. IsFirst [] t [] drafts' w) (sym h.drafts_are) (first_last d drafts' w (ahead_can [] h) written)
  ahead_first (y ∷ ys) w h written = subst (λ t. IsFirst (y ∷ ys) t (y ∷ ys) drafts' w) (sym h.drafts_are) (first_draft y ys d drafts' w (ahead_can (y ∷ ys) h) (h.ahead y ys refl) written)
