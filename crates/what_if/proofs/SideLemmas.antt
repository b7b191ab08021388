-- The outputs of two lists side by side: they rise, and under each name stands what the two lists have there.
use Rattle.std.proofs.Common.{◌≡◌, ℕ, List, [], ◌∷◌, map, true, false, if◌then◌else◌, Option, Some, None, option_map, refl, sym, ap, subst, ◌∙◌}
use Rattle.std.specs.List.{AllByRecursion}
use Rattle.std.specs.declared.cmp.Ordering.{Ordering}
use Rattle.std.specs.declared.cmp.Ordering.TheVariants.{Less, Equal, Greater}
use Rattle.std.specs.Ordering.{is_eq, ordering_reverse}
use Rattle.std.specs.Cmp.Lexicographic.{nat_list_cmp_total}
use Rattle.rising_lists.specs.Keyed.{at_key, AreAbove, IsRising}
use Rattle.rising_lists.proofs.Laws.{above_all_of, above_more, above_same, all_above, at_key_above, at_key_map, rising_map}
use Rattle.payroll_records.specs.declared.values.NamedValue.{NamedValue}
use Rattle.payroll_records.specs.NamedValues.{name_cmp, name_of, value_at}
use Rattle.what_if.specs.declared.sides.Side.{Side}
use Rattle.what_if.specs.private.SideViews.{both_sides, left_only, right_only, sides_by, sides_of, sides_with}

abbrev pub side_name : Side → List ℕ
side_name s = s.name

abbrev pub Rises : List NamedValue → Type 0
Rises vs = IsRising name_cmp name_of vs

-- ---- they rise

module _ (n : List ℕ) where
  abbrev AreOver : List NamedValue → Type 0
  AreOver vs = AllByRecursion (λ v. name_cmp n v.name ≡ Less) vs

  abbrev SidesOver : List Side → Type 0
  SidesOver ss = AllByRecursion (λ s. name_cmp n s.name ≡ Less) ss

  over_right : (ws : List NamedValue) → AreOver ws → SidesOver (map right_only ws)
  over_right [] h = tt
  over_right (w ∷ ws) h = (h.0, over_right ws h.1)

  over_by : (o : Ordering) (v w : NamedValue) (a b c : List Side) → name_cmp n v.name ≡ Less →
      name_cmp n w.name ≡ Less →
      SidesOver a → SidesOver b → SidesOver c → SidesOver (sides_by o v w a b c)
  over_by Less v w a b c q s x y z = (q, x)
  over_by Equal v w a b c q s x y z = (q, y)
  over_by Greater v w a b c q s x y z = (s, z)

  over_with : (v : NamedValue) (more : List NamedValue → List Side) (ws : List NamedValue) → name_cmp n v.name ≡ Less →
      ((us : List NamedValue) → AreOver us → SidesOver (more us)) → AreOver ws → SidesOver (sides_with v more ws)
  over_with v more [] q go h = (q, go [] tt)
  over_with v more (w ∷ ws) q go h = over_by (name_cmp v.name w.name) v w (more (w ∷ ws)) (more ws)
      (sides_with v more ws) q h.0 (go (w ∷ ws) h) (go ws h.1) (over_with v more ws q go h.1)

  over_sides : (vs ws : List NamedValue) → AreOver vs → AreOver ws → SidesOver (sides_of vs ws)
  over_sides [] ws g h = over_right ws h
  over_sides (v ∷ vs) ws g h = over_with v (sides_of vs) ws g.0 (λ us k. over_sides vs us g.1 k) h

  above_sides : (vs ws : List NamedValue) → AreAbove name_cmp name_of n vs → AreAbove name_cmp name_of n ws →
      AreAbove name_cmp side_name n (sides_of vs ws)
  above_sides vs ws g h = above_all_of name_cmp side_name n (sides_of vs ws)
      (over_sides vs ws (all_above name_cmp name_of n vs g) (all_above name_cmp name_of n ws h))

to_less : (m n : List ℕ) → name_cmp m n ≡ Greater → name_cmp n m ≡ Less
to_less m n e = nat_list_cmp_total.antisymm n m ∙ ap ordering_reverse e

above_next : (m n : List ℕ) (vs : List NamedValue) → name_cmp m n ≡ Less → AreAbove name_cmp name_of n vs →
    AreAbove name_cmp name_of m vs
above_next m n vs l h = above_more name_cmp nat_list_cmp_total name_of m n vs l h

rising_with : (v : NamedValue) (vs ws : List NamedValue) → Rises (v ∷ vs) → Rises ws →
    ((us : List NamedValue) → Rises us → IsRising name_cmp side_name (sides_of vs us)) →
    IsRising name_cmp side_name (sides_with v (sides_of vs) ws)
rising_with v vs [] g h go = (above_sides v.name vs [] g.0 tt, go [] tt)
rising_with v vs (w ∷ ws) g h go = elim (name_cmp v.name w.name) as (λ o. name_cmp v.name w.name ≡ o →
    IsRising name_cmp side_name
    (sides_by o v w (sides_of vs (w ∷ ws)) (sides_of vs ws) (sides_with v (sides_of vs) ws))) [
      | Less ↦ λ e. (above_sides v.name vs (w ∷ ws) g.0 (e, above_next v.name w.name ws e h.0), go (w ∷ ws) h)
      | Equal ↦ λ e. (
        above_sides v.name vs ws g.0 (above_same name_cmp nat_list_cmp_total name_of v.name w.name ws e
            h.0),
        go ws h.1,
      )
      | Greater ↦ λ e. (let l = to_less v.name w.name e in
          (above_sides w.name (v ∷ vs) ws (l, above_next w.name v.name vs l g.0) h.0, rising_with v vs ws g h.1 go))
    ] refl

pub sides_rising : (vs ws : List NamedValue) → Rises vs → Rises ws → IsRising name_cmp side_name (sides_of vs ws)
sides_rising [] ws g h = rising_map name_cmp name_of side_name right_only (λ w. refl) ws h
sides_rising (v ∷ vs) ws g h = rising_with v vs ws g h (λ us k. sides_rising vs us g.1 k)

-- ---- what stands under a name

-- what the two lists have, side by side
abbrev pub met : Option NamedValue → Option NamedValue → Option Side
met None None = None
met None (Some w) = Some (right_only w)
met (Some v) None = Some (left_only v)
met (Some v) (Some w) = Some (both_sides v w)

abbrev pub side_at : List Side → List ℕ → Option Side
side_at ss n = at_key name_cmp side_name ss n

met_right : (o : Option NamedValue) → option_map right_only o ≡ met None o
met_right None = refl
met_right (Some w) = refl

module _ (n : List ℕ) where
  none_at : (m : List ℕ) (vs : List NamedValue) → AreAbove name_cmp name_of m vs → name_cmp m n ≡ Equal →
      value_at vs n ≡ None
  none_at m vs h t = at_key_above name_cmp nat_list_cmp_total name_of m n vs h t

  at_with : (v : NamedValue) (vs ws : List NamedValue) → Rises (v ∷ vs) → Rises ws →
      ((us : List NamedValue) → Rises us → side_at (sides_of vs us) n ≡ met (value_at vs n) (value_at us n)) →
      side_at (sides_with v (sides_of vs) ws) n ≡ met (value_at (v ∷ vs) n) (value_at ws n)
  at_with v vs [] g h go = elim (is_eq (name_cmp v.name n)) as
      (λ b. (if b then Some (left_only v) else side_at (sides_of vs []) n) ≡ met
      (if b then Some v else value_at vs n) None) [
        | true ↦ refl
        | false ↦ go [] tt
      ]
  at_with v vs (w ∷ ws) g h go = elim (name_cmp v.name w.name) as (λ o. name_cmp v.name w.name ≡ o →
      side_at (sides_by o v w (sides_of vs (w ∷ ws)) (sides_of vs ws) (sides_with v (sides_of vs) ws)) n ≡ met
      (value_at (v ∷ vs) n) (value_at (w ∷ ws) n)) [
        | Less ↦ λ e. (elim (name_cmp v.name n) as (λ o. name_cmp v.name n ≡ o →
            (if is_eq o then Some (left_only v) else side_at (sides_of vs (w ∷ ws)) n) ≡ met
            (if is_eq o then Some v else value_at vs n) (value_at (w ∷ ws) n)) [
              | Less ↦ λ t. go (w ∷ ws) h
              | Equal ↦ λ t. sym (ap (λ x. met (Some v) x) (none_at v.name (w ∷ ws) (e, above_next v.name w.name ws e h.0) t))
              | Greater ↦ λ t. go (w ∷ ws) h
            ] refl)
        | Equal ↦ λ e. (let same = nat_list_cmp_total.congr v.name w.name n e in
            subst (λ o. (if is_eq (name_cmp v.name n) then Some (both_sides v w) else side_at (sides_of vs ws) n) ≡ met
            (value_at (v ∷ vs) n) (if is_eq o then Some w else value_at ws n)) same
            (elim (is_eq (name_cmp v.name n)) as
            (λ b. (if b then Some (both_sides v w) else side_at (sides_of vs ws) n) ≡ met
            (if b then Some v else value_at vs n) (if b then Some w else value_at ws n)) [
              | true ↦ refl
              | false ↦ go ws h.1
            ]))
        | Greater ↦ λ e. (let l = to_less v.name w.name e in
            elim (name_cmp w.name n) as (λ o. name_cmp w.name n ≡ o →
            (if is_eq o then Some (right_only w) else side_at (sides_with v (sides_of vs) ws) n) ≡ met
            (value_at (v ∷ vs) n) (if is_eq o then Some w else value_at ws n)) [
              | Less ↦ λ t. at_with v vs ws g h.1 go
              | Equal ↦ λ t. sym (ap (λ x. met x (Some w))
                  (none_at w.name (v ∷ vs) (l, above_next w.name v.name vs l g.0) t))
              | Greater ↦ λ t. at_with v vs ws g h.1 go
            ] refl)
      ] refl

  pub at_sides : (vs ws : List NamedValue) → Rises vs → Rises ws →
      side_at (sides_of vs ws) n ≡ met (value_at vs n) (value_at ws n)
  at_sides [] ws g h = at_key_map name_cmp name_of side_name right_only (λ w. refl) ws n ∙ met_right (value_at ws n)
  at_sides (v ∷ vs) ws g h = at_with v vs ws g h (λ us k. at_sides vs us g.1 k)
