-- An item that is of its form after the first ones is known by any text that it begins.
use Rattle.std.proofs.Common.{◌≡◌, ℕ, List, [], ◌∷◌, ◌++◌, length, map, refl, sym, ap, ap₂, ◌∙◌, arith, append_assoc}
use Rattle.std.specs.Prelude.{codes}
use Rattle.std.specs.List.{join_with_byte, slice_split}
use Rattle.scaled_decimal.specs.PlainTexts.{whole_text}
use Rattle.payroll_records.specs.Tables.{Text}
use Rattle.payroll_records.specs.declared.day.Day.{Day}
use Rattle.payroll_records.specs.declared.record.Record.{Record}
use Rattle.payroll_records.proofs.Laws.{same_record}
use Rattle.saved_items.specs.Fronts.{FirstItems, nothing, titled, worked, planning, running}
use Rattle.saved_items.specs.private.ItemDecisions.{Item, title, work, plan_count, plan, run_count, run, item_text, Fits}
use Rattle.saved_items.specs.SavedBooks.{SavedPlan, IsRun, line_of_words, day_word, value_word, work_words, plan_words, saved_plan_text, run_words, saved_run_text}
use Rattle.saved_items.proofs.DayLemmas.{day_word_once}
use Rattle.saved_items.specs.private.LineViews.{is_space}
use Rattle.saved_items.proofs.LineLemmas.{AreWords, cut_once, join_misses, split_join}
use Rattle.saved_items.proofs.NumberLemmas.{whole_once}
use Rattle.saved_items.proofs.WordLemmas.{values_once, work_are_words, plan_count_are_words, run_count_are_words, plan_are_words, run_are_words}

-- two lines that begin one text have the same words, and the same follows them
pub lines_once : (a : Text) (xs : List Text) (b : Text) (ys : List Text) (r q : Text) → AreWords (a ∷ xs) →
    AreWords (b ∷ ys) → line_of_words (a ∷ xs) ++ r ≡ line_of_words (b ∷ ys) ++ q → (a ∷ xs ≡ b ∷ ys) × (r ≡ q)
lines_once a xs b ys r q h k e =
    let x = join_with_byte 32 (a ∷ xs) in
    let y = join_with_byte 32 (b ∷ ys) in
    let cut = cut_once 10 x y r q (join_misses (a ∷ xs) h) (join_misses (b ∷ ys) k)
    (sym (append_assoc x (10 ∷ []) r) ∙ e ∙ append_assoc y (10 ∷ []) q) in
    (sym (split_join a xs h) ∙ ap (slice_split is_space) cut.0 ∙ split_join b ys k, cut.1)

pub same_length_cut : (a c b d : Text) → length a ≡ length c → a ++ b ≡ c ++ d → (a ≡ c) × (b ≡ d)
same_length_cut [] [] b d l e = (refl, e)
same_length_cut [] (y ∷ c) b d l e = absurd (omega (arith, l))
same_length_cut (x ∷ a) [] b d l e = absurd (omega (arith, l))
same_length_cut (x ∷ a) (y ∷ c) b d l e =
    let s : x ≡ y = cc in
    let t : a ++ b ≡ c ++ d = cc in
    let more = same_length_cut a c b d (omega (arith, l)) t in
    (ap₂ (λ z zs. z ∷ zs) s more.0, more.1)

pub same_plan : (p q : SavedPlan) → p.day ≡ q.day → p.plan ≡ q.plan → p.limits ≡ q.limits → p ≡ q
same_plan p q ed et el =
    ap (λ (x : Day). make x p.plan p.limits) ed ∙ ap (λ (x : Text). make q.day x p.limits) et
    ∙ ap (λ (x : Text). make q.day q.plan x) el
  where
    make : Day → Text → Text → SavedPlan
    make d t l = record { day = d; plan = t; limits = l }

-- what follows a plan's line
bodies_once : (p q : SavedPlan) (r s : Text) → length p.plan ≡ length q.plan → length p.limits ≡ length q.limits →
    (p.plan ++ (p.limits ++ (10 ∷ []))) ++ r ≡ (q.plan ++ (q.limits ++ (10 ∷ []))) ++ s →
    (p.plan ≡ q.plan) × (p.limits ≡ q.limits) × (r ≡ s)
bodies_once p q r s a b e =
    let first = same_length_cut p.plan q.plan ((p.limits ++ (10 ∷ [])) ++ r) ((q.limits ++ (10 ∷ [])) ++ s) a
    (sym (append_assoc p.plan (p.limits ++ (10 ∷ [])) r) ∙ e ∙ append_assoc q.plan (q.limits ++ (10 ∷ [])) s) in
    let second = same_length_cut p.limits q.limits (10 ∷ r) (10 ∷ s) b
    (sym (append_assoc p.limits (10 ∷ []) r) ∙ first.1 ∙ append_assoc q.limits (10 ∷ []) s) in
    let last = second.1 in
    (first.0, second.0, cc)

pub plan_once : (p q : SavedPlan) (r s : Text) → saved_plan_text p ++ r ≡ saved_plan_text q ++ s → (p ≡ q) × (r ≡ s)
plan_once p q r s e =
    let pw = plan_words p.day (length p.plan) (length p.limits) in
    let qw = plan_words q.day (length q.plan) (length q.limits) in
    let pb = p.plan ++ (p.limits ++ (10 ∷ [])) in
    let qb = q.plan ++ (q.limits ++ (10 ∷ [])) in
    let lines = lines_once (codes "plan") (day_word p.day ∷ whole_text (length p.plan) ∷ whole_text
    (length p.limits) ∷ []) (codes "plan") (day_word q.day ∷ whole_text (length q.plan) ∷ whole_text
    (length q.limits) ∷ []) (pb ++ r) (qb ++ s)
    (plan_are_words p.day (length p.plan) (length p.limits)) (plan_are_words q.day (length q.plan) (length q.limits))
    (sym (append_assoc (line_of_words pw) pb r) ∙ e ∙ append_assoc (line_of_words qw) qb s) in
    let words = three_words _ _ _ _ _ _ _ lines.0 in
    let bodies = bodies_once p q r s (whole_once _ _ words.1) (whole_once _ _ words.2) lines.1 in
    (same_plan p q (day_word_once p.day q.day words.0) bodies.0 bodies.1, bodies.2)
  where
    three_words : (f a b c x y z : Text) → f ∷ a ∷ b ∷ c ∷ [] ≡ f ∷ x ∷ y ∷ z ∷ [] → (a ≡ x) × (b ≡ y) × (c ≡ z)
    three_words f a b c x y z e = (cc, cc, cc)

-- a number behind a word
pub count_once : (f : Text) (m n : ℕ) (r q : Text) → AreWords (f ∷ whole_text m ∷ []) →
    AreWords (f ∷ whole_text n ∷ []) → line_of_words (f ∷ whole_text m ∷ []) ++ r ≡ line_of_words (f ∷ whole_text n ∷ []) ++ q →
    (m ≡ n) × (r ≡ q)
count_once f m n r q h k e =
    let lines = lines_once f (whole_text m ∷ []) f (whole_text n ∷ []) r q h k e in
    (whole_once m n (second _ _ _ lines.0), lines.1)
  where
    second : (f a b : Text) → f ∷ a ∷ [] ≡ f ∷ b ∷ [] → a ≡ b
    second f a b e = cc

pub work_once : (a b c d : ℕ) (r q : Text) → line_of_words (work_words a b) ++ r ≡ line_of_words (work_words c d) ++ q →
    (a ≡ c) × (b ≡ d) × (r ≡ q)
work_once a b c d r q e =
    let lines = lines_once (codes "work") (whole_text a ∷ whole_text b ∷ []) (codes "work")
    (whole_text c ∷ whole_text d ∷ []) r q (work_are_words a b) (work_are_words c d) e in
    let words = two _ _ _ _ _ lines.0 in
    (whole_once a c words.0, whole_once b d words.1, lines.1)
  where
    two : (f a b x y : Text) → f ∷ a ∷ b ∷ [] ≡ f ∷ x ∷ y ∷ [] → (a ≡ x) × (b ≡ y)
    two f a b x y e = (cc, cc)

pub run_words_once : (a b : Record) → IsRun a → IsRun b → run_words a ≡ run_words b → a ≡ b
run_words_once a b h k e =
    let parts = three _ _ _ _ _ _ _ e in
    same_record a b parts.0 (day_word_once a.day b.day parts.1) (values_once a.values b.values h.each k.each parts.2)
  where
    three : (f e d x y : Text) (vs ws : List Text) → f ∷ e ∷ d ∷ vs ≡ f ∷ x ∷ y ∷ ws → (e ≡ x) × (d ≡ y) × (vs ≡ ws)
    three f e d x y vs ws h = (cc, cc, cc)

pub run_once : (a b : Record) (r q : Text) → IsRun a → IsRun b → saved_run_text a ++ r ≡ saved_run_text b ++ q → (a ≡ b) × (r ≡ q)
run_once a b r q h k e =
    let lines = lines_once (codes "run") (a.employee ∷ day_word a.day ∷ map value_word a.values) (codes "run")
    (b.employee ∷ day_word b.day ∷ map value_word b.values) r q (run_are_words a h) (run_are_words b k) e in
    (run_words_once a b h k lines.0, lines.1)

append_same : (t r q : Text) → t ++ r ≡ t ++ q → r ≡ q
append_same [] r q e = e
append_same (x ∷ t) r q e = (let s : t ++ r ≡ t ++ q = cc in append_same t r q s)

pub fit_once : (f : FirstItems) (i j : Item) → Fits f i → Fits f j → (r q : Text) → item_text i ++ r ≡ item_text j ++ q →
    (i ≡ j) × (r ≡ q)
fit_once nothing title title h k r q e = (refl, append_same (item_text title) r q e)
fit_once titled (work a b) (work c d) h k r q e = let s = work_once a b c d r q e in (ap₂ work s.0 s.1, s.2)
fit_once (worked a b) (plan_count m) (plan_count n) h k r q e =
    let s = count_once (codes "plans") m n r q (plan_count_are_words m) (plan_count_are_words n) e in
    (ap plan_count s.0, s.1)
fit_once (planning a b n ps) (plan x) (plan y) h k r q e = let s = plan_once x y r q e in (ap plan s.0, s.1)
fit_once (planning a b n ps) (plan x) (run_count m) h k r q e = absurd (omega (arith, h.0, k.0))
fit_once (planning a b n ps) (run_count m) (plan x) h k r q e = absurd (omega (arith, h.0, k.0))
fit_once (planning a b n ps) (run_count l) (run_count m) h k r q e =
    let s = count_once (codes "runs") l m r q (run_count_are_words l) (run_count_are_words m) e in
    (ap run_count s.0, s.1)
fit_once (running a b ps n rs) (run x) (run y) h k r q e = let s = run_once x y r q h.1 k.1 e in (ap run s.0, s.1)
fit_once nothing title j h k r q e = absurd k
fit_once nothing i j h k r q e = absurd h
fit_once titled (work a b) j h k r q e = absurd k
fit_once titled i j h k r q e = absurd h
fit_once (worked a b) (plan_count m) j h k r q e = absurd k
fit_once (worked a b) i j h k r q e = absurd h
fit_once (planning a b n ps) (plan x) j h k r q e = absurd k
fit_once (planning a b n ps) (run_count l) j h k r q e = absurd k
fit_once (planning a b n ps) i j h k r q e = absurd h
fit_once (running a b ps n rs) (run x) j h k r q e = absurd k
fit_once (running a b ps n rs) i j h k r q e = absurd h
