-- The next item of a text, by the words of its first line.
use Rattle.std.proofs.Common.{◌≡◌, ◌≢◌, ℕ, ◌^◌, ◌<◌, ◌≤◌, List, [], ◌∷◌, ◌++◌, length, take, map, sym, ap, ◌∙◌, subst, arith, append_assoc, length-append}
use Rattle.std.specs.Prelude.{codes}
use Rattle.std.specs.List.{join_with_byte, slice_split}
use Rattle.std.proofs.lemmas.List.{take_all, length-take}
use Rattle.std.proofs.Math.ListN.{length-map}
use Rattle.scaled_decimal.specs.PlainTexts.{whole_text}
use Rattle.payroll_records.specs.Limits.{most_records}
use Rattle.payroll_records.specs.Tables.{Text}
use Rattle.payroll_records.specs.declared.day.Day.{Day}
use Rattle.payroll_records.specs.declared.record.Record.{Record}
use Rattle.plan_calendar.specs.Limits.{most_plans}
use Rattle.saved_items.specs.Fronts.{nothing, titled, worked, planning, running}
use Rattle.saved_items.specs.private.ItemDecisions.{Item, title, work, plan_count, plan, run_count, run, item_text, Fits, IsLater, IsBeyond}
use Rattle.saved_items.specs.private.ItemViews.{HasTexts, HasNoTexts}
use Rattle.saved_items.specs.private.LineViews.{Misses, is_space, IsLine}
use Rattle.saved_items.specs.SavedBooks.{SavedPlan, IsWork, IsRun, line_of_words, day_word, value_word, title_words, work_words, plan_words, run_words, saved_plan_text, saved_run_text}
use Rattle.saved_items.specs.ItemFaults.{plan_in}
use Rattle.saved_items.specs.declared.item_words.PlanLine.{PlanLine}
use Rattle.saved_items.specs.declared.items.PlanItem.{PlanItem}
use Rattle.saved_items.proofs.DayLemmas.{day_word_once}
use Rattle.saved_items.proofs.ItemLemmas.{run_words_once, same_length_cut}
use Rattle.saved_items.proofs.LineLemmas.{AreWords, missing, line_once, split_join, join_split}
use Rattle.saved_items.proofs.NumberLemmas.{whole_once}
use Rattle.saved_items.proofs.WordLemmas.{literal_word, work_are_words, plan_count_are_words, run_count_are_words, plan_are_words, run_are_words}

title_are_words : AreWords title_words
title_are_words = (literal_word.0, (literal_word.1, tt))

-- the number behind a word is above a limit, and so none within it stands there
pub none_within : (f : Text) (seen : List Text) (n most : ℕ) → seen ≡ f ∷ whole_text n ∷ [] → most < n → (m : ℕ) →
    m ≤ most → seen ≢ f ∷ whole_text m ∷ []
none_within f seen n most is many m few e =
    let same = whole_once m n (second f _ _ (sym e ∙ is)) in omega (arith, few, many, same)
  where
    second : (f a b : Text) → f ∷ a ∷ [] ≡ f ∷ b ∷ [] → a ≡ b
    second f a b e = cc

pub plan_words_once : (d e : Day) (a b x y : ℕ) → plan_words d a b ≡ plan_words e x y → (d ≡ e) × (a ≡ x) × (b ≡ y)
plan_words_once d e a b x y h =
    let words = parts _ _ _ _ _ _ _ h in
    (day_word_once d e words.0, whole_once a x words.1, whole_once b y words.2)
  where
    parts : (f a b c x y z : Text) → f ∷ a ∷ b ∷ c ∷ [] ≡ f ∷ x ∷ y ∷ z ∷ [] → (a ≡ x) × (b ≡ y) × (c ≡ z)
    parts f a b c x y z e = (cc, cc, cc)

pub work_words_once : (a b x y : ℕ) → work_words a b ≡ work_words x y → (a ≡ x) × (b ≡ y)
work_words_once a b x y h = (let words = parts _ _ _ _ _ h in (whole_once a x words.0, whole_once b y words.1))
  where
    parts : (f a b x y : Text) → f ∷ a ∷ b ∷ [] ≡ f ∷ x ∷ y ∷ [] → (a ≡ x) × (b ≡ y)
    parts f a b x y e = (cc, cc)

plan_text_in : (p : SavedPlan) (rest : Text) → saved_plan_text p ++ rest ≡ line_of_words
    (plan_words p.day (length p.plan) (length p.limits)) ++ ((p.plan ++ (p.limits ++ (10 ∷ []))) ++ rest)
plan_text_in p rest = append_assoc (line_of_words (plan_words p.day (length p.plan) (length p.limits)))
    (p.plan ++ (p.limits ++ (10 ∷ []))) rest

-- no text is longer than the bytes that it stands in
texts_fit : (bytes a b rest : Text) → bytes ≡ (a ++ (b ++ (10 ∷ []))) ++ rest →
    (length a ≤ length bytes) × (length b ≤ length bytes)
texts_fit bytes a b rest e =
    let whole = ap length e in
    let second = length-append (a ++ (b ++ (10 ∷ []))) rest in
    let third = length-append a (b ++ (10 ∷ [])) in
    let fourth = length-append b (10 ∷ []) in
    (omega arith, omega arith)

pub run_few : (r : Record) → IsRun r → length (run_words r) < 260
run_few r h = omega (arith, h.values.few, length-map r.values value_word)

-- the texts of a plan are known by their lengths, and a line feed follows them
pub no_feed_behind : (bytes a b c d r : Text) (x : ℕ) → bytes ≡ a ++ b → b ≡ c ++ d → d ≡ x ∷ r → (x ≡ 10 → ⊥) →
    (p l rest : Text) → length p ≡ length a → length l ≡ length c → bytes ≡ (p ++ (l ++ (10 ∷ []))) ++ rest → ⊥
no_feed_behind bytes a b c d r x one two three other p l rest m n text =
    let first = (same_length_cut p a ((l ++ (10 ∷ [])) ++ rest) b m
    (sym (append_assoc p (l ++ (10 ∷ [])) rest) ∙ sym text ∙ one)).1 in
    let second = (same_length_cut l c (10 ∷ rest) d n (sym (append_assoc l (10 ∷ []) rest) ∙ first ∙ two)).1 in
    let both : 10 ∷ rest ≡ x ∷ r = second ∙ three in
    let same : 10 ≡ x = cc in
    other (sym same)

-- ---- bytes with no line feed

pub no_line : (bytes : Text) (words : List Text) (rest : Text) → Misses 10 bytes → bytes ≡ line_of_words words ++ rest → ⊥
no_line bytes words rest m e =
    missing 10 bytes (join_with_byte 32 words) rest m (e ∙ append_assoc (join_with_byte 32 words) (10 ∷ []) rest)

pub no_item : (bytes : Text) → Misses 10 bytes → (i : Item) (rest : Text) → bytes ≡ item_text i ++ rest → ⊥
no_item bytes m title rest e = no_line bytes title_words rest m e
no_item bytes m (work a b) rest e = no_line bytes (work_words a b) rest m e
no_item bytes m (plan_count n) rest e = no_line bytes (codes "plans" ∷ whole_text n ∷ []) rest m e
no_item bytes m (plan p) rest e = no_line bytes (plan_words p.day (length p.plan) (length p.limits)) _ m
    (e ∙ plan_text_in p rest)
no_item bytes m (run_count n) rest e = no_line bytes (codes "runs" ∷ whole_text n ∷ []) rest m e
no_item bytes m (run r) rest e = no_line bytes (run_words r) rest m e

-- ---- a first line

module _ (bytes text left : Text) (seen : List Text) (line : IsLine bytes text left)
    (split : seen ≡ take 260 (slice_split is_space text)) where
  words_are : (w : Text) (ws : List Text) (rest : Text) → AreWords (w ∷ ws) → length (w ∷ ws) < 260 →
      bytes ≡ line_of_words (w ∷ ws) ++ rest → (text ≡ join_with_byte 32 (w ∷ ws)) × (seen ≡ w ∷ ws) × (left ≡ rest)
  words_are w ws rest h few e =
      let cut = line_once bytes text left (w ∷ ws) rest line.ends line.cut h e in
      let all : slice_split is_space text ≡ w ∷ ws = ap (slice_split is_space) cut.0 ∙ split_join w ws h in
      (cut.0, split ∙ ap (take 260) all ∙ take_all 260 (w ∷ ws) (omega (arith, few)), cut.1)

  pub line_is : (ws : List Text) → length ws < 260 → seen ≡ ws → bytes ≡ line_of_words ws ++ left
  line_is ws few e =
      let short : take 260 (slice_split is_space text) ≡ ws = sym split ∙ e in
      let count = ap length short in
      let taken = length-take 260 (slice_split is_space text) in
      let all : slice_split is_space text ≡ ws = sym (take_all 260 (slice_split is_space text) (omega arith)) ∙ short in
      line.cut ∙ ap (λ t. t ++ (10 ∷ left)) (join_split text ws all)
      ∙ sym (append_assoc (join_with_byte 32 ws) (10 ∷ []) left)

  pub none_nothing : seen ≢ title_words → (i : Item) (rest : Text) → Fits nothing i → bytes ≡ item_text i ++ rest → ⊥
  none_nothing none title rest fits e = none (words_are (codes "papbook") (codes "1" ∷ []) rest title_are_words
      (omega arith) e).1
  none_nothing none i rest fits e = fits

  pub none_titled : ((a b : ℕ) → IsWork a b → seen ≢ work_words a b) → (i : Item) (rest : Text) → Fits titled i →
      bytes ≡ item_text i ++ rest → ⊥
  none_titled none (work a b) rest fits e =
      none a b fits (words_are (codes "work") (whole_text a ∷ whole_text b ∷ []) rest (work_are_words a b)
      (omega arith) e).1
  none_titled none i rest fits e = fits

  plans_are : (n : ℕ) (rest : Text) → bytes ≡ item_text (plan_count n) ++ rest →
      seen ≡ codes "plans" ∷ whole_text n ∷ []
  plans_are n rest e = (words_are (codes "plans") (whole_text n ∷ []) rest (plan_count_are_words n) (omega arith) e).1

  pub none_worked : ((n : ℕ) → n ≤ most_plans → seen ≢ codes "plans" ∷ whole_text n ∷ []) →
      (a b : ℕ) (i : Item) (rest : Text) → Fits (worked a b) i → bytes ≡ item_text i ++ rest → ⊥
  none_worked none a b (plan_count n) rest fits e = none n fits (plans_are n rest e)
  none_worked none a b i rest fits e = fits

  runs_are : (n : ℕ) (rest : Text) → bytes ≡ item_text (run_count n) ++ rest → seen ≡ codes "runs" ∷ whole_text n ∷ []
  runs_are n rest e = (words_are (codes "runs") (whole_text n ∷ []) rest (run_count_are_words n) (omega arith) e).1

  pub none_planned : ((n : ℕ) → n ≤ most_records → seen ≢ codes "runs" ∷ whole_text n ∷ []) →
      (a b : ℕ) (ps : List SavedPlan) (i : Item) (rest : Text) → Fits (planning a b (length ps) ps) i →
      bytes ≡ item_text i ++ rest → ⊥
  none_planned none a b ps (run_count n) rest fits e = none n fits.1 (runs_are n rest e)
  none_planned none a b ps (plan p) rest fits e = omega (arith, fits.0)
  none_planned none a b ps i rest fits e = fits

  -- a plan that stands there has these words, and its texts behind them
  pub plan_is : (p : SavedPlan) (rest : Text) → bytes ≡ saved_plan_text p ++ rest →
      (seen ≡ plan_words p.day (length p.plan) (length p.limits)) ×
      (left ≡ (p.plan ++ (p.limits ++ (10 ∷ []))) ++ rest)
  plan_is p rest e =
      let h = words_are (codes "plan") (day_word p.day ∷ whole_text (length p.plan) ∷ whole_text
      (length p.limits) ∷ []) ((p.plan ++ (p.limits ++ (10 ∷ []))) ++ rest)
      (plan_are_words p.day (length p.plan) (length p.limits)) (omega arith) (e ∙ plan_text_in p rest) in
      (h.1, h.2)

  pub none_plan : length left < 2 ^ 64 → ((d : Day) (x y : ℕ) → x < 2 ^ 64 → y < 2 ^ 64 → seen ≢ plan_words d x y) →
      (a b n : ℕ) (ps : List SavedPlan) → length ps < n → (i : Item) (rest : Text) → Fits (planning a b n ps) i →
      bytes ≡ item_text i ++ rest → ⊥
  none_plan small none a b n ps more (plan p) rest fits e =
      let is = plan_is p rest e in
      let fit = texts_fit left p.plan p.limits rest is.1 in
      none p.day (length p.plan) (length p.limits) (omega (arith, small, fit.0)) (omega (arith, small, fit.1)) is.0
  none_plan small none a b n ps more (run_count m) rest fits e = omega (arith, fits.0, more)
  none_plan small none a b n ps more i rest fits e = fits

  module _ (front : PlanLine) (is : seen ≡ plan_words front.day front.plan front.limits) where
    pub no_texts : HasNoTexts front left → (a b n : ℕ) (ps : List SavedPlan) → length ps < n →
        (i : Item) (rest : Text) → Fits (planning a b n ps) i → bytes ≡ item_text i ++ rest → ⊥
    no_texts none a b n ps more (plan p) rest fits e =
        let h = plan_is p rest e in
        let same = plan_words_once p.day front.day (length p.plan) (length p.limits) front.plan front.limits
        (sym h.0 ∙ is) in
        none p.plan p.limits rest same.1 same.2 h.1
    no_texts none a b n ps more (run_count m) rest fits e = omega (arith, fits.0, more)
    no_texts none a b n ps more i rest fits e = fits

    pub not_later : (ps : List SavedPlan) → ((p : SavedPlan) → p.day ≡ front.day → IsLater ps p → ⊥) → (a b n : ℕ) →
        length ps < n → (i : Item) (rest : Text) → Fits (planning a b n ps) i → bytes ≡ item_text i ++ rest → ⊥
    not_later ps none a b n more (plan p) rest fits e =
        let same = plan_words_once p.day front.day (length p.plan) (length p.limits) front.plan front.limits
        (sym (plan_is p rest e).0 ∙ is) in none p same.0 fits.1
    not_later ps none a b n more (run_count m) rest fits e = omega (arith, fits.0, more)
    not_later ps none a b n more i rest fits e = fits

    pub plan_read : (p : PlanItem) (rest : Text) → HasTexts front left p rest → bytes ≡ saved_plan_text (plan_in p) ++ rest
    plan_read p rest h =
        line_is (plan_words front.day front.plan front.limits) (omega arith) is
        ∙ ap (λ (d : Day). line_of_words (plan_words d front.plan front.limits) ++ left) (sym h.day)
        ∙ ap (λ (n : ℕ). line_of_words (plan_words p.day n front.limits) ++ left) (sym h.plan)
        ∙ ap (λ (n : ℕ). line_of_words (plan_words p.day (length p.plan.now) n) ++ left) (sym h.limits)
        ∙ ap (λ t. line_of_words (plan_words p.day (length p.plan.now) (length p.limits.now)) ++ t) h.text
        ∙ sym (plan_text_in (plan_in p) rest)

  run_is : (r : Record) (rest : Text) → IsRun r → bytes ≡ saved_run_text r ++ rest → text ≡ join_with_byte 32 (run_words r)
  run_is r rest h e = (words_are (codes "run") (r.employee ∷ day_word r.day ∷ map value_word r.values) rest
      (run_are_words r h) (run_few r h) e).0

  pub run_seen : (r : Record) (rest : Text) → IsRun r → bytes ≡ saved_run_text r ++ rest → seen ≡ run_words r
  run_seen r rest h e = (words_are (codes "run") (r.employee ∷ day_word r.day ∷ map value_word r.values) rest
      (run_are_words r h) (run_few r h) e).1

  pub none_run : ((r : Record) → IsRun r → text ≢ join_with_byte 32 (run_words r)) →
      (a b n : ℕ) (ps : List SavedPlan) (rs : List Record) (i : Item) (rest : Text) → Fits (running a b ps n rs) i →
      bytes ≡ item_text i ++ rest → ⊥
  none_run none a b n ps rs (run r) rest fits e = none r fits.1 (run_is r rest fits.1 e)
  none_run none a b n ps rs i rest fits e = fits

  pub not_beyond : (x : Record) → IsRun x → text ≡ join_with_byte 32 (run_words x) → (rs : List Record) →
      (IsBeyond rs x → ⊥) → (a b n : ℕ) (ps : List SavedPlan) (i : Item) (rest : Text) →
      Fits (running a b ps n rs) i → bytes ≡ item_text i ++ rest → ⊥
  not_beyond x sound is rs none a b n ps (run r) rest fits e =
      let joined : join_with_byte 32 (run_words r) ≡ join_with_byte 32 (run_words x) = sym (run_is r rest fits.1 e)
      ∙ is in
      let same : run_words r ≡ run_words x =
      sym (split_join (codes "run") (r.employee ∷ day_word r.day ∷ map value_word r.values) (run_are_words r fits.1))
      ∙ ap (slice_split is_space) joined
      ∙ split_join (codes "run") (x.employee ∷ day_word x.day ∷ map value_word x.values) (run_are_words x sound) in
      none (subst (IsBeyond rs) (run_words_once r x fits.1 sound same) fits.2)
  not_beyond x sound is rs none a b n ps i rest fits e = fits

  pub run_read : (r : Record) → text ≡ join_with_byte 32 (run_words r) → bytes ≡ saved_run_text r ++ left
  run_read r is = line.cut ∙ ap (λ t. t ++ (10 ∷ left)) is ∙ sym
      (append_assoc (join_with_byte 32 (run_words r)) (10 ∷ []) left)
