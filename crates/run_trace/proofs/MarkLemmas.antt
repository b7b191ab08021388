-- What is kept of the executions of a run says what each statement's were.
use Rattle.std.proofs.Common.{◌≡◌, ℕ, zero, suc, ◌+◌, ◌<◌, ◌≤◌, ◌==◌, ◌⊎◌, inl, inr, eqb, Bool, true, false, List, [], ◌∷◌, ◌++◌, length, map, take, get_or, set, refl, sym, ap, ◌∙◌, arith, cond, if◌then◌else◌, append_assoc, length-append}
use Rattle.std.specs.Prelude.{◌&&◌, ◌||◌, nat_lt, Option, Some, None}
use Rattle.std.specs.List.{fold, list_any}
use Rattle.std.specs.Option.{option_map_or}
use Rattle.std.proofs.lemmas.Bool.{eq-eqb, ltb-true}
use Rattle.std.proofs.lemmas.Bool.Decides.{eqb_tells}
use Rattle.std.proofs.lemmas.List.{append-nil}
use Rattle.std.proofs.lemmas.List.Folds.{list_any-append}
use Rattle.scaled_decimal.specs.Decimals.{Decimal}
use Rattle.pap_tree.specs.Flowchart.{Flowchart}
use Rattle.month_trace.specs.declared.step.TraceStep.{TraceStep}
use Rattle.statement_list.specs.declared.statement.Form.{Form}
use Rattle.statement_list.specs.Statements.{Listed, listed_methods}
use Rattle.flowchart_methods.specs.Marks.{unmarked}
use Rattle.run_trace.specs.StepLines.{method_number, values_behind}
use Rattle.run_trace.specs.RunPages.{place_of}
use Rattle.run_trace.specs.RunMarks.{RunStep, executions_from, executions_at, is_at, has_answer, execution_mark, told_one_by_one, mark_of, by_number, marks_with}
use Rattle.run_trace.specs.private.MarkTallies.{MarkTally}
use Rattle.run_trace.specs.private.MarkViews.{no_executions, none_of, first_number, told_with, with_execution, changed_at, after_execution, mark_in}

-- ---- the code's step

pub changed_in : {A : Type 0} (n : ℕ) (g : A → A) (xs : List A) (d : A) → n < length xs
    → changed_at n g xs ≡ set xs n (g (get_or xs n d))
changed_in n g [] d lt = absurd (omega arith)
changed_in zero g (x ∷ xs) d lt = refl
changed_in (suc n) g (x ∷ xs) d lt = ap (λ l. x ∷ l) (changed_in n g xs d (omega arith))

pub changed_set : {A : Type 0} (n : ℕ) (g : A → A) (xs : List A) (x y : A) → n < length xs → x ≡ get_or xs n x → y ≡ g x
    → set xs n y ≡ changed_at n g xs
changed_set n g xs x y lt is done = ap (λ z. set xs n z) (done ∙ ap g is) ∙ sym (changed_in n g xs x lt)

pub changed_out : {A : Type 0} (n : ℕ) (g : A → A) (xs : List A) → length xs ≤ n → changed_at n g xs ≡ xs
changed_out n g [] le = refl
changed_out zero g (x ∷ xs) le = absurd (omega arith)
changed_out (suc n) g (x ∷ xs) le = ap (λ l. x ∷ l) (changed_out n g xs (omega arith))

-- ---- numbers that differ

other : (a b : ℕ) → (a ≡ b → ⊥) → (a == b) ≡ false
other a b differ = by (eqb_tells a b)
  where
    by : ((eqb a b ≡ true) × (a ≡ b)) ⊎ ((eqb a b ≡ false) × (a ≡ b → ⊥)) → (a == b) ≡ false
    by (inl (t, same)) = absurd (differ same)
    by (inr (t, apart)) = t

same : (a b : ℕ) → a ≡ b → (a == b) ≡ true
same a b is = eq-eqb a b is

not_less : (a b : ℕ) (t : Bool) → nat_lt a b ≡ t → b ≤ a → nat_lt a b ≡ false
not_less a b true is le = absurd (let lt = ltb-true a b is in omega (arith, lt, le))
not_less a b false is le = is

-- ---- a list by numbers

module _ {A B : Type 0} where
  -- the item of a number is changed
  abbrev changed : (B → B) → (ℕ → A → B) → ℕ → ℕ → A → B
  changed g of b i x = if i == b then g (of i x) else of i x

  -- numbers from `a` on are none before it
  untouched : (g : B → B) (of : ℕ → A → B) (a b : ℕ) (xs : List A) → b < a
      → by_number (changed g of b) a xs ≡ by_number of a xs
  untouched g of a b [] lt = refl
  untouched g of a b (x ∷ xs) lt =
      ap (λ t. (if t then g (of a x) else of a x) ∷ by_number (changed g of b) (a + 1) xs) (other a b (λ e. omega (arith, e, lt)))
      ∙ ap (λ l. of a x ∷ l) (untouched g of (a + 1) b xs (omega arith))

  changed_by : (n : ℕ) (g : B → B) (of : ℕ → A → B) (a b : ℕ) (xs : List A) → b ≡ a + n
      → changed_at n g (by_number of a xs) ≡ by_number (changed g of b) a xs
  changed_by n g of a b [] at = refl
  changed_by zero g of a b (x ∷ xs) at =
      let here : a ≡ b = omega (arith, at) in
      ap (λ l. g (of a x) ∷ l) (sym (untouched g of (a + 1) b xs (omega (arith, here))))
      ∙ ap (λ t. (if t then g (of a x) else of a x) ∷ by_number (changed g of b) (a + 1) xs) (sym (same a b here))
  changed_by (suc n) g of a b (x ∷ xs) at =
      ap (λ l. of a x ∷ l) (changed_by n g of (a + 1) b xs (omega (arith, at)))
      ∙ ap (λ t. (if t then g (of a x) else of a x) ∷ by_number (changed g of b) (a + 1) xs)
      (sym (other a b (λ e. omega (arith, at, e))))

  map_by_number : {C : Type 0} (h : B → C) (of : ℕ → A → B) (k : ℕ) (xs : List A)
      → map h (by_number of k xs) ≡ by_number (λ i x. h (of i x)) k xs
  map_by_number h of k [] = refl
  map_by_number h of k (x ∷ xs) = ap (λ l. h (of k x) ∷ l) (map_by_number h of (k + 1) xs)

  unnumbered : (h : A → B) (k : ℕ) (xs : List A) → map h xs ≡ by_number (λ i x. h x) k xs
  unnumbered h k [] = refl
  unnumbered h k (x ∷ xs) = ap (λ l. h x ∷ l) (unnumbered h (k + 1) xs)

-- ---- lists by numbers

module _ {A B : Type 0} where
  -- what a function has for the items of lists
  abbrev rows : (ℕ → ℕ → A → B) → List (List A) → List (List B)
  rows of ls = by_number (λ m l. by_number (of m) 0 l) 0 ls

  -- the item of the number `n` of the list of the number `b` is changed
  abbrev changed_row : (B → B) → ℕ → ℕ → (ℕ → ℕ → A → B) → ℕ → ℕ → A → B
  changed_row g n b of m k x = if m == b && k == n then g (of m k x) else of m k x

  row_by : (g : B → B) (n m : ℕ) (of : ℕ → ℕ → A → B) (l : List A) (t : Bool)
      → (if t then changed_at n g (by_number (of m) 0 l) else by_number (of m) 0 l)
      ≡ by_number (λ k x. if t && k == n then g (of m k x) else of m k x) 0 l
  row_by g n m of l true = changed_by n g (of m) 0 n l (omega arith)
  row_by g n m of l false = refl

  pub changed_rows : (g : B → B) (n b : ℕ) (of : ℕ → ℕ → A → B) (ls : List (List A))
      → changed_at b (changed_at n g) (rows of ls) ≡ rows (changed_row g n b of) ls
  changed_rows g n b of ls =
      changed_by b (changed_at n g) (λ m l. by_number (of m) 0 l) 0 b ls (omega arith)
      ∙ (λ i. by_number (λ m l. row_by g n m of l (m == b) i) 0 ls)

  pub map_rows : {C : Type 0} (h : B → C) (of : ℕ → ℕ → A → B) (ls : List (List A))
      → map (map h) (rows of ls) ≡ by_number (λ m l. by_number (λ n x. h (of m n x)) 0 l) 0 ls
  map_rows h of ls =
      map_by_number (map h) (λ m l. by_number (of m) 0 l) 0 ls
      ∙ (λ i. by_number (λ m l. map_by_number h (of m) 0 l i) 0 ls)

none_rows : (k : ℕ) (ls : List (List Listed))
    → map none_of ls ≡ by_number (λ m l. by_number (λ n (s : Listed). no_executions s.form) 0 l) k ls
none_rows k [] = refl
none_rows k (l ∷ ls) =
    ap (λ r. r ∷ map none_of ls) (unnumbered (λ (s : Listed). no_executions s.form) 0 l)
    ∙ ap (λ r. by_number (λ n (s : Listed). no_executions s.form) 0 l ∷ r) (none_rows (k + 1) ls)

-- ---- one statement

module _ (f : Flowchart) where
  -- the number of the first of some executions
  abbrev first_of : List RunStep → ℕ
  first_of [] = 0
  first_of (e ∷ es) = e.number

  -- what is kept of a statement's executions
  abbrev pub tally_of : Form → List RunStep → MarkTally
  tally_of what es = record {
    what = what;
    count = length es;
    first = first_of es;
    told = map (execution_mark f) (take told_one_by_one es);
    yes = list_any (λ (x : RunStep). has_answer true x.step) es;
    no = list_any (λ (x : RunStep). has_answer false x.step) es;
  }

  or_false : (a b : Bool) → (a || (b || false)) ≡ (a || b)
  or_false true b = refl
  or_false false true = refl
  or_false false false = refl

  -- one more answer
  any_more : (way : Bool) (es : List RunStep) (e : RunStep)
      → (list_any (λ (x : RunStep). has_answer way x.step) es || has_answer way e.step)
      ≡ list_any (λ (x : RunStep). has_answer way x.step) (es ++ (e ∷ []))
  any_more way es e =
      sym (list_any-append (λ (x : RunStep). has_answer way x.step) es (e ∷ [])
      ∙ or_false (list_any (λ (x : RunStep). has_answer way x.step) es) (has_answer way e.step))

  first_more : (es : List RunStep) (e : RunStep)
      → first_number (length es) (first_of es) e.number ≡ first_of (es ++ (e ∷ []))
  first_more [] e = refl
  first_more (x ∷ es) e =
      ap (λ t. if t then e.number else x.number) (other (length (x ∷ es)) 0 (λ none. omega (arith, none)))

  told_more : (es : List RunStep) (e : RunStep)
      → told_with (length es) (map (execution_mark f) (take told_one_by_one es)) (execution_mark f e)
      ≡ map (execution_mark f) (take told_one_by_one (es ++ (e ∷ [])))
  told_more [] e = refl
  told_more (a ∷ []) e = refl
  told_more (a ∷ (b ∷ [])) e = refl
  told_more (a ∷ (b ∷ (c ∷ es))) e =
      let told = map (execution_mark f) (take told_one_by_one (a ∷ (b ∷ (c ∷ es)))) in
      ap (λ t. if t then told ++ (execution_mark f e ∷ []) else told)
      (not_less (length (a ∷ (b ∷ (c ∷ es)))) told_one_by_one (nat_lt (length (a ∷ (b ∷ (c ∷ es)))) told_one_by_one) refl (omega arith))

  count_more : (es : List RunStep) (e : RunStep) → length es + 1 ≡ length (es ++ (e ∷ []))
  count_more es e = sym (length-append es (e ∷ []))

  one_more : (what : Form) (es : List RunStep) (e : RunStep)
      → with_execution f e (tally_of what es) ≡ tally_of what (es ++ (e ∷ []))
  one_more what es e = λ i. record {
    what = what;
    count = count_more es e i;
    first = first_more es e i;
    told = told_more es e i;
    yes = any_more true es e i;
    no = any_more false es e i;
  }

  -- a statement's tally with an execution, where this is one of it
  abbrev stepped : ℕ → ℕ → MarkTally → RunStep → MarkTally
  stepped m n t e = if is_at f m n e.step then with_execution f e t else t

  chosen : (m n : ℕ) (what : Form) (seen es : List RunStep) (e : RunStep) (t : Bool)
      → ((more : List RunStep)
      → fold (stepped m n) (tally_of what more) es ≡ tally_of what (more ++ executions_at f m n es))
      → fold (stepped m n) (if t then with_execution f e (tally_of what seen) else tally_of what seen) es
      ≡ tally_of what (seen ++ cond t (e ∷ executions_at f m n es) (executions_at f m n es))
  chosen m n what seen es e true rest =
      ap (λ u. fold (stepped m n) u es) (one_more what seen e) ∙ rest (seen ++ (e ∷ []))
      ∙ ap (tally_of what) (append_assoc seen (e ∷ []) (executions_at f m n es))
  chosen m n what seen es e false rest = rest seen

  tallied : (m n : ℕ) (what : Form) (es seen : List RunStep)
      → fold (stepped m n) (tally_of what seen) es ≡ tally_of what (seen ++ executions_at f m n es)
  tallied m n what [] seen = ap (tally_of what) (sym (append-nil seen))
  tallied m n what (e ∷ es) seen =
      chosen m n what seen es e (is_at f m n e.step) (λ more. tallied m n what es more)

  -- its mark
  is_mark : (total : ℕ) (what : Form) (es : List RunStep) → mark_in total (tally_of what es) ≡ mark_of f total what es
  is_mark total what [] = refl
  is_mark total what (e ∷ es) =
      ap (λ t. if t then unmarked else mark_of f total what (e ∷ es)) (other (length (e ∷ es)) 0 (λ none. omega (arith, none)))

  -- ---- all statements

  step_by : (e : RunStep) (of : ℕ → ℕ → Listed → MarkTally) (ls : List (List Listed)) (o : Option ℕ)
      → option_map_or (λ m. changed_at m (changed_at (place_of e.step).statement (with_execution f e)) (rows of ls)) o (rows of ls)
      ≡ rows (λ m n s. if option_map_or (λ k. m == k && n == (place_of e.step).statement) o false
      then with_execution f e (of m n s) else of m n s) ls
  step_by e of ls None = refl
  step_by e of ls (Some k) = changed_rows (with_execution f e) (place_of e.step).statement k of ls

  steps_all : (es : List RunStep) (of : ℕ → ℕ → Listed → MarkTally) (ls : List (List Listed))
      → fold (after_execution f) (rows of ls) es ≡ rows (λ m n s. fold (stepped m n) (of m n s) es) ls
  steps_all [] of ls = refl
  steps_all (e ∷ es) of ls =
      ap (λ l. fold (after_execution f) l es) (step_by e of ls (method_number f (place_of e.step).method))
      ∙ steps_all es (λ m n s. stepped m n (of m n s) e) ls

  -- the mark of a statement behind all executions
  marked_by : (total m n : ℕ) (what : Form) (es : List RunStep)
      → mark_in total (fold (stepped m n) (no_executions what) es) ≡ mark_of f total what (executions_at f m n es)
  marked_by total m n what es =
      ap (mark_in total) (tallied m n what es []) ∙ is_mark total what (executions_at f m n es)

  pub marks_are : (listed : List (List Listed)) (es : List RunStep) (start end : List (List MarkTally)) (total : ℕ)
      → listed ≡ listed_methods f → start ≡ map none_of listed → end ≡ fold (after_execution f) start es → total ≡ length es
      → map (map (mark_in total)) end ≡ marks_with f es
  marks_are listed es start end total is begins ends many =
      let none = λ (m n : ℕ) (s : Listed). no_executions s.form in
      ap (map (map (mark_in total))) (ends ∙ ap (λ l. fold (after_execution f) l es) (begins ∙ none_rows 0 listed)
      ∙ steps_all es none listed)
      ∙ map_rows (mark_in total) (λ m n s. fold (stepped m n) (none m n s) es) listed
      ∙ (λ i. by_number (λ m l. by_number (λ n (s : Listed). marked_by total m n s.form es i) 0 l) 0 listed)
      ∙ ap (λ k. by_number (λ m l. by_number (λ n (s : Listed). mark_of f k s.form (executions_at f m n es)) 0 l) 0 listed) many
      ∙ ap (λ ls. by_number (λ m l. by_number (λ n (s : Listed). mark_of f (length es) s.form (executions_at f m n es)) 0 l) 0 ls) is

  -- ---- the executions of a run

  pub as_many_executions : (k : ℕ) (values : List Decimal) (steps : List TraceStep)
      → length (executions_from f k values steps) ≡ length steps
  as_many_executions k values [] = refl
  as_many_executions k values (s ∷ steps) = ap suc (as_many_executions (k + 1) (values_behind f values s) steps)
