-- The lines of a sample name no file but its two, and these are there.
use Rattle.std.proofs.Common.{◌≡◌, ◌≢◌, ℕ, ◌≤◌, List, [], ◌∷◌, sym, ap, ◌∙◌, subst, refl, inl, inr, arith}
use Rattle.std.specs.Prelude.{IsSome, All, codes, slice_index}
use Rattle.outside.specs.Told.{FileMap}
use Rattle.outside.specs.Memory.{file_named}
use Rattle.script_lang.specs.Commands as asked
use Rattle.script_lang.specs.Commands.{Asked}
use Rattle.script_lang.specs.Lines.{Ask}
use Rattle.script_lang.specs.Words.{words_in_line}
use Rattle.script_steps.specs.LineSteps.{IsFileOf}
use Rattle.script_steps.specs.Steps.{AreThere}
use Rattle.script_run.specs.Samples.{sample_lines, add_line, change_line}
use Rattle.script_run.specs.SampleFiles.{named_texts, sample_files}
use Rattle.script_run.proofs.SampleLaws.{each_line}

head_same : (a b : List ℕ) (x y : List (List ℕ)) → a ∷ x ≡ b ∷ y → a ≡ b
head_same a b x y e = cc

-- words whose first is of no command that names a file
names_none : (word : List ℕ) (more words : List (List ℕ)) → words ≡ word ∷ more → word ≢ codes "plan" →
    word ≢ codes "load" → word ≢ codes "try" → word ≢ codes "open" → (what : Asked) → Ask words what → (name : List ℕ) → IsFileOf what name → ⊥
names_none word more words cut no_plan no_load no_try no_open asked.nothing ask name file = file
names_none word more words cut no_plan no_load no_try no_open (asked.plan day plan limits) ask name file =
    no_plan (head_same word (codes "plan") more _ (sym cut ∙ ask.words_are))
names_none word more words cut no_plan no_load no_try no_open (asked.drop day) ask name file = file
names_none word more words cut no_plan no_load no_try no_open (asked.add run) ask name file = file
names_none word more words cut no_plan no_load no_try no_open (asked.change run) ask name file = file
names_none word more words cut no_plan no_load no_try no_open (asked.withdraw who when) ask name file = file
names_none word more words cut no_plan no_load no_try no_open (asked.load table) ask name file =
    no_load (head_same word (codes "load") more _ (sym cut ∙ ask.words_are))
names_none word more words cut no_plan no_load no_try no_open (asked.opening table) ask name file =
    no_open (head_same word (codes "open") more _ (sym cut ∙ ask.words_are))
names_none word more words cut no_plan no_load no_try no_open asked.report ask name file = file
names_none word more words cut no_plan no_load no_try no_open asked.work ask name file = file
names_none word more words cut no_plan no_load no_try no_open (asked.trace who when) ask name file = file
names_none word more words cut no_plan no_load no_try no_open (asked.filing month) ask name file = file
names_none word more words cut no_plan no_load no_try no_open asked.owed ask name file = file
names_none word more words cut no_plan no_load no_try no_open (asked.trial day plan limits) ask name file =
    no_try (head_same word (codes "try") more _ (sym cut ∙ ask.words_are))

-- so it is of a line that begins with such a word
there_by : (files : FileMap) (word line : List ℕ) (more : List (List ℕ)) → words_in_line line ≡ word ∷ more →
    word ≢ codes "plan" → word ≢ codes "load" → word ≢ codes "try" → word ≢ codes "open" → AreThere files line
there_by files word line more cut no_plan no_load no_try no_open = λ name names.
    absurd (names_none word more (words_in_line line) cut no_plan no_load no_try no_open names.what (names.is_line).ask name names.is_file)

add_there : (files : FileMap) (employee month : ℕ) → AreThere files (add_line employee month)
add_there files employee month =
    there_by files (codes "add") (add_line employee month) _ refl (λ e. cc) (λ e. cc)
    (λ e. let first = ap (λ word. slice_index word 0) e in omega (arith, first)) (λ e. cc)

change_there : (files : FileMap) (employee : ℕ) → AreThere files (change_line employee)
change_there files employee =
    there_by files (codes "change") (change_line employee) _ refl (λ e. cc) (λ e. cc) (λ e. cc) (λ e. cc)

report_there : (files : FileMap) → AreThere files (codes "report")
report_there files = there_by files (codes "report") (codes "report") _ refl (λ e. cc) (λ e. cc) (λ e. cc) (λ e. cc)

-- the words of the line of a sample's plan
abbrev plan_line : List ℕ
plan_line = codes "plan 2025-01-01 p2.xml l2.toml"

abbrev plan_words : List (List ℕ)
plan_words = codes "plan" ∷ codes "2025-01-01" ∷ codes "p2.xml" ∷ codes "l2.toml" ∷ []

third_same : (a b c d a' b' c' d' : List ℕ) → ◌≡◌ {A = List (List ℕ)} (a ∷ b ∷ c ∷ d ∷ []) (a' ∷ b' ∷ c' ∷ d' ∷ []) →
    c ≡ c'
third_same a b c d a' b' c' d' e = cc

fourth_same : (a b c d a' b' c' d' : List ℕ) → ◌≡◌ {A = List (List ℕ)} (a ∷ b ∷ c ∷ d ∷ []) (a' ∷ b' ∷ c' ∷ d' ∷ []) →
    d ≡ d'
fourth_same a b c d a' b' c' d' e = cc

plan_names : (files : FileMap) → IsSome (files (codes "p2.xml")) → IsSome (files (codes "l2.toml")) → (what : Asked) →
    Ask plan_words what → (name : List ℕ) → IsFileOf what name → IsSome (files name)
plan_names files plan_is limits_is asked.nothing ask name file = absurd file
plan_names files plan_is limits_is (asked.plan day plan limits) ask name (inl same) =
    subst (λ v. IsSome (files v)) (third_same _ _ (codes "p2.xml") _ _ _ plan _ ask.words_are ∙ sym same) plan_is
plan_names files plan_is limits_is (asked.plan day plan limits) ask name (inr same) =
    subst (λ v. IsSome (files v)) (fourth_same _ _ _ (codes "l2.toml") _ _ _ limits ask.words_are ∙ sym same) limits_is
plan_names files plan_is limits_is (asked.drop day) ask name file = absurd file
plan_names files plan_is limits_is (asked.add run) ask name file = absurd file
plan_names files plan_is limits_is (asked.change run) ask name file = absurd file
plan_names files plan_is limits_is (asked.withdraw who when) ask name file = absurd file
plan_names files plan_is limits_is (asked.load table) ask name file =
    let same = head_same (codes "plan") (codes "load") _ _ ask.words_are in cc
plan_names files plan_is limits_is (asked.opening table) ask name file =
    let same = head_same (codes "plan") (codes "open") _ _ ask.words_are in cc
plan_names files plan_is limits_is asked.report ask name file = absurd file
plan_names files plan_is limits_is asked.work ask name file = absurd file
plan_names files plan_is limits_is (asked.trace who when) ask name file = absurd file
plan_names files plan_is limits_is (asked.filing month) ask name file = absurd file
plan_names files plan_is limits_is asked.owed ask name file = absurd file
plan_names files plan_is limits_is (asked.trial day plan limits) ask name file =
    let same = head_same (codes "plan") (codes "try") _ _ ask.words_are in cc

words_of-plan : words_in_line plan_line ≡ plan_words
words_of-plan = refl

plan_there : (files : FileMap) → IsSome (files (codes "p2.xml")) → IsSome (files (codes "l2.toml")) →
    AreThere files plan_line
plan_there files plan_is limits_is = λ name names.
    plan_names files plan_is limits_is names.what (subst (λ v. Ask v names.what) words_of-plan (names.is_line).ask) name
    names.is_file

-- each line of a sample names files that are there
pub sample_there : (employees : ℕ) → employees ≤ 200 → All (λ line. AreThere sample_files line) (sample_lines employees)
sample_there employees few =
    each_line (λ line. AreThere sample_files line) employees few (plan_there sample_files refl refl)
    (λ employee month e m. add_there sample_files employee month) (λ employee e. change_there sample_files employee)
    (report_there sample_files)

-- so it is over files that hold these texts
pub sample_there_in : (named : List (List ℕ × List ℕ)) (employees : ℕ) → employees ≤ 200 → named ≡ named_texts →
    All (λ line. AreThere (file_named named) line) (sample_lines employees)
sample_there_in named employees few same =
    subst (λ v. All (λ line. AreThere (file_named v) line) (sample_lines employees)) (sym same) (sample_there employees few)
