-- What the machine has read after some tokens of a line.
use Rattle.std.proofs.Common.{◌≡◌, ℕ, ◌+◌, ◌≤◌, Option, Some, None, List, [], ◌∷◌, ◌++◌, false, refl, sym, ap, subst, ◌∙◌, append_assoc, arith}
use Rattle.std.proofs.lemmas.List.{append-nil}
use Rattle.pap_tree.specs.Tokens.{Token}
use Rattle.pap_tree.specs.Grammar as grammar
use Rattle.pap_tree.specs.Grammar.{Item, Line, LineMeaning, Way}
use Rattle.pap_tree.specs.Texts as texts
use Rattle.pap_tree.specs.Texts.{Derives}
use Rattle.pap_tree.specs.Fronts.{Front, IsFront}
use Rattle.expr_grammar.specs.Lines as lines
use Rattle.expr_grammar.specs.Lines.{IsWholeLine}
use Rattle.expr_grammar.specs.Machine.{State, Want, Have, Named, Due, Member, Static, ScaleDue, Parting, Moding, Moded, Naming, Signed, Minus, ValuedInt, ValuedPoint, Settling, Listing, Listed, Done, level_of, step, finish, steps, first_state}
use Rattle.std.specs.Prelude.{option_and_then}
use Rattle.expr_grammar.proofs.Holes.{clashes}
use Rattle.expr_grammar.proofs.Handles as handles
use Rattle.expr_grammar.proofs.Handles.{Suits, after}
use Rattle.expr_grammar.proofs.Forward.{goes, Reaches, reaches, some_is, steps_then, one_step}
use Rattle.expr_grammar.proofs.Spelled.{Spelled}
use Rattle.expr_grammar.proofs.SpelledFronts.{is_front}
use Rattle.expr_grammar.proofs.WantSteps.{want_steps}
use Rattle.expr_grammar.proofs.HaveSteps.{have_steps, named_steps, have_text, named_text}
use Rattle.expr_grammar.proofs.ConstantSteps.{signed_steps, minus_steps, int_steps, point_steps, settling_steps, listing_steps, listed_steps}
use Rattle.expr_grammar.proofs.CallSteps.{due_steps, member_steps, static_steps, scale_steps, comma_steps, mode_steps, moded_steps, naming_steps}

pub step_spelled : (line : Line) (s : State) (t : Token) (r : State) (a : List Token) → Spelled line s a → step s t ≡ Some r → Spelled line r (a ++ (t ∷ []))
step_spelled line (Want k) t r a h e = want_steps line k t r a h e
step_spelled line (Have x k) t r a h e = have_steps line x k t r a h e
step_spelled line (Named w k) t r a h e = named_steps line w k t r a h e
step_spelled line (Due n u s) t r a h e = due_steps line n u s t r a h e
step_spelled line (Member x k) t r a h e = member_steps line x k t r a h e
step_spelled line (Static k) t r a h e = static_steps line k t r a h e
step_spelled line (ScaleDue j) t r a h e = scale_steps line j t r a h e
step_spelled line (Parting q s k) t r a h e = comma_steps line q s k t r a h e
step_spelled line (Moding q s k) t r a h e = mode_steps line q s k t r a h e
step_spelled line (Moded o q s k) t r a h e = moded_steps line o q s k t r a h e
step_spelled line Naming t r a h e = naming_steps line t r a h e
step_spelled line (Signed s) t r a h e = signed_steps line s t r a h e
step_spelled line (Minus s) t r a h e = minus_steps line s t r a h e
step_spelled line (ValuedInt i o) t r a h e = int_steps line i o t r a h e
step_spelled line (ValuedPoint d o) t r a h e = point_steps line d o t r a h e
step_spelled line (Settling o) t r a h e = settling_steps line o t r a h e
step_spelled line (Listing ds) t r a h e = listing_steps line ds t r a h e
step_spelled line (Listed ds) t r a h e = listed_steps line ds t r a h e
step_spelled line (Done x) t r a h e = absurd cc

-- At the end what was read is a text.
pub finish_text : (line : Line) (s : State) (x : LineMeaning) (a : List Token) → Spelled line s a → finish s ≡ Some x → Derives line a x
finish_text line (Have y k) x a h e = have_text line y k x a h e
finish_text line (Named w k) x a h e = named_text line w k x a h e
finish_text line (Done y) x a h e = let f : y ≡ x = cc in subst (λ x. Derives line a x) f h
finish_text line s x a h e = absurd cc

-- ---- from the first_state

pub start_spelled : (line : Line) → IsWholeLine line → Spelled line (first_state line) []
start_spelled line lines.a_test = (refl, refl)
start_spelled line lines.an_assignment = (refl, refl)
start_spelled line lines.a_constant = (refl, refl)

start_suits : (line : Line) → IsWholeLine line → Suits line (first_state line)
start_suits line lines.a_test = handles.expression 0 [] (omega arith)
start_suits line lines.an_assignment = handles.an_assignment
start_suits line lines.a_constant = handles.a_constant

start_clear : (line : Line) → IsWholeLine line → (a : List Token) → clashes (first_state line) a ≡ false
start_clear line lines.a_test a = refl
start_clear line lines.an_assignment a = refl
start_clear line lines.a_constant a = refl

way_end : (line : Line) → IsWholeLine line → {way : List Item} {x : LineMeaning} → Way line way x → finish (after (first_state line) x) ≡ Some x
way_end line lines.a_test (grammar.choose c a b) = refl
way_end line lines.a_test (grammar.tighter n x h) = refl
way_end line lines.a_test (grammar.operation n o x y e) = refl
way_end line lines.an_assignment (grammar.assign x e h) = refl
way_end line lines.an_assignment (grammar.assign_ended x e h) = refl
way_end line lines.a_constant (grammar.big_constant d) = refl
way_end line lines.a_constant (grammar.number_constant f l) = refl
way_end line lines.a_constant (grammar.table_constant ds) = refl

-- A text of a line ends with what it stands for.
pub text_ends : (line : Line) → IsWholeLine line → (a : List Token) (x : LineMeaning) (s : State) → Derives line a x → steps (first_state line) a ≡ Some s → finish s ≡ Some x
text_ends line w a x s (texts.by way v h) e =
    let g = goes (texts.by way v h) (first_state line) (start_suits line w) (start_clear line w a) in
    let same : g.to ≡ s = some_is g.to s (sym g.run ∙ e) in
    ap finish (sym same) ∙ g.same.end ∙ way_end line w v

pub text_runs : (line : Line) → IsWholeLine line → (a : List Token) (x : LineMeaning) → Derives line a x → (s : State) × (steps (first_state line) a ≡ Some s)
text_runs line w a x h = let g = goes h (first_state line) (start_suits line w) (start_clear line w a) in (g.to, g.run)

through_spelled : (o : Option State) (b : List Token) (r : State) (P : State → Type 0) → ((x : State) → o ≡ Some x → steps x b ≡ Some r → P r) → option_and_then (λ x. steps x b) o ≡ Some r → P r
through_spelled None b r P h e = absurd cc
through_spelled (Some x) b r P h e = h x refl e

spelled_on : (line : Line) (b a : List Token) (s r : State) → Spelled line s a → steps s b ≡ Some r → Spelled line r (a ++ b)
spelled_on line [] a s r h e = subst (λ a. Spelled line r a) (sym (append-nil a)) (subst (λ s. Spelled line s a) (some_is s r e) h)
spelled_on line (t ∷ b) a s r h e = through_spelled (step s t) b r (λ r. Spelled line r (a ++ (t ∷ b)))
    (λ x f g. subst (λ a. Spelled line r a) (append_assoc a (t ∷ []) b) (spelled_on line b (a ++ (t ∷ [])) x r (step_spelled line s t x a h f) g)) e

pub spelled : (line : Line) → IsWholeLine line → (a : List Token) (s : State) → steps (first_state line) a ≡ Some s → Spelled line s a
spelled line w a s e = spelled_on line a [] (first_state line) s (start_spelled line w) e

-- ---- the state before the last token

pub record Before (line : Line) (a : List Token) (t : Token) (s : State) : Type 0 where
  pub state : State
  pub run : steps (first_state line) a ≡ Some state
  pub last : step state t ≡ Some s

record Prior (r : State) (a : List Token) (t : Token) (s : State) : Type 0 where
  state : State
  run : steps r a ≡ Some state
  last : step state t ≡ Some s

one_of : (o : Option State) (s : State) → option_and_then (λ x. steps x []) o ≡ Some s → o ≡ Some s
one_of None s e = e
one_of (Some x) s e = e

through_prior : (o : Option State) (u : Token) (r : State) (a : List Token) (t : Token) (s : State) → ((x : State) → steps x (a ++ (t ∷ [])) ≡ Some s → Prior x a t s)
    → step r u ≡ o → option_and_then (λ x. steps x (a ++ (t ∷ []))) o ≡ Some s → Prior r (u ∷ a) t s
through_prior None u r a t s h f e = absurd cc
through_prior (Some x) u r a t s h f e = let p = h x e in record { state = p.state; run = one_step r u a x f ∙ p.run; last = p.last }

prior : (a : List Token) (r : State) (t : Token) (s : State) → steps r (a ++ (t ∷ [])) ≡ Some s → Prior r a t s
prior [] r t s e = record { state = r; run = refl; last = one_of (step r t) s e }
prior (u ∷ a) r t s e = through_prior (step r u) u r a t s (λ x. prior a x t s) refl e

pub before_last : (line : Line) (a : List Token) (t : Token) (s : State) → steps (first_state line) (a ++ (t ∷ [])) ≡ Some s → Before line a t s
before_last line a t s e = let p = prior a (first_state line) t s e in record { state = p.state; run = p.run; last = p.last }

-- ---- fronts

pub step_last : (line : Line) (a : List Token) (t : Token) (s r : State) → steps (first_state line) a ≡ Some s → step s t ≡ Some r → steps (first_state line) (a ++ (t ∷ [])) ≡ Some r
step_last line a t s r e f = steps_then (first_state line) a (t ∷ []) s e ∙ one_step s t [] r f

-- what the machine reads is a front
pub machine_front : (line : Line) → IsWholeLine line → (a : List Token) (s : State) → steps (first_state line) a ≡ Some s → IsFront line a
machine_front line w a s e = let f = is_front line s a (spelled line w a s e) in (level_of s, f.0, f.1)

-- and a front is read by it
pub front_reaches : (line : Line) → IsWholeLine line → (a : List Token) (n : ℕ) (i : Option Item) → Front line a n i → Reaches (first_state line) a n i
front_reaches line w a n i h = reaches h (first_state line) (start_suits line w) (start_clear line w a)

-- ---- beginnings

through_first : (o : Option State) (a b : List Token) (r : State) → ((x : State) → steps x (a ++ b) ≡ Some r → (q : State) × (steps x a ≡ Some q)) → option_and_then (λ x. steps x (a ++ b)) o ≡ Some r
    → (q : State) × (option_and_then (λ x. steps x a) o ≡ Some q)
through_first None a b r h e = absurd cc
through_first (Some x) a b r h e = h x e

-- what is read of a list is read of its beginning
steps_first : (a b : List Token) (s r : State) → steps s (a ++ b) ≡ Some r → (q : State) × (steps s a ≡ Some q)
steps_first [] b s r e = (s, refl)
steps_first (t ∷ a) b s r e = through_first (step s t) a b r (λ x. steps_first a b x r) e

pub front_front : (line : Line) → IsWholeLine line → (a b : List Token) → IsFront line (a ++ b) → IsFront line a
front_front line w a b (n, i, h) =
    let g = front_reaches line w (a ++ b) n i h in
    let q = steps_first a b (first_state line) g.to g.run in
    machine_front line w a q.0 q.1

pub text_begins : (line : Line) → IsWholeLine line → (a b : List Token) (x : LineMeaning) → Derives line (a ++ b) x → IsFront line a
text_begins line w a b x h =
    let (s, e) = text_runs line w (a ++ b) x h in
    let q = steps_first a b (first_state line) s e in
    machine_front line w a q.0 q.1

pub front_run : (line : Line) → IsWholeLine line → (a : List Token) → IsFront line a → (s : State) × (steps (first_state line) a ≡ Some s)
front_run line w a (n, i, h) = let g = front_reaches line w a n i h in (g.to, g.run)

-- the levels of a state are the most that are open
pub most_open : (line : Line) → IsWholeLine line → (a : List Token) (s : State) → steps (first_state line) a ≡ Some s → (n : ℕ) (i : Option Item) → Front line a n i → n ≤ level_of s
most_open line w a s e n i h =
    let g = front_reaches line w a n i h in
    let d : n + level_of (first_state line) ≤ level_of s = subst (λ q. n + level_of (first_state line) ≤ level_of q) (some_is g.to s (sym g.run ∙ e)) g.deep in
    omega (arith, d)

pub so_open : (line : Line) → IsWholeLine line → (a : List Token) (s : State) → steps (first_state line) a ≡ Some s → (i : Option Item) × Front line a (level_of s) i
so_open line w a s e = is_front line s a (spelled line w a s e)
