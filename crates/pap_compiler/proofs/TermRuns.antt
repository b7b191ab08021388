-- The code of an expression puts its value on the stack, in exactly its cost.
use Rattle.std.proofs.Common.{◌≡◌, ◌≢◌, ℕ, zero, suc, ◌+◌, ◌≤◌, List, [], ◌∷◌, ◌++◌, length, map, Bool, true, false, Option, Some, None, if◌then◌else◌, refl, sym, ap, ◌∙◌, subst, arith, ◌⊎◌, inl, inr}
use Rattle.std.specs.Prelude.{slice_get, not, ℤ, pos, negsuc, unwrap_or}
use Rattle.std.specs.List.{All}
use Rattle.std.specs.Option.{option_map, option_or, option_and_then}
use Rattle.scaled_decimal.specs.Decimals.{Decimal, decimal, numerator_of}
use Rattle.scaled_decimal.specs.ShortenedDecimals.{shortened}
use Rattle.scaled_decimal.specs.WholeNumbers.{truth, item_at}
use Rattle.pap_tree.specs.declared.expression.Binary.TheVariants as binaries
use Rattle.pap_tree.specs.Term.{whole, long, point, text, known, named, Term, leaf, item, one, two, choice, One, value_of, Two, operator}
use Rattle.pap_tree.specs.Grammar.{known_value}
use Rattle.pap_tree.specs.Declarations.{Declaration}
use Rattle.pap_types.specs.Scopes.{Scope, declared_as, names_of, constant_in, declared_table, table_in, zero as zero_decimal}
use Rattle.pap_types.specs.Kinds.{kind_of, is_truth}
use Rattle.pap_types.specs.Operations.{is_zero, of_one, of_two, fewest_places}
use Rattle.pap_types.specs.Values.{Env, value, named_value, cost, goes_right}
use Rattle.pap_types.specs.Safety.{IsSafe}
use Rattle.pap_machine.specs.declared.code.Instr.{Instr}
use Rattle.pap_machine.specs.declared.code.Instr.TheVariants as i
use Rattle.pap_machine.specs.Code.{Program}
use Rattle.pap_machine.specs.Machine.{MachineState, machine_state, gone, Performs, Leads}
use Rattle.pap_machine.specs.Operations.{HasScaleZero, IsItem}
use Rattle.pap_machine.proofs.Laws.{leads_one, leads_on, puts, found, branches}
use Rattle.pap_compiler.specs.Heights.{term_height, right_height}
use Rattle.pap_compiler.specs.CodeDecisions.{term_length, term_code, operand_code, instr_of_one, instr_of_two, name_code, table_number}
use Rattle.pap_compiler.proofs.CodeLemmas.{HasAt, has_front, has_back, length_term, length_operand}
use Rattle.pap_types.specs.Typing.{IsTypedTerm, HasItsType, AreDistinct}
use Rattle.pap_compiler.proofs.NameLemmas.{AreHeld, looked, values_of, number_is, place_of, stands_at, no_number}
use Rattle.pap_compiler.proofs.KindLemmas.{both_true, and_then_some, map_some, some_is, int_whole, truth_of, whole_of}
use Rattle.pap_compiler.proofs.DivisorLemmas.{divisor_shown}
use Rattle.pap_compiler.proofs.OperationLemmas.{operand_value, one_leaves, two_leaves}

-- ---- tables

front_get : {A : Type 0} (xs ys : List A) (k : ℕ) (a : A) → slice_get xs k ≡ Some a → slice_get (xs ++ ys) k ≡ Some a
front_get [] ys k a e = absurd (cc)
front_get (x ∷ xs) ys zero a e = e
front_get (x ∷ xs) ys (suc k) a e = front_get xs ys k a e

back_get : {A : Type 0} (xs ys : List A) (k : ℕ) → slice_get (xs ++ ys) (length xs + k) ≡ slice_get ys k
back_get [] ys k = let n : 0 + k ≡ k = omega arith in ap (slice_get ys) n
back_get (x ∷ xs) ys k = let n : length (x ∷ xs) + k ≡ suc (length xs + k) = omega arith in ap (slice_get (x ∷ (xs ++ ys))) n ∙ back_get xs ys k

map_joined : {A B : Type 0} (f : A → B) (xs ys : List A) → map f (xs ++ ys) ≡ map f xs ++ map f ys
map_joined f [] ys = refl
map_joined f (x ∷ xs) ys = ap (λ l. f x ∷ l) (map_joined f xs ys)

map_length : {A B : Type 0} (f : A → B) (xs : List A) → length (map f xs) ≡ length xs
map_length f [] = refl
map_length f (x ∷ xs) = ap suc (map_length f xs)

-- the tables of all declared names
abbrev pub tables_of : Scope → List (List Decimal)
tables_of scope = map (λ d. declared_table d.value) (scope.variables ++ scope.constants)

no_item : (n : ℤ) (d : Decimal) → item_at [] n ≡ Some d → ⊥
no_item (pos n) d e = cc
no_item (negsuc n) d e = cc

-- a table that has an item stands at its number
table_there : (scope : Scope) (x : List ℕ) (n : ℤ) (d : Decimal) → item_at (table_in scope x) n ≡ Some d → slice_get (tables_of scope) (table_number scope x) ≡ Some (table_in scope x)
table_there scope x n d e = rw (number_is (names_of scope.variables) x, number_is (names_of scope.constants) x) (of_variable (declared_as scope.variables x) refl)
  where
    of_constant : (o : Option Declaration) → declared_as scope.variables x ≡ None → declared_as scope.constants x ≡ o → slice_get (tables_of scope) (unwrap_or (option_or (place_of (names_of scope.variables) x) (option_map (λ k. length scope.variables + k) (place_of (names_of scope.constants) x))) 0) ≡ Some (table_in scope x)
    of_constant None v c = absurd (no_item n d (rw (v, c) at e))
    of_constant (Some a) v c =
        let s = stands_at (λ d. declared_table d.value) scope.constants x a c in
        let vs = map (λ d. declared_table d.value) scope.variables in
        let cs = map (λ d. declared_table d.value) scope.constants in
        let l : length scope.variables + s.0 ≡ length vs + s.0 = ap (λ m. m + s.0) (sym (map_length (λ d. declared_table d.value) scope.variables)) in
        rw (no_number scope.variables x v, s.1.0, v, c) (ap (λ l. slice_get l (length scope.variables + s.0)) (map_joined (λ d. declared_table d.value) scope.variables scope.constants) ∙ ap (slice_get (vs ++ cs)) l ∙ back_get vs cs s.0 ∙ s.1.1)

    of_variable : (o : Option Declaration) → declared_as scope.variables x ≡ o → slice_get (tables_of scope) (unwrap_or (option_or (place_of (names_of scope.variables) x) (option_map (λ k. length scope.variables + k) (place_of (names_of scope.constants) x))) 0) ≡ Some (table_in scope x)
    of_variable None v = of_constant (declared_as scope.constants x) v refl
    of_variable (Some a) v =
        let s = stands_at (λ d. declared_table d.value) scope.variables x a v in
        let vs = map (λ d. declared_table d.value) scope.variables in
        let cs = map (λ d. declared_table d.value) scope.constants in
        rw (s.1.0, v) (ap (λ l. slice_get l s.0) (map_joined (λ d. declared_table d.value) scope.variables scope.constants) ∙ front_get vs cs s.0 (declared_table a.value) s.1.1)

-- ---- what the code of an expression needs

pub record IsReady (scope : Scope) (p : Program) (env : Env) : Type 0 where
  pub tables : p.tables ≡ tables_of scope
  pub held : AreHeld scope.variables env
  pub types : All HasItsType scope.constants
  pub distinct : AreDistinct (names_of (scope.variables ++ scope.constants))

module _ (scope : Scope) (p : Program) (env : Env) (calls : List ℕ) (ready : IsReady scope p env) where
  abbrev pub at_state : ℕ → List Decimal → MachineState
  at_state pc stack = machine_state pc stack (values_of env) calls

  -- the expression's code stands at the place: it puts the value on the stack
  abbrev pub Gives : Term → ℕ → Type 0
  Gives t at = (stack : List Decimal) (d : Decimal) → length stack + term_height t ≤ p.height → IsSafe scope t env → value scope t env ≡ Some d →
      Leads p (cost scope t env) (at_state at stack) (at_state (at + term_length t) (d ∷ stack))

  -- one more instruction
  then_one : (n pc to : ℕ) (s : MachineState) (old new : List Decimal) (j : Instr) → slice_get p.instrs pc ≡ Some j → Performs p j (at_state pc old) (at_state (pc + 1) new) → pc + 1 ≡ to → Leads p n s (at_state pc old) → Leads p (n + 1) s (at_state to new)
  then_one n pc to s old new j has does place f =
      subst (λ q. Leads p (n + 1) s (at_state q new)) place (leads_on p n 1 s (at_state pc old) (at_state (pc + 1) new) f (leads_one p (at_state pc old) (at_state (pc + 1) new) j has does))

  as_cost : (m n : ℕ) (s t : MachineState) → m ≡ n → Leads p m s t → Leads p n s t
  as_cost m n s t e f = subst (λ k. Leads p k s t) e f

  -- ---- leaves

  literal : (at : ℕ) (v d : Decimal) (stack : List Decimal) → Some v ≡ Some d → length stack + 1 ≤ p.height → slice_get p.instrs at ≡ Some (i.Lit v) → Leads p 1 (at_state at stack) (at_state (at + 1) (d ∷ stack))
  literal at v d stack same room has =
      leads_one p (at_state at stack) (at_state (at + 1) (d ∷ stack)) (i.Lit v) has
      (puts at (values_of env) calls p.height (λ e. e ≡ v) d stack (omega (arith, room)) (sym (some_is v d same)))

  name : (x : List ℕ) (at : ℕ) (d : Decimal) (stack : List Decimal) → named_value scope x env ≡ Some d → length stack + 1 ≤ p.height → slice_get p.instrs at ≡ Some (name_code scope x) → Leads p 1 (at_state at stack) (at_state (at + 1) (d ∷ stack))
  name x at d stack v room has = elim (looked scope.variables env x ready.held) [
    | inl m ↦ (let has' : slice_get p.instrs at ≡ Some (i.Lit (unwrap_or (constant_in scope x) zero_decimal)) = has ∙ ap Some (rw (number_is, m.number) refl) in
        let v' : constant_in scope x ≡ Some d = rw m.looks at v in
        literal at (unwrap_or (constant_in scope x) zero_decimal) d stack (ap (λ o. Some (unwrap_or o zero_decimal)) v') room has')
    | inr f ↦ (let has' : slice_get p.instrs at ≡ Some (i.Load f.at) = has ∙ ap Some (rw (number_is, f.number) refl) in
        let v' : Some f.value ≡ Some d = rw f.looks at v in
        leads_one p (at_state at stack) (at_state (at + 1) (d ∷ stack)) (i.Load f.at) has'
        (puts at (values_of env) calls p.height (λ e. slice_get (values_of env) f.at ≡ Some e) d stack (omega (arith, room)) (f.there ∙ v')))
  ]

  -- ---- one operand

  operand : (op : One) (e : Term) (at : ℕ) → HasAt p.instrs at (operand_code op e (term_code scope at e)) → (HasAt p.instrs at (term_code scope at e) → Gives e at) →
      (stack : List Decimal) (a : Decimal) → length stack + term_height e ≤ p.height → IsSafe scope e env → value scope e env ≡ Some a → Leads p (cost scope e env) (at_state at stack) (at_state (at + term_length e) (operand_value op e a ∷ stack))
  operand value_of (leaf (point d)) at has gives stack a room safe v = literal at (shortened fewest_places d) (shortened fewest_places d) stack refl room has.0
  operand op e at has gives stack a room safe v = gives has stack a room safe v

  one_gives : (op : One) (e : Term) (at : ℕ) → IsTypedTerm scope (one op e) → HasAt p.instrs at (term_code scope at (one op e)) → (HasAt p.instrs at (term_code scope at e) → Gives e at) → Gives (one op e) at
  one_gives op e at typed has gives stack d room safe v =
      let k = map_some (of_one op e) (value scope e env) d v in
      let code = operand_code op e (term_code scope at e) in
      let behind = has_back p.instrs at (term_length e) code (instr_of_one op ∷ []) (length_operand op e (term_code scope at e) (length_term scope e at)) has in
      let first = operand op e at (has_front p.instrs at code (instr_of_one op ∷ []) has) gives stack k.0 room safe.0 k.1.0 in
      let last = one_leaves scope p (at + term_length e) (values_of env) calls stack op e (kind_of scope e) k.0 typed.1 (λ w. whole_of scope env ready.held ready.types e k.0 typed.0 w k.1.0) (λ t. truth_of scope env e k.0 typed.0 t k.1.0) (safe.1 k.0 k.1.0) in
      subst (λ x. Leads p (cost scope e env + 1) (at_state at stack) (at_state (at + (term_length e + 1)) (x ∷ stack))) k.1.1
      (then_one (cost scope e env) (at + term_length e) (at + (term_length e + 1)) (at_state at stack) (operand_value op e k.0 ∷ stack) (of_one op e k.0 ∷ stack) (instr_of_one op) behind.0 last (omega arith) first)

  item_gives : (x : List ℕ) (e : Term) (at : ℕ) → IsTypedTerm scope (item x e) → Gives e at → slice_get p.instrs (at + term_length e) ≡ Some (i.Item (table_number scope x)) → Gives (item x e) at
  item_gives x e at typed gives has stack d room safe v =
      let k = and_then_some (λ n. item_at (table_in scope x) (numerator_of n)) (value scope e env) d v in
      let number : HasScaleZero k.0 = whole_of scope env ready.held ready.types e k.0 typed.0 (int_whole (kind_of scope e) typed.1.index) k.1.0 in
      let there : slice_get p.tables (table_number scope x) ≡ Some (table_in scope x) = ap (λ l. slice_get l (table_number scope x)) ready.tables ∙ table_there scope x (numerator_of k.0) d k.1.1 in
      let is : IsItem p.tables (table_number scope x) k.0 d = record { number = number; table = table_in scope x; there = there; item = k.1.1 } in
      then_one (cost scope e env) (at + term_length e) (at + (term_length e + 1)) (at_state at stack) (k.0 ∷ stack) (d ∷ stack) (i.Item (table_number scope x)) has
      (found (at + term_length e) (values_of env) calls (IsItem p.tables (table_number scope x)) k.0 d stack is) (omega arith) (gives stack k.0 room safe k.1.0)

  -- ---- two operands

  -- the operands of an operation that evaluates both
  record AreBoth (op : Two) (e f : Term) (d : Decimal) : Type 0 where
    left : Decimal
    left_is : value scope e env ≡ Some left
    right : Decimal
    right_is : value scope f env ≡ Some right
    result : of_two op left right ≡ Some d

  both : (op : Two) (e f : Term) (d : Decimal) → ((a : Decimal) → goes_right op a ≡ true) → value scope (two op e f) env ≡ Some d → AreBoth op e f d
  both op e f d goes v =
      let k = and_then_some (λ a. if goes_right op a then option_and_then (λ b. of_two op a b) (value scope f env) else Some a) (value scope e env) d v in
      let g : option_and_then (λ b. of_two op k.0 b) (value scope f env) ≡ Some d = subst (λ t. (if t then option_and_then (λ b. of_two op k.0 b) (value scope f env) else Some k.0) ≡ Some d) (goes k.0) k.1.1 in
      let l = and_then_some (λ b. of_two op k.0 b) (value scope f env) d g in
      record { left = k.0; left_is = k.1.0; right = l.0; right_is = l.1.0; result = l.1.1 }

  both_cost : (op : Two) (e f : Term) (a : Decimal) → value scope e env ≡ Some a → goes_right op a ≡ true → cost scope e env + cost scope f env + 1 ≡ cost scope (two op e f) env
  both_cost op e f a v goes = rw (v, goes) refl

  two_gives : (op : Two) (e f : Term) (at : ℕ) → ((a : Decimal) → goes_right op a ≡ true) → op ≢ operator binaries.And → op ≢ operator binaries.Or → (right_height op (term_height f) ≡ term_height f + 1) → IsTypedTerm scope (two op e f) →
      Gives e at → Gives f (at + term_length e) → slice_get p.instrs (at + term_length e + term_length f) ≡ Some (instr_of_two scope op f) → Gives (two op e f) at
  two_gives op e f at goes nand nor high typed ge gf has stack d room safe v =
      let k = both op e f d goes v in
      let s = safe.1 k.left k.left_is (goes k.left) in
      let first = ge stack k.left (omega (arith, room)) safe.0 k.left_is in
      let second = gf (k.left ∷ stack) k.right (omega (arith, room, high)) s.0 k.right_is in
      let last = two_leaves scope p (at + term_length e + term_length f) (values_of env) calls stack op e f (kind_of scope e) (kind_of scope f) k.left k.right d typed.2 (λ w. whole_of scope env ready.held ready.types e k.left typed.0 w k.left_is) (λ w. whole_of scope env ready.held ready.types f k.right typed.1 w k.right_is)
      (λ h. let n = divisor_shown scope env ready.held ready.types ready.distinct f k.right h k.right_is in (n.number, n.plain)) nand nor (s.1 k.right k.right_is) k.result in
      as_cost (cost scope e env + cost scope f env + 1) (cost scope (two op e f) env) (at_state at stack) (at_state (at + term_length (two op e f)) (d ∷ stack)) (both_cost op e f k.left k.left_is (goes k.left))
      (then_one (cost scope e env + cost scope f env) (at + term_length e + term_length f) (at + term_length (two op e f)) (at_state at stack) (k.right ∷ k.left ∷ stack) (d ∷ stack) (instr_of_two scope op f) has last (omega arith)
      (leads_on p (cost scope e env) (cost scope f env) (at_state at stack) (at_state (at + term_length e) (k.left ∷ stack)) (at_state (at + term_length e + term_length f) (k.right ∷ k.left ∷ stack)) first second))

  -- && and ||: the right operand is evaluated where the left one has a certain truth, and is then the value
  module _ (op : Two) (w : Bool) (goes : (b : Bool) → b ≡ w → goes_right op (truth b) ≡ true) (stays : (b : Bool) → b ≡ not w → goes_right op (truth b) ≡ false) (gives : (a b : Decimal) → of_two op a b ≡ Some b) (high : (n : ℕ) → right_height op n ≡ n) where
    -- the instruction between the operands
    record Skips (j : Instr) (pc to : ℕ) : Type 0 where
      on : (b : Bool) (stack : List Decimal) → b ≡ w → Performs p j (at_state pc (truth b ∷ stack)) (at_state (pc + 1) stack)
      over : (b : Bool) (stack : List Decimal) → b ≡ not w → Performs p j (at_state pc (truth b ∷ stack)) (at_state to (truth b ∷ stack))

    joined_gives : (e f : Term) (at : ℕ) (j : Instr) → Skips j (at + term_length e) (at + term_length e + 1 + term_length f) → IsTypedTerm scope e → is_truth (kind_of scope e) ≡ true → Gives e at → Gives f (at + term_length e + 1) → slice_get p.instrs (at + term_length e) ≡ Some j → Gives (two op e f) at
    joined_gives e f at j skips typed kind ge gf has stack d room safe v =
        let k = and_then_some (λ a. if goes_right op a then option_and_then (λ b. of_two op a b) (value scope f env) else Some a) (value scope e env) d v in
        let t = truth_of scope env e k.0 typed kind k.1.0 in
        let is : value scope e env ≡ Some (truth t.0) = k.1.0 ∙ ap Some t.1 in
        let first = ge stack (truth t.0) (omega (arith, room)) safe.0 is in
        let rest = subst (λ a. (if goes_right op a then option_and_then (λ b. of_two op a b) (value scope f env) else Some a) ≡ Some d) t.1 k.1.1 in
        either t.0 is first rest (cases t.0 w)
      where
        cases : (b w : Bool) → (b ≡ w) ⊎ (b ≡ not w)
        cases true true = inl refl
        cases true false = inr refl
        cases false true = inr refl
        cases false false = inl refl

        either : (b : Bool) → value scope e env ≡ Some (truth b) → Leads p (cost scope e env) (at_state at stack) (at_state (at + term_length e) (truth b ∷ stack)) → (if goes_right op (truth b) then option_and_then (λ c. of_two op (truth b) c) (value scope f env) else Some (truth b)) ≡ Some d → (b ≡ w) ⊎ (b ≡ not w) → Leads p (cost scope (two op e f) env) (at_state at stack) (at_state (at + term_length (two op e f)) (d ∷ stack))
        either b is first rest (inl same) =
            let right : option_and_then (λ c. of_two op (truth b) c) (value scope f env) ≡ Some d = subst (λ t. (if t then option_and_then (λ c. of_two op (truth b) c) (value scope f env) else Some (truth b)) ≡ Some d) (goes b same) rest in
            let k = and_then_some (λ c. of_two op (truth b) c) (value scope f env) d right in
            let y : k.0 ≡ d = some_is k.0 d (sym (gives (truth b) k.0) ∙ k.1.1) in
            let on = leads_one p (at_state (at + term_length e) (truth b ∷ stack)) (at_state (at + term_length e + 1) stack) j has (skips.on b stack same) in
            let run = gf stack d (omega (arith, room, high (term_height f))) (safe.1 (truth b) is (goes b same)).0 (k.1.0 ∙ ap Some y) in
            let n : cost scope e env + 1 + cost scope f env ≡ cost scope (two op e f) env = rw (is, goes b same) (omega arith) in
            let place : at + term_length e + 1 + term_length f ≡ at + term_length (two op e f) = omega arith in
            subst (λ q. Leads p (cost scope (two op e f) env) (at_state at stack) (at_state q (d ∷ stack))) place
            (as_cost (cost scope e env + 1 + cost scope f env) (cost scope (two op e f) env) (at_state at stack) (at_state (at + term_length e + 1 + term_length f) (d ∷ stack)) n
            (leads_on p (cost scope e env + 1) (cost scope f env) (at_state at stack) (at_state (at + term_length e + 1) stack) (at_state (at + term_length e + 1 + term_length f) (d ∷ stack))
            (leads_on p (cost scope e env) 1 (at_state at stack) (at_state (at + term_length e) (truth b ∷ stack)) (at_state (at + term_length e + 1) stack) first on) run))
        either b is first rest (inr other) =
            let left : Some (truth b) ≡ Some d = subst (λ t. (if t then option_and_then (λ c. of_two op (truth b) c) (value scope f env) else Some (truth b)) ≡ Some d) (stays b other) rest in
            let over = leads_one p (at_state (at + term_length e) (truth b ∷ stack)) (at_state (at + term_length e + 1 + term_length f) (truth b ∷ stack)) j has (skips.over b stack other) in
            let n : cost scope e env + 1 ≡ cost scope (two op e f) env = rw (is, stays b other) (omega arith) in
            let place : at + term_length e + 1 + term_length f ≡ at + term_length (two op e f) = omega arith in
            subst (λ x. Leads p (cost scope (two op e f) env) (at_state at stack) (at_state (at + term_length (two op e f)) (x ∷ stack))) (some_is (truth b) d left)
            (subst (λ q. Leads p (cost scope (two op e f) env) (at_state at stack) (at_state q (truth b ∷ stack))) place
            (as_cost (cost scope e env + 1) (cost scope (two op e f) env) (at_state at stack) (at_state (at + term_length e + 1 + term_length f) (truth b ∷ stack)) n
            (leads_on p (cost scope e env) 1 (at_state at stack) (at_state (at + term_length e) (truth b ∷ stack)) (at_state (at + term_length e + 1 + term_length f) (truth b ∷ stack)) first over)))

  -- ---- the whole

  choice_gives : (c e f : Term) (at : ℕ) → IsTypedTerm scope c → is_truth (kind_of scope c) ≡ true → Gives c at → Gives e (at + term_length c + 1) → Gives f (at + term_length c + 1 + term_length e + 1) →
      slice_get p.instrs (at + term_length c) ≡ Some (i.JumpFalse (at + term_length c + 1 + term_length e + 1)) → slice_get p.instrs (at + term_length c + 1 + term_length e) ≡ Some (i.Jump (at + term_length c + 1 + term_length e + 1 + term_length f)) → Gives (choice c e f) at
  choice_gives c e f at typed kind gc ge gf h1 h2 stack d room safe v =
      let k = and_then_some (λ t. if is_zero t then value scope f env else value scope e env) (value scope c env) d v in
      let t = truth_of scope env c k.0 typed kind k.1.0 in
      let is : value scope c env ≡ Some (truth t.0) = k.1.0 ∙ ap Some t.1 in
      let first = gc stack (truth t.0) (omega (arith, room)) safe.0 is in
      let rest = subst (λ a. (if is_zero a then value scope f env else value scope e env) ≡ Some d) t.1 k.1.1 in
      by_truth t.0 is first rest
    where
      by_truth : (b : Bool) → value scope c env ≡ Some (truth b) → Leads p (cost scope c env) (at_state at stack) (at_state (at + term_length c) (truth b ∷ stack)) → (if is_zero (truth b) then value scope f env else value scope e env) ≡ Some d → Leads p (cost scope (choice c e f) env) (at_state at stack) (at_state (at + term_length (choice c e f)) (d ∷ stack))
      by_truth true is first rest =
          let to = at + term_length c + 1 + term_length e + 1 in
          let on = leads_one p (at_state (at + term_length c) (truth true ∷ stack)) (at_state (at + term_length c + 1) stack) (i.JumpFalse to) h1
          (branches (at + term_length c) (values_of env) calls (λ b rest. if b then gone (at_state (at + term_length c) (truth true ∷ stack)) (at + term_length c + 1) rest else gone (at_state (at + term_length c) (truth true ∷ stack)) to rest) true stack) in
          let run = ge stack d (omega (arith, room)) ((safe.1 (truth true) is).1 refl) rest in
          let last = leads_one p (at_state (at + term_length c + 1 + term_length e) (d ∷ stack)) (at_state (to + term_length f) (d ∷ stack)) (i.Jump (to + term_length f)) h2 refl in
          let n : cost scope c env + 1 + cost scope e env + 1 ≡ cost scope (choice c e f) env = rw is (omega arith) in
          let place : to + term_length f ≡ at + term_length (choice c e f) = omega arith in
          subst (λ q. Leads p (cost scope (choice c e f) env) (at_state at stack) (at_state q (d ∷ stack))) place
          (as_cost (cost scope c env + 1 + cost scope e env + 1) (cost scope (choice c e f) env) (at_state at stack) (at_state (to + term_length f) (d ∷ stack)) n
          (leads_on p (cost scope c env + 1 + cost scope e env) 1 (at_state at stack) (at_state (at + term_length c + 1 + term_length e) (d ∷ stack)) (at_state (to + term_length f) (d ∷ stack))
          (leads_on p (cost scope c env + 1) (cost scope e env) (at_state at stack) (at_state (at + term_length c + 1) stack) (at_state (at + term_length c + 1 + term_length e) (d ∷ stack))
          (leads_on p (cost scope c env) 1 (at_state at stack) (at_state (at + term_length c) (truth true ∷ stack)) (at_state (at + term_length c + 1) stack) first on) run) last))
      by_truth false is first rest =
          let to = at + term_length c + 1 + term_length e + 1 in
          let off = leads_one p (at_state (at + term_length c) (truth false ∷ stack)) (at_state to stack) (i.JumpFalse to) h1
          (branches (at + term_length c) (values_of env) calls (λ b rest. if b then gone (at_state (at + term_length c) (truth false ∷ stack)) (at + term_length c + 1) rest else gone (at_state (at + term_length c) (truth false ∷ stack)) to rest) false stack) in
          let run = gf stack d (omega (arith, room)) ((safe.1 (truth false) is).0 refl) rest in
          let n : cost scope c env + 1 + cost scope f env ≡ cost scope (choice c e f) env = rw is (omega arith) in
          let place : to + term_length f ≡ at + term_length (choice c e f) = omega arith in
          subst (λ q. Leads p (cost scope (choice c e f) env) (at_state at stack) (at_state q (d ∷ stack))) place
          (as_cost (cost scope c env + 1 + cost scope f env) (cost scope (choice c e f) env) (at_state at stack) (at_state (to + term_length f) (d ∷ stack)) n
          (leads_on p (cost scope c env + 1) (cost scope f env) (at_state at stack) (at_state to stack) (at_state (to + term_length f) (d ∷ stack))
          (leads_on p (cost scope c env) 1 (at_state at stack) (at_state (at + term_length c) (truth false ∷ stack)) (at_state to stack) first off) run))

  -- an operation that evaluates both operands, where its instruction stands behind them
  plain_gives : (op : Two) (e f : Term) (at : ℕ) → ((a : Decimal) → goes_right op a ≡ true) → op ≢ operator binaries.And → op ≢ operator binaries.Or → (right_height op (term_height f) ≡ term_height f + 1) → IsTypedTerm scope (two op e f) →
      HasAt p.instrs at (term_code scope at e ++ (term_code scope (at + term_length e) f ++ instr_of_two scope op f ∷ [])) → (HasAt p.instrs at (term_code scope at e) → Gives e at) → (HasAt p.instrs (at + term_length e) (term_code scope (at + term_length e) f) → Gives f (at + term_length e)) → Gives (two op e f) at
  plain_gives op e f at goes nand nor high typed has ge gf =
      let ce = term_code scope at e in
      let cf = term_code scope (at + term_length e) f in
      let last = instr_of_two scope op f ∷ [] in
      let h1 = has_back p.instrs at (term_length e) ce (cf ++ last) (length_term scope e at) has in
      let h2 = has_back p.instrs (at + term_length e) (term_length f) cf last (length_term scope f (at + term_length e)) h1 in
      two_gives op e f at goes nand nor high typed (ge (has_front p.instrs at ce (cf ++ last) has)) (gf (has_front p.instrs (at + term_length e) cf last h1)) h2.0

  and_goes : (b : Bool) → b ≡ true → goes_right (operator binaries.And) (truth b) ≡ true
  and_goes true e = refl
  and_goes false e = absurd (cc)

  and_stays : (b : Bool) → b ≡ false → goes_right (operator binaries.And) (truth b) ≡ false
  and_stays true e = absurd (cc)
  and_stays false e = refl

  or_goes : (b : Bool) → b ≡ false → goes_right (operator binaries.Or) (truth b) ≡ true
  or_goes true e = absurd (cc)
  or_goes false e = refl

  or_stays : (b : Bool) → b ≡ true → goes_right (operator binaries.Or) (truth b) ≡ false
  or_stays true e = refl
  or_stays false e = absurd (cc)

  and_on : (pc to : ℕ) (b : Bool) (stack : List Decimal) → b ≡ true → Performs p (i.AndSkip to) (at_state pc (truth b ∷ stack)) (at_state (pc + 1) stack)
  and_on pc to true stack e = (true, (refl, refl))
  and_on pc to false stack e = absurd (cc)

  and_over : (pc to : ℕ) (b : Bool) (stack : List Decimal) → b ≡ false → Performs p (i.AndSkip to) (at_state pc (truth b ∷ stack)) (at_state to (truth b ∷ stack))
  and_over pc to true stack e = absurd (cc)
  and_over pc to false stack e = (false, (refl, refl))

  or_on : (pc to : ℕ) (b : Bool) (stack : List Decimal) → b ≡ false → Performs p (i.OrSkip to) (at_state pc (truth b ∷ stack)) (at_state (pc + 1) stack)
  or_on pc to true stack e = absurd (cc)
  or_on pc to false stack e = (false, (refl, refl))

  or_over : (pc to : ℕ) (b : Bool) (stack : List Decimal) → b ≡ true → Performs p (i.OrSkip to) (at_state pc (truth b ∷ stack)) (at_state to (truth b ∷ stack))
  or_over pc to true stack e = (true, (refl, refl))
  or_over pc to false stack e = absurd (cc)

  pub term_runs : (t : Term) (at : ℕ) → IsTypedTerm scope t → HasAt p.instrs at (term_code scope at t) → Gives t at
  term_runs (leaf (whole n)) at typed has = λ stack d room safe v. literal at (decimal n 0) d stack v room has.0
  term_runs (leaf (long n)) at typed has = λ stack d room safe v. literal at (decimal n 0) d stack v room has.0
  term_runs (leaf (point e)) at typed has = λ stack d room safe v. literal at e d stack v room has.0
  term_runs (leaf (text e)) at typed has = λ stack d room safe v. literal at e d stack v room has.0
  term_runs (leaf (known k)) at typed has = λ stack d room safe v. literal at (known_value k) d stack v room has.0
  term_runs (leaf (named x)) at typed has = λ stack d room safe v. name x at d stack v room has.0
  term_runs (item x e) at typed has =
      let code = term_code scope at e in
      let last = i.Item (table_number scope x) ∷ [] in
      item_gives x e at typed (term_runs e at typed.0 (has_front p.instrs at code last has)) (has_back p.instrs at (term_length e) code last (length_term scope e at) has).0
  term_runs (one op e) at typed has = one_gives op e at typed has (λ h. term_runs e at typed.0 h)
  term_runs (two (operator binaries.And) e f) at typed has =
      let ce = term_code scope at e in
      let to = at + term_length e + 1 + term_length f in
      let cf = term_code scope (at + term_length e + 1) f in
      let h1 = has_back p.instrs at (term_length e) ce (i.AndSkip to ∷ cf) (length_term scope e at) has in
      let kinds = both_true (is_truth (kind_of scope e)) (is_truth (kind_of scope f)) typed.2 in
      joined_gives (operator binaries.And) true and_goes and_stays (λ a b. refl) (λ n. refl) e f at (i.AndSkip to) (record { on = and_on (at + term_length e) to; over = and_over (at + term_length e) to }) typed.0 kinds.0
      (term_runs e at typed.0 (has_front p.instrs at ce (i.AndSkip to ∷ cf) has)) (term_runs f (at + term_length e + 1) typed.1 h1.1) h1.0
  term_runs (two (operator binaries.Or) e f) at typed has =
      let ce = term_code scope at e in
      let to = at + term_length e + 1 + term_length f in
      let cf = term_code scope (at + term_length e + 1) f in
      let h1 = has_back p.instrs at (term_length e) ce (i.OrSkip to ∷ cf) (length_term scope e at) has in
      let kinds = both_true (is_truth (kind_of scope e)) (is_truth (kind_of scope f)) typed.2 in
      joined_gives (operator binaries.Or) false or_goes or_stays (λ a b. refl) (λ n. refl) e f at (i.OrSkip to) (record { on = or_on (at + term_length e) to; over = or_over (at + term_length e) to }) typed.0 kinds.0
      (term_runs e at typed.0 (has_front p.instrs at ce (i.OrSkip to ∷ cf) has)) (term_runs f (at + term_length e + 1) typed.1 h1.1) h1.0
  term_runs (two op e f) at typed has =
      plain_gives op e f at (λ a. refl) (λ h. cc h) (λ h. cc h) refl typed has (λ h. term_runs e at typed.0 h) (λ h. term_runs f (at + term_length e) typed.1 h)
  term_runs (choice c e f) at typed has =
      let code = term_code scope at c in
      let q = at + term_length c + 1 in
      let ce = term_code scope q e in
      let r = q + term_length e + 1 in
      let cf = term_code scope r f in
      let behind = i.Jump (r + term_length f) ∷ cf in
      let h1 = has_back p.instrs at (term_length c) code (i.JumpFalse r ∷ (ce ++ behind)) (length_term scope c at) has in
      let h2 = has_back p.instrs q (term_length e) ce behind (length_term scope e q) h1.1 in
      choice_gives c e f at typed.0 typed.3.test (term_runs c at typed.0 (has_front p.instrs at code (i.JumpFalse r ∷ (ce ++ behind)) has)) (term_runs e q typed.1 (has_front p.instrs q ce behind h1.1)) (term_runs f r typed.2 h2.1) h1.0 h2.0
