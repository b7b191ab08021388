-- The code of a plan does what the plan means, in exactly its cost.
use Rattle.std.proofs.Common.{◌≡◌, ℕ, zero, suc, ◌+◌, ◌^◌, ◌<◌, ◌≤◌, List, [], ◌∷◌, ◌++◌, length, map, take, drop, true, Some, refl, sym, ap, ◌∙◌, subst, arith, append_assoc, length-append, inl, inr}
use Rattle.std.specs.Prelude.{slice_get, slice_index}
use Rattle.std.specs.List.{All}
use Rattle.std.specs.Option.{option_map, option_map_or}
use Rattle.std.specs.Str.{bytes_eq}
use Rattle.std.proofs.lemmas.Bool.{cases_Bool}
use Rattle.std.proofs.lemmas.List.{length-map}
use Rattle.std.proofs.lemmas.List.Elements.{All-cons, All-nil, All-head, All-tail}
use Rattle.scaled_decimal.specs.Decimals.{Decimal, scale_of}
use Rattle.pap_tree.specs.declared.declaration.Kind.{Kind as DeclaredKind}
use Rattle.pap_tree.specs.declared.declaration.Kind.TheVariants as declares
use Rattle.pap_tree.specs.Declarations.{Declaration}
use Rattle.pap_tree.specs.Flowchart.{Body, Routine, Flowchart}
use Rattle.pap_types.specs.Scopes.{Scope, scope_of, variables_of, names_of, first_value}
use Rattle.pap_types.specs.Routines.{body_named, method_names}
use Rattle.pap_types.specs.Kinds.{is_whole, declared_kind}
use Rattle.pap_types.specs.Values.{Env}
use Rattle.pap_types.specs.Runs.{after, spent, calls_of}
use Rattle.pap_types.specs.Limits.{longest_chain}
use Rattle.pap_types.specs.Meaning.{calls_in, given, first_entry, start, SuitsKind, AreInputs, IsSafeFor, cost_of, outputs_in}
use Rattle.pap_types.specs.Checks.{IsWellTyped}
use Rattle.pap_machine.specs.declared.code.Instr.TheVariants as i
use Rattle.pap_machine.specs.Code.{Program}
use Rattle.pap_machine.specs.Machine.{machine_state, Leads, Runs as RunsCode, HoldAt, slots_with_inputs, beginning}
use Rattle.pap_machine.proofs.Laws.{leads_one, leads_on, returns_to, ends_there}
use Rattle.pap_compiler.specs.Heights.{body_height, methods_height}
use Rattle.pap_compiler.specs.Depths.{body_depth, method_depth}
use Rattle.pap_compiler.specs.CodeDecisions.{body_length, body_code, methods_code, entries_from, entry, first_method, numbers_from, compiled}
use Rattle.pap_compiler.specs.Correct.{IsCodeOf}
use Rattle.pap_compiler.proofs.CodeLemmas.{HasAt, has_front, has_back, has_all, length_body}
use Rattle.pap_types.specs.Typing.{IsTypedBody, HasItsType, AreDistinct, HasTypes}
use Rattle.pap_types.proofs.Laws.{has_types, types_before, types_behind}
use Rattle.pap_compiler.proofs.NameLemmas.{AreHeld, values_of, place_of, number_is}
use Rattle.pap_compiler.proofs.KindLemmas.{and_then_some, first_whole}
use Rattle.pap_compiler.proofs.BodyRuns.{IsSet, between, CallsRun, body_runs}

-- ---- methods

-- a body stands in the code, and then the return
record Stands (scope : Scope) (all : List Routine) (p : Program) (to : List ℕ → ℕ) (b : Body) (at : ℕ) : Type 0 where
  body : HasAt p.instrs at (body_code scope to at b)
  back : slice_get p.instrs (at + body_length b) ≡ Some i.Return
  typed : IsTypedBody scope all b
  high : body_height b ≤ p.height

module _ (scope : Scope) (all : List Routine) (p : Program) (to : List ℕ → ℕ) where
  -- where the method of a name stands
  record IsThere (ms : List Routine) (at : ℕ) (m : List ℕ) (b : Body) : Type 0 where
    number : ℕ
    place : place_of (method_names ms) m ≡ Some number
    stands : Stands scope all p to b (slice_index (entries_from at ms) number)

  there : (ms : List Routine) (at : ℕ) (m : List ℕ) (b : Body) → All (λ m. IsTypedBody scope all m.body) ms → methods_height ms ≤ p.height → HasAt p.instrs at (methods_code scope to at ms) → body_named ms m ≡ Some b → IsThere ms at m b
  there [] at m b typed high has is = absurd (cc)
  there (r ∷ ms) at m b typed high has is =
      let code = body_code scope to at r.body in
      let rest = i.Return ∷ methods_code scope to (at + body_length r.body + 1) ms in
      let behind = has_back p.instrs at (body_length r.body) code rest (length_body scope to r.body at) has in
      elim (cases_Bool (bytes_eq m r.name)) [
        | inl s ↦ (let is' : Some r.body ≡ Some b = rw s at is in
            let same : r.body ≡ b = cc in
            let here : Stands scope all p to r.body at = record { body = has_front p.instrs at code rest has; back = behind.0; typed = All-head (λ m. IsTypedBody scope all m.body) r ms typed; high = omega (arith, high) } in
            record { number = 0; place = rw s refl; stands = subst (λ x. Stands scope all p to x at) same here })
        | inr s ↦ (let later = there ms (at + body_length r.body + 1) m b (All-tail (λ m. IsTypedBody scope all m.body) r ms typed) (omega (arith, high)) behind.1 (rw s at is) in
            record { number = suc later.number; place = rw (s, later.place) refl; stands = later.stands })
      ]

module _ (scope : Scope) (p : Program) (ready : IsSet scope p) (ms : List Routine) (at : ℕ) (typed : All (λ m. IsTypedBody scope ms m.body) ms) (high : methods_height ms ≤ p.height) (has : HasAt p.instrs at (methods_code scope (entry at ms) at ms)) where
  pub calls_run : (n : ℕ) → CallsRun scope p ready (entry at ms) (calls_of scope ms n) (method_depth ms n)
  unfolding calls_of method_depth
  calls_run zero = record { each = λ m env ends r cs held deep safe is. absurd safe }
  calls_run (suc n) = record { each = λ m env ends r cs held deep safe is. one m env ends r cs held deep safe is (calls_run n) }
    where
      one : (m : List ℕ) (env ends : Env) (r : ℕ) (cs : List ℕ) → AreHeld scope.variables env → length cs + (method_depth ms (suc n) m + 1) ≤ p.depth → (calls_of scope ms (suc n)).IsSafeCall m env → (calls_of scope ms (suc n)).after m env ≡ Some ends → CallsRun scope p ready (entry at ms) (calls_of scope ms n) (method_depth ms n) →
          Leads p ((calls_of scope ms (suc n)).spent m env + 1) (between scope p ready (entry at ms m) env (r ∷ cs)) (between scope p ready r ends cs) × AreHeld scope.variables ends
      one m env ends r cs held deep safe is called =
          let k = and_then_some (λ b. after scope (calls_of scope ms n) b env) (body_named ms m) ends is in
          let b = k.0 in
          let t = there scope ms p (entry at ms) ms at m b typed high has k.1.0 in
          let place : slice_index (entries_from at ms) t.number ≡ entry at ms m = ap (λ o. option_map_or (slice_index (entries_from at ms)) o 0) (sym (number_is (method_names ms) m ∙ t.place)) in
          let s = subst (Stands scope ms p (entry at ms) b) place t.stands in
          let depth_is : method_depth ms (suc n) m ≡ body_depth (method_depth ms n) b = ap (λ o. option_map_or (body_depth (method_depth ms n)) o 0) k.1.0 in
          let cost_is : spent scope (calls_of scope ms n) b env + 1 ≡ (calls_of scope ms (suc n)).spent m env + 1 = ap (λ o. option_map_or (λ b. spent scope (calls_of scope ms n) b env) o 0 + 1) (sym k.1.0) in
          let run = body_runs scope p ready (entry at ms) ms (calls_of scope ms n) (method_depth ms n) called b (entry at ms m) s.typed s.body (r ∷ cs) env ends held (omega (arith, deep, depth_is)) s.high (safe b k.1.0) k.1.1 in
          let last = leads_one p (between scope p ready (entry at ms m + body_length b) ends (r ∷ cs)) (between scope p ready r ends cs) i.Return s.back (returns_to (entry at ms m + body_length b) (values_of ends) cs r []) in (
            subst (λ c. Leads p c (between scope p ready (entry at ms m) env (r ∷ cs)) (between scope p ready r ends cs)) cost_is
                (leads_on p (spent scope (calls_of scope ms n) b env) 1 (between scope p ready (entry at ms m) env (r ∷ cs)) (between scope p ready (entry at ms m + body_length b) ends (r ∷ cs)) (between scope p ready r ends cs) run.0 last),
            run.1,
          )

-- ---- the beginning

-- an input of a kind of whole numbers has no places
suits_whole : (k : DeclaredKind) (v : Decimal) → SuitsKind k v → is_whole (declared_kind k) ≡ true → scale_of v ≡ 0
suits_whole declares.Int v s w = s.1
suits_whole declares.Long v s w = s.1
suits_whole declares.Big v s w = absurd (cc)
suits_whole declares.Factor v s w = absurd (cc)
suits_whole declares.Table v s w = absurd (cc)

first_held : (ds : List Declaration) → All HasItsType ds → AreHeld ds (map first_entry ds)
first_held [] types = tt
first_held (d ∷ ds) types = (refl, first_whole d (All-head HasItsType d ds types), first_held ds (All-tail HasItsType d ds types))

given_held : (ds more : List Declaration) (vs : List Decimal) (rest : Env) → AreInputs ds vs → AreHeld more rest → AreHeld (ds ++ more) (given ds vs ++ rest)
given_held [] more [] rest inputs held = held
given_held [] more (v ∷ vs) rest inputs held = absurd inputs
given_held (d ∷ ds) more [] rest inputs held = absurd inputs
given_held (d ∷ ds) more (v ∷ vs) rest inputs held = (refl, suits_whole d.kind v inputs.0, given_held ds more vs rest inputs.1 held)

given_values : (ds more : List Declaration) (vs : List Decimal) (rest : Env) → AreInputs ds vs → values_of rest ≡ map first_value more → values_of (given ds vs ++ rest) ≡ vs ++ drop (length vs) (map first_value (ds ++ more))
given_values [] more [] rest inputs e = e
given_values [] more (v ∷ vs) rest inputs e = absurd inputs
given_values (d ∷ ds) more [] rest inputs e = absurd inputs
given_values (d ∷ ds) more (v ∷ vs) rest inputs e = ap (λ l. v ∷ l) (given_values ds more vs rest inputs.1 e)

first_values : (ds : List Declaration) → values_of (map first_entry ds) ≡ map first_value ds
first_values [] = refl
first_values (d ∷ ds) = ap (λ l. first_value d ∷ l) (first_values ds)

held_length : (ds : List Declaration) (env : Env) → AreHeld ds env → length (values_of env) ≡ length ds
held_length [] [] h = refl
held_length [] (v ∷ vs) h = absurd h
held_length (d ∷ ds) [] h = absurd h
held_length (d ∷ ds) (v ∷ vs) h = ap suc (held_length ds vs h.2)

-- ---- the outputs

record IsNext (slots : List Decimal) (at : ℕ) : Type 0 where
  value : Decimal
  there : slice_get slots at ≡ Some value
  rest : drop at slots ≡ value ∷ drop (at + 1) slots

next_there : (slots : List Decimal) (at : ℕ) → at < length slots → IsNext slots at
next_there [] at less = absurd (omega arith)
next_there (v ∷ slots) zero less = record { value = v; there = refl; rest = refl }
next_there (v ∷ slots) (suc at) less =
    let n = next_there slots at (omega arith) in
    let e : suc (at + 1) ≡ suc at + 1 = omega arith in
    record { value = n.value; there = n.there; rest = n.rest ∙ ap (λ k. n.value ∷ drop k (v ∷ slots)) e }

outputs_held : (ds : List Declaration) (at : ℕ) (slots : List Decimal) → at + length ds ≤ length slots → HoldAt slots (numbers_from at ds) (take (length ds) (drop at slots))
outputs_held [] at slots within = refl
outputs_held (d ∷ ds) at slots within =
    let n = next_there slots at (omega arith) in
    let later = outputs_held ds (at + 1) slots (omega arith) in
    let here : slice_get slots at ∷ map (λ k. slice_get slots k) (numbers_from (at + 1) ds) ≡ Some n.value ∷ map Some (take (length ds) (drop (at + 1) slots)) = ap (λ o. o ∷ map (λ k. slice_get slots k) (numbers_from (at + 1) ds)) n.there ∙ ap (λ l. Some n.value ∷ l) later in
    here ∙ ap (λ l. map Some (take (suc (length ds)) l)) (sym n.rest)

outputs_below : (ds : List Declaration) (at n : ℕ) → at + length ds ≤ n → All (λ k. k < n) (numbers_from at ds)
outputs_below [] at n within = All-nil (λ k. k < n)
outputs_below (d ∷ ds) at n within = All-cons (λ k. k < n) at (numbers_from (at + 1) ds) (omega arith) (outputs_below ds (at + 1) n (omega arith))

length_numbers : (ds : List Declaration) (at : ℕ) → length (numbers_from at ds) ≡ length ds
length_numbers [] at = refl
length_numbers (d ∷ ds) at = ap suc (length_numbers ds (at + 1))

-- ---- the plan

-- the code's run, which ends where the plan's does
record WholeRun (f : Flowchart) (inputs : List Decimal) (ends : Env) : Type 0 where
  run : RunsCode (compiled f) inputs (cost_of f inputs) (values_of ends)
  held : AreHeld (variables_of f) ends

whole_run : (f : Flowchart) → HasTypes f → (inputs : List Decimal) → (s : IsSafeFor f inputs) → WholeRun f inputs s.ends
whole_run f typed inputs s =
    let scope : Scope = scope_of f in
    let p : Program = compiled f in
    let at = first_method f in
    let to = entry at f.methods in
    let vs = variables_of f in
    let joined : f.inputs ++ (f.outputs ++ (f.internals ++ f.constants)) ≡ vs ++ f.constants = simp append_assoc in
    let types : All HasItsType (vs ++ f.constants) = subst (All HasItsType) joined typed.literals in
    let ready : IsSet scope p = record { tables = refl; types = types_behind vs f.constants types; distinct = subst (λ l. AreDistinct (names_of l)) joined typed.names } in
    let main = body_code scope to 0 f.main in
    let rest = i.End ∷ methods_code scope to at f.methods in
    let has = has_all p.instrs [] in
    let behind = has_back p.instrs 0 (body_length f.main) main rest (length_body scope to f.main 0) has in
    let zero_on : 0 + body_length f.main + 1 ≡ at = omega arith in
    let methods = subst (λ k. HasAt p.instrs k (methods_code scope to at f.methods)) zero_on behind.1 in
    let called = calls_run scope p ready f.methods at typed.methods (omega arith) methods longest_chain in
    let first : All HasItsType (f.outputs ++ f.internals) = types_behind f.inputs (f.outputs ++ f.internals) (types_before vs f.constants types) in
    let held : AreHeld vs (start f inputs) = given_held f.inputs (f.outputs ++ f.internals) inputs (map first_entry (f.outputs ++ f.internals)) s.given (first_held (f.outputs ++ f.internals) first) in
    let values : values_of (start f inputs) ≡ slots_with_inputs p inputs = given_values f.inputs (f.outputs ++ f.internals) inputs (map first_entry (f.outputs ++ f.internals)) s.given (first_values (f.outputs ++ f.internals)) in
    let run = body_runs scope p ready to f.methods (calls_in f) (method_depth f.methods longest_chain) called f.main 0 typed.main (has_front p.instrs 0 main rest has) [] (start f inputs) s.ends held (omega arith) (omega arith) s.safe s.defined in
    let begun = subst (λ l. Leads p (spent scope (calls_in f) f.main (start f inputs)) (machine_state 0 [] l []) (between scope p ready (0 + body_length f.main) s.ends [])) values run.0 in
    record {
      run = ends_there p (spent scope (calls_in f) f.main (start f inputs)) (beginning (slots_with_inputs p inputs)) (between scope p ready (0 + body_length f.main) s.ends []) begun behind.0;
      held = run.1;
    }

pub is_code : (f : Flowchart) → IsWellTyped f → ((inputs : List Decimal) → IsSafeFor f inputs → cost_of f inputs < 2 ^ 64) → IsCodeOf f (compiled f)
is_code f well short =
    let typed = has_types f well in
    let vs = variables_of f in
    let many : length f.inputs + length f.outputs ≤ length vs = omega (arith, length-append f.inputs (f.outputs ++ f.internals), length-append f.outputs f.internals) in
    let slots : length (map first_value vs) ≡ length vs = length-map vs first_value in
    record {
      inputs = refl;
      outputs = length_numbers f.outputs (length f.inputs);
      depth = refl;
      height = refl;
      behaves = λ inputs s.
          let w = whole_run f typed inputs s in
          let size = held_length vs s.ends w.held in
          record {
            safe = record {
              inputs_fit = omega (arith, many, slots);
              outputs_fit = outputs_below f.outputs (length f.inputs) (length (map first_value vs)) (omega (arith, many, slots));
              count = cost_of f inputs;
              short = short inputs s;
              slots = values_of s.ends;
              runs = w.run;
            };
            outputs = outputs_in f s.ends;
            meant = ap (option_map (outputs_in f)) s.defined;
            slots = values_of s.ends;
            runs = w.run;
            held = outputs_held f.outputs (length f.inputs) (values_of s.ends) (omega (arith, many, size));
          };
    }
