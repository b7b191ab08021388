-- The number of a name is below their number, and the method that stands there.
use Rattle.std.proofs.Common.{◌≡◌, ℕ, zero, suc, ◌+◌, ◌<◌, List, [], ◌∷◌, length, map, Bool, true, false, Option, Some, None, if◌then◌else◌, refl, sym, ap, ◌∙◌, arith, get_or}
use Rattle.std.specs.Option.{option_map}
use Rattle.std.specs.Str.{bytes_eq}
use Rattle.std.proofs.lemmas.List.{length-map}
use Rattle.std.specs.Prelude.{slice_get}
use Rattle.pap_tree.specs.declared.plan.Method.{Method}
use Rattle.pap_tree.specs.Flowchart.{Routine, routine_of}
use Rattle.pap_types.specs.Scopes.{number_of}
use Rattle.pap_types.specs.Routines.{method_names}
use Rattle.pap_compiler.specs.CodeDecisions.{body_length, entries_from}
use Rattle.pap_compiler.proofs.NameLemmas.{place_of, number_is}

place_within : (names : List (List ℕ)) (x : List ℕ) (k : ℕ) → place_of names x ≡ Some k → k < length names
place_within [] x k e = absurd (cc)
place_within (n ∷ ns) x k e = by_name (bytes_eq x n) (place_of ns x) (place_within ns x) e
  where
    by_name : (t : Bool) (o : Option ℕ) → ((j : ℕ) → o ≡ Some j → j < length ns) → (if t then Some 0 else option_map suc o) ≡ Some k → k < length (n ∷ ns)
    by_name true o later e = let z : 0 ≡ k = cc in omega arith
    by_name false None later e = absurd (cc)
    by_name false (Some j) later e = let z : suc j ≡ k = cc in let l = later j refl in omega arith

pub number_within : (names : List (List ℕ)) (x : List ℕ) (k : ℕ) → number_of names x ≡ Some k → k < length names
number_within names x k e = place_within names x k (let i = number_is names x in cc)

pub length_entries : (at : ℕ) (ms : List Routine) → length (entries_from at ms) ≡ length (method_names ms)
length_entries at [] = refl
length_entries at (m ∷ ms) = ap suc (length_entries (at + body_length m.body + 1) ms)

mapped : {A B : Type 0} (f : A → B) (xs : List A) (n : ℕ) (d : A) → n < length xs → slice_get (map f xs) n ≡ Some (f (get_or xs n d))
mapped f [] n d less = absurd (omega arith)
mapped f (x ∷ xs) zero d less = refl
mapped f (x ∷ xs) (suc n) d less = mapped f xs n d (omega arith)

-- the method of a number
pub routine_there : (ms : List Method) (n : ℕ) (m : Method) → n < length (map routine_of ms) → m ≡ get_or ms n m → slice_get (map routine_of ms) n ≡ Some (routine_of m)
routine_there ms n m less is = mapped routine_of ms n m (omega (arith, less, length-map ms routine_of)) ∙ ap (λ y. Some (routine_of y)) (sym is)
