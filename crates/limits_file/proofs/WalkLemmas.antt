-- A table says one thing, where each of its keys does.
use Rattle.std.proofs.Common.{◌≡◌, ℕ, suc, List, [], ◌∷◌, ◌++◌, length, length-append, append_assoc, subst, arith, Result, Ok, Err, refl, sym, ap, ap₂, ◌∙◌, inl, inr}
use Rattle.std.proofs.lemmas.List.{append-nil}
use Rattle.toml.specs.Data.{Data, Members, no_members, member}
use Rattle.limits_file.specs.Faults.{Fault}
use Rattle.limits_file.specs.Walks.{AllOrFirstFault, KeysSay}

module _ {A : Type 0} (Says : ℕ → List ℕ → Data → Result A Fault → Type 0) where
  abbrev pub SaysOne : Type 0
  SaysOne = (n : ℕ) (key : List ℕ) (value : Data) (a b : Result A Fault) → Says n key value a → Says n key value b → a ≡ b

  abbrev pub SaysSome : Type 0
  SaysSome = (n : ℕ) (key : List ℕ) (value : Data) → (a : Result A Fault) × Says n key value a

  module _ (one : SaysOne) where
    all_and_fault : (n : ℕ) (ms : Members) (said : List A) (f : Fault) → AllOrFirstFault Says n ms (Ok said) → AllOrFirstFault Says n ms (Err f) → ⊥
    all_and_fault n no_members said f h h' = h'
    all_and_fault n (member key value rest) [] f h h' = h
    all_and_fault n (member key value rest) (x ∷ said) f h h' = elim h' [
      | inl fault ↦ (let e = one n key value (Ok x) (Err f) h.0 fault in cc)
      | inr later ↦ all_and_fault (suc n) rest said f h.1 later.2
    ]

    all_once : (n : ℕ) (ms : Members) (said said' : List A) → AllOrFirstFault Says n ms (Ok said) → AllOrFirstFault Says n ms (Ok said') → said ≡ said'
    all_once n no_members said said' h h' = h ∙ sym h'
    all_once n (member key value rest) [] said' h h' = absurd h
    all_once n (member key value rest) (x ∷ said) [] h h' = absurd h'
    all_once n (member key value rest) (x ∷ said) (y ∷ said') h h' =
        let here : x ≡ y = (let e = one n key value (Ok x) (Ok y) h.0 h'.0 in cc) in
        ap₂ (λ z zs. z ∷ zs) here (all_once (suc n) rest said said' h.1 h'.1)

    fault_once : (n : ℕ) (ms : Members) (f g : Fault) → AllOrFirstFault Says n ms (Err f) → AllOrFirstFault Says n ms (Err g) → f ≡ g
    fault_once n no_members f g h h' = absurd h
    fault_once n (member key value rest) f g h h' = elim h [
      | inl here ↦ elim h' [
        | inl here' ↦ (let e = one n key value (Err f) (Err g) here here' in cc)
        | inr later' ↦ absurd (let e = one n key value (Err f) (Ok later'.0) here later'.1 in cc)
      ]
      | inr later ↦ elim h' [
        | inl here' ↦ absurd (let e = one n key value (Err g) (Ok later.0) here' later.1 in cc)
        | inr later' ↦ fault_once (suc n) rest f g later.2 later'.2
      ]
    ]

    pub table_once : {B : Type 0} (together : List A → B) (ms : Members) (a b : Result B Fault) → KeysSay Says together ms a → KeysSay Says together ms b → a ≡ b
    table_once together ms (Ok x) (Ok y) h h' = ap Ok (h.2 ∙ ap together (all_once 0 ms h.0 h'.0 h.1 h'.1) ∙ sym h'.2)
    table_once together ms (Ok x) (Err f) h h' = absurd (all_and_fault 0 ms h.0 f h.1 h')
    table_once together ms (Err f) (Ok x) h h' = absurd (all_and_fault 0 ms h'.0 f h'.1 h)
    table_once together ms (Err f) (Err g) h h' = ap Err (fault_once 0 ms f g h h')

  Found : ℕ → Members → Type 0
  Found n ms = (a : Result (List A) Fault) × AllOrFirstFault Says n ms a

  module _ (some : SaysSome) where
    member_some : (n : ℕ) (key : List ℕ) (value : Data) (rest : Members) (a : Result A Fault) → Says n key value a → (later : Result (List A) Fault) → AllOrFirstFault Says (suc n) rest later → Found n (member key value rest)
    unfolding Found
    member_some n key value rest (Err f) h later h' = (Err f, inl h)
    member_some n key value rest (Ok x) h (Ok said) h' = (Ok (x ∷ said), (h, h'))
    member_some n key value rest (Ok x) h (Err f) h' = (Err f, inr (x, h, h'))

    all_some : (n : ℕ) (ms : Members) → Found n ms
    unfolding Found
    all_some n no_members = (Ok [], refl)
    all_some n (member key value rest) =
        let here = some n key value in
        let later = all_some (suc n) rest in
        member_some n key value rest here.0 here.1 later.0 later.1

    together_some : {B : Type 0} (together : List A → B) (ms : Members) (a : Result (List A) Fault) → AllOrFirstFault Says 0 ms a → (b : Result B Fault) × KeysSay Says together ms b
    together_some together ms (Ok said) h = (Ok (together said), (said, h, refl))
    together_some together ms (Err f) h = (Err f, h)

    pub table_some : {B : Type 0} (together : List A → B) (ms : Members) → (b : Result B Fault) × KeysSay Says together ms b
    unfolding Found
    table_some together ms = let found = all_some 0 ms in together_some together ms found.0 found.1

  -- a table's fault is one of its keys'
  pub table_fault : (P : Fault → Type 0) → ((n : ℕ) (key : List ℕ) (value : Data) (f : Fault) → Says n key value (Err f) → P f) → (n : ℕ) (ms : Members) (f : Fault) → AllOrFirstFault Says n ms (Err f) → P f
  table_fault P each n no_members f h = absurd h
  table_fault P each n (member key value rest) f h = elim h [
    | inl here ↦ each n key value f here
    | inr later ↦ table_fault P each (suc n) rest f later.2
  ]

-- what was said before stands in front
abbrev pub behind : {A : Type 0} → List A → Result (List A) Fault → Result (List A) Fault
behind front (Ok said) = Ok (front ++ said)
behind front (Err fault) = Err fault

pub behind_more : {A : Type 0} (front : List A) (x : A) (answer : Result (List A) Fault) → behind front (behind (x ∷ []) answer) ≡ behind (front ++ x ∷ []) answer
behind_more front x (Ok said) = ap Ok (sym (append_assoc front (x ∷ []) said))
behind_more front x (Err fault) = refl

module _ {A : Type 0} (Says : ℕ → List ℕ → Data → Result A Fault → Type 0) where
  -- the keys so far have said `front`, and what the rest says follows it
  abbrev pub GoesOn : List A → Members → Members → Type 0
  GoesOn front rest all = (answer : Result (List A) Fault) → AllOrFirstFault Says (length front) rest answer → AllOrFirstFault Says 0 all (behind front answer)

  pub begins : (all : Members) → GoesOn [] all all
  begins all (Ok said) h = h
  begins all (Err fault) h = h

  first_said : (n : ℕ) (key : List ℕ) (value : Data) (rest : Members) (x : A) → Says n key value (Ok x) → (answer : Result (List A) Fault) → AllOrFirstFault Says (suc n) rest answer → AllOrFirstFault Says n (member key value rest) (behind (x ∷ []) answer)
  first_said n key value rest x h (Ok said) later = (h, later)
  first_said n key value rest x h (Err fault) later = inr (x, h, later)

  pub goes_on : (front : List A) (key : List ℕ) (value : Data) (rest all : Members) (x : A) → Says (length front) key value (Ok x) → GoesOn front (member key value rest) all → GoesOn (front ++ x ∷ []) rest all
  goes_on front key value rest all x h before answer later =
      let longer : length (front ++ x ∷ []) ≡ suc (length front) = simp length-append (omega arith) in
      let later' = subst (λ n. AllOrFirstFault Says n rest answer) longer later in
      subst (λ a. AllOrFirstFault Says 0 all a) (behind_more front x answer) (before (behind (x ∷ []) answer) (first_said (length front) key value rest x h answer later'))

  pub stops : (front : List A) (key : List ℕ) (value : Data) (rest all : Members) (fault : Fault) → Says (length front) key value (Err fault) → GoesOn front (member key value rest) all → AllOrFirstFault Says 0 all (Err fault)
  stops front key value rest all fault h before = before (Err fault) (inl h)

  pub ends : (front : List A) (all : Members) → GoesOn front no_members all → AllOrFirstFault Says 0 all (Ok front)
  ends front all before = subst (λ said. AllOrFirstFault Says 0 all (Ok said)) (append-nil front) (before (Ok []) refl)
