-- A loop over a table, and the walk over its keys.
use Rattle.std.proofs.Common.{◌≡◌, ℕ, List, [], ◌∷◌, ◌++◌, length, String, Global, string_bytes, Result, Ok, Err, sym, subst}
use Rattle.toml.specs.declared.value.Value.{Value}
use Rattle.toml.specs.Data.{Data, member}
use Rattle.toml.specs.View.{view, members_view}
use Rattle.limits_file.specs.declared.fault.LimitsFault.{LimitsFault}
use Rattle.limits_file.specs.declared.fault.LimitsFault.TheVariants as answered
use Rattle.limits_file.specs.private.AnswerViews.{Tells}
use Rattle.limits_file.specs.Faults.{Fault, too_long, no_toml, bad_key, bad_bound}
use Rattle.limits_file.specs.Walks.{AllOrFirstFault}
use Rattle.limits_file.proofs.WalkLemmas.{GoesOn, goes_on, stops, ends}

-- a fault of one thing that is one of another
pub tells_fault : {A B : Type 0} (P : Result A Fault → Type 0) (Q : Result B Fault → Type 0) → ((f : Fault) → P (Err f) → Q (Err f)) → (e : LimitsFault) → Tells P (Err e) → Tells Q (Err e)
tells_fault P Q h answered.Toml t = h no_toml t
tells_fault P Q h (answered.Key k) t = h (bad_key k) t
tells_fault P Q h (answered.Bound k) t = h (bad_bound k) t
tells_fault P Q h answered.LimitsLong t = h too_long t
tells_fault P Q h (answered.Memory e) t = tt

module _ {A : Type 0} (Says : ℕ → List ℕ → Data → Result A Fault → Type 0) (front : List A) (n : ℕ) (text : List ℕ) (key : String Global) (value : Value) (entries rest all : List (String Global × Value))
    (count : n ≡ length front) (bytes : text ≡ string_bytes key) (next : entries ≡ (key, value) ∷ rest) (before : GoesOn Says front (members_view entries) (members_view all)) where
  here : GoesOn Says front (member (string_bytes key) (view value) (members_view rest)) (members_view all)
  here = subst (λ es. GoesOn Says front (members_view es) (members_view all)) next before

  said : (a : Result A Fault) → Says n text (view value) a → Says (length front) (string_bytes key) (view value) a
  said a h = subst (λ k. Says (length front) k (view value) a) bytes (subst (λ m. Says m text (view value) a) count h)

  pub loop_more : (x : A) (longer : List A) → longer ≡ front ++ x ∷ [] → Says n text (view value) (Ok x) → GoesOn Says longer (members_view rest) (members_view all)
  loop_more x longer e h = subst (λ xs. GoesOn Says xs (members_view rest) (members_view all)) (sym e) (goes_on Says front (string_bytes key) (view value) (members_view rest) (members_view all) x (said (Ok x) h) here)

  pub loop_stop : (e : LimitsFault) → Tells (Says n text (view value)) (Err e) → Tells (AllOrFirstFault Says 0 (members_view all)) (Err e)
  loop_stop = tells_fault (Says n text (view value)) (AllOrFirstFault Says 0 (members_view all)) (λ f h. stops Says front (string_bytes key) (view value) (members_view rest) (members_view all) f (said (Err f) h) here)

pub loop_end : {A : Type 0} (Says : ℕ → List ℕ → Data → Result A Fault → Type 0) (front : List A) (entries all : List (String Global × Value)) → entries ≡ [] → GoesOn Says front (members_view entries) (members_view all) → AllOrFirstFault Says 0 (members_view all) (Ok front)
loop_end Says front entries all e before = ends Says front (members_view all) (subst (λ es. GoesOn Says front (members_view es) (members_view all)) e before)
