-- In the walk of a plan nothing is refused where it is read, and it goes on behind each test.
use Rattle.std.proofs.Common.{◌≡◌, ℕ, zero, suc, List, Option, Some, None, refl}
use Rattle.std.specs.Prelude.{IfSome, ⊤}
use Rattle.pap_tree.specs.declared.expression.Binary.TheVariants.{And, Or}
use Rattle.pap_tree.specs.Term.{Term, leaf, item, one, two, choice, operator}
use Rattle.pap_tree.specs.Scales.{KeepsScales}
use Rattle.pap_tree.specs.Flowchart.{Flowchart, Body, done, eval, branch, execute}
use Rattle.pap_types.specs.Scopes.{scope_of}
use Rattle.pap_types.specs.Routines.{body_named}
use Rattle.pap_types.specs.Checks.{IsWellTyped}
use Rattle.pap_types.specs.Typing.{IsTypedTerm, IsTypedBody}
use Rattle.pap_types.specs.Counts.{AreSmallTerms, IsWithinCounts}
use Rattle.pap_types.specs.Limits.{longest_chain}
use Rattle.pap_types.proofs.Laws.{has_types}
use Rattle.interval_walk.specs.Ranges.{Ranges}
use Rattle.interval_walk.specs.Walked.{range_calls_of}
use Rattle.interval_walk.specs.Reading.{HoldsTerm, HoldsBody, HoldsPlan, AreShaped}
use Rattle.interval_walk.specs.Soundness.{AreFilled}
use Rattle.interval_walk.specs.WalkReading.{GoesOnBehind, ReadsTerm, ReadsBehind, ReadsBody, ReadsCalls, WalksReadAll}
use Rattle.interval_walk.proofs.WalkSound.{found_method}
use Rattle.interval_walk.proofs.ReachedSound.{some_branch}
use Rattle.interval_walk.proofs.ReadSound.{shaped_after, reading_free}
use Rattle.interval_walk.proofs.FilledWalk.{filled_after, none_empty}

-- what holds of both where there is some
if_both : {A : Type 0} (P Q R : A → Type 0) (o : Option A) → IfSome o P → IfSome o Q → ((a : A) → P a → Q a → R a) → IfSome o R
if_both P Q R None p q both = tt
if_both P Q R (Some a) p q both = both a p q

if_some : {A : Type 0} (R : A → Type 0) (o : Option A) → ((a : A) → o ≡ Some a → R a) → IfSome o R
if_some R None h = tt
if_some R (Some a) h = h a refl

module _ (f : Flowchart) (typed : IsWellTyped f) (counts : IsWithinCounts f) (numbers : HoldsPlan f) where
  -- the ranges with which a walk comes anywhere
  pub record Stands (rs : Ranges) : Type 0 where
    pub shaped : AreShaped (scope_of f) rs
    pub filled : AreFilled (scope_of f) rs

  pub goes_on : (t : Term) (rs : Ranges) → IsTypedTerm (scope_of f) t → KeepsScales t → Stands rs → (Holds Fails : Ranges → Type 0) → ((s : Ranges) → Stands s → Holds s) → ((s : Ranges) → Stands s → Fails s) → GoesOnBehind (scope_of f) t rs Holds Fails
  goes_on t rs it keeps h Holds Fails p q at br e =
      let scope = scope_of f in
      let shaped = (reading_free f typed counts numbers.declared).test t at rs br h.shaped e in
      let filled = (none_empty f typed counts).test t at rs br h.filled e in
      record {
        some = some_branch f t at rs br typed it keeps h.filled e;
        holds = if_both (AreShaped scope) (AreFilled scope) Holds br.holds shaped.holds filled.holds (λ s a b. p s (record { shaped = a; filled = b }));
        fails = if_both (AreShaped scope) (AreFilled scope) Fails br.fails shaped.fails filled.fails (λ s a b. q s (record { shaped = a; filled = b }));
      }

  pub reads_term : (t : Term) (rs : Ranges) → IsTypedTerm (scope_of f) t → KeepsScales t → HoldsTerm t → Stands rs → ReadsTerm (scope_of f) t rs
  reads_term (leaf l) rs it keeps held h = (reading_free f typed counts numbers.declared).leaf l rs it held h.shaped
  reads_term (item x e) rs it keeps held h =
      (reads_term e rs it.0 keeps held h, λ index r g. (reading_free f typed counts numbers.declared).item x index r g)
  reads_term (one op e) rs it keeps held h = reads_term e rs it.0 keeps.1 held h
  reads_term (two (operator And) e g) rs it keeps held h = (
    reads_term e rs it.0 keeps.1 held.0 h,
    goes_on e rs it.0 keeps.1 h (ReadsTerm (scope_of f) g) (λ _. ⊤) (λ s k. reads_term g s it.1 keeps.2 held.1 k) (λ s k. tt),
  )
  reads_term (two (operator Or) e g) rs it keeps held h = (
    reads_term e rs it.0 keeps.1 held.0 h,
    goes_on e rs it.0 keeps.1 h (λ _. ⊤) (ReadsTerm (scope_of f) g) (λ s k. tt) (λ s k. reads_term g s it.1 keeps.2 held.1 k),
  )
  reads_term (two op e g) rs it keeps held h = (reads_term e rs it.0 keeps.1 held.0 h, reads_term g rs it.1 keeps.2 held.1 h)
  reads_term (choice c e g) rs it keeps held h = (
    reads_term c rs it.0 keeps.0 held.0 h,
    goes_on c rs it.0 keeps.0 h (ReadsTerm (scope_of f) e) (ReadsTerm (scope_of f) g) (λ s k. reads_term e s it.1 keeps.1 held.1 k) (λ s k. reads_term g s it.2 keeps.2 held.2 k),
  )

  -- ---- statements

  module _ (n : ℕ) (ReadsCall : List ℕ → Ranges → Type 0) (hc : (m : List ℕ) (rs : Ranges) → Stands rs → ReadsCall m rs) where
    behind : (b : Body) (rs : Ranges) → IsTypedBody (scope_of f) f.methods b → AreSmallTerms b → Stands rs → (Rest : Ranges → Type 0) → ((s : Ranges) → Stands s → Rest s) → ReadsBehind (scope_of f) (range_calls_of (scope_of f) f.methods n) ReadsCall b rs Rest
    behind b rs it small h Rest go name at ends e =
        let types = has_types f typed in
        go ends (record {
          shaped = shaped_after f types counts n name b at rs ends it small h.shaped e;
          filled = filled_after f types counts n name b at rs ends it small h.filled e;
        })

    reads_body : (b : Body) (rs : Ranges) → IsTypedBody (scope_of f) f.methods b → AreSmallTerms b → HoldsBody b → Stands rs → ReadsBody (scope_of f) (range_calls_of (scope_of f) f.methods n) ReadsCall b rs
    reads_body done rs it small held h = tt
    reads_body (eval x e rest) rs it small held h =
        let Rest = ReadsBody (scope_of f) (range_calls_of (scope_of f) f.methods n) ReadsCall rest in (
          reads_term e rs it.0 small.0.scales held.0 h,
          behind (eval x e done) rs (it.0, it.1, tt) (small.0, tt) h Rest (λ s k. reads_body rest s it.2 small.1 held.1 k),
        )
    reads_body (branch t a b rest) rs it small held h =
        let Reads = ReadsBody (scope_of f) (range_calls_of (scope_of f) f.methods n) ReadsCall in (
          reads_term t rs it.0 small.0.scales held.0 h,
          goes_on t rs it.0 small.0.scales h (Reads a) (Reads b) (λ s k. reads_body a s it.2 small.1 held.1 k) (λ s k. reads_body b s it.3 small.2 held.2 k),
          behind (branch t a b done) rs (it.0, it.1, it.2, it.3, tt) (small.0, small.1, small.2, tt) h (Reads rest) (λ s k. reads_body rest s it.4 small.3 held.3 k),
        )
    reads_body (execute m rest) rs it small held h =
        let Rest = ReadsBody (scope_of f) (range_calls_of (scope_of f) f.methods n) ReadsCall rest in
        (hc m rs h, behind (execute m done) rs (it.0, tt) tt h Rest (λ s k. reads_body rest s it.1 small held k))

  reads_calls : (n : ℕ) (m : List ℕ) (rs : Ranges) → Stands rs → ReadsCalls (scope_of f) f.methods n m rs
  unfolding ReadsCalls
  reads_calls zero m rs h = tt
  reads_calls (suc n) m rs h =
      if_some (λ b. ReadsBody (scope_of f) (range_calls_of (scope_of f) f.methods n) (ReadsCalls (scope_of f) f.methods n) b rs) (body_named f.methods m) (λ b e. (
      let ms = f.methods in
      let types = has_types f typed in
      reads_body n (ReadsCalls (scope_of f) ms n) (reads_calls n) b rs
      (found_method (IsTypedBody (scope_of f) ms) ms types.methods m b e)
      (found_method AreSmallTerms ms counts.terms m b e)
      (found_method HoldsBody ms numbers.methods m b e)
      h))

pub reads_all : WalksReadAll
reads_all f limits typed counts numbers have =
    let types = has_types f typed in
    reads_body f typed counts numbers longest_chain (ReadsCalls (scope_of f) f.methods longest_chain) (reads_calls f typed counts numbers longest_chain) f.main _ types.main counts.main_terms numbers.main
    (record {
      shaped = (reading_free f typed counts numbers.declared).start limits have;
      filled = (none_empty f typed counts).start limits have;
    })
