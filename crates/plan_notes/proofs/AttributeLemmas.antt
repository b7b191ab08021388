-- A byte of an attribute's value is found byte by byte.
use Rattle.std.proofs.Common.{◌≡◌, ℕ, suc, ◌+◌, ◌-◌, ◌≤◌, List, subst, arith}
use Rattle.pap_reader.specs.Values.{IsByte, NoByte}
use Rattle.plan_notes.specs.AttributeBytes.{IsBehind}
use Rattle.plan_notes.specs.AttributeBytes as values

-- what is left behind some bytes of a value lifts to the value
abbrev pub Lifts : ℕ → List ℕ → ℕ → List ℕ → Type 0
Lifts quote text count left = (more : ℕ) (last : List ℕ) → IsBehind quote left more last
    → IsBehind quote text (count + more) last

pub lifts_none : (quote : ℕ) (text : List ℕ) → Lifts quote text 0 text
lifts_none quote text more last b = let same : more
    ≡ 0 + more = omega arith in subst (λ n. IsBehind quote text n last) same b

pub lifts_more : (quote c : ℕ) (text left next : List ℕ) (count : ℕ) → Lifts quote text count left
    → IsByte quote left c next → Lifts quote text (count + 1) next
lifts_more quote c text left next count lifts is more last b =
    let same : count + suc more ≡ count + 1 + more = omega arith in
    subst (λ n. IsBehind quote text n last) same (lifts (suc more) last (values.byte is b))

pub lifts_all : (quote : ℕ) (text left : List ℕ) (count : ℕ) → Lifts quote text count left
    → IsBehind quote text count left
lifts_all quote text left count lifts =
    let same : count + 0 ≡ count =
    omega arith in subst (λ n. IsBehind quote text n left) same (lifts 0 left values.start)

pub lifts_ended : (quote : ℕ) (text left : List ℕ) (i count : ℕ) → i ≤ count → Lifts quote text i left
    → NoByte quote left → IsBehind quote text count left
lifts_ended quote text left i count up lifts lacks =
    let same : i + (count - i)
    ≡ count = omega arith in subst (λ n. IsBehind quote text n left) same
    (lifts (count - i) left (values.ended lacks))
