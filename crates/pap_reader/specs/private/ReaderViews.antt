-- What the reader's open elements and its plan stand for, and what its calls do.
use Rattle.std.specs.Prelude.{◌≡◌, ℕ, Bool, true, Option, Some, None, Result, Ok, Err, MatchResult, List, [], ◌∷◌, ◌++◌, map, reverse}
use Rattle.std.specs.List.{list_any}
use Rattle.pap_reader.specs.declared.element.Element.{Element}
use Rattle.pap_reader.specs.declared.fault.ReadFault.{ReadFault}
use Rattle.pap_reader.specs.declared.fault.ReadFault.TheVariants as faults
use Rattle.pap_reader.specs.declared.elements.Elements.{Elements}
use Rattle.pap_reader.specs.declared.reader.OpenElement.{OpenElement}
use Rattle.pap_reader.specs.declared.reader.Reader.{Reader}
use Rattle.pap_reader.specs.declared.attributes.TagValue.{TagValue}
use Rattle.pap_reader.specs.Structure.{Shape, opens, closes, opens_internals}
use Rattle.pap_reader.specs.private.NestingDecisions.{Open, step}
use Rattle.pap_reader.specs.Tags.{Attribute}
use Rattle.pap_reader.specs.Marks.{Mark, begins, ends, shape}
use Rattle.pap_reader.specs.Attributes.{is_right}
use Rattle.pap_reader.specs.Trees.{raw_declaration_of, raw_body_of, raw_routine_of, tree_of, ElementTree}
use Rattle.pap_reader.specs.Meaning.{Piece, nothing, both, adds, says, or_done}
use Rattle.pap_reader.specs.Limits.{tested}
use Rattle.pap_reader.specs.private.VerdictDecisions.{Work, build, builds, IsFew, first_over, entered, verdict_on}
use Rattle.pap_reader.specs.private.Views.{HasFlags, Tallies, IsValueOf}

-- the statements of an open element so far
pub record ShowsPiece (r : OpenElement) (p : Piece) : Type 0 where
  pub statements : raw_body_of r.statements.items ≡ p.statements
  pub yes : raw_body_of r.yes.items ≡ or_done p.yes
  pub no : raw_body_of r.no.items ≡ or_done p.no

-- the plan so far is what the piece says outside of all elements
pub record ShowsPlan (x : Elements) (p : Piece) : Type 0 where
  pub inputs : map raw_declaration_of x.inputs.items ≡ p.inputs
  pub outputs : map raw_declaration_of x.outputs.items ≡ p.outputs
  pub internals : map raw_declaration_of x.internals.items ≡ p.internals
  pub constants : map raw_declaration_of x.constants.items ≡ p.constants
  pub main : raw_body_of x.main.items ≡ or_done p.main
  pub methods : map raw_routine_of x.methods.items ≡ p.methods

abbrev pub IsValueIn : Option Element → List Attribute → TagValue → Type 0
IsValueIn None attributes v = Unit {0}
IsValueIn (Some e) attributes v = IsValueOf e attributes v

-- the code's open element is this one, and this is what it says so far
pub record ShowsOpen (r : OpenElement) (o : Open) (w : Work) : Type 0 where
  pub inside : r.element ≡ o.inside
  pub children : HasFlags r.children.stands o.children
  pub value : IsValueIn o.inside w.attributes r.value
  pub piece : ShowsPiece r w.piece

-- What a closed child of that element makes of its parent.
pub record ClosedInBody (e : Element) (child parent after : OpenElement) : Type 0 where
  pub element : after.element ≡ parent.element
  pub children : after.children ≡ parent.children
  pub value : after.value ≡ parent.value
  pub piece : (attributes : List Attribute) (p v : Piece)
      → IsValueOf e attributes child.value → ShowsPiece child p → ShowsPiece parent v
      → ShowsPiece after (both v (says e attributes p))

-- What it makes of the plan.
abbrev pub ClosedInPlan : Element → OpenElement → Elements → Elements → Type 0
ClosedInPlan e child x y =
    (attributes : List Attribute) (p q : Piece)
    → IsValueOf e attributes child.value → ShowsPiece child p → ShowsPlan x q
    → ShowsPlan y (both q (adds e attributes p))

-- Both.
pub record Closed (e : Element) (child parent after : OpenElement) (x y : Elements) : Type 0 where
  pub body : ClosedInBody e child parent after
  pub plan : ClosedInPlan e child x y

-- ---- the whole reader

abbrev pub ShowsAll : List OpenElement → List Open → List Work → Type 0
ShowsAll [] [] [] = Unit {0}
ShowsAll (r ∷ rs) (o ∷ os) (w ∷ ws) = ShowsOpen r o w × ShowsAll rs os ws
ShowsAll _ _ _ = ⊥

-- what all open elements say, the outmost first
abbrev pub total : List Work → Piece
total [] = nothing
total (w ∷ ws) = both (total ws) w.piece

-- the reader has read these shapes
pub record Stands (x : Reader) (before : List Shape) (os : List Open) (ws : List Work) : Type 0 where
  pub parts : ShowsAll (x.top ∷ reverse x.outer.items) os ws
  pub internals : x.internals ≡ list_any opens_internals before
  pub counts : Tallies x.counts before
  pub few : IsFew before tested
  pub plan : ShowsPlan x.plan (total ws)

-- memory ran out, or this is the answer
abbrev pub Refuses : {A : Type 0} → ReadFault → Result A ReadFault → Type 0
Refuses faults.Memory r = Unit {0}
Refuses (faults.Text at) r = r ≡ Err (faults.Text at)
Refuses (faults.Element at) r = r ≡ Err (faults.Element at)
Refuses (faults.Attribute at) r = r ≡ Err (faults.Attribute at)
Refuses (faults.Many w) r = r ≡ Err (faults.Many w)

-- the verdict on one shape
abbrev pub one_verdict : ℕ → List Shape → List Open → Bool → Shape → Result (List Open) ReadFault
one_verdict at before os right s = entered at right (first_over (before ++ (s ∷ [])) tested) (step before os s)

-- The reader took one mark.
pub record Took (x : Reader) (before : List Shape) (os : List Open) (ws : List Work) (s : Shape) (m : Mark) : Type 0 where
  pub next : List Open
  pub stepped : step before os s ≡ Some next
  pub stands : Stands x (before ++ (s ∷ [])) next (build ws m)

-- What the reader's answer to some marks says.
abbrev pub Judges : ℕ → List Shape → List Open → List Work → List Mark → Reader → Result (Unit {0}) ReadFault → Type 0
Judges at before os ws ms x (Ok u) =
    (next : List Open) × (verdict_on before os at ms ≡ Ok next) × Stands x (before ++ map shape ms) next (builds ws ms)
Judges at before os ws ms x (Err f) = Refuses f (verdict_on before os at ms)

-- ---- what its calls do, whatever was read before

-- the part that is made for a new element
abbrev pub IsFresh : OpenElement → Open → TagValue → Type 0
IsFresh r o v =
    (attributes : List Attribute) → IsValueIn o.inside attributes v
    → ShowsOpen r o (record { attributes = attributes; piece = nothing })

-- it begins an element
abbrev pub BeginsElement : Reader → Reader → Result (Unit {0}) ReadFault → Element → List Attribute → ℕ → Type 0
BeginsElement x y r e attributes at =
    (before : List Shape) (os : List Open) (ws : List Work) → Stands x before os ws
    → MatchResult r
    (λ _. Took y before os ws (opens e) (begins e attributes) × (is_right e attributes ≡ true))
    (λ f. Refuses f (one_verdict at before os (is_right e attributes) (opens e)))

-- it ends an element
abbrev pub EndsElement : Reader → Reader → Result (Unit {0}) ReadFault → Element → ℕ → Type 0
EndsElement x y r e at =
    (before : List Shape) (os : List Open) (ws : List Work) → Stands x before os ws
    → MatchResult r
    (λ _. Took y before os ws (closes e) (ends e))
    (λ f. Refuses f (one_verdict at before os true (closes e)))

-- it takes some marks
abbrev pub TakesMarks : Reader → Reader → Result (Unit {0}) ReadFault → List Mark → ℕ → Type 0
TakesMarks x y r ms at =
    (before : List Shape) (os : List Open) (ws : List Work) → Stands x before os ws → Judges at before os ws ms y r

-- the function's answer is this one, unless memory ran out
abbrev pub Gives : Result Elements ReadFault → Result ElementTree ReadFault → Type 0
Gives (Ok x) r = r ≡ Ok (tree_of x)
Gives (Err f) r = Refuses f r
