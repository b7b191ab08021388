-- Lists whose keys rise strictly: what stands at a key, and what an edit at a key leaves.
use Rattle.std.specs.Prelude.{List, [], ◌∷◌, Option, Some, None, if◌then◌else◌, ◌≡◌, ⊤}
use Rattle.std.specs.declared.cmp.Ordering.{Ordering}
use Rattle.std.specs.declared.cmp.Ordering.TheVariants.{Less, Equal, Greater}
use Rattle.std.specs.Ordering.{is_eq}

-- the element at a key, if there is one
abbrev pub at_key : {K X : Type 0} → (K → K → Ordering) → (X → K) → List X → K → Option X
at_key cmp key [] k = None
at_key cmp key (x ∷ xs) k = if is_eq (cmp (key x) k) then Some x else at_key cmp key xs k

-- what putting an element leaves at the list's first element, by the order of their keys
abbrev pub put_by : {X : Type 0} → Ordering → X → X → List X → List X → List X
put_by Less y x xs rest = y ∷ (x ∷ xs)
put_by Equal y x xs rest = y ∷ xs
put_by Greater y x xs rest = x ∷ rest

-- the list with y at its key, in place of what stood there
abbrev pub put : {K X : Type 0} → (K → K → Ordering) → (X → K) → X → List X → List X
put cmp key y [] = y ∷ []
put cmp key y (x ∷ xs) = put_by (cmp (key y) (key x)) y x xs (put cmp key y xs)

-- the list with nothing at the key
abbrev pub without : {K X : Type 0} → (K → K → Ordering) → (X → K) → K → List X → List X
without cmp key k [] = []
without cmp key k (x ∷ xs) = if is_eq (cmp (key x) k) then xs else x ∷ without cmp key k xs

-- every key of the list is above k
abbrev pub AreAbove : {K X : Type 0} → (K → K → Ordering) → (X → K) → K → List X → Type 0
AreAbove cmp key k [] = ⊤
AreAbove cmp key k (x ∷ xs) = (cmp k (key x) ≡ Less) × AreAbove cmp key k xs

-- the keys rise strictly
abbrev pub IsRising : {K X : Type 0} → (K → K → Ordering) → (X → K) → List X → Type 0
IsRising cmp key [] = ⊤
IsRising cmp key (x ∷ xs) = AreAbove cmp key (key x) xs × IsRising cmp key xs
