-- Several elements put into a list at once.
use Rattle.std.specs.Prelude.{List, [], ◌∷◌}
use Rattle.std.specs.declared.cmp.Ordering.{Ordering}
use Rattle.rising_lists.specs.Keyed.{put}

-- the list with each of these elements at its key
abbrev pub puts : {K X : Type 0} → (K → K → Ordering) → (X → K) → List X → List X → List X
puts cmp key [] xs = xs
puts cmp key (d ∷ ds) xs = put cmp key d (puts cmp key ds xs)
