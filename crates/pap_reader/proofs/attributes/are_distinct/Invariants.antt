use Rattle.std.proofs.Common.{◌≡◌, true, List, ℕ, take, Bor}
use Rattle.std.specs.Ordering.{nat_cmp}
use Rattle.std.specs.Cmp.Lexicographic.{slice_cmp}
use Rattle.std.specs.List.{list_any}
use Rattle.std.specs.BTreeSet.{contains}
use Rattle.std.specs.Str.{bytes_eq}
use Rattle.pap_reader.specs.Attributes.{are_different}
use Rattle.pap_reader.proofs.AttributeNames.{names}
use Rattle.pap_reader.proofs.attributes.are_distinct.Given as goal

-- the names so far differ, and the set has them
abbrev pub invariant-loop-attribute : goal.invariant-loop-attribute
invariant-loop-attribute l = record {
  different : are_different (names (take l.attribute-index l.attributes)) ≡ true;
  seen : (q : Bor (List ℕ)) → contains (λ x y. slice_cmp nat_cmp x.now y.now) l.seen q ≡ list_any (bytes_eq q.now) (names (take l.attribute-index l.attributes));
}
