-- Files of distinct names.
use Rattle.std.specs.Prelude.{◌≡◌, ◌≢◌, ◌<◌, ℕ, zero, suc, List, [], ◌∷◌, length, Some, All, AllPairs, slice_index_or}
use Rattle.std.proofs.Common.{refl, arith}
use Rattle.std.specs.Str.{bytes_eq}
use Rattle.std.proofs.lemmas.Bool.{false_from_ne_true}
use Rattle.std.proofs.lemmas.Slice.Eq.{bytes_eq-Decides}
use Rattle.outside.specs.Memory.{file_named}

-- each file is found by its name
pub each_is_told : (files : List (List ℕ × List ℕ)) → AllPairs (λ a b. a.0 ≢ b.0) files → All (λ file. file_named files file.0 ≡ Some file.1) files
each_is_told [] distinct k d within = absurd (omega arith)
each_is_told (file ∷ files) distinct zero d within =
    let same = (bytes_eq-Decides file.0 file.0).1 refl in
    rw same refl
each_is_told (file ∷ files) distinct (suc k) d within =
    let after : k < length files = omega arith in
    let differs = false_from_ne_true (bytes_eq file.0 (slice_index_or files k d).0) (λ same. distinct 0 (suc k) d (omega arith) within ((bytes_eq-Decides _ _).0 same)) in
    let rest = each_is_told files (λ i j e less bound. distinct (suc i) (suc j) e (omega arith) (omega arith)) k d after in
    rw differs rest
