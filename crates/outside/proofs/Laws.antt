-- The laws of the outside that other crates may cite: of what is appended and consumed, one call after another, of counts
-- that rise, and of what `SureFiles` keeps.
use Rattle.std.specs.Prelude.{◌≡◌, ℕ, ◌≤◌, List, [], ◌++◌, Option, None, Some, String, string_bytes}
use Rattle.std.specs.Option.{ForSome}
use Rattle.std.specs.Io.KnownBytes.{Appends, Consumes, Keeps}
use Rattle.std.specs.declared.alloc.Global.{Global}
use Rattle.std.proofs.Common.{refl, sym, ◌∙◌, ap, subst, append_assoc, arith}
use Rattle.std.proofs.lemmas.List.{append-nil}
use Rattle.outside.specs.Causes.{Rose}
use Rattle.outside.specs.Memory.{file_named, name_bytes}
use Rattle.outside.specs.Sure.{sure_files, sure_failed}
use Rattle.outside.specs.declared.sure.SureFiles.{SureFiles}

-- where nothing is done, nothing was appended
pub Appends-nothing : (o : Option (List ℕ)) → Appends o o []
Appends-nothing None = tt
Appends-nothing (Some xs) = sym (append-nil xs)

-- where what is told is kept, nothing was appended
pub Appends-kept : (o n : Option (List ℕ)) → Keeps o n → Appends o n []
Appends-kept None n k = tt
Appends-kept (Some xs) None k = k
Appends-kept (Some xs) (Some ys) k = k ∙ sym (append-nil xs)

-- what two calls append, one after the other
pub Appends-then : (o m n : Option (List ℕ)) (a b : List ℕ) → Appends o m a → Appends m n b → Appends o n (a ++ b)
Appends-then None m n a b p q = tt
Appends-then (Some xs) None n a b p q = absurd p
Appends-then (Some xs) (Some ys) None a b p q = absurd q
Appends-then (Some xs) (Some ys) (Some zs) a b p q = q ∙ ap (λ v. v ++ b) p ∙ append_assoc xs a b

-- where nothing is done, nothing was consumed
pub Consumes-nothing : (o : Option (List ℕ)) → Consumes o o []
Consumes-nothing None = tt
Consumes-nothing (Some xs) = refl

-- where what is told is kept, nothing was consumed
pub Consumes-kept : (o n : Option (List ℕ)) → Keeps o n → Consumes o n []
Consumes-kept None n k = tt
Consumes-kept (Some xs) None k = k
Consumes-kept (Some xs) (Some ys) k = sym k

-- what two calls consume, one after the other
pub Consumes-then : (o m n : Option (List ℕ)) (a b : List ℕ) → Consumes o m a → Consumes m n b → Consumes o n (a ++ b)
Consumes-then None m n a b p q = tt
Consumes-then (Some xs) None n a b p q = absurd p
Consumes-then (Some xs) (Some ys) None a b p q = absurd q
Consumes-then (Some xs) (Some ys) (Some zs) a b p q = p ∙ ap (λ v. a ++ v) q ∙ sym (append_assoc a b zs)

-- a rise in a part of a run is a rise in the whole
pub Rose-within : (a b c d : ℕ) → a ≤ b → c ≤ d → Rose b c → Rose a d
Rose-within a b c d before after rose = omega arith

lacking : (files : List (List ℕ × List ℕ)) (failed : Option (String Global)) (name : List ℕ) → ForSome failed (λ text. file_named files (string_bytes text) ≡ None) → name_bytes failed ≡ Some name → file_named files name ≡ None
lacking files None name lacks e = cc
lacking files (Some text) name lacks e = let same : string_bytes text ≡ name = cc in subst (λ v. file_named files v ≡ None) same (lacks text refl)

-- the failed name of `SureFiles` is no name of a file
pub sure_lacks : (s : SureFiles) (name : List ℕ) → sure_failed s ≡ Some name → file_named (sure_files s) name ≡ None
sure_lacks s name e = lacking (sure_files s) s.failed name s.lacks e

abbrev told_at : Option (List ℕ → Option (List ℕ)) → List ℕ → Option (List ℕ)
told_at None name = None
told_at (Some files) name = files name

-- a call that left the files of `SureFiles` as they were and failed at this name failed at one that isn't there
pub sure_lacked : (old new : SureFiles) (name : List ℕ) → ◌≡◌ {A = Option (List ℕ → Option (List ℕ))} (Some (file_named (sure_files new))) (Some (file_named (sure_files old))) → sure_failed new ≡ Some name → file_named (sure_files old) name ≡ None
sure_lacked old new name same e = sym (ap (λ told. told_at told name) same) ∙ sure_lacks new name e
