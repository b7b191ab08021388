-- What was appended of a text that is put piece by piece.
use Rattle.std.proofs.Common.{◌≡◌, ℕ, List, ◌++◌, take, drop, sym, ap, ◌∙◌, append_assoc}
use Rattle.std.specs.Prelude.{Option}
use Rattle.std.proofs.lemmas.List.{take-append-drop}
use Rattle.outside.specs.Told.{Appends, AppendsFront, AppendsShort}
use Rattle.outside.proofs.Laws.{Appends-then}

-- a part of the whole was appended, and the other is to come
pub record IsUnderway (old now : Option (List ℕ)) (whole rest : List ℕ) : Type 0 where
  pub done : List ℕ
  pub parts : whole ≡ done ++ rest
  pub appended : Appends old now done

-- one piece more
pub underway_more : (o m n : Option (List ℕ)) (whole piece rest : List ℕ) → IsUnderway o m whole (piece ++ rest) → Appends m n piece → IsUnderway o n whole rest
underway_more o m n whole piece rest h a =
    record {
      done = h.done ++ piece;
      parts = h.parts ∙ sym (append_assoc h.done piece rest);
      appended = Appends-then o m n h.done piece h.appended a;
    }

-- a piece is gathered behind others, which are to be put together
pub underway_longer : (o m : Option (List ℕ)) (whole rows piece rest longer : List ℕ) → IsUnderway o m whole (rows ++ (piece ++ rest)) → longer ≡ rows ++ piece → IsUnderway o m whole (longer ++ rest)
underway_longer o m whole rows piece rest longer h e =
    record {
      done = h.done;
      parts = h.parts ∙ ap (λ t. h.done ++ t) (sym (append_assoc rows piece rest) ∙ ap (λ t. t ++ rest) (sym e));
      appended = h.appended;
    }

-- it stops before a piece, or in it
pub underway_front : (o m : Option (List ℕ)) (whole rest : List ℕ) → IsUnderway o m whole rest → AppendsFront o m whole
underway_front o m whole rest h = record { front = h.done; rest = rest; parts = h.parts; appended = h.appended }

pub front_then : (o m n : Option (List ℕ)) (whole piece rest : List ℕ) → IsUnderway o m whole (piece ++ rest) → AppendsFront m n piece → AppendsFront o n whole
front_then o m n whole piece rest h f =
    record {
      front = h.done ++ f.front;
      rest = f.rest ++ rest;
      parts = h.parts ∙ ap (λ t. h.done ++ (t ++ rest)) f.parts ∙ ap (λ t. h.done ++ t) (append_assoc f.front f.rest rest) ∙ sym (append_assoc h.done f.front (f.rest ++ rest));
      appended = Appends-then o m n h.done f.front h.appended f.appended;
    }

pub prefix_front : (m n : Option (List ℕ)) (piece : List ℕ) → AppendsShort m n piece → AppendsFront m n piece
prefix_front m n piece p =
    record { front = take p.count piece; rest = drop p.count piece; parts = sym (take-append-drop p.count piece); appended = p.appended }

-- ---- a text of two parts, the first of which is put whole before the other
