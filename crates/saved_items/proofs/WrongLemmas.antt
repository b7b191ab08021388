-- What is told of the first item of a text that isn't of its form.
use Rattle.std.proofs.Common.{◌≡◌, ℕ, ◌+◌, ◌-◌, ◌≤◌, ◌==◌, ◌++◌, length, take, refl, sym, ap, ◌∙◌, arith, length-append}
use Rattle.std.specs.Prelude.{◌↔◌, IsTrue}
use Rattle.std.specs.List.{prefix_len}
use Rattle.std.proofs.lemmas.Bool.{eq-eqb, eqb-true}
use Rattle.std.proofs.lemmas.List.{take_at, take_all, length-take-le}
use Rattle.payroll_records.specs.Tables.{Text}
use Rattle.saved_items.specs.Fronts.{FirstItems, items_in, plans_of_first, front_text, AreFirstItems}
use Rattle.saved_items.specs.private.ItemDecisions.{Goes, Ends}
use Rattle.saved_items.specs.WrongItems.{IsWrongItem, front_line, is_in_line, line_behind, wanted_behind}
use Rattle.saved_items.specs.declared.wrong_items.WrongItem.{WrongItem}
use Rattle.saved_items.proofs.TextLemmas.{stops}

-- no line feed ends a line that is as long as what is left
pub cut_by : (bytes : Text) (n : ℕ) → n ≡ prefix_len is_in_line bytes → n ≤ length bytes
    → IsTrue (n == length bytes) ↔ (front_line bytes ≡ bytes)
cut_by bytes n count within = (
  λ t. (
      let same = eqb-true n (length bytes) t in
      take_all (prefix_len is_in_line bytes) bytes (omega (arith, same, count))),
  λ e. (
      let long = ap length e in
      let short = length-take-le (prefix_len is_in_line bytes) bytes (omega (arith, within, count)) in
      eq-eqb n (length bytes) (omega (arith, long, short, count))),
)

module _ (bytes : Text) (f : FirstItems) (rest : Text) (sound : AreFirstItems f) (text : bytes ≡ front_text f ++ rest)
    (none : Goes f rest → ⊥) where
  -- what stands before what is left
  pub read_text : take (length bytes - length rest) bytes ≡ front_text f
  read_text =
      let long = ap length text in
      ap (take (length bytes - length rest)) text
      ∙ take_at (front_text f) rest (length bytes - length rest) (omega (arith, long, length-append (front_text f) rest))

  -- what is told of the item that would follow
  pub wrong_there : (w : WrongItem) → (Ends f rest → ⊥) → w.item ≡ items_in f + 1
      → w.line ≡ line_behind (take (length bytes - length rest) bytes)
      → w.found.now ≡ front_line rest → (IsTrue w.is_cut ↔ (front_line rest ≡ rest)) → w.wanted ≡ wanted_behind f → IsWrongItem bytes w
  wrong_there w open_end counted line found cut wanted =
      let s = stops bytes f rest sound text none open_end in
      record {
        stop = record { item = items_in f + 1; at = length (front_text f); plans = plans_of_first f };
        stops = record {
          front = f;
          shown = record { sound = sound; rest = rest; begins = text };
          item = refl;
          at = refl;
          plans = refl;
          stuck = s.stuck;
          unfinished = s.unfinished;
        };
        item = counted;
        line = line ∙ ap line_behind read_text;
        found = found;
        cut = (λ t. found ∙ cut.0 t, λ e. cut.1 (sym found ∙ e));
        wanted = wanted;
      }
