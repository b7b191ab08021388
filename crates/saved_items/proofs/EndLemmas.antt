-- Whether all items were read.
use Rattle.std.proofs.Common.{◌≡◌, ℕ, Bool, true, false, length, sym, ap, ◌∙◌}
use Rattle.std.specs.Prelude.{MatchBool}
use Rattle.std.specs.Str.{bytes_eq}
use Rattle.std.proofs.lemmas.Bool.{false≢true}
use Rattle.std.proofs.lemmas.Slice.Eq.{bytes_eq-Decides}
use Rattle.payroll_records.specs.Tables.{Text}
use Rattle.saved_items.specs.private.ItemDecisions.{all_of, Ends}
use Rattle.saved_items.specs.private.ItemViews.{front_at, front_in, IsComplete, EndsWith}
use Rattle.saved_items.specs.SavedBooks.{Saved, end_text}
use Rattle.saved_items.specs.ItemFaults.{saved_in}
use Rattle.saved_items.specs.declared.front.Front.{Front}
use Rattle.saved_items.specs.declared.front.Stage.{Stage}
use Rattle.saved_items.specs.declared.front.Stage.TheVariants as stage

pub complete_of : (st : Stage) (s t : Saved) → front_at st s ≡ all_of t → st ≡ stage.Runs (length s.records)
complete_of stage.Title s t e = cc
complete_of stage.Work s t e = cc
complete_of stage.PlanCount s t e = cc
complete_of (stage.Plans n) s t e = cc
complete_of (stage.Runs n) s t e =
    let count : n ≡ length t.records = cc in
    let same : s.records ≡ t.records = cc in
    ap (λ (m : ℕ). stage.Runs m) (count ∙ ap length (sym same))

pub ends_by : (f : Front) (rest : Text) (b : Bool) → b ≡ bytes_eq rest end_text → IsComplete f →
    MatchBool b (EndsWith f rest) (Ends (front_in f) rest → ⊥)
ends_by f rest true e complete = (
  ap (λ (st : Stage). front_at st (saved_in f.items)) complete,
  (bytes_eq-Decides rest end_text).0 (sym e),
)
ends_by f rest false e complete = λ h. false≢true (e ∙ (bytes_eq-Decides rest end_text).1 h.last)
