-- The words on what is read of two files are those on the files: a place beyond what was read is its end.
use Rattle.std.proofs.Common.{◌≡◌, ◌⊎◌, inl, inr, ℕ, ◌<◌, ◌≤◌, length, take, List, [], ◌∷◌, ◌++◌, refl, sym, ap, subst}
use Rattle.std.specs.Prelude.{Option, zero, suc, Some, None, codes}
use Rattle.pap_reader.specs.declared.fault.Which.TheVariants as which
use Rattle.pap_reader.specs.declared.fault.ReadFault.TheVariants as reads
use Rattle.pap_reader.specs.declared.fault.ReadFault.{ReadFault}
use Rattle.limits_file.specs.declared.fault.LimitsFault.{LimitsFault}
use Rattle.limits_file.specs.declared.fault.LimitsFault.TheVariants as ranges
use Rattle.pap_plan.specs.declared.refusal.PlanRefusal.{PlanRefusal}
use Rattle.pap_plan.specs.declared.refusal.PlanRefusal.TheVariants as refusals
use Rattle.pap_plan.specs.Acceptance.{IsRefused}
use Rattle.plain_words.specs.Lines.{shown_text}
use Rattle.plain_words.specs.Positions.{line_number, column_number, position_text}
use Rattle.plain_words.specs.Places.{NamedText, PlanFiles, PlanPlace, in_plan, in_ranges}
use Rattle.plain_words.specs.Refusals.{IsPlaceOfFault, IsPlaceOfLimits, IsPlaceOf, IsReasonOf, GivesReasonAt, BeginsAtRefusal}
use Rattle.plan_answers.proofs.Laws.{whole}

-- a front of a file
abbrev pub front : ℕ → NamedText → NamedText
front n file = record { name = file.name; bytes = take n file.bytes }

abbrev both : NamedText → NamedText → PlanFiles
both plan limits = record { plan = plan; ranges = limits }

-- ---- the range file

-- what stands before a place of the front stands before one of the whole: behind the front that is the front's end
front_place : (at m : ℕ) (bytes : List ℕ) → (k : ℕ) × (take at (take m bytes) ≡ take k bytes)
front_place zero m bytes = (zero, refl)
front_place (suc at) zero bytes = (zero, refl)
front_place (suc at) (suc m) [] = (zero, refl)
front_place (suc at) (suc m) (x ∷ xs) =
    let same = front_place at m xs in (suc same.0, ap (λ l. x ∷ l) same.1)

in_one_file : (a b : Option ℕ) → in_ranges a ≡ in_plan b → ⊥
in_one_file a b e = cc

-- what stands at a byte of the range file may stand at any
fault_moved : (plan : List ℕ) (fault : ReadFault) (a b : ℕ) → IsPlaceOfFault plan fault (in_ranges (Some a))
    → IsPlaceOfFault plan fault (in_ranges (Some b))
fault_moved plan (reads.Text at) a b h = absurd (in_one_file (Some a) (Some h.0) h.2)
fault_moved plan (reads.Element at) a b h = absurd cc
fault_moved plan (reads.Attribute at) a b h = absurd cc
fault_moved plan (reads.Many which.Bytes) a b h = absurd cc
fault_moved plan (reads.Many which.Depth) a b h = absurd cc
fault_moved plan (reads.Many which.Inputs) a b h = h
fault_moved plan (reads.Many which.Outputs) a b h = h
fault_moved plan (reads.Many which.Internals) a b h = h
fault_moved plan (reads.Many which.Constants) a b h = h
fault_moved plan (reads.Many which.Methods) a b h = h
fault_moved plan (reads.Many which.Statements) a b h = h
fault_moved plan reads.Memory a b h = h

limits_moved : (fault : LimitsFault) (a b : ℕ) → IsPlaceOfLimits fault (in_ranges (Some a))
    → IsPlaceOfLimits fault (in_ranges (Some b))
limits_moved ranges.LimitsLong a b h = absurd cc
limits_moved (ranges.Memory e) a b h = h
limits_moved ranges.Toml a b h = tt
limits_moved (ranges.Key label) a b h = tt
limits_moved (ranges.Bound label) a b h = tt

moved : (plan : List ℕ) (r : PlanRefusal) (a b : ℕ) → IsPlaceOf plan r (in_ranges (Some a))
    → IsPlaceOf plan r (in_ranges (Some b))
moved plan (refusals.Read fault) a b h = fault_moved plan fault a b h
moved plan (refusals.Limits fault) a b h = limits_moved fault a b h
moved plan (refusals.LimitName name) a b h = record { input = h.input; none = λ no. tt }
moved plan (refusals.LimitKind name) a b h = tt
moved plan (refusals.Bind name) a b h = tt
moved plan (refusals.Expr spot fault) a b h = h
moved plan (refusals.Types fault) a b h = h
moved plan (refusals.Order fault) a b h = h
moved plan (refusals.Range fault) a b h = h
moved plan refusals.Memory a b h = h

-- the words begin with the place behind these bytes, and go on with a reason of this refusal
abbrev IsBehind : (plan : List ℕ) (r : PlanRefusal) (name words before : List ℕ) → Type 0
IsBehind plan r name words before =
    (text : List ℕ) × (IsReasonOf plan r text × (words ≡ shown_text
    ((name ++ (codes ":" ++ position_text (line_number before) (column_number before))) ++ (codes ": " ++ text))))

pub begins_ranges : (m : ℕ) (plan limits : NamedText) (r : PlanRefusal) (words : List ℕ)
    → BeginsAtRefusal (both plan (front m limits)) r words → BeginsAtRefusal (both plan limits) r words
begins_ranges m plan limits r words h = by h.place h.is h.begins
  where
    by : (place : PlanPlace) → IsPlaceOf plan.bytes r place
        → GivesReasonAt (both plan (front m limits)) place r words → BeginsAtRefusal (both plan limits) r words
    by (in_plan at) is begins = record { place = in_plan at; is = is; begins = begins; helps = h.helps }
    by (in_ranges None) is begins = record { place = in_ranges None; is = is; begins = begins; helps = h.helps }
    by (in_ranges (Some at)) is begins =
        let same = front_place at m limits.bytes in record {
          place = in_ranges (Some same.0);
          is = moved plan.bytes r at same.0 is;
          begins = subst (λ before. IsBehind plan.bytes r limits.name words before) same.1 begins;
          helps = h.helps;
        }

-- ---- the plan's file

abbrev too_many : PlanRefusal
too_many = refusals.Read (reads.Many which.Bytes)

-- a refused plan is within its limit, or refused since it isn't
within : (plan limits : List ℕ) (r : PlanRefusal) → IsRefused plan limits r → (length plan ≤ 1048576) ⊎ (r ≡ too_many)
within plan limits (refusals.Read (reads.Many which.Bytes)) h = inr refl
within plan limits (refusals.Read (reads.Many which.Inputs)) h = inl h.0
within plan limits (refusals.Read (reads.Many which.Outputs)) h = inl h.0
within plan limits (refusals.Read (reads.Many which.Internals)) h = inl h.0
within plan limits (refusals.Read (reads.Many which.Constants)) h = inl h.0
within plan limits (refusals.Read (reads.Many which.Methods)) h = inl h.0
within plan limits (refusals.Read (reads.Many which.Statements)) h = inl h.0
within plan limits (refusals.Read (reads.Many which.Depth)) h = inl h.0
within plan limits (refusals.Read (reads.Text at)) h = inl h.0
within plan limits (refusals.Read (reads.Element at)) h = inl h.0
within plan limits (refusals.Read (reads.Attribute at)) h = inl h.0
within plan limits (refusals.Read reads.Memory) h = absurd h
within plan limits (refusals.Expr spot fault) h = inl h.1.short
within plan limits (refusals.Types fault) h = inl h.1.read.short
within plan limits (refusals.Order fault) h = inl h.1.text.read.short
within plan limits (refusals.Limits fault) h = inl h.1.typed.text.read.short
within plan limits (refusals.LimitName name) h = inl h.1.1.ordered.typed.text.read.short
within plan limits (refusals.LimitKind name) h = inl h.1.1.file.ordered.typed.text.read.short
within plan limits (refusals.Bind name) h = inl h.1.1.named.file.ordered.typed.text.read.short
within plan limits (refusals.Range fault) h = inl h.1.1.suited.named.file.ordered.typed.text.read.short
within plan limits refusals.Memory h = absurd h

-- one that is too long is refused as a whole
on_long : (n : ℕ) (plan limits : NamedText) (words : List ℕ)
    → BeginsAtRefusal (both (front n plan) limits) too_many words → BeginsAtRefusal (both plan limits) too_many words
on_long n plan limits words h =
    let begins = subst (λ p. GivesReasonAt (both (front n plan) limits) p too_many words) h.is h.begins in record {
      place = in_plan None;
      is = refl;
      begins = (begins.0, (record { reason = begins.1.0.reason; says = begins.1.0.says }, begins.1.1));
      helps = h.helps;
    }

pub begins_plan : (n : ℕ) → 1048576 < n → (plan limits : NamedText) (bytes : List ℕ) (r : PlanRefusal) (words : List ℕ)
    → IsRefused (take n plan.bytes) bytes r → BeginsAtRefusal (both (front n plan) limits) r words
    → BeginsAtRefusal (both plan limits) r words
begins_plan n more plan limits bytes r words refused = by (within (take n plan.bytes) bytes r refused)
  where
    by : (length (take n plan.bytes) ≤ 1048576) ⊎ (r ≡ too_many)
        → BeginsAtRefusal (both (front n plan) limits) r words → BeginsAtRefusal (both plan limits) r words
    by (inl short) h =
        subst (λ b. BeginsAtRefusal (both (record { name = plan.name; bytes = b }) limits) r words)
        (whole 1048576 n plan.bytes more short) h
    by (inr long) h =
        subst (λ r. BeginsAtRefusal (both plan limits) r words) (sym long)
        (on_long n plan limits words (subst (λ r. BeginsAtRefusal (both (front n plan) limits) r words) long h))
