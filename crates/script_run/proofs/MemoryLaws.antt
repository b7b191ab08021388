-- Over files that lack none of a script's, a run is stopped by memory alone.
use Rattle.std.proofs.Common.{◌≡◌, List, [], ◌∷◌, ◌++◌, ℕ, ◌-◌, ◌≤◌, length, Option, sym, ap, ◌∙◌, subst, arith, length-append}
use Rattle.std.specs.Prelude.{None, Some, IsSome, All, Vec, Result, Ok, Err, OnErr}
use Rattle.std.specs.declared.alloc.Global.{Global}
use Rattle.std.proofs.lemmas.List.Elements.{All-head, All-tail}
use Rattle.outside.specs.Told.{FileMap}
use Rattle.outside.specs.Memory.{file_named}
use Rattle.script_steps.specs.Steps.{Standing, AreThere}
use Rattle.script_run.specs.Limits.{most_script}
use Rattle.script_run.specs.Transcripts.{lines_of}
use Rattle.script_run.specs.Notes.{RunShown}
use Rattle.script_run.specs.RunClauses.{RunMeets, EndsUnwritten, EndsWritten, IsFinished, IsSpentWithin}
use Rattle.script_run.specs.private.RunClauses.{EndsAt}
use Rattle.script_run.specs.private.RunViews.{stopped_at}
use Rattle.script_run.specs.declared.turns.Ended.{Ended}
use Rattle.script_run.specs.declared.line_counts.LineCounts.{LineCounts}
use Rattle.script_run.specs.declared.stop.Stop.{Stop}
use Rattle.script_run.specs.declared.stop.Stop.TheVariants as stops
use Rattle.script_run.specs.declared.stop.Stopped.{Stopped}
use Rattle.script_run.proofs.Laws.{one, some}

-- a run that stopped for this reason
pub stopped_for : {before after : RunShown} {script : List ℕ} {left : Option (List ℕ)} (stopped : Stopped)
    {stop : Stop} →
    stopped.stop ≡ stop → RunMeets before after script left (Err stopped) →
    RunMeets before after script left (stopped_at stop stopped.counts)
stopped_for {before = before} {after = after} {script = script} {left = left} stopped is meets =
    subst (λ v. RunMeets before after script left (stopped_at v stopped.counts)) is meets

line_there : (files : FileMap) (before later : List (List ℕ)) (line : List ℕ) → All (λ v. AreThere files v)
    (before ++ line ∷ later) → AreThere files line
line_there files [] later line there = All-head (λ v. AreThere files v) line later there
line_there files (first ∷ before) later line there =
    line_there files before later line (All-tail (λ v. AreThere files v) first (before ++ line ∷ later) there)

-- a file that a line names isn't lacking
pub no_file_stop : {before after : RunShown} {left : Option (List ℕ)} {lines : LineCounts} (files : FileMap)
    (script : List ℕ) → RunMeets before after script left (stopped_at stops.File lines) →
    All (λ line. AreThere files line) (lines_of script) → ((name : List ℕ) → after.failed ≡ Some name →
    files name ≡ None) → ⊥
no_file_stop files script meets there lacks =
    let at = meets.leaves.tells in
    let place = at.place in
    let is = line_there files at.before place.later at.line (subst (λ v. All
    (λ line. AreThere files line) v) place.lines there) at.name at.names in
    let none = subst (λ v. IsSome v) (lacks at.name at.failed_there) is in
    cc

-- a script within the limit isn't too long
pub no_long_stop : {before after : RunShown} {left : Option (List ℕ)} {lines : LineCounts} (script : List ℕ) →
    RunMeets before after script left (stopped_at stops.Long lines) → length script ≤ most_script → ⊥
no_long_stop script meets short = omega (
  arith,
  meets.leaves.tells.past,
  ap
      (λ v. length v) meets.split,
  length-append meets.taken meets.rest,
)

-- what a whole run leaves
pub finished : {before after : RunShown} {left : Option (List ℕ)} (files : FileMap) (script : List ℕ)
    (ended : Ended) (kept : Option (Vec ℕ Global)) →
    RunMeets before after script left (Ok ended.counts) →
    EndsAt files script ended.script kept ended.counts →
    before.files ≡ Some files → IsFinished files script before.steps after.steps ended
finished {before = before} {after = after} files script ended kept meets ends told =
    let whole = meets.leaves.tells.whole files told in
    let same = one files script whole.session ends.session whole.is ends.is in
    let later : before.steps ≤ after.steps = meets.leaves.counted in
    let cost : after.steps - before.steps ≡ (whole.session).steps = whole.cost in
    record {
      session = whole.session;
      is = whole.is;
      mark = whole.mark;
      counted = whole.told_is.counted;
      cost = omega arith;
      left = sym (ap (λ v. v.standing) same ∙ ends.left);
    }

-- what a whole run has made
pub ends_written : (files : FileMap) (script : List ℕ) (ended : Ended) (kept : Option (Vec ℕ Global)) →
    EndsAt files script ended.script kept ended.counts → EndsWritten files script ended
ends_written files script ended kept ends = record {
  session = ends.session;
  is = ends.is;
  counted = ends.counted;
  left = sym ends.left;
}

-- what a whole run has made whose refusals were kept
pub ends_unwritten : {before after : RunShown} {left : Option (List ℕ)} (files : FileMap) (script : List ℕ)
    (lines : LineCounts) (standing : Standing) (kept : Vec ℕ Global) →
    RunMeets before after script left (Ok lines) → EndsAt files script standing (Some kept) lines →
    before.files ≡ Some files →
    EndsUnwritten files script (record { counts = lines; refusals = kept; script = standing })
ends_unwritten files script lines standing kept meets ends told =
    let whole = meets.leaves.tells.whole files told in
    let same = one files script whole.session ends.session whole.is ends.is in
    record {
      session = ends.session;
      is = ends.is;
      mark = whole.mark ∙ ap (λ v. v.refused) same;
      counted = ends.counted;
      refusals = ends.refusals;
      left = sym ends.left;
    }

-- what a run leaves that memory stopped
pub spent_within : {before after : RunShown} {left : Option (List ℕ)} {lines : LineCounts} (files : FileMap)
    (script : List ℕ) → RunMeets before after script left (stopped_at stops.Memory lines) → before.files ≡ Some files →
    IsSpentWithin files script before.steps after.steps
spent_within {before = before} {after = after} files script meets told =
    let has = some files script in
    let front = meets.leaves.front files told has.session has.is in
    let later : before.steps ≤ after.steps = meets.leaves.counted in
    let cost : after.steps - before.steps ≤ (has.session).steps = front.cost in
    record { session = has.session; is = has.is; later = later; within = omega arith }

-- before anything was done
pub spent_nothing : (files : FileMap) (script : List ℕ) (steps : ℕ) → IsSpentWithin files script steps steps
spent_nothing files script steps =
    let has = some files script in
    record { session = has.session; is = has.is; later = omega arith; within = omega arith }

-- the same files tell the same
pub told_files : {files files' : List (List ℕ × List ℕ)} → files ≡ files' → ◌≡◌ {A = Option FileMap} (Some
    (file_named files)) (Some (file_named files'))
told_files same = ap (λ v. Some (file_named v)) same

pub on_err : {T E : Type 0} (P : Type 0) (r : Result T E) → P → OnErr r P
on_err P (Ok value) is = tt
on_err P (Err error) is = is
