-- The statuses of calls that ended, and what follows from them.
use Rattle.std.proofs.Common.{◌≡◌, ◌≢◌, ℕ, ◌+◌, ◌≤◌, Bool, true, false, List, ◌++◌, length, ap, refl, subst, arith, length-append}
use Rattle.std.specs.Prelude.{Option, Some, None, Result, Ok, Err}
use Rattle.outside.specs.Causes.{Rose, Still}
use Rattle.outside.specs.Told.{Appends, FileMap}
use Rattle.script_run.specs.Notes.{RunShown}
use Rattle.script_run.specs.Limits.{most_script}
use Rattle.script_run.specs.RunClauses.{Course, RunMeets, RunSays}
use Rattle.script_run.specs.declared.stop.Stop.{Stop}
use Rattle.script_run.specs.declared.stop.Stop.TheVariants as stops
use Rattle.script_run.specs.declared.stop.Stopped.{Stopped}
use Rattle.pap_cli.specs.declared.status.Status.TheVariants.{FileFault, ReadFault, WriteFault, NoMemory}
use Rattle.pap_cli.specs.Statuses.{done_status, status_of, IsDone}

-- ---- what was written whole

pub no_write : (r : Bool) → done_status r ≢ WriteFault
no_write true e = cc
no_write false e = cc

pub written_whole : (r : Bool) → IsDone (done_status r)
written_whole true = tt
written_whole false = tt

-- ---- the stop of a fault

pub file_stop : (r : Result Bool Stop) → status_of r ≡ FileFault → r ≡ Err stops.File
file_stop (Ok true) e = cc
file_stop (Ok false) e = cc
file_stop (Err stops.File) e = refl
file_stop (Err stops.Read) e = cc
file_stop (Err stops.Write) e = cc
file_stop (Err stops.Memory) e = cc
file_stop (Err stops.Long) e = cc

pub read_stop : (r : Result Bool Stop) → status_of r ≡ ReadFault → r ≡ Err stops.Read
read_stop (Ok true) e = cc
read_stop (Ok false) e = cc
read_stop (Err stops.File) e = cc
read_stop (Err stops.Read) e = refl
read_stop (Err stops.Write) e = cc
read_stop (Err stops.Memory) e = cc
read_stop (Err stops.Long) e = cc

pub write_stop : (r : Result Bool Stop) → status_of r ≡ WriteFault → r ≡ Err stops.Write
write_stop (Ok true) e = cc
write_stop (Ok false) e = cc
write_stop (Err stops.File) e = cc
write_stop (Err stops.Read) e = cc
write_stop (Err stops.Write) e = refl
write_stop (Err stops.Memory) e = cc
write_stop (Err stops.Long) e = cc

-- a stop for none of these reasons was that at a script that is too long
pub long_stop : (stop : Stop) → status_of (Err stop) ≢ FileFault → status_of (Err stop) ≢ ReadFault →
    status_of (Err stop) ≢ WriteFault → status_of (Err stop) ≢ NoMemory → stop ≡ stops.Long
long_stop stops.File file read write memory = absurd (file refl)
long_stop stops.Read file read write memory = absurd (read refl)
long_stop stops.Write file read write memory = absurd (write refl)
long_stop stops.Memory file read write memory = absurd (memory refl)
long_stop stops.Long file read write memory = refl

-- such a script has more bytes than the limit of scripts
past_limit : (most : ℕ) (told : Option FileMap) (course : Course) (failed : Option (List ℕ)) (stop : Stop) →
    stop ≡ stops.Long → RunSays most told course failed (Err stop) → length course.taken ≡ most_script + 1
past_limit most told course failed stop long says =
    let at_limit = subst (λ s. RunSays most told course failed (Err s)) long says in
    at_limit.past

pub not_long : {before after : RunShown} {left : Option (List ℕ)} (script : List ℕ) (stopped : Stopped) →
    stopped.stop ≡ stops.Long → RunMeets before after script left (Err stopped) → length script ≤ most_script → ⊥
not_long script stopped long meets short = omega (
  arith,
  past_limit _ _ _ _ stopped.stop long meets.leaves.tells,
  ap (λ v. length v) meets.split,
  length-append meets.taken meets.rest,
)

-- ---- the outside

pub rose_and_still : (before now : ℕ) → Rose before now → Still before now → ⊥
rose_and_still before now rose still = omega arith

pub appended_told : (first written : Option (List ℕ)) (before out : List ℕ) → first ≡ Some before
    → Appends first written out → written ≡ Some (before ++ out)
appended_told first None before out e a = absurd (subst (λ v. Appends v None out) e a)
appended_told first (Some now) before out e a = ap (λ v. Some v) (subst (λ v. Appends v (Some now) out) e a)
