use Rattle.std.proofs.Common.{length}
use denote.Text.{Utf8}
use denote.Shadow.{shadow}
use Rattle.messages.specs.Fields.{file_names}
use Rattle.messages.proofs.ObjectLemmas.{AreMade}
use Rattle.messages.proofs.objects.push_objects.Given as goal

-- the objects of the lines so far are appended
abbrev pub invariant-loop-line : goal.invariant-loop-line
invariant-loop-line l =
    shadow (Utf8 l.rest) × AreMade (file_names l.files) l.fn.text l.rest l.initial.objects.items l.objects.items

abbrev pub decreases-loop-line : goal.decreases-loop-line
decreases-loop-line l = length l.rest
