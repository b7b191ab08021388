use Rattle.std.proofs.Common.{ℕ}
use Rattle.std.specs.Prelude.{Option}
use Rattle.pap_reader.specs.declared.fault.Which.{Which}
use Rattle.pap_reader.specs.declared.fault.Which.TheVariants as which
use Rattle.plain_words.specs.private.FoundViews.{HasTag, IsExcessByte}
use Rattle.plain_words.proofs.elements.excess_tag.Goals as goal

-- what has a tag may have a byte
some_byte : (w : Which) (at : Option ℕ) → HasTag w → IsExcessByte w at
some_byte which.Bytes at h = absurd h
some_byte which.Depth at h = absurd h
some_byte _ at h = tt

pub returns : goal.returns
returns c = some_byte c.args.which c.find_start.result c.in-Some.ensures
