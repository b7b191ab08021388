use Rattle.std.proofs.Common.{take, map}
use Rattle.pap_reader.specs.Contents.{token_meant, tags_of}
use Rattle.pap_reader.proofs.Whole.{Going}
use Rattle.pap_reader.proofs.text.elements_of.Given as goal

abbrev pub invariant-loop-token : goal.invariant-loop-token
invariant-loop-token l = Going l.reader (tags_of (map token_meant (take l.token-index l.tokens.items.items)))
