use Rattle.plain_words.specs.declared.bounds.BoundKey.{BoundKey}
use Rattle.plain_words.specs.EntryPlaces.{IsLineWith, bound_key_name}
use Rattle.plain_words.proofs.WordLemmas.{some_right, bound_is}
use Rattle.plain_words.proofs.entry_faults.bounds_byte.Goals as goal

pub returns-in-Some : goal.returns-in-Some
returns-in-Some c =
    bound_is c.key_byte.result c.args.limits.now c.args.name.now c.name.result.now c.in-Some.key c.name.ensures c.key_byte.ensures

pub returns-in-None : goal.returns-in-None
returns-in-None c =
    some_right c.entry_byte.result (λ at. (key : BoundKey) × IsLineWith c.args.limits.now (bound_key_name key) at)
    (IsLineWith c.args.limits.now c.args.name.now) c.entry_byte.ensures
