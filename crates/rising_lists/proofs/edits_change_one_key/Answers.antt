use Rattle.rising_lists.proofs.Laws.{put_rising, at_key_put, without_rising, at_key_without}
use Rattle.rising_lists.proofs.edits_change_one_key.Goals as goal

pub returns-clause-put : goal.returns-clause-put
returns-clause-put g c key = record {
  rises = put_rising g.K.Ord.cmp g.met.K.Ord.total key;
  at = at_key_put g.K.Ord.cmp g.met.K.Ord.total key;
}

pub returns-clause-without : goal.returns-clause-without
returns-clause-without g c key = record {
  rises = without_rising g.K.Ord.cmp g.met.K.Ord.total key;
  at = at_key_without g.K.Ord.cmp g.met.K.Ord.total key;
}
