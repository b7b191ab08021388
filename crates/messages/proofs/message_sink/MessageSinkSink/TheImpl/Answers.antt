use Rattle.std.proofs.Common.{ℕ, List, None, Result, Ok, Err}
use Rattle.outside.specs.Told.{WriteAppends}
use Rattle.messages.proofs.message_sink.MessageSinkSink.TheImpl.Goals as goal

-- a sink that tells nothing is told nothing of
untold : {E : Type 0} (result : Result ℕ E) (piece : List ℕ) → WriteAppends None None result piece
untold (Ok count) piece = tt
untold (Err fault) piece = tt

pub put-tells : goal.put-tells
put-tells g c = record {
  some = c.ensures.some;
  short = c.ensures.short;
  bytes = untold c.result c.args.piece.now;
  cause = c.ensures.cause;
}
