use Rattle.std.proofs.lemmas.Str.{IsUtf8-from_ascii}
use Rattle.pap_tree.proofs.short_text.ShortText.as_str.Goals as goal

pub unreachable-requires : goal.unreachable-requires
unreachable-requires c = c.in-Err.ensures.cases.0 (rw c.bytes.ensures.bytes (IsUtf8-from_ascii c.args.self.now c.bytes.ensures.short.ascii))
