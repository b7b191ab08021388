use Rattle.std.specs.Prelude.{string_bytes}
use Rattle.plain_words.proofs.Shown.{value_told}
use Rattle.plain_words.proofs.state.write_reason.Goals as goal

pub returns-in_ok-write_value-in-Outside : goal.returns-in_ok-write_value-in-Outside
returns-in_ok-write_value-in-Outside c =
    value_told c.write_outside.result (string_bytes c.args.out.now) (string_bytes c.write_value.new.out) (string_bytes c.write_outside.new.out)
    c.args.reason.now c.in-Outside.name c.in-Outside.value c.in-Outside.limit c.in-Outside.is c.in_ok-write_value-in-Outside.ensures c.write_outside.ensures
