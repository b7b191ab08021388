use Rattle.std.proofs.Common.{arith}
use Rattle.pap_reader.proofs.Lexing.{reads_more, reads_end, reads_none}
use Rattle.pap_reader.proofs.values.read_value.Goals as goal

pub loop-byte-preserved : goal.loop-byte-preserved
loop-byte-preserved c =
    let i = c.loop-byte.invariant in
    record {
      reads = reads_more c.args.quote c.args.bytes.now c.loop-byte.value.items c.push.new.self.items c.loop-byte.left.now c.in-Some.rest.now c.in-Some.byte c.requires i.reads c.in-Some.ensures.found c.in_ok-push.ensures.items;
      shorter = omega (arith, i.shorter, c.in-Some.ensures.shorter);
    }

pub returns-in-Some-after_byte-clause-found : goal.returns-in-Some-after_byte-clause-found
returns-in-Some-after_byte-clause-found c =
    reads_end c.args.quote c.args.bytes.now c.loop-byte.value.items c.loop-byte.left.now c.in-Some-after_byte.rest.now c.loop-byte.invariant.reads c.in-Some-after_byte.ensures.found

pub returns-clause-found : goal.returns-clause-found
returns-clause-found c =
    reads_none c.args.quote c.args.bytes.now c.loop-byte.value.items c.loop-byte.left.now c.loop-byte.invariant.reads c.in_default.ensures.found c.in-None.ensures.found
