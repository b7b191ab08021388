use Rattle.std.proofs.Common.{◌≡◌, ◌≤◌, subst, arith}
use Rattle.plan_notes.specs.AttributeBytes.{IsBehind}
use Rattle.plan_notes.proofs.AttributeLemmas.{lifts_more, lifts_all, lifts_ended}
use Rattle.plan_notes.proofs.attributes.behind_bytes.Goals as goal

pub returns-in-None : goal.returns-in-None
returns-in-None c =
    let attribute = c.args.attribute.now in
    let up : c.loop-read._read ≤ c.args.count = omega arith in
    lifts_ended attribute.quote attribute.text.now c.loop-read.left.now c.loop-read._read c.args.count up
    c.loop-read.invariant c.in-None.ensures.found

pub loop-read-preserved : goal.loop-read-preserved
loop-read-preserved c =
    let attribute = c.args.attribute.now in
    lifts_more attribute.quote c.in-Some.field-0-0 attribute.text.now c.loop-read.left.now c.in-Some.rest.now
    c.loop-read._read c.loop-read.invariant c.in-Some.ensures.found

pub returns : goal.returns
returns c =
    let attribute = c.args.attribute.now in
    let all : c.loop-read._read ≡ c.args.count = omega arith in
    subst (λ n. IsBehind attribute.quote attribute.text.now n c.loop-read.left.now) all
    (lifts_all attribute.quote attribute.text.now c.loop-read.left.now c.loop-read._read c.loop-read.invariant)
