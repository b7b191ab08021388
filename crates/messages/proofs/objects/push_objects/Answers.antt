use Rattle.std.proofs.Common.{rules}
use Rattle.messages.specs.Fields.{file_names}
use Rattle.messages.proofs.ObjectLemmas.{more_made}
use Rattle.messages.proofs.objects.push_objects.Goals as goal

pub loop-line-preserved : goal.loop-line-preserved
loop-line-preserved c = (
  search rules,
  more_made (file_names c.args.files.now) c.args.text.now c.loop-line.rest.now c.args.objects.now.items c.loop-line.objects.items
      c.in-Some.line.now c.in-Some.next.now c.push_object.new.objects.items c.none.result c.none.ensures.code c.none.ensures.place
      c.loop-line.invariant.1 c.in_ok-push_object.ensures c.in-Some.ensures,
)
