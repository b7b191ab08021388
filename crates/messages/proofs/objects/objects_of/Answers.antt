use Rattle.messages.specs.Fields.{file_names}
use Rattle.messages.proofs.ObjectLemmas.{first_made}
use Rattle.messages.proofs.objects.objects_of.Goals as goal

pub returns : goal.returns
returns c =
    first_made (file_names c.args.files.now) c.args.text.now c.in-Some.line.now c.in-Some.rest.now c.new-objects.result.items
    c.push_object.new.objects.items c.push_objects.new.objects.items c.args.refusal c.new-objects.ensures.items
    c.in-Some.ensures c.in_ok-push_object.ensures c.in_ok-push_objects.ensures
