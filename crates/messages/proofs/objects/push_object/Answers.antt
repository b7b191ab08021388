use Rattle.std.proofs.Common.{◌∙◌, ◌∷◌, ◌++◌, [], List, ℕ, ap, append_assoc, refl}
use Rattle.messages.specs.Objects.{json_text}
use Rattle.messages.specs.declared.message.Message.{Message}
use Rattle.messages.proofs.objects.push_object.Goals as goal

pub returns : goal.returns
returns c =
    let message : Message =
    record c.message_of.result { code = c.args.refusal.code; place = c.args.refusal.place } in
    let read = c.message_of.ensures.read in
    record {
      message = message;
      read = record {
        words = read.words;
        program = read.program;
        script_line = read.script_line;
        site = read.site;
        help = read.help;
      };
      code = refl;
      place = refl;
      put = c.in_ok-push.ensures.items ∙ ap (λ (l : List ℕ). l ++ 10 ∷ []) c.in_ok-push_json.ensures
          ∙ append_assoc c.args.objects.now.items (json_text message) (10 ∷ []);
    }
