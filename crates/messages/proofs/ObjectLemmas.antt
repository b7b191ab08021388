-- Objects of the lines of some words so far.
use Rattle.std.proofs.Common.{◌≡◌, ℕ, List, [], ◌∷◌, ◌++◌, All, None, refl, sym, ap, subst, ◌∙◌, append_assoc, arith}
use Rattle.std.specs.List.{flat_map}
use Rattle.std.proofs.lemmas.List.{append-nil, flat_map_more}
use Rattle.std.proofs.lemmas.List.Elements.{All-cons, All-nil, All-push}
use Rattle.messages.specs.declared.message.Message.{Message}
use Rattle.messages.specs.declared.objects.Refusal.{Refusal}
use Rattle.messages.specs.Fields.{HasNoRefusal, IsReadFrom}
use Rattle.messages.specs.Lines.{message_words}
use Rattle.messages.specs.Objects.{AreObjects, IsOfOneLine, IsUnended, message_line, object_line}
use Rattle.messages.specs.private.Cuts.{IsFirstCut}
use Rattle.messages.specs.private.ObjectViews.{PutsLines, PutsObject}
use Rattle.messages.proofs.CutLemmas.{front_free}

-- the objects of these words were appended but for the rest
pub record AreMade (files : List (List ℕ)) (words rest old new : List ℕ) : Type 0 where
  pub messages : List Message
  pub read : All (IsOfOneLine files) messages
  pub refusal : All HasNoRefusal messages
  pub lines : words ≡ flat_map message_line messages ++ rest
  pub put : new ≡ old ++ flat_map object_line messages

-- none so far
pub none_made : (files : List (List ℕ)) (words old : List ℕ) → AreMade files words words old old
none_made files words old = record {
  messages = [];
  read = All-nil (IsOfOneLine files);
  refusal = All-nil HasNoRefusal;
  lines = refl;
  put = sym (append-nil old);
}

-- a message of a line that was cut off at its end is of one line
of_one_line : (files : List (List ℕ)) (rest line next : List ℕ) (message : Message) → IsFirstCut (10 ∷ []) rest line next
    → IsReadFrom files line message → IsOfOneLine files message
of_one_line files rest line next message cut read =
    subst (λ l. IsUnended l → IsReadFrom files l message → IsOfOneLine files message) (sym read.words)
    (λ unended is. record { unended = unended; read = is }) (front_free (10 ∷ []) rest line next (omega arith) cut) read

-- the line with its end, and what stands behind it
line_parts : (rest line next : List ℕ) (message : Message) → IsFirstCut (10 ∷ []) rest line next → line ≡ message_words message
    → rest ≡ message_line message ++ next
line_parts rest line next message cut is =
    cut.parts ∙ ap (λ l. l ++ 10 ∷ next) is ∙ sym (append_assoc (message_words message) (10 ∷ []) next)

-- one object more
pub more_made : (files : List (List ℕ)) (words rest old new line next newer : List ℕ) (refusal : Refusal)
    → refusal.code ≡ None → refusal.place ≡ None → AreMade files words rest old new → PutsObject files refusal line new newer
    → IsFirstCut (10 ∷ []) rest line next → AreMade files words next old newer
more_made files words rest old new line next newer refusal no_code no_place made puts cut =
    let front : List ℕ = flat_map message_line made.messages in
    let objects : List ℕ = flat_map object_line made.messages in
    record {
      messages = made.messages ++ puts.message ∷ [];
      read = All-push (IsOfOneLine files) made.messages puts.message made.read
          (of_one_line files rest line next puts.message cut puts.read);
      refusal = All-push HasNoRefusal made.messages puts.message made.refusal
          (record { code = puts.code ∙ no_code; place = puts.place ∙ no_place });
      lines = made.lines ∙ ap (λ l. front ++ l) (line_parts rest line next puts.message cut puts.read.words)
          ∙ sym (append_assoc front (message_line puts.message) next)
          ∙ ap (λ l. l ++ next) (flat_map_more message_line [] made.messages puts.message);
      put = puts.put ∙ ap (λ l. l ++ object_line puts.message) made.put
          ∙ append_assoc old objects (object_line puts.message)
          ∙ ap (λ l. old ++ l) (flat_map_more object_line [] made.messages puts.message);
    }

-- all of them
pub all_made : (files : List (List ℕ)) (words rest old new : List ℕ) → AreMade files words rest old new → IsUnended rest
    → PutsLines files words old new
all_made files words rest old new made unended = record {
  messages = made.messages;
  rest = rest;
  unended = unended;
  read = made.read;
  refusal = made.refusal;
  lines = made.lines;
  put = made.put;
}

-- a first object, and those of the lines behind it
pub first_made : (files : List (List ℕ)) (words line rest old first new : List ℕ) (refusal : Refusal) → old ≡ []
    → IsFirstCut (10 ∷ []) words line rest → PutsObject files refusal line old first → PutsLines files rest first new
    → AreObjects files words new
first_made files words line rest old first new refusal none cut puts behind = record {
  messages = puts.message ∷ behind.messages;
  rest = behind.rest;
  unended = behind.unended;
  read = All-cons (IsOfOneLine files) puts.message behind.messages
      (of_one_line files words line rest puts.message cut puts.read) behind.read;
  refusal = behind.refusal;
  lines = line_parts words line rest puts.message cut puts.read.words
      ∙ ap (λ l. message_line puts.message ++ l) behind.lines
      ∙ sym (append_assoc (message_line puts.message) (flat_map message_line behind.messages) behind.rest);
  are = behind.put ∙ ap (λ l. l ++ flat_map object_line behind.messages)
      (puts.put ∙ ap (λ l. l ++ object_line puts.message) none);
}

-- where no line ends there are none
pub none_are : (files : List (List ℕ)) (words new : List ℕ) → IsUnended words → new ≡ [] → AreObjects files words new
none_are files words new unended none = record {
  messages = [];
  rest = words;
  unended = unended;
  read = All-nil (IsOfOneLine files);
  refusal = tt;
  lines = refl;
  are = none;
}
