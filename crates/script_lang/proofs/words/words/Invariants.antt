use Rattle.std.proofs.Common.{◌≡◌, ◌++◌, ◌≤◌, length}
use Rattle.script_lang.specs.private.Views.{texts}
use Rattle.script_lang.specs.Words.{words_in_line}
use Rattle.script_lang.proofs.words.words.Given as goal

abbrev pub invariant-words : goal.invariant-words
invariant-words l = record {
  read : words_in_line l.line ≡ texts l.words.items ++ words_in_line l.rest;
  within : length l.rest ≤ length l.line;
}

abbrev pub decreases-words : goal.decreases-words
decreases-words l = length l.rest
