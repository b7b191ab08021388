-- The canonical spelling of a tree is a text of the tree.
use Rattle.std.proofs.Common.{ℕ, List, [], ◌++◌, refl, sym, subst}
use Rattle.std.proofs.lemmas.List.{append-nil}
use Rattle.pap_tree.specs.Term.{Term, item, one, two, choice}
use Rattle.pap_tree.specs.Spelling.{spelling}
use Rattle.pap_tree.specs.Tokens.{Token, plain}
use Rattle.pap_tree.specs.Grammar as grammar
use Rattle.pap_tree.specs.Grammar.{Item, Level, Assignment, tree, assignment, Way}
use Rattle.pap_tree.specs.Texts as texts
use Rattle.pap_tree.specs.Texts.{Derives, Texts}
use Rattle.pap_tree.specs.Expressions.{IsTest}
use Rattle.expr_grammar.specs.SpelledTokens.{spelled_tokens}
use Rattle.expr_grammar.proofs.Ranges.{tree_ranged}
use Rattle.expr_grammar.proofs.SpelledTexts.{spelling_text}
use Rattle.expr_grammar.specs.ReadingBack as trees
use Rattle.expr_grammar.specs.ReadingBack.{IsInText}
use Rattle.expr_grammar.proofs.Lexing.{Lexes, lex_end}
use Rattle.expr_grammar.proofs.Pieces.{Good}
use Rattle.expr_grammar.proofs.Held.{IsHeld, right_held, tree_held}
use Rattle.expr_grammar.proofs.Nodes.{GoesDown, node_has}
use Rattle.expr_grammar.proofs.Trees.{good}

-- ---- a tree whose parts are within their ranges, and whose spelling's tokens are a text of it

record IsSpelled (x : Term) : Type 0 where
  held : IsHeld x
  text : Derives (Level 0) (spelled_tokens x) (tree x)

-- so are its operands
spelled_down : GoesDown IsSpelled
spelled_down = record {
  of_item = λ w a h.
      let r = tree_ranged (Level 0) (spelled_tokens (item w a)) (item w a) h.text in
      record { held = h.held.1; text = spelling_text a r.1 };
  of_one = λ op a h.
      let r = tree_ranged (Level 0) (spelled_tokens (one op a)) (one op a) h.text in
      record { held = h.held.1; text = spelling_text a r.1 };
  of_two = λ op a b h.
      let r = tree_ranged (Level 0) (spelled_tokens (two op a b)) (two op a b) h.text in
      (record { held = h.held.1; text = spelling_text a r.1 }, record { held = h.held.2; text = spelling_text b r.2 });
  of_choice = λ c a b h.
      let r = tree_ranged (Level 0) (spelled_tokens (choice c a b)) (choice c a b) h.text in (
        record { held = h.held.0; text = spelling_text c r.0 },
        record { held = h.held.1; text = spelling_text a r.1 },
        record { held = h.held.2; text = spelling_text b r.2 },
      );
}

right_text : {way : List Item} {ts : List Token} {w : List ℕ} {x : Term} → Way Assignment way (assignment w x) → Texts way ts → Derives (Level 0) (spelled_tokens x) (tree x)
right_text (grammar.assign w x e) (texts.is (texts.is (texts.part {a} f t h))) = spelling_text x (tree_ranged (Level 0) a x t)
right_text (grammar.assign_ended w x e) (texts.is (texts.is (texts.part {a} f t h))) = spelling_text x (tree_ranged (Level 0) a x t)

right_side : (ts : List Token) (w : List ℕ) (x : Term) → Derives Assignment ts (assignment w x) → Derives (Level 0) (spelled_tokens x) (tree x)
right_side ts w x h = elim h [ texts.by way v us ↦ right_text v us ]

spelled : (x : Term) → IsInText x → IsSpelled x
spelled x (trees.a_test {bytes} h) = record {
  held = tree_held (Level 0) bytes h.spots x h.tokens h.text;
  text = spelling_text x (tree_ranged (Level 0) (plain h.spots) x h.text);
}
spelled x (trees.a_right_side {bytes} {name} h) = record {
  held = right_held bytes h.spots name x h.tokens h.text;
  text = right_side (plain h.spots) name x h.text;
}
spelled y (trees.a_node {x} n h e) = node_has IsSpelled spelled_down x n y (spelled x h) e

-- ---- its bytes

all_tokens : (a : List ℕ) (ts : List Token) → Good a ts → Lexes a ts
all_tokens a ts g =
    subst (λ z. Lexes z ts) (append-nil a) (subst (λ us. Lexes (a ++ []) us) (append-nil ts) (g.lex [] [] [] refl refl lex_end))

pub reads_back : (x : Term) → IsInText x → IsTest (spelling x) x
reads_back x h =
    let s = spelled x h in
    let l = all_tokens (spelling x) (spelled_tokens x) (good x s.held) 0 in
    record {
      spots = l.0;
      tokens = l.1;
      text = subst (λ ts. Derives (Level 0) ts (tree x)) (sym l.2) s.text;
    }
