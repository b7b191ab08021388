-- Texts that stand in a page one behind another, and a page that is gone on with.
use Rattle.std.proofs.Common.{◌≡◌, ℕ, List, [], ◌∷◌, ◌++◌, sym, ap, ◌∙◌, append_assoc}
use Rattle.std.proofs.lemmas.List.{append-nil}
use Rattle.flowchart_methods.specs.Turns.{StandInTurn, AddsInTurn}

pub turn-before : (texts : List (List ℕ)) (first page : List ℕ) → StandInTurn texts page → StandInTurn texts (first ++ page)
turn-before [] first page stand = tt
turn-before (text ∷ texts) first page stand =
    (first ++ stand.0, stand.1, ap (λ l. first ++ l) stand.2 ∙ sym (append_assoc first stand.0 (text ++ stand.1)), stand.3)

pub turn-append : (texts others : List (List ℕ)) (page more : List ℕ) → StandInTurn texts page → StandInTurn others more
    → StandInTurn (texts ++ others) (page ++ more)
turn-append [] others page more first second = turn-before others page more second
turn-append (text ∷ texts) others page more first second = (
  first.0,
  first.1 ++ more,
  ap (λ l. l ++ more) first.2
      ∙ append_assoc first.0 (text ++ first.1) more
      ∙ ap (λ l. first.0 ++ l) (append_assoc text first.1 more),
  turn-append texts others first.1 more first.3 second,
)

pub turn-behind : (texts : List (List ℕ)) (page more : List ℕ) → StandInTurn texts page → StandInTurn texts (page ++ more)
turn-behind [] page more stand = tt
turn-behind (text ∷ texts) page more stand = (
  stand.0,
  stand.1 ++ more,
  ap (λ l. l ++ more) stand.2
      ∙ append_assoc stand.0 (text ++ stand.1) more
      ∙ ap (λ l. stand.0 ++ l) (append_assoc text stand.1 more),
  turn-behind texts stand.1 more stand.3,
)

-- ---- a page that is gone on with

-- nothing yet
pub adds_none : (page : List ℕ) → AddsInTurn [] page page
adds_none page = record { more = []; grown = sym (append-nil page); stand = tt }

pub adds_then : (texts others : List (List ℕ)) (a b c : List ℕ) → AddsInTurn texts a b → AddsInTurn others b c
    → AddsInTurn (texts ++ others) a c
adds_then texts others a b c first second = record {
  more = first.more ++ second.more;
  grown = second.grown ∙ ap (λ l. l ++ second.more) first.grown ∙ append_assoc a first.more second.more;
  stand = turn-append texts others first.more second.more first.stand second.stand;
}

-- other HTML before them and behind them
pub adds_before : (texts : List (List ℕ)) (html a b c : List ℕ) → b ≡ a ++ html → AddsInTurn texts b c → AddsInTurn texts a c
adds_before texts html a b c is adds = record {
  more = html ++ adds.more;
  grown = adds.grown ∙ ap (λ l. l ++ adds.more) is ∙ append_assoc a html adds.more;
  stand = turn-before texts html adds.more adds.stand;
}

pub adds_behind : (texts : List (List ℕ)) (html a b c : List ℕ) → c ≡ b ++ html → AddsInTurn texts a b → AddsInTurn texts a c
adds_behind texts html a b c is adds = record {
  more = adds.more ++ html;
  grown = is ∙ ap (λ l. l ++ html) adds.grown ∙ append_assoc a adds.more html;
  stand = turn-behind texts adds.more html adds.stand;
}
