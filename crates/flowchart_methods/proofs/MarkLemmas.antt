-- What is read aloud of the exits of a test, piece by piece.
use Rattle.std.proofs.Common.{◌≡◌, ℕ, Bool, List, ◌++◌, ap, ◌∙◌, append_assoc}
use Rattle.std.specs.Prelude.{Option, codes}
use Rattle.flowchart_methods.specs.declared.kind.ExitKind.{ExitKind}
use Rattle.flowchart_methods.specs.Marks.{is_taken, runs_counted, is_missed, is_dead, way_words, counted_way, exit_words}

two_parts : (a b old x y : List ℕ) → x ≡ old ++ a → y ≡ x ++ b → y ≡ old ++ (a ++ b)
two_parts a b old x y one two = two ∙ ap (λ l. l ++ b) one ∙ append_assoc old a b

five_parts : (a b c d e old v w x y z : List ℕ) → v ≡ old ++ a → w ≡ v ++ b → x ≡ w ++ c → y ≡ x ++ d → z ≡ y ++ e
    → z ≡ old ++ (a ++ (b ++ (c ++ (d ++ e))))
five_parts a b c d e old v w x y z one two three four five =
    two_parts a (b ++ (c ++ (d ++ e))) old v z one
    (two_parts b (c ++ (d ++ e)) v w z two (two_parts c (d ++ e) w x z three (two_parts d e x y z four five)))

-- words of ways by what is found of them
same_ways : (what before now : List ℕ) (a b a' b' : Bool) → a ≡ a' → b ≡ b' → now ≡ before ++ way_words what a b
    → now ≡ before ++ way_words what a' b'
same_ways what before now a b a' b' first second told =
    told ∙ ap (λ x. before ++ way_words what x b) first ∙ ap (λ x. before ++ way_words what a' x) second

same_count : (way before now : List ℕ) (a a' : Option ℕ) → a ≡ a' → now ≡ before ++ counted_way way a
    → now ≡ before ++ counted_way way a'
same_count way before now a a' is told = told ∙ ap (λ x. before ++ counted_way way x) is

pub exits_told : (holds fails : ExitKind) (t t' m m' d d' : Bool) (n n' : Option ℕ) (old v w x y z : List ℕ) → t ≡ is_taken holds
    → t' ≡ is_taken fails → n ≡ runs_counted holds → n' ≡ runs_counted fails → m ≡ is_missed holds → m' ≡ is_missed fails
    → d ≡ is_dead holds → d' ≡ is_dead fails → v ≡ old ++ way_words (codes "taken") t t' → w ≡ v ++ counted_way (codes "yes") n
    → x ≡ w ++ counted_way (codes "no") n' → y ≡ x ++ way_words (codes "missed") m m'
    → z ≡ y ++ way_words (codes "never taken") d d' → z ≡ old ++ exit_words holds fails
exits_told holds fails t t' m m' d d' n n' old v w x y z et et' en en' em em' ed ed' one two three four five =
    five_parts (way_words (codes "taken") (is_taken holds) (is_taken fails)) (counted_way (codes "yes") (runs_counted holds))
    (counted_way (codes "no") (runs_counted fails)) (way_words (codes "missed") (is_missed holds) (is_missed fails))
    (way_words (codes "never taken") (is_dead holds) (is_dead fails)) old v w x y z
    (same_ways (codes "taken") old v t t' (is_taken holds) (is_taken fails) et et' one)
    (same_count (codes "yes") v w n (runs_counted holds) en two)
    (same_count (codes "no") w x n' (runs_counted fails) en' three)
    (same_ways (codes "missed") x y m m' (is_missed holds) (is_missed fails) em em' four)
    (same_ways (codes "never taken") y z d d' (is_dead holds) (is_dead fails) ed ed' five)
